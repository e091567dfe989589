-- The answers that `menu_writer::putting::put_strings` wants beside its invariants. Assumes nothing.
use mathlib.Core.Path.{◌≡◌, ◌∙◌, refl, sym, ap}
use mathlib.Core.List.{List, ◌++◌, map}
use Prim.Native.Nat.{ℕ, ◌+◌, ◌-◌, ◌<◌}
use native.Mathlib.Omega.{arith}
use lib.ListN.{length, drop}
use lib.Seq.{sets}
use Rattle.parity.specs.Parity.{letter}
use Rattle.menu_forms.specs.Rows.{each}
use Rattle.menu_forms.specs.Menus.{Event, codes_of}
use Rattle.menu_forms.specs.Form.{text_in, event_in}
use Rattle.menu_writer.proofs.Storing.{two-stores}
use Rattle.menu_writer.proofs.Events.{events_in, events_split, events_none, codes-split, event-codes, event-past}
use Rattle.menu_writer.proofs.putting.put_strings.Goals as goal

pub loop-init : goal.loop-init
loop-init c =
    let all : c.args.count - 0 ≡ c.args.count = omega arith in rw all (omega arith, omega arith, refl)

pub loop-preserved : goal.loop-preserved
loop-preserved c =
    let a = c.args in
    let f : List ℕ = a.form.now in
    let l = c.loop in
    let n = c.byte_at-attributes in
    let left = a.count - l.counter in
    let some : 0 < left = omega arith in
    let fewer : a.count - (l.counter + 1) ≡ left - 1 = omega arith in
    let q = c.pass-a in
    let p = c.put_string-p in
    let ev = event_in (drop l.p.at f) in
    let rest = events_in (left - 1) (drop p.result.at f) in
    let xs = map letter (codes_of ev) in
    let ys = map letter (each codes_of rest) in
    let same = event-codes f l.p.at n.result n.ensures.0 ∙ ap (λ (z : ℕ). (text_in (drop z f)).codes) (sym q.ensures.0) in
    let past = event-past f l.p.at n.result n.ensures.0 q.result.end p.result.at q.ensures.0 p.ensures.0 in
    let e : map letter (each codes_of (events_in left (drop l.p.at f))) ≡ xs ++ ys =
    ap (λ (es : List Event). map letter (each codes_of es)) (events_split f l.p.at left p.result.at some past) ∙ codes-split ev rest in
    let place : p.result.to ≡ l.p.to + length xs = p.ensures.1 ∙ ap (λ (x : List ℕ). l.p.to + length (map letter x)) (sym same) in
    let stored : p.new.out ≡ sets l.out l.p.to xs = p.ensures.4 ∙ ap (λ (x : List ℕ). sets l.out l.p.to (map letter x)) (sym same) in
    rw fewer (
      omega (arith, l.invariant.0, p.ensures.2, q.ensures.2, n.ensures.1),
      omega (arith, l.invariant.1, p.ensures.3),
      two-stores xs ys l.p.to p.result.to place l.out p.new.out _ stored refl ∙ ap (λ (x : List ℕ). sets l.out l.p.to x) (sym e) ∙ l.invariant.2,
    )

pub returns : goal.returns
returns c =
    let a = c.args in
    let l = c.loop in
    let e = ap (λ (es : List Event). map letter (each codes_of es)) (events_none a.form.now l.p.at (a.count - l.counter) (omega arith)) in
    sym (ap (λ (x : List ℕ). sets l.out l.p.to x) e) ∙ l.invariant.2
