-- The answers that `menu_writer::putting::put_events` wants beside its invariants. Assumes nothing.
use mathlib.Core.Path.{◌≡◌, ◌∙◌, refl, sym, ap}
use mathlib.Core.List.{List, ◌++◌, map}
use Prim.Native.Nat.{ℕ, ◌+◌, ◌-◌, ◌<◌}
use native.Mathlib.Nat.{add-zero}
use native.Mathlib.Omega.{arith}
use lib.ListN.{length, drop}
use lib.Seq.{sets}
use Rattle.octet.specs.Image.{image}
use Rattle.fields.specs.Fields.{width, parts}
use Rattle.menu_forms.specs.Rows.{each}
use Rattle.menu_forms.specs.Menus.{Event, event_fields}
use Rattle.menu_forms.specs.Form.{event_in}
use Rattle.menu_forms.specs.Block.{in_nibbles}
use Rattle.menu_writer.proofs.Storing.{two-stores, two-places}
use Rattle.menu_writer.proofs.Events.{events_in, events_split, events_none, sent-split}
use Rattle.menu_writer.proofs.putting.put_events.Goals as goal

pub loop-init : goal.loop-init
loop-init c =
    let all : c.args.count - 0 ≡ c.args.count = omega arith in rw all (omega arith, omega arith, refl, refl)

pub loop-preserved : goal.loop-preserved
loop-preserved c =
    let a = c.args in
    let f : List ℕ = a.form.now in
    let l = c.loop in
    let p = c.put_event-p in
    let left = a.count - l.counter in
    let some : 0 < left = omega arith in
    let fewer : a.count - (l.counter + 1) ≡ left - 1 = omega arith in
    let ev = event_in (drop l.p.at f) in
    let rest = events_in (left - 1) (drop p.result.at f) in
    let xs = map image (in_nibbles (event_fields ev)) in
    let ys = map image (in_nibbles (each event_fields rest)) in
    let whole = map image (in_nibbles (each event_fields (events_in left (drop l.p.at f)))) in
    let e : whole ≡ xs ++ ys =
    ap (λ (es : List Event). map image (in_nibbles (each event_fields es))) (events_split f l.p.at left p.result.at some p.ensures.0)
    ∙ sent-split ev rest in
    rw fewer (
      omega (arith, l.invariant.0, p.ensures.2),
      omega (arith, l.invariant.1, p.ensures.3),
      two-places xs ys l.p.to p.result.to p.ensures.1 ∙ ap (λ (x : List ℕ). l.p.to + length x) (sym e) ∙ l.invariant.2,
      two-stores xs ys l.p.to p.result.to p.ensures.1 l.out p.new.out _ p.ensures.4 refl
          ∙ ap (λ (x : List ℕ). sets l.out l.p.to x) (sym e)
          ∙ l.invariant.3,
    )

pub returns : goal.returns
unfolding in_nibbles width parts
returns c =
    let a = c.args in
    let l = c.loop in
    let e = ap (λ (es : List Event). map image (in_nibbles (each event_fields es))) (events_none a.form.now l.p.at (a.count - l.counter) (omega arith)) in (
      sym (ap (λ (x : List ℕ). l.p.to + length x) e ∙ add-zero l.p.to) ∙ l.invariant.2,
      sym (ap (λ (x : List ℕ). sets l.out l.p.to x) e) ∙ l.invariant.3,
    )
