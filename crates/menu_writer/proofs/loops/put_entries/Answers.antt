-- The answers that `menu_writer::loops::put_entries` wants beside its invariants. Assumes nothing.
use mathlib.Core.Path.{◌≡◌, ◌∙◌, refl, sym, ap}
use mathlib.Core.List.{List}
use Prim.Native.Nat.{ℕ, ◌+◌, ◌-◌, ◌<◌}
use native.Mathlib.Nat.{add-zero}
use native.Mathlib.Omega.{arith}
use lib.ListN.{length}
use lib.Seq.{sets}
use Rattle.menu_writer.proofs.Walking.{length-on, sent-on, stores-on, length-end, bytes_end}
use Rattle.menu_writer.proofs.loops.put_entries.Goals as goal

pub loop-init : goal.loop-init
loop-init c =
    let all : c.args.count - 0 ≡ c.args.count = omega arith in rw all (omega arith, omega arith, refl, refl, refl)

pub loop-preserved : goal.loop-preserved
loop-preserved c =
    let a = c.args in
    let f : List ℕ = a.form.now in
    let l = c.loop in
    let p = c.put_entry-q in
    let n = c.entry_length-at in
    let left = a.count - l.counter in
    let some : 0 < left = omega arith in
    let fewer : a.count - (l.counter + 1) ≡ left - 1 = omega arith in
    rw fewer (
      omega (arith, l.invariant.0, n.ensures.1),
      omega (arith, l.invariant.1, p.ensures.1),
      length-on a.what f l.at left n.result some n.ensures.0 ∙ l.invariant.2,
      sent-on a.what f l.at left n.result some n.ensures.0 l.q p.result p.ensures.0 ∙ l.invariant.3,
      stores-on a.what f l.at left n.result some n.ensures.0 l.q p.result l.out p.new.out p.ensures.0 p.ensures.2 ∙ l.invariant.4,
    )

pub returns : goal.returns
returns c =
    let a = c.args in
    let f : List ℕ = a.form.now in
    let l = c.loop in
    let left = a.count - l.counter in
    let e = bytes_end a.what f l.at left (omega arith) in (
      sym (length-end a.what f l.at left (omega arith)) ∙ l.invariant.2,
      sym (ap (λ (x : List ℕ). l.q + length x) e ∙ add-zero l.q) ∙ l.invariant.3,
      omega arith,
      omega arith,
      sym (ap (λ (x : List ℕ). sets l.out l.q x) e) ∙ l.invariant.4,
    )
