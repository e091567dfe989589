-- The answers that `menu_writer::loops::pass` wants beside its invariants. Assumes nothing.
use mathlib.Core.Path.{◌≡◌, ◌∙◌, refl, sym, ap}
use mathlib.Core.Bool.{Bool, true, false, ◌&&◌}
use mathlib.Core.List.{List}
use Prim.Native.Nat.{ℕ, ◌+◌, ◌-◌, ◌<◌}
use native.Mathlib.Omega.{arith}
use lib.ListN.{drop}
use Rattle.laws.specs.Pick.{both}
use Rattle.laws.proofs.Tests.{both_assoc, both_right}
use Rattle.menu_writer.specs.Internal.{entry_fine, loop_fine}
use Rattle.menu_writer.proofs.Walking.{length-on, fine-on, length-end, fine_end}
use Rattle.menu_writer.proofs.loops.pass.Goals as goal

and_both : (a b : Bool) → (a && b) ≡ both a b
and_both true b = refl
and_both false b = refl

pub loop-init : goal.loop-init
loop-init c = let all : c.args.count - 0 ≡ c.args.count = omega arith in rw all (omega arith, refl, refl)

pub loop-preserved : goal.loop-preserved
loop-preserved c =
    let a = c.args in
    let f : List ℕ = a.form.now in
    let l = c.loop in
    let n = c.entry_length-at in
    let left = a.count - l.counter in
    let some : 0 < left = omega arith in
    let fewer : a.count - (l.counter + 1) ≡ left - 1 = omega arith in
    let rest = loop_fine a.what (left - 1) (drop (l.at + n.result) f) in
    rw fewer (
      omega (arith, l.invariant.0, n.ensures.1),
      length-on a.what f l.at left n.result some n.ensures.0 ∙ l.invariant.1,
      ap (λ (x : Bool). both x rest) (and_both l.fine c.entry_fine-fine.result ∙ ap (both l.fine) c.entry_fine-fine.ensures)
          ∙ sym (both_assoc l.fine (entry_fine a.what (drop l.at f)) rest)
          ∙ sym (ap (both l.fine) (fine-on a.what f l.at left n.result some n.ensures.0))
          ∙ l.invariant.2,
    )

pub returns : goal.returns
returns c =
    let a = c.args in
    let f : List ℕ = a.form.now in
    let l = c.loop in
    let left = a.count - l.counter in (
      sym (length-end a.what f l.at left (omega arith)) ∙ l.invariant.1,
      sym (ap (λ (x : Bool). both l.fine x) (fine_end a.what f l.at left (omega arith)) ∙ both_right l.fine) ∙ l.invariant.2,
      omega arith,
    )
