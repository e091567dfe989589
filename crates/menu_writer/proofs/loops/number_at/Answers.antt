-- The answers that `menu_writer::loops::number_at` wants beside its invariants. Assumes nothing.
use mathlib.Core.Path.{◌≡◌, ◌∙◌, refl, ap}
use Prim.Native.Nat.{ℕ}
use native.Mathlib.Omega.{arith}
use lib.ListN.{drop}
use Rattle.menu_forms.specs.Form.{number_in}
use Rattle.menu_writer.proofs.Entries.{number_small}
use Rattle.menu_writer.proofs.Walking.{number-on}
use Rattle.menu_writer.proofs.loops.number_at.Goals as goal

pub loop-i-init : goal.loop-i-init
unfolding number_in
loop-i-init c = refl

pub overflow_mul-n : goal.overflow_mul-n
overflow_mul-n c =
    let l = c.loop-i in
    omega (arith, l.invariant, number_small l.i (drop c.args.at c.args.form.now) (omega arith))

pub overflow_add-n : goal.overflow_add-n
overflow_add-n c =
    let l = c.loop-i in
    omega (arith, l.invariant, c.byte_at.ensures.1, number_small l.i (drop c.args.at c.args.form.now) (omega arith))

pub loop-i-preserved : goal.loop-i-preserved
loop-i-preserved c =
    let l = c.loop-i in
    let b = c.byte_at in
    number-on l.i c.args.at l.n b.result c.args.form.now b.ensures.0 b.ensures.1 l.invariant

pub returns : goal.returns
returns c =
    let l = c.loop-i in
    let a = c.args in
    let e : l.i ≡ a.k = omega arith in
    let n = l.invariant ∙ ap (λ (x : ℕ). number_in x (drop a.at a.form.now)) e in
    (n, rw n (number_small a.k (drop a.at a.form.now) (omega arith)))
