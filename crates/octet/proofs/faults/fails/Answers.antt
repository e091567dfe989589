-- The answers that `octet::faults::fails` wants beside its invariants. Assumes nothing.
use borrow.Author.Rules.{rules}
use mathlib.Core.Path.{◌≡◌, ◌∙◌, refl, sym, ap}
use Prim.Native.Nat.{ℕ, ◌+◌, ◌*◌, ◌/◌, ◌%◌, ◌≤◌, ◌<◌}
use native.Mathlib.Omega.{arith}
use lib.ListN.{drop, length}
use Rattle.octet.specs.Parity.{product, fails}
use Rattle.octet.proofs.Rows.{row, row-length, product-step, product-end}
use Rattle.octet.proofs.faults.fails.Goals as goal

pub loop-i-init : goal.loop-i-init
unfolding fails
loop-i-init c = (search rules, refl)

pub loop-i-preserved : goal.loop-i-preserved
loop-i-preserved c =
    let l = c.loop-i in
    let k = c.args.k in
    let w : length (row k) ≡ 8 = row-length k c.requires in
    let i : l.i < length (row k) = omega arith in
    let next : ℕ → ℕ = λ x. ((l.sum + x * (l.rest % 2)) % 2 + product (drop (l.i + 1) (row k)) (l.rest / 2)) % 2 in
    (omega arith, ap next c.check.ensures.value ∙ product-step (row k) l.i l.sum l.rest i ∙ l.invariant.1)

pub returns : goal.returns
returns c =
    let l = c.loop-i in
    let k = c.args.k in
    let w : length (row k) ≡ 8 = row-length k c.requires in
    let i : length (row k) ≤ l.i = omega arith in
    record {
      value = sym (product-end (row k) l.i l.sum l.rest i l.invariant.0) ∙ l.invariant.1;
      upper_bound = l.invariant.0;
    }
