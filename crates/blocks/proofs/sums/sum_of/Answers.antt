-- `blocks::sums::sum_of` meets its contract: images all decode. Assumes nothing.
use borrow.Author.Tests.{eqb-true}
use mathlib.Core.Path.{◌∙◌, sym}
use mathlib.Core.List.{List, map}
use Prim.Native.Nat.{ℕ}
use native.Mathlib.Omega.{arith}
use Rattle.octet.specs.Decoding.{nib}
use Rattle.blocks.proofs.Clearing.{clean-sound}
use Rattle.blocks.proofs.Summing.{checksum_lt}
use Rattle.blocks.proofs.sums.sum_of.Goals as goal

pub clean_sum-requires : goal.clean_sum-requires
clean_sum-requires c = eqb-true _ 0 (sym c.is_clean.ensures ∙ c.if-is_clean.true)

pub returns-then-is_clean : goal.returns-then-is_clean
returns-then-is_clean c =
    let a = c.args in
    let s : List ℕ = a.body.now in
    let small = checksum_lt a.head (map nib s) in
    let e = c.clean_sum.ensures in
    let all = clean-sound s (eqb-true _ 0 (sym c.is_clean.ensures ∙ c.if-is_clean.true)) in
    record {
      broken = (λ h. absurd (omega (arith, h, e, small)));
      whole = (λ _. (all, e));
      most = omega (arith, e, small);
    }
