-- The answers that `blocks::sums::clean_sum` wants beside its invariants. Assumes nothing.
use borrow.Author.Rules.{rules}
use mathlib.Core.Path.{◌∙◌, ap}
use mathlib.Core.List.{List, map}
use Prim.Native.Nat.{ℕ, ◌+◌, ◌%◌}
use lib.ListN.{drop}
use Rattle.laws.proofs.Maps.{map-drop}
use Rattle.octet.specs.Decoding.{nib}
use Rattle.blocks.specs.Sums.{total}
use Rattle.blocks.proofs.Clearing.{clean_at}
use Rattle.blocks.proofs.Summing.{sum_step, sum-end}
use Rattle.blocks.proofs.sums.clean_sum.Goals as goal

pub loop-i-init : goal.loop-i-init
loop-i-init c =
    let s : List ℕ = c.args.body.now in
    (c.head_total-sum.ensures.1, ap (λ (x : ℕ). (x + total (map nib (drop 2 s))) % 256) c.head_total-sum.ensures.0 ∙ rw map-drop)

pub image_nibble-sum-requires : goal.image_nibble-sum-requires
image_nibble-sum-requires c =
    clean_at c.args.body.now c.loop-i.i c.requires (search rules)

pub loop-i-preserved : goal.loop-i-preserved
loop-i-preserved c =
    let l = c.loop-i in
    let s : List ℕ = c.args.body.now in (
      search rules,
      ap (λ (x : ℕ). ((l.sum + x) % 256 + total (map nib (drop (l.i + 1) s))) % 256) c.image_nibble-sum.ensures
          ∙ sum_step s l.i l.sum (search rules)
          ∙ l.invariant.1,
    )

pub returns : goal.returns
returns c =
    let l = c.loop-i in
    let a = c.args in
    sum-end a.head a.body.now l.i l.sum (search rules) l.invariant.0 l.invariant.1
