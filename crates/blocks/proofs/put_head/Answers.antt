-- `blocks::put_head` meets its contract: four stores. Assumes nothing.
use mathlib.Core.Path.{◌∙◌, ap}
use mathlib.Core.List.{List}
use Prim.Native.Nat.{ℕ, ◌/◌, ◌%◌}
use lib.ListN.{set}
use Rattle.blocks.proofs.put_head.Goals as goal

pub returns : goal.returns
returns c =
    let a = c.args in
    c.put-4.ensures
    ∙ ap (λ (l : List ℕ). set l 3 0)
    (c.put-3.ensures
    ∙ ap (λ (l : List ℕ). set l 2 0) (c.put-2.ensures ∙ ap (λ (l : List ℕ). set l 1 (a.head / 256 % 256)) c.put.ensures))
