-- A line feed put at a place of a text ends a line there. Assumes nothing.
use mathlib.Core.Path.{◌≡◌, ◌∙◌, ap}
use mathlib.Core.List.{List}
use Prim.Native.Nat.{ℕ, ◌+◌, ◌-◌, ◌<◌}
use lib.ListN.{length, get_or, set, length-set}
use lib.Seq.{get_or-set_same}
use native.Mathlib.Omega.{arith}
use Rattle.io.specs.Counts.{IsPrefixLen}
use Rattle.io.proofs.Counting.{prefix_len_of_le}
use Rattle.vectors.specs.Ending.{EndsLine}

pub ends_at : (text : List ℕ) (n k : ℕ) → n ≡ k + 1 → k < length text → IsPrefixLen n (set text k 10) × EndsLine n (set text k 10)
ends_at text n k e b =
    (prefix_len_of_le _ _ (simp length-set (omega arith)), λ _. (omega arith, ap (λ i. get_or (set text k 10) i 0) last ∙ get_or-set_same text k 10 0 b))
  where
    last : n - 1 ≡ k
    last = omega arith
