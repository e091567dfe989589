-- Stores in a row, part by part: what a loop does that calls a writer of one part in each turn. Assumes nothing.
use mathlib.Core.Path.{◌≡◌, ◌∙◌, sym, ap}
use mathlib.Core.List.{List, ◌++◌}
use Prim.Native.Nat.{ℕ, ◌+◌}
use lib.ListN.{length}
use lib.Seq.{sets}
use Rattle.laws.proofs.Lists.{sets-append}

-- once the first part, of k, is stored, the rest stands k further on
pub sets_next {ℓ} :
    {A : Type ℓ} (out out' : List A) (to k : ℕ) (first others whole : List A) → whole ≡ first ++ others → length first ≡ k
    → out' ≡ sets out to first → sets out' (to + k) others ≡ sets out to whole
sets_next out out' to k first others whole w l e =
    rw (e, ← l) (sym (sets-append out to first others) ∙ sym (ap (sets out to) w))
