-- A line that is put into spare bytes first, and from there to its place. Assumes nothing.
use mathlib.Core.Path.{◌≡◌, ◌∙◌, sym}
use mathlib.Core.List.{List, [], ◌∷◌, ◌++◌}
use Prim.Native.Nat.{ℕ, ◌+◌, ◌-◌, ◌≤◌}
use native.Mathlib.Nat.{zero-add}
use native.Mathlib.Omega.{arith}
use lib.ListN.{length, take, drop, set, length-append}
use lib.Seq.{take_at, set_at, append_snoc}
use Rattle.laws.proofs.Lists.{sets-front}
use Rattle.text_lines.specs.Lines.{decimal, number_line}
use Rattle.text_lines.specs.Put.{Put, last, placed}
use Rattle.text_lines.proofs.Putting.{put-at}

module _ {line xs line' : List ℕ} {end : ℕ} (h : length xs ≤ length line) (a : Put line 0 xs line' end) where
  -- what was put at the front, taken off again
  pub line-front : take end line' ≡ xs
  line-front =
      rw (a.stored, sets-front line xs h) (take_at xs (drop (length xs) line) end (sym (a.moved ∙ zero-add (length xs))))

  pub line-put : {out out' : List ℕ} {q r : ℕ} → q + length xs ≤ last → Put out q (placed q (take end line')) out' r → Put out q xs out' r
  line-put k b = put-at k (rw line-front at b)

-- a line has its end
pub number_some : (name : List ℕ) (n : ℕ) → 1 ≤ length (number_line name n)
unfolding number_line
number_some name n = omega (arith, length-append (name ++ decimal n) (10 ∷ []))

-- a line in spare bytes whose last byte is then another
module _ {line line' : List ℕ} {end : ℕ} (xs : List ℕ) (a b : ℕ) (h : length (xs ++ a ∷ []) ≤ length line) (p : Put line 0 (xs ++ a ∷ []) line' end) where
  pub ends-otherwise : take end (set line' (end - 1) b) ≡ xs ++ b ∷ []
  ends-otherwise =
      let rest = drop (length (xs ++ a ∷ [])) line in
      let n : end ≡ length xs + 1 = omega (arith, p.moved, length-append xs (a ∷ [])) in
      let k : length xs ≡ end - 1 = omega arith in
      let m : length (xs ++ b ∷ []) ≡ end = omega (arith, length-append xs (b ∷ [])) in
      rw (p.stored, sets-front line (xs ++ a ∷ []) h, append_snoc xs a rest, set_at xs a rest b (end - 1) k, ← (append_snoc xs b rest))
      (take_at (xs ++ b ∷ []) rest end m)
