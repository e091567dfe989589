-- Entries that are spelled one behind the other in lent bytes are found again, and what is found is what the bytes begin with. Assumes
-- nothing.
use mathlib.Core.Path.{◌≡◌, ◌∙◌, refl, sym, ap, ap₂}
use mathlib.Core.Bool.{true}
use mathlib.Core.List.{List, [], ◌∷◌, ◌++◌, append_assoc}
use Prim.Native.Nat.{ℕ, zero, suc, ◌+◌}
use native.Mathlib.Nat.{add-zero}
use lib.ListN.{length, get_or, drop}
use lib.Seq.{drop-drop, get_or-drop, drop-append_seam}
use Rattle.laws.specs.Bytes.{Bytes}
use Rattle.laws.proofs.Byted.{bytes_drop}
use Rattle.laws.proofs.Tests.{both_true}
use Rattle.fields.specs.Fields.{fitting}
use Rattle.fields.proofs.Laid.{fitting-append}
use Rattle.codecs.specs.Rows.{each, codes_in, in_row}
use Rattle.codecs.specs.Codec.{Codec, row_whole}
use Rattle.codecs.proofs.Codes.{Begins, begins-none, begins-append}

-- as many as are looked for
pub found-count : {E : Type 0} (spell : E → List ℕ) (read : List ℕ → E) (k : ℕ) (l : List ℕ) → length (in_row spell read k l) ≡ k
unfolding in_row
found-count spell read zero l = refl
found-count spell read (suc k) l = ap suc (found-count spell read k (drop (length (spell (read l))) l))

-- entries that fit a format
module _ {E : Type 0} (c : Codec E) (spell : E → List ℕ) (read : List ℕ → E)
    (back : (e : E) → c.whole e ≡ true → fitting (c.fields e) ≡ true → (rest : List ℕ) → read (spell e ++ rest) ≡ e) where
  pub found_back :
      (es : List E) → row_whole c es ≡ true → fitting (each c.fields es) ≡ true → (rest : List ℕ)
      → in_row spell read (length es) (each spell es ++ rest) ≡ es
  unfolding in_row
  found_back [] w h rest = refl
  found_back (e ∷ es) w h rest =
      let p = both_true (fitting (c.fields e)) (fitting (each c.fields es)) (sym (fitting-append (c.fields e) (each c.fields es)) ∙ h) in
      let q = both_true (c.whole e) (row_whole c es) w in
      let tail = each spell es ++ rest in
      let found = back e q.0 p.0 tail in
      rw (append_assoc (spell e) (each spell es) rest, found, drop-append_seam (spell e) tail)
      (ap (λ (x : List E). e ∷ x) (found_back es q.1 p.1 rest))

-- the byte at place k, and what follows it
pub begins_at : (k : ℕ) (l xs : List ℕ) → Begins (drop (k + 1) l) xs → Begins (drop k l) (get_or l k 0 ∷ xs)
unfolding codes_in
begins_at k l xs b =
    ap₂ (λ (x : ℕ) (ys : List ℕ). x ∷ ys) (get_or-drop k l 0 0 ∙ ap (λ (i : ℕ). get_or l i 0) (add-zero k))
    (ap (codes_in (length xs)) (drop-drop 1 k l) ∙ b)

module _ {E : Type 0} (spell : E → List ℕ) (read : List ℕ → E) (begins : (f : List ℕ) → Bytes f → Begins f (spell (read f))) where
  pub found-begins : (k : ℕ) (f : List ℕ) → Bytes f → Begins f (each spell (in_row spell read k f))
  unfolding in_row
  found-begins zero f h = begins-none f
  found-begins (suc k) f h =
      let n = length (spell (read f)) in
      begins-append f (spell (read f)) _ (begins f h) (found-begins k (drop n f) (bytes_drop n f h))
