-- A row of values in lent bytes, of any widths: how long it is, that it stands for its values, and that bytes begin with the row of what
-- they stand for. Assumes nothing.
use mathlib.Core.Path.{◌≡◌, ◌∙◌, refl, sym, ap, ap₂, subst}
use mathlib.Core.Bool.{true}
use mathlib.Core.List.{List, [], ◌∷◌, ◌++◌, map, append_assoc}
use Prim.Native.Nat.{ℕ, zero, suc, ◌+◌, ◌*◌, ◌%◌, ◌^◌, ◌<◌}
use native.Mathlib.Nat.{mul-one, mod-eq_of_lt}
use native.Mathlib.Omega.{arith}
use borrow.Author.Tests.{ltb-true}
use lib.Dec.{ltb}
use lib.ListN.{length, get_or, take, drop, length-append}
use lib.Pow.{shl_exact}
use lib.Seq.{drop-drop, drop-append_seam, get_or-drop}
use Rattle.laws.specs.Bytes.{Bytes}
use Rattle.laws.proofs.Byted.{bytes_drop}
use Rattle.laws.proofs.Tests.{both_true}
use Rattle.fields.specs.Fields.{fitting, parts, whole}
use Rattle.fields.proofs.Laid.{length-parts, whole_parts, parts_whole}
use Rattle.codecs.specs.Rows.{codes_in, rowed}
use Rattle.codecs.proofs.Codes.{Begins, codes-back, codes-count, begins-none, begins-append, begins-codes}
use Rattle.information_forms.specs.Rows.{bytes_of, row_bytes, row_form, row_in}

pub row-long : (ws vs : List ℕ) → length (row_form ws vs) ≡ row_bytes ws
unfolding row_form row_bytes
row-long [] vs = refl
row-long (w ∷ ws) vs =
    length-append (parts 8 (bytes_of w) (get_or vs 0 0)) (row_form ws (drop 1 vs))
    ∙ ap₂ (λ (x y : ℕ). x + y) (length-parts 8 (bytes_of w) (get_or vs 0 0)) (row-long ws (drop 1 vs))

pub row_count : (ws f : List ℕ) → length (row_in ws f) ≡ length ws
unfolding row_in
row_count [] f = refl
row_count (w ∷ ws) f = ap suc (row_count ws (drop (bytes_of w) f))

-- a value that fits its width fits its bytes
pub value-fits : (w v : ℕ) → v < 2 ^ w → v % 2 ^ (bytes_of w * 8) ≡ v
value-fits w v h =
    ap (λ (x : ℕ). x % 2 ^ (bytes_of w * 8)) (sym (mul-one v)) ∙ shl_exact w 0 (bytes_of w * 8) h (omega arith) ∙ mul-one v

-- one value is found again
pub value-back : (w v : ℕ) (rest : List ℕ) → v < 2 ^ w → whole 8 (codes_in (bytes_of w) (parts 8 (bytes_of w) v ++ rest)) ≡ v
value-back w v rest h =
    let k = bytes_of w in
    let ps = parts 8 k v in
    ap (λ (j : ℕ). whole 8 (codes_in j (ps ++ rest))) (sym (length-parts 8 k v)) ∙ ap (whole 8) (codes-back ps rest) ∙ whole_parts 8 k v
    ∙ value-fits w v h

pub row_back :
    (ws vs rest : List ℕ) → length vs ≡ length ws → fitting (rowed ws vs) ≡ true → row_in ws (row_form ws vs ++ rest) ≡ vs
unfolding row_in row_form rowed fitting
row_back [] [] rest e h = refl
row_back [] (v ∷ vs) rest e h = absurd (omega arith)
row_back (w ∷ ws) [] rest e h = absurd (omega arith)
row_back (w ∷ ws) (v ∷ vs) rest e h =
    let p = both_true (ltb v (2 ^ w)) (fitting (rowed ws vs)) h in
    let k = bytes_of w in
    let ps = parts 8 k v in
    let tail = row_form ws vs ++ rest in
    let on : (ps ++ row_form ws vs) ++ rest ≡ ps ++ tail = append_assoc ps (row_form ws vs) rest in
    let past : drop k (ps ++ tail) ≡ tail = ap (λ (j : ℕ). drop j (ps ++ tail)) (sym (length-parts 8 k v)) ∙ drop-append_seam ps tail in
    ap₂ (λ (x : ℕ) (xs : List ℕ). x ∷ xs)
    (ap (λ (l : List ℕ). whole 8 (codes_in k l)) on ∙ value-back w v tail (ltb-true v (2 ^ w) p.0))
    (ap (λ (l : List ℕ). row_in ws (drop k l)) on ∙ ap (row_in ws) past ∙ row_back ws vs rest (omega arith) p.1)

-- bytes are the parts of the number that they make
map_bytes : (k : ℕ) (l : List ℕ) → Bytes l → map (λ (x : ℕ). x % 2 ^ 8) (codes_in k l) ≡ codes_in k l
unfolding codes_in
map_bytes zero l h = refl
map_bytes (suc k) l h = ap₂ (λ (x : ℕ) (xs : List ℕ). x ∷ xs) (mod-eq_of_lt (h 0)) (map_bytes k (drop 1 l) (bytes_drop 1 l h))

pub value-begins : (w : ℕ) (f : List ℕ) → Bytes f → parts 8 (bytes_of w) (whole 8 (codes_in (bytes_of w) f)) ≡ codes_in (bytes_of w) f
value-begins w f h =
    let k = bytes_of w in
    let cs = codes_in k f in
    ap (λ (j : ℕ). parts 8 j (whole 8 cs)) (sym (codes-count k f)) ∙ parts_whole 8 cs ∙ map_bytes k f h

pub row-begins : (ws f : List ℕ) → Bytes f → Begins f (row_form ws (row_in ws f))
unfolding row_in row_form
row-begins [] f h = begins-none f
row-begins (w ∷ ws) f h =
    let k = bytes_of w in
    let xs = parts 8 k (whole 8 (codes_in k f)) in
    let e : xs ≡ codes_in k f = value-begins w f h in
    let ys = row_form ws (row_in ws (drop k f)) in
    let far : length xs ≡ k = length-parts 8 k (whole 8 (codes_in k f)) in
    begins-append f xs ys (subst (Begins f) (sym e) (begins-codes k f))
    (subst (λ (j : ℕ). Begins (drop j f) ys) (sym far) (row-begins ws (drop k f) (bytes_drop k f h)))

-- each value of a row that fits is below its width's power of two
pub row_fits : (ws vs : List ℕ) (k : ℕ) → k < length ws → fitting (rowed ws vs) ≡ true → get_or vs k 0 < 2 ^ get_or ws k 0
unfolding rowed fitting
row_fits [] vs k l h = absurd (omega arith)
row_fits (w ∷ ws) vs zero l h = ltb-true (get_or vs 0 0) (2 ^ w) (both_true (ltb (get_or vs 0 0) (2 ^ w)) _ h).0
row_fits (w ∷ ws) vs (suc k) l h =
    let e : 1 + k ≡ suc k = omega arith in
    subst (λ (x : ℕ). x < 2 ^ get_or ws k 0) (get_or-drop 1 vs k 0 ∙ ap (λ (j : ℕ). get_or vs j 0) e)
    (row_fits ws (drop 1 vs) k (omega arith) (both_true (ltb (get_or vs 0 0) (2 ^ w)) _ h).1)

-- the value i of a row in bytes stands behind those of the values before it
pub row_at_lem :
    (ws f : List ℕ) (i : ℕ) → i < length ws → get_or (row_in ws f) i 0 ≡ whole 8 (codes_in (bytes_of (get_or ws i 0)) (drop (row_bytes (take i ws)) f))
unfolding row_in row_bytes
row_at_lem [] f i h = absurd (omega arith)
row_at_lem (w ∷ ws) f zero h = refl
row_at_lem (w ∷ ws) f (suc i) h =
    row_at_lem ws (drop (bytes_of w) f) i (omega arith)
    ∙ ap (λ (l : List ℕ). whole 8 (codes_in (bytes_of (get_or ws i 0)) l)) (drop-drop (row_bytes (take i ws)) (bytes_of w) f)
