-- The walk that spells information, step by step: a value of a row, a code of a string, a network. Assumes nothing.
use mathlib.Core.Path.{◌≡◌, ◌∙◌, refl, sym, ap}
use mathlib.Core.List.{List, [], ◌∷◌, ◌++◌}
use Prim.Native.Nat.{ℕ, zero, suc, ◌+◌, ◌-◌, ◌/◌, ◌%◌, ◌^◌, ◌≤◌, ◌<◌, min}
use native.Mathlib.Nat.{add-zero}
use native.Mathlib.Numerals.{add-one}
use native.Mathlib.Omega.{arith}
use lib.ListN.{length, get_or, take, drop, set, drop_of_length-le}
use lib.Pow.{shr-shr}
use lib.Seq.{sets, drop-cons, drop-drop, get_or-drop}
use Rattle.std.specs.Int.{w64, to_le_bytes}
use Rattle.laws.proofs.Countdown.{at_none}
use Rattle.laws.proofs.Lists.{sets-append}
use Rattle.fields.specs.Fields.{field, parts}
use Rattle.fields.proofs.Laid.{length-parts, field_past}
use Rattle.codecs.specs.Rows.{codes_in, values_in}
use Rattle.information_forms.specs.Rows.{cut, bytes_of, row_form}
use Rattle.information.specs.Internal.{row_at, spoken}

-- the k lowest bytes of a number
pub value_bytes : (v k : ℕ) → k ≤ 3 → take k (to_le_bytes w64 v) ≡ parts 8 k v
unfolding parts
value_bytes v zero h = refl
value_bytes v (suc zero) h = refl
value_bytes v (suc (suc zero)) h = refl
value_bytes v (suc (suc (suc zero))) h = let e : v / 65536 ≡ v / 256 / 256 = omega arith in rw e
value_bytes v (suc (suc (suc (suc k)))) h = absurd (omega arith)

-- ---- a row

pub row_on :
    (ws : List ℕ) (n i p q w : ℕ) (out out' whole : List ℕ) → i < length ws → w ≡ min (get_or ws i 0) 24
    → out' ≡ sets out q (parts 8 (bytes_of w) (field p w n))
    → sets out q (row_at (drop i ws) (n / 2 ^ p)) ≡ whole
    → sets out' (q + bytes_of w) (row_at (drop (i + 1) ws) (n / 2 ^ (p + w))) ≡ whole
unfolding cut row_form values_in
row_on ws n i p q w out out' whole some e eo inv =
    let xs = parts 8 (bytes_of w) (field p w n) in
    let rest = row_at (drop (suc i) ws) (n / 2 ^ (p + w)) in
    let here : row_at (drop i ws) (n / 2 ^ p) ≡ xs ++ rest =
    ap (λ (l : List ℕ). row_at l (n / 2 ^ p)) (drop-cons ws i 0 some)
    ∙ (rw (← e, field_past 0 w p n, add-zero p, shr-shr n p w)) in
    rw (add-one i, eo)
    (ap (λ (k : ℕ). sets (sets out q xs) (q + k) rest) (sym (length-parts 8 (bytes_of w) (field p w n)))
    ∙ sym (sets-append out q xs rest) ∙ ap (sets out q) (sym here) ∙ inv)

pub row-end : (ws : List ℕ) (n i q : ℕ) (out whole : List ℕ) → length ws ≤ i → sets out q (row_at (drop i ws) n) ≡ whole → out ≡ whole
unfolding cut row_form
row-end ws n i q out whole none inv = sym (ap (λ (l : List ℕ). sets out q (row_at l n)) (drop_of_length-le ws {i = i} none)) ∙ inv

-- ---- codes

code_at : (ss : List ℕ) (i : ℕ) → get_or (drop i (spoken ss)) 0 0 ≡ get_or ss i 0 % 128
code_at ss i = get_or-drop i (spoken ss) 0 0 ∙ ap (λ (k : ℕ). get_or (spoken ss) k 0) (add-zero i) ∙ go ss i
  where
    go : (ss : List ℕ) (i : ℕ) → get_or (spoken ss) i 0 ≡ get_or ss i 0 % 128
    go [] zero = refl
    go [] (suc i) = refl
    go (x ∷ ss) zero = refl
    go (x ∷ ss) (suc i) = go ss i

pub codes-on :
    (ss : List ℕ) (count i from to b : ℕ) (out out' whole : List ℕ) → i < count → b ≡ get_or ss (from + i) 0 → out' ≡ set out (to + i) (b % 128)
    → sets out (to + i) (codes_in (count - i) (drop (from + i) (spoken ss))) ≡ whole
    → sets out' (to + (i + 1)) (codes_in (count - (i + 1)) (drop (from + (i + 1)) (spoken ss))) ≡ whole
unfolding codes_in
codes-on ss count i from to b out out' whole some e eo inv =
    let cs = spoken ss in
    let up : count - i ≡ suc (count - (i + 1)) = omega arith in
    let q : to + (i + 1) ≡ suc (to + i) = omega arith in
    let p : from + (i + 1) ≡ from + i + 1 = omega arith in
    rw (eo, e, q, p, ← (drop-drop 1 (from + i) cs), ← (code_at ss (from + i)))
    (sym (ap (λ (k : ℕ). sets out (to + i) (codes_in k (drop (from + i) cs))) up) ∙ inv)

pub codes-end : (cs : List ℕ) (left q : ℕ) (out whole : List ℕ) → left ≤ 0 → sets out q (codes_in left cs) ≡ whole → out ≡ whole
unfolding codes_in
codes-end cs left q out whole none inv = sym (at_none (λ (k : ℕ). sets out q (codes_in k cs)) left none) ∙ inv
