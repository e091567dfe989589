-- Stores in a row: one byte is stored where the others go on, and what goes past the end may be left out. Assumes nothing.
use mathlib.Core.Path.{◌≡◌, ◌∙◌, refl, sym, ap}
use mathlib.Core.List.{List, [], ◌∷◌, ◌++◌}
use Prim.Native.Nat.{ℕ, zero, suc, ◌+◌, ◌-◌, ◌≤◌, ◌<◌, min}
use native.Mathlib.Nat.{not-suc-le-zero}
use native.Mathlib.Omega.{arith}
use lib.ListN.{length, get_or, take, drop, set, replicate, length-take, length-drop, length-set, length-replicate}
use lib.Seq.{sets, set_out, drop-cons, take-nil, take-take, take-length}
use borrow.Rule.Slice.PartMut.{put_mid}
use Rattle.std.proofs.lemmas.Slice.{put_mid-paste}
use Rattle.std.proofs.lemmas.List.Edits.{sets-eq}

-- ---- what goes past the end

pub sets_out : (d : List ℕ) (o : ℕ) (xs : List ℕ) → length d ≤ o → sets d o xs ≡ d
sets_out d o [] h = refl
sets_out d o (x ∷ xs) h = ap (λ (m : List ℕ). sets m (suc o) xs) (set_out d o x h) ∙ sets_out d (suc o) xs (omega arith)

-- of what is stored in a row, the front that there is and that has room is enough
sets_within : (d : List ℕ) (o m : ℕ) (xs : List ℕ) → min (length xs) (length d - o) ≤ m → sets d o (take m xs) ≡ sets d o xs
sets_within d o m [] h = ap (sets d o) (take-nil m)
sets_within d o zero (x ∷ xs) h = sym (sets_out d o (x ∷ xs) (omega arith))
sets_within d o (suc m) (x ∷ xs) h = sets_within (set d o x) (suc o) m xs (rw length-set (omega arith))

-- what a part of a slice holds after a write is what was stored in a row
stored : (d ys : List ℕ) (o k : ℕ) → o + length ys ≤ length d → length ys ≡ k → put_mid o k d ys ≡ sets d o ys
stored d ys o k fits e =
    put_mid-paste o k d ys ys (length ys) refl e refl ∙ ap (λ (l : List ℕ). take o d ++ l ++ drop (o + length ys) d) (take-length ys) ∙ sym (sets-eq ys d o fits)

-- ---- bytes of l from a place on

pub copy-begins :
    (d l : List ℕ) (o from n : ℕ) {k m : ℕ} → k ≡ min n (length l - from) → m ≡ min k (length d - o)
    → sets d (o + 0) (take (m - 0) (drop (from + 0) l)) ≡ sets d o (take n (drop from l))
copy-begins d l o from n {k} {m} e f =
    let p : o + 0 ≡ o = omega arith in
    let q : m - 0 ≡ m = omega arith in
    let r : from + 0 ≡ from = omega arith in
    rw (p, q, r, ← take-take m n (drop from l) (omega arith))
    (sets_within d o m (take n (drop from l)) (rw (length-take, length-drop) (omega arith)))

pub copy-on :
    (d l : List ℕ) (o from n i : ℕ) → i < n → from + i < length l
    → sets (set d (o + i) (get_or l (from + i) 0)) (o + (i + 1)) (take (n - (i + 1)) (drop (from + (i + 1)) l))
    ≡ sets d (o + i) (take (n - i) (drop (from + i) l))
copy-on d l o from n i h k =
    let p : n - i ≡ suc (n - (i + 1)) = omega arith in
    let q : o + (i + 1) ≡ suc (o + i) = omega arith in
    let r : from + (i + 1) ≡ suc (from + i) = omega arith in
    rw (p, q, r, drop-cons l (from + i) 0)

pub copy-ends : (d l : List ℕ) (o n i : ℕ) → n ≤ i → sets d o (take (n - i) l) ≡ d
copy-ends d l o n i h = let p : n - i ≡ 0 = omega arith in rw p

-- ---- one byte from the front on

take-replicate : (m n a : ℕ) → m ≤ n → take m (replicate n a) ≡ replicate m a
take-replicate zero n a h = refl
take-replicate (suc m) zero a h = absurd (not-suc-le-zero h)
take-replicate (suc m) (suc n) a h = ap (λ (l : List ℕ). a ∷ l) (take-replicate m n a (omega arith))

pub filled : (d : List ℕ) (n b : ℕ) {m : ℕ} {ys : List ℕ} → m ≡ min n (length d) → ys ≡ replicate m b → ys ++ drop m d ≡ sets d 0 (replicate n b)
filled d n b {m} {ys} e g =
    let long : length ys ≡ m = ap length g ∙ length-replicate m b in
    stored d ys 0 m (omega arith) long ∙ ap (sets d 0) (g ∙ sym (take-replicate m n b (omega arith)))
    ∙ sets_within d 0 m (replicate n b) (rw length-replicate (omega arith))
