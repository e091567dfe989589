-- What a loop that counts up leaves to be done, and a run of FF that the library stores in a part of a slice. Assumes nothing.
use mathlib.Core.Path.{◌≡◌, ◌∙◌, refl, sym, ap}
use mathlib.Core.List.{List, ◌++◌}
use Prim.Native.Nat.{ℕ, suc, ◌+◌, ◌-◌, ◌≤◌, ◌<◌}
use native.Mathlib.Omega.{arith}
use lib.ListN.{length, take, drop, replicate, length-take, length-drop, length-replicate}
use lib.Seq.{sets, take-length}
use borrow.Rule.Slice.PartMut.{put_mid}
use Rattle.std.proofs.lemmas.Slice.{put_mid-paste}
use Rattle.std.proofs.lemmas.List.Edits.{sets-eq}
use Rattle.laws.proofs.Lists.{sets-front}

-- ---- after i of n turns: f of those that are left

module _ {ℓ} {A : Type ℓ} (f : ℕ → A) (n i : ℕ) where
  pub one-more : i < n → f (n - i) ≡ f (suc (n - (i + 1)))
  one-more h = let e : n - i ≡ suc (n - (i + 1)) = omega arith in ap f e

  pub none-left : n ≤ i → f (n - i) ≡ f 0
  none-left h = let e : n - i ≡ 0 = omega arith in ap f e

-- ---- a part of a slice

-- what a part of a slice holds after a write is what was stored in a row
stored : (d ys : List ℕ) (o k : ℕ) → o + length ys ≤ length d → length ys ≡ k → put_mid o k d ys ≡ sets d o ys
stored d ys o k fits e =
    put_mid-paste o k d ys ys (length ys) refl e refl ∙ ap (λ (l : List ℕ). take o d ++ l ++ drop (o + length ys) d) (take-length ys) ∙ sym (sets-eq ys d o fits)

pub filled :
    (d : List ℕ) (o n : ℕ) {k : ℕ} {ys : List ℕ} → o + n ≤ length d → k ≡ n → ys ≡ replicate (length (take k (drop o d))) 0xFF
    → put_mid o k d ys ≡ sets d o (replicate n 0xFF)
filled d o n {k} {ys} fits e g =
    let all : length (take k (drop o d)) ≡ n = rw (length-take, length-drop) (omega arith) in
    let f : ys ≡ replicate n 0xFF = rw all at g in
    let long : length ys ≡ n = ap length f ∙ length-replicate n 0xFF in
    stored d ys o k (omega arith) (omega arith) ∙ ap (sets d o) f

-- the same at its front, of any bytes
pub front-stored : (d : List ℕ) {xs ys : List ℕ} (k : ℕ) → ys ≡ xs → length xs ≡ k → k ≤ length d → ys ++ drop k d ≡ sets d 0 xs
front-stored d {xs} k e l h =
    ap (λ (ys : List ℕ). ys ++ drop k d) e ∙ ap (λ (n : ℕ). xs ++ drop n d) (sym l) ∙ sym (sets-front d xs (omega arith))
