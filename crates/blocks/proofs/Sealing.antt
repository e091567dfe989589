-- A record whose checksum is put in last is that of the block with its checksum, whatever control data and bytes behind it the block holds.
-- Assumes nothing.
use mathlib.Core.Path.{◌≡◌, ◌∙◌, refl, sym, ap, ap₂, subst}
use mathlib.Core.Bool.{Bool, true, false}
use mathlib.Core.List.{List, [], ◌∷◌, ◌++◌, map, append_assoc}
use Prim.Native.Nat.{ℕ, ◌+◌, ◌-◌, ◌*◌, ◌/◌, ◌%◌, ◌<◌, ◌≤◌, min}
use native.Mathlib.Nat.{mod-eq_of_lt}
use native.Mathlib.Omega.{arith}
use borrow.Author.Tests.{leb-true, leb-false}
use lib.Dec.{leb}
use lib.ListN.{length, take, drop, length-drop, length-map}
use lib.Seq.{sets, take_at, take_all}
use Rattle.laws.proofs.Lists.{sets-front}
use Rattle.laws.proofs.Stores.{sets_next}
use Rattle.lent_bytes.proofs.Moving.{sets_out}
use Rattle.octet.specs.Decoding.{nib}
use Rattle.octet.specs.Image.{image}
use Rattle.fields.specs.Fields.{laid, parts}
use Rattle.blocks.specs.Block.{Block, header, record_of}
use Rattle.blocks.specs.Sums.{checksum}
use Rattle.blocks.specs.Sealing.{head_bytes, sum_in, sealed}
use Rattle.blocks.proofs.Summing.{checksum_lt}

-- the 16 bits as a writer adds them up
pub head_of :
    (application size : ℕ) → application < 32 → size < 2048
    → (application + 32 * size ≡ laid (header application size) 0) × (application + 32 * size < 65536)
unfolding laid
head_of application size a b = (omega arith, omega arith)

-- `&out[4..end]`, where the control bytes that are there end
pub part-there : (l : List ℕ) (n end : ℕ) → end ≡ 4 + min n (length l - 4) → take (end - 4) (drop 4 l) ≡ take n (drop 4 l)
part-there l n end e = go (leb n (length l - 4)) refl
  where
    go : (b : Bool) → leb n (length l - 4) ≡ b → take (end - 4) (drop 4 l) ≡ take n (drop 4 l)
    go true h =
        let le : n ≤ length l - 4 = leb-true n (length l - 4) h in
        let q : end - 4 ≡ n = omega arith in
        ap (λ (k : ℕ). take k (drop 4 l)) q
    go false h =
        let gt : length l - 4 < n = leb-false n (length l - 4) h in
        take_all (end - 4) (drop 4 l) (omega (arith, length-drop 4 l)) ∙ sym (take_all n (drop 4 l) (omega (arith, length-drop 4 l)))

-- where not even the head has room, nothing is put
pub no_room : (head control : ℕ) (l : List ℕ) → length l < 4 → l ≡ sealed head control l
unfolding sealed
no_room head control l h = sym (sets_out l 4 (map image (parts 4 2 (sum_in head control l))) (omega arith))

-- two bytes behind the head are put again
resealed :
    (a b c d x y x' y' : ℕ) (t out : List ℕ) → length (a ∷ b ∷ c ∷ d ∷ x ∷ y ∷ t) ≤ length out
    → sets (sets out 0 (a ∷ b ∷ c ∷ d ∷ x ∷ y ∷ t)) 4 (x' ∷ y' ∷ []) ≡ sets out 0 (a ∷ b ∷ c ∷ d ∷ x' ∷ y' ∷ t)
resealed a b c d x y x' y' t out h =
    ap (λ (l : List ℕ). sets l 4 (x' ∷ y' ∷ [])) (sets-front out (a ∷ b ∷ c ∷ d ∷ x ∷ y ∷ t) h)
    ∙ sym (sets-front out (a ∷ b ∷ c ∷ d ∷ x' ∷ y' ∷ t) h)

-- a block's control data by its checksum, and the bytes behind it
module _ (head : ℕ) (control : ℕ → List ℕ) (rest out : List ℕ) where
  abbrev pub holding : ℕ → Block
  holding s = record { head = head; part = 0; second = 0; raw = map image (control s) ++ rest }

  -- whose nibbles decode to themselves, the first two those of the checksum and the others ns
  module _ (ns : List ℕ) (split : (s : ℕ) → s < 256 → control s ≡ s % 16 ∷ s / 16 % 16 ∷ ns) (small : head < 65536)
      (back : map nib (map image (control 0)) ≡ control 0) (room : length (record_of (holding 0)) ≤ length out) where
    opened :
        (s : ℕ) → s < 256
        → record_of (holding s) ≡ head % 256 ∷ head / 256 ∷ 0 ∷ 0 ∷ image (s % 16) ∷ image (s / 16 % 16) ∷ (map image ns ++ rest)
    opened s h = ap (λ (l : List ℕ). head % 256 ∷ head / 256 ∷ 0 ∷ 0 ∷ (map image l ++ rest)) (split s h)

    put-again : (s : ℕ) → s < 256 → sets (sets out 0 (record_of (holding 0))) 4 (map image (parts 4 2 s)) ≡ sets out 0 (record_of (holding s))
    unfolding parts
    put-again s h =
        let zero = opened 0 (omega arith) in
        ap (λ (l : List ℕ). sets (sets out 0 l) 4 (image (s % 16) ∷ image (s / 16 % 16) ∷ [])) zero
        ∙ resealed (head % 256) (head / 256) 0 0 (image 0) (image 0) (image (s % 16)) (image (s / 16 % 16)) (map image ns ++ rest) out
        (subst (λ (l : List ℕ). length l ≤ length out) zero room)
        ∙ ap (sets out 0) (sym (opened s h))

    module _ (k : ℕ) (long : k ≡ length (control 0)) where
      its_bytes : take k (drop 4 (sets out 0 (record_of (holding 0)))) ≡ map image (control 0)
      its_bytes =
          let xs = map image (control 0) in
          let r = drop (length (record_of (holding 0))) out in
          ap (λ (l : List ℕ). take k (drop 4 l)) (sets-front out (record_of (holding 0)) room)
          ∙ ap (take k) (append_assoc xs rest r)
          ∙ take_at xs (rest ++ r) k (length-map (control 0) image ∙ sym long)

      -- head, control data with a checksum of 0, the bytes behind it, then the checksum
      pub record-sealed :
          {o₁ o₂ o₃ o₄ : List ℕ} → o₁ ≡ sets out 0 (head_bytes head) → o₂ ≡ sets o₁ 4 (map image (control 0)) → o₃ ≡ sets o₂ (4 + k) rest
          → o₄ ≡ sealed head k o₃
          → o₄ ≡ sets out 0 (record_of (holding (checksum head (control 0))))
      unfolding sealed
      record-sealed {o₁} {o₂} {o₃} e₁ e₂ e₃ e₄ =
          let xs = map image (control 0) in
          let high : head / 256 % 256 ≡ head / 256 = mod-eq_of_lt (omega arith) in
          let h : List ℕ = head % 256 ∷ head / 256 ∷ 0 ∷ 0 ∷ [] in
          let first : o₁ ≡ sets out 0 h = e₁ ∙ ap (λ (x : ℕ). sets out 0 (head % 256 ∷ x ∷ 0 ∷ 0 ∷ [])) high in
          let stored : o₃ ≡ sets out 0 (record_of (holding 0)) =
          e₃ ∙ sets_next o₁ o₂ 4 k xs rest (xs ++ rest) refl (length-map (control 0) image ∙ sym long) e₂
          ∙ sets_next out o₁ 0 4 h (xs ++ rest) (record_of (holding 0)) refl refl first in
          let sum : checksum head (map nib (take k (drop 4 o₃))) ≡ checksum head (control 0) =
          ap (λ (l : List ℕ). checksum head (map nib (take k (drop 4 l)))) stored ∙ ap (λ (l : List ℕ). checksum head (map nib l)) its_bytes ∙ ap (checksum head) back in
          e₄ ∙ ap₂ (λ (l : List ℕ) (x : ℕ). sets l 4 (map image (parts 4 2 x))) stored sum ∙ put-again (checksum head (control 0)) (checksum_lt head (control 0))
