-- Stores in the order of a packet's bytes: images one by one, and what is stored behind them. Assumes nothing.
use borrow.Rule.Slice.PartMut.{put_mid}
use Rattle.std.proofs.lemmas.Slice.{put_mid-paste}
use Rattle.std.proofs.lemmas.List.Edits.{sets-eq}
use mathlib.Core.Path.{◌≡◌, ◌∙◌, refl, sym, ap}
use mathlib.Core.List.{List, [], ◌∷◌, ◌++◌, map}
use Prim.Native.Nat.{ℕ, suc, ◌+◌, ◌-◌, ◌*◌, ◌/◌, ◌%◌, ◌<◌, ◌≤◌}
use native.Mathlib.Numerals.{add-one}
use native.Mathlib.Omega.{arith}
use lib.Dec.{leb}
use lib.ListN.{length, set, get_or, take, drop, replicate, drop_of_length-le, length-replicate}
use lib.Seq.{sets, drop-cons, take-length}
use borrow.Author.Tests.{le-leb, lt-leb}
use Rattle.laws.specs.Pick.{pick}
use Rattle.laws.proofs.Stores.{sets_next}
use Rattle.octet.specs.Image.{image}
use Rattle.packet.specs.declared.Setting.{Setting}
use Rattle.packet.specs.Packet.{packet_zero}

-- one more image is stored
pub images_more :
    (l ns : List ℕ) (q i b : ℕ) → i < length ns → b ≡ image (get_or ns i 0)
    → sets (set l (q + i) b) (q + (i + 1)) (map image (drop (i + 1) ns)) ≡ sets l (q + i) (map image (drop i ns))
images_more l ns q i b h e =
    let f : q + suc i ≡ suc (q + i) = omega arith in
    rw (e, add-one, drop-cons ns i 0 h, f)

pub images_all :
    (l entry ns : List ℕ) (q i : ℕ) → length ns ≤ i → sets l (q + i) (map image (drop i ns)) ≡ sets entry q (map image ns)
    → l ≡ sets entry q (map image ns)
images_all l entry ns q i h e = rw (drop_of_length-le ns h) at e

-- what is written where there is room, and what is left where there isn't
pub placed :
    (old out new : List ℕ) (q k : ℕ) → k ≤ length old - q → q ≤ length old → out ≡ new → out ≡ pick (leb (q + k) (length old)) new old
placed old out new q k h g e = let f : q + k ≤ length old = omega arith in rw (le-leb (q + k) (length old) f) e

pub unplaced : (old new : List ℕ) (q k : ℕ) → length old < q + k → old ≡ pick (leb (q + k) (length old)) new old
unplaced old new q k h = rw (lt-leb (q + k) (length old) h)

-- where there is room it is written
pub written : (old out new : List ℕ) (q k : ℕ) → q + k ≤ length old → out ≡ pick (leb (q + k) (length old)) new old → out ≡ new
written old out new q k h e = rw (le-leb (q + k) (length old) h) at e

-- packet 0's ten nibbles
abbrev pub nibbles_of : Setting → ℕ → ℕ → List ℕ
nibbles_of s index n =
    s.magazine % 8 ∷ 0 ∷ s.page % 16 ∷ s.page / 16 ∷ index ∷ n % 8 ∷ s.stream ∷ n / 8 ∷ 0 ∷ 0 ∷ []

-- and its characters behind them
pub zero_laid :
    (s : Setting) (index n : ℕ) (entry m out : List ℕ) (q : ℕ) → m ≡ sets entry q (map image (nibbles_of s index n))
    → out ≡ sets m (q + 10) (replicate 32 0x20) → out ≡ sets entry q (packet_zero s index n)
unfolding packet_zero
zero_laid s index n entry m out q em e =
    let z : s.magazine % 8 + 8 * (0 % 2) ≡ s.magazine % 8 = omega arith in
    let w : packet_zero s index n ≡ map image (nibbles_of s index n) ++ replicate 32 0x20 = rw z in
    e ∙ sets_next entry m q 10 (map image (nibbles_of s index n)) (replicate 32 0x20) (packet_zero s index n) w refl em

-- a part of a slice that was filled holds what is stored in a row
pub filled :
    (d ys : List ℕ) (q n b : ℕ) {k : ℕ} → q + n ≤ length d → k ≡ n → ys ≡ replicate n b → put_mid q k d ys ≡ sets d q (replicate n b)
filled d ys q n b fits size is =
    let long : length ys ≡ n = ap length is ∙ length-replicate n b in
    put_mid-paste q _ d ys ys (length ys) refl (omega arith) refl ∙ ap (λ (l : List ℕ). take q d ++ l ++ drop (q + length ys) d) (take-length ys)
    ∙ sym (sets-eq ys d q (omega arith)) ∙ ap (sets d q) is
