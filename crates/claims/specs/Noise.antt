-- What noise may do to packets, and what may come of what was sent.
use Rattle.std.specs.Prelude.{◌≡◌, ◌⊎◌, List, [], ◌∷◌, ◌++◌, ℕ, ◌%◌, ◌<◌, ◌≤◌, length}
use Rattle.octet.specs.Bits.{flips}
use Rattle.octet.specs.Image.{image}
use Rattle.octet.specs.Decoding.{nib, undecodable}
use Rattle.blocks.specs.Block.{Block, size_of}
use Rattle.packet.specs.declared.Setting.{Setting}
use Rattle.packet.specs.Packet.{address}

-- the byte b that arrives is at most d flips from the byte a that was sent (SCOPE 15.3)
abbrev pub Flipped : ℕ → ℕ → ℕ → Type 0
Flipped d a b = flips a b ≤ d

-- what arrives of an image is heard as that nibble, or, where L allows it, can't be decoded
abbrev pub Hears : (ℕ → ℕ → Type 0) → Type 0 → Type 0
Hears R L = (n b : ℕ) → n < 16 → R (image n) b → (nib b ≡ n) ⊎ ((nib b ≡ undecodable) × L)

-- each byte that arrives is to the one that was sent as R says
pub data Near (R : ℕ → ℕ → Type 0) : List ℕ → List ℕ → Type 0 where
  none : Near R [] []
  more : {a b : ℕ} {l m : List ℕ} → R a b → Near R l m → Near R (a ∷ l) (b ∷ m)

-- a packet of 42 bytes, rightly addressed (SCOPE 7.2) to another magazine, with noise
pub record Elsewhere (R : ℕ → ℕ → Type 0) (s : Setting) (q : List ℕ) : Type 0 where
  pub magazine : ℕ
  pub y : ℕ
  pub number : y < 32
  pub rest : List ℕ
  pub long : length rest ≡ 40
  pub differs : magazine % 8 ≡ s.magazine % 8 → ⊥
  pub near : Near R (address magazine y ++ rest) q

-- what arrives of the packets that were sent: all of them, in order, with packets of other magazines between (SCOPE 15.3). The packets
-- that were sent, those of them as they arrived, and all packets that arrived
pub data Aired (R : ℕ → ℕ → Type 0) (s : Setting) : List (List ℕ) → List (List ℕ) → List (List ℕ) → Type 0 where
  ended : Aired R s [] [] []
  sent :
      {p q : List ℕ} {ps ours qs : List (List ℕ)} → Near R p q → Aired R s ps ours qs → Aired R s (p ∷ ps) (q ∷ ours) (q ∷ qs)
  between : {q : List ℕ} {ps ours qs : List (List ℕ)} → Elsewhere R s q → Aired R s ps ours qs → Aired R s ps ours (q ∷ qs)

-- what comes out of what was sent: each is kept, and related to what was sent by R, or lost, and that only where L allows it; the
-- order stays, and nothing comes twice
pub data Came {ℓ} {A B : Type ℓ} (L : Type 0) (R : A → B → Type 0) : List A → List B → Type ℓ where
  over : Came L R [] []
  kept : {a : A} {b : B} {l : List A} {m : List B} → R a b → Came L R l m → Came L R (a ∷ l) (b ∷ m)
  lost : {a : A} {l : List A} {m : List B} → L → Came L R l m → Came L R (a ∷ l) m

-- a block whose 16 bits are 16 bits and say how many raw bytes there are
pub record Fits (b : Block) : Type 0 where
  pub head : b.head < 65536
  pub size : length b.raw ≡ size_of b.head
