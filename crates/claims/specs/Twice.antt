-- Two aerials, one sender (SCOPE 18): each packet was heard twice, and the better of the two goes on, behind the address of either.
use Rattle.std.specs.Prelude.{◌≡◌, List, [], ◌∷◌, ◌++◌, ℕ, ◌%◌, ◌<◌, length, take}
use Rattle.packet.specs.declared.Setting.{Setting}
use Rattle.packet.specs.Packet.{packet_length, address}
use Rattle.aerials.specs.Better.{address_length, better_of}
use Rattle.claims.specs.Noise.{Near}

-- the packet that goes on: an address, and the part of the one that was heard better
abbrev pub glued : List ℕ → List ℕ → List ℕ → List ℕ
glued a first second = take address_length a ++ better_of first second

-- the packet p was heard as first and as second, and q goes on
pub data Both (R : ℕ → ℕ → Type 0) (p q : List ℕ) : Type 0 where
  of_first : {first second : List ℕ} → Near R p first → Near R p second → q ≡ glued first first second → Both R p q
  of_second : {first second : List ℕ} → Near R p first → Near R p second → q ≡ glued second first second → Both R p q

-- what goes on of the packets that were sent: all of them, in order, with packets of other magazines between, each heard by both. The packets
-- that were sent, those of them that go on, and all that go on
pub data Twice (R : ℕ → ℕ → Type 0) (s : Setting) : List (List ℕ) → List (List ℕ) → List (List ℕ) → Type 0 where
  ended : Twice R s [] [] []
  sent :
      {p q : List ℕ} {ps ours qs : List (List ℕ)} → length p ≡ packet_length → Both R p q → Twice R s ps ours qs → Twice R s (p ∷ ps) (q ∷ ours) (q ∷ qs)
  between :
      {q : List ℕ} {ps ours qs : List (List ℕ)} (magazine y : ℕ) (rest : List ℕ) → y < 32 → length rest ≡ 40
      → (magazine % 8 ≡ s.magazine % 8 → ⊥) → Both R (address magazine y ++ rest) q → Twice R s ps ours qs → Twice R s ps ours (q ∷ qs)
