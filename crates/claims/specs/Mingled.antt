-- What may stand between packets of ours, wider than packets of other magazines: between whole pages of ours also other pages of our magazine,
-- whole or not (SCOPE 26.7).
use Rattle.std.specs.Prelude.{Bool, true, false, ◌≡◌, List, [], ◌∷◌, ◌++◌, map, ℕ, zero, suc, ◌+◌, ◌*◌, ◌<◌, ◌≤◌, length}
use Rattle.laws.specs.Each.{Each}
use Rattle.octet.specs.Image.{image}
use Rattle.packet.specs.declared.Setting.{Setting}
use Rattle.packet.specs.Packet.{address}
use Rattle.claims.specs.Noise.{Near, Elsewhere}

-- what a packet between is: another magazine's; packet 0 of our magazine that names another page or another stream; another packet of our
-- magazine
pub data Kind : Type 0 where
  elsewhere : Kind
  header : Kind
  row : Kind

-- how many packets of our page are to come behind one of ours, before which so many were: all k behind its packet 0
abbrev pub following : ℕ → ℕ → ℕ
following k zero = k
following k (suc left) = left

-- what arrives of pages of k packets that were sent: all of them, in order, each byte to the one that was sent as R says. Between them stand
-- packets of each kind as K says: those of other magazines anywhere; between whole pages of ours packets 0 of other pages, and behind such a
-- one other packets of our magazine. So many packets of our page are to come, and whether another page has begun since the last of ours; the
-- packets that were sent, those of them as they arrived, and all packets that arrived
pub data Mingled (R : ℕ → ℕ → Type 0) (K : Kind → List ℕ → Type 0) (k : ℕ)
    : ℕ → Bool → List (List ℕ) → List (List ℕ) → List (List ℕ) → Type 0 where
  ended : {left : ℕ} {begun : Bool} → Mingled R K k left begun [] [] []
  sent :
      {left : ℕ} {begun : Bool} {p q : List ℕ} {ps ours qs : List (List ℕ)} → Near R p q → Mingled R K k (following k left) false ps ours qs
      → Mingled R K k left begun (p ∷ ps) (q ∷ ours) (q ∷ qs)
  between :
      {left : ℕ} {begun : Bool} {q : List ℕ} {ps ours qs : List (List ℕ)} → K elsewhere q → Mingled R K k left begun ps ours qs
      → Mingled R K k left begun ps ours (q ∷ qs)
  begins :
      {begun : Bool} {q : List ℕ} {ps ours qs : List (List ℕ)} → K header q → Mingled R K k 0 true ps ours qs
      → Mingled R K k 0 begun ps ours (q ∷ qs)
  goes : {q : List ℕ} {ps ours qs : List (List ℕ)} → K row q → Mingled R K k 0 true ps ours qs → Mingled R K k 0 true ps ours (q ∷ qs)

-- ---- sent rightly, with noise

-- packet 0 of our magazine (SCOPE 7.3) that names another page or another stream: its address and the six bytes behind it are images
pub record OtherPage (R : ℕ → ℕ → Type 0) (s : Setting) (q : List ℕ) : Type 0 where
  pub units : ℕ
  pub tens : ℕ
  pub s1 : ℕ
  pub s2 : ℕ
  pub s3 : ℕ
  pub s4 : ℕ
  pub rest : List ℕ
  pub nibbles : Each (λ n. n < 16) (units ∷ tens ∷ s1 ∷ s2 ∷ s3 ∷ s4 ∷ [])
  pub long : length rest ≡ 34
  pub differs : (units + 16 * tens ≡ s.page) × (s3 ≡ s.stream) → ⊥
  pub near : Near R (address s.magazine 0 ++ (map image (units ∷ tens ∷ s1 ∷ s2 ∷ s3 ∷ s4 ∷ []) ++ rest)) q

-- another packet of our magazine: its address is images
pub record OtherRow (R : ℕ → ℕ → Type 0) (s : Setting) (q : List ℕ) : Type 0 where
  pub y : ℕ
  pub least : 1 ≤ y
  pub number : y < 32
  pub rest : List ℕ
  pub long : length rest ≡ 40
  pub near : Near R (address s.magazine y ++ rest) q

abbrev pub Rightly : (ℕ → ℕ → Type 0) → Setting → Kind → List ℕ → Type 0
Rightly R s elsewhere q = Elsewhere R s q
Rightly R s header q = OtherPage R s q
Rightly R s row q = OtherRow R s q

-- what arrives of whole pages of k packets, with such packets between
abbrev pub Shared : (ℕ → ℕ → Type 0) → Setting → ℕ → List (List ℕ) → List (List ℕ) → List (List ℕ) → Type 0
Shared R s k = Mingled R (Rightly R s) k 0 false
