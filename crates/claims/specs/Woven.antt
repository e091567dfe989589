-- Two runs of our writer on one page number, one in each of two streams: whole pages of the one stand between whole pages of the other, and never
-- inside one (SCOPE 27.7).
use Rattle.std.specs.Prelude.{◌≡◌, Bool, true, false, List, [], ◌∷◌, ℕ}
use Rattle.packet.specs.declared.Setting.{Setting}
use Rattle.packet.specs.declared.two.Streams.{Streams}
use Rattle.writer.specs.Cutting.{packets}
use Rattle.pages.specs.declared.two.Whose.{Whose}
use Rattle.pages.specs.declared.two.Whose.TheVariants.{First, Second}
use Rattle.pages.specs.Two.{setting_for}
use Rattle.claims.specs.Noise.{Near}
use Rattle.claims.specs.Mingled.{Kind, elsewhere, header, row, following, Rightly}
use Rattle.claims.specs.CutLine.{Readable}

-- what arrives of pages of k packets of one stream and pages of l packets of the other: all of both, each in its order, each byte to the one that
-- was sent as R says. A packet of one stream stands only where none of the other's page is still to come. Between them stand packets of each kind
-- as K says: those of other magazines anywhere; where no page of either is still to come packets 0 of other pages, and behind such a one other
-- packets of our magazine. For each stream so many packets of its page are still to come, those that were sent, and those of them as they
-- arrived; then whether a page of neither has begun since the last packet of either, and all packets that arrived
pub data Woven (R : ℕ → ℕ → Type 0) (K : Kind → List ℕ → Type 0) (k l : ℕ)
    : ℕ → List (List ℕ) → List (List ℕ) → ℕ → List (List ℕ) → List (List ℕ) → Bool → List (List ℕ) → Type 0 where
  ended : {m n : ℕ} {begun : Bool} → Woven R K k l m [] [] n [] [] begun []
  of_first :
      {m : ℕ} {begun : Bool} {p q : List ℕ} {ps ours rs theirs qs : List (List ℕ)} → Near R p q
      → Woven R K k l (following k m) ps ours 0 rs theirs false qs → Woven R K k l m (p ∷ ps) (q ∷ ours) 0 rs theirs begun (q ∷ qs)
  of_second :
      {n : ℕ} {begun : Bool} {p q : List ℕ} {ps ours rs theirs qs : List (List ℕ)} → Near R p q
      → Woven R K k l 0 ps ours (following l n) rs theirs false qs → Woven R K k l 0 ps ours n (p ∷ rs) (q ∷ theirs) begun (q ∷ qs)
  between :
      {m n : ℕ} {begun : Bool} {q : List ℕ} {ps ours rs theirs qs : List (List ℕ)} → K elsewhere q → Woven R K k l m ps ours n rs theirs begun qs
      → Woven R K k l m ps ours n rs theirs begun (q ∷ qs)
  begins :
      {begun : Bool} {q : List ℕ} {ps ours rs theirs qs : List (List ℕ)} → K header q → Woven R K k l 0 ps ours 0 rs theirs true qs
      → Woven R K k l 0 ps ours 0 rs theirs begun (q ∷ qs)
  goes :
      {q : List ℕ} {ps ours rs theirs qs : List (List ℕ)} → K row q → Woven R K k l 0 ps ours 0 rs theirs true qs
      → Woven R K k l 0 ps ours 0 rs theirs true (q ∷ qs)

-- a stream's packets, as our writer cuts its records; index, packets of a page and records are each stream's own
abbrev pub cut_for : Streams → (Whose → ℕ) → (Whose → ℕ) → (Whose → List ℕ) → Whose → List (List ℕ)
cut_for s index k records w = packets (setting_for w s) (index w) (k w) (records w)

-- what stands between is so to each of the two streams
abbrev pub ToBoth : (Setting → Kind → List ℕ → Type 0) → Streams → Kind → List ℕ → Type 0
ToBoth K s kind q = (w : Whose) → K (setting_for w s) kind q

-- of each stream's whole pages, all still to come; the length of a page, the packets that were sent and those as they arrived are each stream's own
abbrev pub BothWoven :
    (ℕ → ℕ → Type 0) → (Kind → List ℕ → Type 0) → (Whose → ℕ) → (Whose → List (List ℕ)) → (Whose → List (List ℕ)) → List (List ℕ) → Type 0
BothWoven R K k ps ours qs = Woven R K (k First) (k Second) 0 (ps First) (ours First) 0 (ps Second) (ours Second) false qs

-- sent rightly, with noise
abbrev pub BothShared :
    (ℕ → ℕ → Type 0) → Streams → (Whose → ℕ) → (Whose → List (List ℕ)) → (Whose → List (List ℕ)) → List (List ℕ) → Type 0
BothShared R s = BothWoven R (ToBoth (Rightly R) s)

-- undamaged, with nothing between but packets that can be read
abbrev pub BothClean : Streams → (Whose → ℕ) → (Whose → List (List ℕ)) → (Whose → List (List ℕ)) → List (List ℕ) → Type 0
BothClean s = BothWoven (λ a b. a ≡ b) (ToBoth (λ one kind q. Readable one q kind) s)
