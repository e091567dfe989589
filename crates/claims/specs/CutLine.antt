-- After a cut line: packets are gone without a word, and from one of our packets 0 on all arrive again, undamaged, with nothing between but
-- packets that can be read (SCOPE 26.8).
use Rattle.std.specs.Prelude.{◌≡◌, Bool, true, false, List, [], ◌∷◌, ◌++◌, map, ℕ, zero, suc, ◌+◌, ◌-◌, ◌*◌, ◌/◌, ◌%◌, ◌≤◌, eqb, length, get_or, drop}
use Rattle.laws.specs.Each.{Each}
use Rattle.laws.specs.Pick.{pick}
use Rattle.octet.specs.Decoding.{nib}
use Rattle.blocks.specs.Block.{Block, blocks}
use Rattle.packet.specs.declared.Setting.{Setting}
use Rattle.packet.specs.Packet.{packet_length}
use Rattle.packet.specs.Address.{decodes}
use Rattle.symbols.specs.Stream.{per_packet, cells_of}
use Rattle.writer.specs.Cutting.{packets}
use Rattle.walk.specs.Mode.{Mode, continues, finished, unfinished}
use Rattle.walk.specs.Reading.{spanning}
use Rattle.state.specs.declared.Reader.{Reader}
use Rattle.state.specs.Acting.{State}
use Rattle.state.specs.State.{reader_of, Sound}
use Rattle.reader.specs.Taking.{Heard, HeardAll}
use Rattle.claims.specs.Damage.{stream_in, Sending, sendings, unharmed}
use Rattle.claims.specs.Mingled.{Kind, elsewhere, header, row, Mingled}
use Rattle.claims.specs.Calls.{Feeds, FeedsAll}

-- ---- what stands between can be read

-- a packet's magazine modulo 8, and its number (SCOPE 7.1)
abbrev pub magazine_in : List ℕ → ℕ
magazine_in q = nib (get_or q 0 0) % 8

abbrev pub number_in : List ℕ → ℕ
number_in q = nib (get_or q 0 0) / 8 + 2 * nib (get_or q 1 0)

-- the page and the stream that a packet 0 names (SCOPE 7.3)
abbrev pub page_in : List ℕ → ℕ
page_in q = nib (get_or q 2 0) + 16 * nib (get_or q 3 0)

abbrev pub number_of_stream : List ℕ → ℕ
number_of_stream q = nib (get_or q 6 0)

-- a packet of 42 bytes whose address, and of a packet 0 the six bytes behind it, can be decoded
pub data Readable (s : Setting) (q : List ℕ) : Kind → Type 0 where
  of_other : length q ≡ packet_length → decodes 2 q ≡ true → (magazine_in q ≡ s.magazine % 8 → ⊥) → Readable s q elsewhere
  of-header :
      length q ≡ packet_length → decodes 2 q ≡ true → magazine_in q ≡ s.magazine % 8 → number_in q ≡ 0 → decodes 6 (drop 2 q) ≡ true
      → ((page_in q ≡ s.page) × (number_of_stream q ≡ s.stream) → ⊥) → Readable s q header
  of_row : length q ≡ packet_length → decodes 2 q ≡ true → magazine_in q ≡ s.magazine % 8 → (number_in q ≡ 0 → ⊥) → Readable s q row

-- ---- what is sent from there on

-- of a run of pages of k packets all but the first j pages: what is left begins at a packet 0
abbrev pub from_page : ℕ → ℕ → List (List ℕ) → List (List ℕ)
from_page k j ps = drop (j * (k + 1)) ps

-- how many bytes of the run's stream stand before that
abbrev pub before_page : ℕ → ℕ → ℕ
before_page k j = j * (k * per_packet)

-- the sendings whose start stands at place n of the stream, or behind it
unfoldable pub starting_from : List Sending → ℕ → List Sending
starting_from [] n = []
starting_from (x ∷ xs) zero = x ∷ xs
starting_from (x ∷ xs) (suc n) = starting_from xs (suc n - length (cells_of x.block))

-- what comes of a run of records from page j on: the blocks whose start stands there, as they were sent
abbrev pub from_there : Setting → ℕ → ℕ → ℕ → List ℕ → List Block
from_there s index k j records =
    map unharmed (starting_from (sendings (blocks records) (stream_in k (packets s index k records))) (before_page k j))

-- what arrives of a run's packets from page j on, undamaged, with readable packets between
abbrev pub Resumed : Setting → ℕ → ℕ → List (List ℕ) → List (List ℕ) → List (List ℕ) → Type 0
Resumed s k j ps ours qs = Mingled (λ a b. a ≡ b) (λ kind q. Readable s q kind) k 0 false (from_page k j ps) ours qs

-- ---- what comes out

-- the block b is what a running block comes to along bytes of packets: of each up to the last all of its bytes with no start among them, of the
-- last those up to the start that it points at, or all
pub data Becomes : Mode → Block → Type 0 where
  ends : {m : Mode} {b : Block} (pointed : Bool) (l : List ℕ) → finished (continues pointed m l) ≡ b ∷ [] → Becomes m b
  goes : {m : Mode} {b : Block} (l : List ℕ) → Becomes (unfinished (continues false m l)) b → Becomes m b

-- these blocks come out, all of them and in order, and before them none, or the one that was running in m, with a second byte 1
pub data Behind (m : Mode) (bs : List Block) : List Block → Type 0 where
  alone : Behind m bs bs
  after : {b : Block} → Becomes m b → Behind m bs (spanning true b ∷ bs)

-- those of a list of blocks whose second byte is 0 (SCOPE 26.9)
unfoldable pub unjoined : List Block → List Block
unjoined [] = []
unjoined (b ∷ bs) = pick (eqb b.second 0) (b ∷ []) [] ++ unjoined bs

-- ---- of the calls

-- a reader that holds this state, which is in range: Sound says which states are, and hold how they are held
pub record HeldBy {R S : Type 0} (Sound : S → Type 0) (hold : S → R) (r : R) (st : S) : Type 0 where
  pub sound : Sound st
  pub whole : r ≡ hold st

abbrev pub Held : Reader → State → Type 0
Held = HeldBy Sound reader_of

-- a reader that calls leave of another: any calls, each with whatever setting, bytes and room. A call for a packet and one for a list may answer, hand
-- back and leave what these relations say
pub data LeavesBy {X R : Type 0} (One : X → R → List ℕ → List ℕ → Heard → R → List ℕ → Type 0)
    (All : X → R → List ℕ → List ℕ → HeardAll → R → List ℕ → Type 0) : R → R → Type 0 where
  none : {r : R} → LeavesBy One All r r
  one :
      {r after left : R} {x : X} {q old out : List ℕ} {h : Heard} → One x r q old h after out → LeavesBy One All after left → LeavesBy One All r left
  many :
      {r after left : R} {x : X} {l old out : List ℕ} {h : HeardAll} → All x r l old h after out → LeavesBy One All after left
      → LeavesBy One All r left

abbrev pub Leaves : Reader → Reader → Type 0
Leaves = LeavesBy Feeds FeedsAll

-- what is owed of calls whose answers have these numbers and whose outputs these blocks, where m was running: every packet is taken, and the
-- blocks bs come out
pub record Delivered (m : Mode) (bs : List Block) (numbers : List ℕ) (out : List Block) : Type 0 where
  pub taken : Each (λ number. number ≡ 0) numbers
  pub comes : Behind m bs out

-- the same where nothing is said of what was running: at most one other block comes before those, with a second byte 1
pub record AfterOne (bs : List Block) (numbers : List ℕ) (out : List Block) : Type 0 where
  pub taken : Each (λ number. number ≡ 0) numbers
  pub first : List Block
  pub few : length first ≤ 1
  pub joined : Each (λ b. b.second ≡ 1) first
  pub whole : out ≡ first ++ bs
