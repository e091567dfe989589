-- What only private calls cite; nothing here needs to be believed. How the code holds what packets have come to, what one more adds, and
-- what was heard of one packet, from what was heard of a list of one.
use Rattle.std.specs.Prelude.{◌≡◌, Bool, true, false, List, [], ◌∷◌, ◌++◌, leb, ℕ, ◌+◌, ◌-◌, ◌*◌, ◌/◌, ◌%◌, ◌≤◌, ◌<◌, eqb, ltb, length, get_or, take, drop}
use Rattle.std.proofs.lemmas.List.Edits.{sets}
use Rattle.octet.specs.Decoding.{nib}
use Rattle.laws.specs.Pick.{pick, both, either}
use Rattle.answer.specs.Rules.{Rule, rule, judged}
use Rattle.blocks.specs.Block.{Block, head_length, records_of}
use Rattle.packet.specs.declared.Setting.{Setting}
use Rattle.packet.specs.Packet.{packet_length}
use Rattle.packet.specs.Address.{address_of, elsewhere}
use Rattle.pages.specs.declared.headers.Page.{Page}
use Rattle.pages.specs.declared.headers.Verdict.{Verdict}
use Rattle.pages.specs.Headers.{Seen}
use Rattle.pages.specs.Seen.{see}
use Rattle.walk.specs.declared.Run.{Run}
use Rattle.walk.specs.declared.Got.{Got}
use Rattle.walk.specs.declared.Taken.{Taken}
use Rattle.walk.specs.Mode.{Mode, running}
use Rattle.walk.specs.Store.{mode_of}
use Rattle.walk.specs.Reading.{room}
use Rattle.walk.specs.Internal.{Holds, Kept, Went, TookIn, ContinuedTo, ContinuedOn, ReadPacket, runs}
use Rattle.state.specs.Acting.{State, heeded, heeded_blocks, heeded_drops, act, handed, dropped}
use Rattle.reader.specs.Taking.{Heard, HeardAll, took, took_all}
use Rattle.std.specs.declared.result.Result.TheVariants.{Ok, Err}
use Rattle.reader.specs.declared.many.Going.{Going}
use Rattle.reader.specs.declared.many.Taking.{Taking}
use Rattle.reader.specs.declared.many.Met.{Met}
use Rattle.reader.specs.declared.many.Gone.{Gone}
use Rattle.reader.specs.declared.many.TookAll.{TookAll}
use Rattle.reader.specs.Calls.{Ran as Calls-as-Ran, run as calls_run, begun as calls_begun}
use Rattle.reader.specs.Calls.{Does, Tuned, refused_heard, refused_all}
use Rattle.reader.specs.Feeding.{does_for}
use Rattle.reader.specs.Many.{Ran, begun, run}

-- ---- one packet of our page

-- the packet p is read, with the block that runs in this store
abbrev pub ReadFrom : Bool → List ℕ → List ℕ → Got → Got → List ℕ → List ℕ → List ℕ → Type 0
ReadFrom joined store p got = ReadPacket joined (mode_of got.run store) (nib (get_or p 2 0)) (drop 3 p) got

-- a block that has taken its own of the bytes l before the pointed one has gone on to it
abbrev pub GoneTo : Bool → List ℕ → Got → Taken → List ℕ → Got → List ℕ → List ℕ → List ℕ → Type 0
GoneTo joined l got taken was r store old new =
    (m : Mode) → runs got.run ≡ running m → TookIn m l l taken was → ContinuedTo joined m l got r store old new

-- a block that has taken what it wants of some bytes has gone on over them
abbrev pub GoneOn : Bool → Got → Taken → List ℕ → Got → List ℕ → List ℕ → List ℕ → Type 0
GoneOn joined got taken was r store old new =
    (m : Mode) (l : List ℕ) → runs got.run ≡ running m → TookIn m l l taken was → ContinuedOn joined m l got r store old new

-- ---- one packet more

-- the state that packets have come to
abbrev pub state_in : Going → List ℕ → State
state_in a store = record { page = a.page; index = a.index; mode = mode_of a.got.run store; joined = a.joined }

-- what stood at a is now at r: the state st is held, these blocks have gone out, and a block was dropped if d says so
pub record Stepped (st : State) (bs : List Block) (d : Bool) (a r : Going) (store old new : List ℕ) : Type 0 where
  pub page : r.page ≡ st.page
  pub index : r.index ≡ st.index
  pub joined : r.joined ≡ st.joined
  pub went : Went st.mode bs d a.got r.got store old new

-- the verdict v is heeded on a packet with pointer p and these 39 bytes after it
abbrev pub Heeded : Verdict → ℕ → List ℕ → State → Going → Going → List ℕ → List ℕ → List ℕ → Type 0
Heeded v p l st = Stepped (heeded v p l st) (heeded_blocks v p l st) (heeded_drops v p l st)

-- the packet is seen so
abbrev pub Acted : Seen → State → Going → Going → List ℕ → List ℕ → List ℕ → Type 0
Acted x st = Stepped (act st x) (handed st x) (dropped st x)

-- ---- packets one after the other, whatever a packet does

-- they have come to b: so many packets, so many blocks, as so many bytes at the front of the output, and whether one was dropped
pub record CameTo {S B : Type 0} (bytes : List B → List ℕ) (b : Calls-as-Ran S B) (count handed long : ℕ) (drops : Bool) (old new : List ℕ) : Type 0 where
  pub packets : count ≡ b.packets
  pub blocks : handed ≡ length b.blocks
  pub written : long ≡ length (bytes b.blocks)
  pub dropped : drops ≡ b.dropped
  pub out : new ≡ sets old 0 (bytes b.blocks)

-- what has come holds so, and what is left from the place `at` comes to the whole
abbrev pub ReachedBy : {S B : Type 0} → Does S B → ℕ → List ℕ → ℕ → (Calls-as-Ran S B → Type 0) → Calls-as-Ran S B → Type 0
ReachedBy {S} {B} d long packets at Has whole =
    (b : Calls-as-Ran S B) × Has b × (calls_run d long ((length packets - at) / packet_length) b (drop at packets) ≡ whole)

-- ---- of one stream

-- no packet has come yet
abbrev pub started : Page → ℕ → Run → Bool → Going
started page index run joined =
    record { page = page; index = index; joined = joined; got = record { run = run; blocks = 0; written = 0; dropped = false } }

-- what the packets of l come to from a, with so much room
abbrev pub ran_from : Setting → ℕ → Going → List ℕ → List ℕ → Ran
ran_from s long a store l = run s long (length l / packet_length) (begun (state_in a store)) l

-- packets taken one after the other have come to b
pub record RanTo (b : Ran) (r : Taking Going) (store old new : List ℕ) : Type 0 where
  pub page : r.going.page ≡ b.state.page
  pub index : r.going.index ≡ b.state.index
  pub joined : r.going.joined ≡ b.state.joined
  pub holds : Holds b.state.mode r.going.got.run store
  pub came : CameTo records_of b r.packets r.going.got.blocks r.going.got.written r.going.got.dropped old new

abbrev pub taking : Going → ℕ → Taking Going
taking a count = record { going = a; packets = count }

-- the packets up to the place `at` have come to a, and what is left from there comes to the whole
abbrev pub Reached : Setting → ℕ → List ℕ → ℕ → Going → List ℕ → List ℕ → List ℕ → Ran → Type 0
Reached s long packets at a store old new whole =
    ReachedBy (does_for s) long packets at (λ b. RanTo b (taking a (at / packet_length)) store old new) whole

-- the packet at a place of the list
abbrev pub packet_at : List ℕ → ℕ → List ℕ
packet_at packets at = take (at + packet_length - at) (drop at packets)

-- from one place to another only other magazines' packets stand
pub data OthersOnly (s : Setting) (packets : List ℕ) (from : ℕ) : ℕ → Type 0 where
  none_passed : OthersOnly s packets from from
  one-passed :
      {at : ℕ} → OthersOnly s packets from at → at + packet_length ≤ length packets → elsewhere s (address_of (packet_at packets at)) ≡ true
      → OthersOnly s packets from (at + packet_length)

-- and they are whole packets
pub record Passed (s : Setting) (packets : List ℕ) (from at : ℕ) : Type 0 where
  pub onward : from ≤ at
  pub within : at ≤ length packets
  pub even : (length packets - at) % packet_length ≡ 0
  pub by : OthersOnly s packets from at

-- and the packet that is met there, if one is, has this address, and isn't another magazine's; where none is, no address can be decoded
abbrev pub PassedTo : Setting → List ℕ → ℕ → Met → Type 0
PassedTo s packets from r =
    Passed s packets from r.at
    × (r.at < length packets → (r.address ≡ address_of (packet_at packets r.at)) × (elsewhere s r.address ≡ false))
    × (r.address ≤ 255 → r.at < length packets)

-- ---- up to a mark

-- a packet with this address is a mark: it can't be read, or is a packet 0 of our magazine
unfoldable pub marks : Setting → ℕ → Bool
marks s address = either (ltb 255 address) (eqb address (s.magazine % 8))

-- packets from one place to another, each with room for what one can give, have come from a₀ to a; where the reader isn't alone none is a
-- mark
pub data Along (s : Setting) (alone : Bool) (packets : List ℕ) (limit from : ℕ) (a₀ : Going) (store₀ old : List ℕ)
    : ℕ → Going → List ℕ → List ℕ → Type 0 where
  along-none : Along s alone packets limit from a₀ store₀ old from a₀ store₀ old
  along_one :
      {at : ℕ} {a after : Going} {store store' mid new : List ℕ} → Along s alone packets limit from a₀ store₀ old at a store mid
      → at + 42 ≤ length packets → a.got.written + room ≤ limit → (alone ≡ false → marks s (address_of (packet_at packets at)) ≡ false)
      → Acted (see s (packet_at packets at)) (state_in a store) a after store' mid new
      → Along s alone packets limit from a₀ store₀ old (at + 42) after store' new

-- whole packets are left from the place, and what has been written fits
pub record Startable (packets : List ℕ) (from : ℕ) (a : Going) (limit : ℕ) (out : List ℕ) : Type 0 where
  pub within : from ≤ length packets
  pub even : (length packets - from) % packet_length ≡ 0
  pub fits : a.got.written ≤ limit
  pub few : head_length * a.got.blocks ≤ a.got.written
  pub room : limit ≤ length out

-- they have come to a at the place `at`
pub record WentTo (s : Setting) (alone : Bool) (packets : List ℕ) (limit from : ℕ) (a₀ : Going) (store₀ old : List ℕ) (at : ℕ) (a : Going) (store new : List ℕ) : Type 0 where
  pub along : Along s alone packets limit from a₀ store₀ old at a store new
  pub kept : Kept a.got.run store
  pub onward : from ≤ at
  pub still : at ≡ from → a.got.written ≡ a₀.got.written
  pub start : Startable packets at a limit new
  pub long : length new ≡ length old

-- and end there: for want of room, at a mark where the reader isn't alone, or because none is left
pub record WentOn (s : Setting) (alone : Bool) (packets : List ℕ) (limit from : ℕ) (a₀ : Going) (store₀ old : List ℕ) (r : Gone Going) (store new : List ℕ) : Type 0 where
  pub went : WentTo s alone packets limit from a₀ store₀ old r.at r.going store new
  pub full : r.full ≡ true → limit < r.going.got.written + room
  pub fits : r.full ≡ false → r.at < length packets → r.going.got.written + room ≤ limit
  pub met : r.full ≡ false → r.at < length packets → r.address ≡ address_of (packet_at packets r.at)
  pub mark : r.full ≡ false → r.at < length packets → (alone ≡ false) × (marks s r.address ≡ true)

-- ---- a list of one

-- what was heard of its packet
abbrev pub told : HeardAll → Heard
told (Ok t) = Ok (took t.blocks t.written t.dropped)
told (Err r) = Err r

-- ---- the calls of a reader, of one stream or of two

-- whether setting and state are in range, and what packets come to in an output so long: what is heard of them, the reader then, and the bytes
-- that go out
pub record Reading (X R : Type 0) : Type 0 where
  pub fits : X → Bool
  pub in_range : X → R → Bool
  pub took : X → R → List ℕ → ℕ → TookAll
  pub left : X → R → List ℕ → ℕ → R
  pub bytes : X → R → List ℕ → ℕ → List ℕ

-- those of a reader that is tuned so
abbrev pub ran_in : {X R S B : Type 0} → (X → Tuned R S B) → X → R → List ℕ → ℕ → Calls-as-Ran S B
ran_in t x r l long = calls_run (t x).does long (length l / packet_length) (calls_begun ((t x).state r)) l

abbrev pub reading : {X R S B : Type 0} → (X → Tuned R S B) → Reading X R
reading t =
    record {
      fits = λ x. (t x).fits;
      in_range = λ x. (t x).in_range;
      took = λ x r l long. let a = ran_in t x r l long in took_all a.packets (length a.blocks) (length ((t x).does.bytes a.blocks)) a.dropped;
      left = λ x r l long. (t x).held (ran_in t x r l long).state;
      bytes = λ x r l long. (t x).does.bytes (ran_in t x r l long).blocks;
    }

-- bytes at the front of the output
abbrev pub laid : List ℕ → List ℕ → List ℕ
laid bytes old = bytes ++ drop (length bytes) old

-- the call for a list: its rules, the answer, the reader handed back, and the output
abbrev pub all_rules : {X R : Type 0} → Reading X R → ℕ → X → R → List ℕ → List ℕ → List Rule
all_rules g need x r l old =
    rule (both (g.fits x) (both (g.in_range x r) (eqb (length l % packet_length) 0))) 16 0 ∷ rule (leb need (length old)) 1 0 ∷ []

abbrev pub all_heard : {X R : Type 0} → Reading X R → ℕ → X → R → List ℕ → List ℕ → HeardAll
all_heard g need x r l old = judged refused_all (all_rules g need x r l old) (Ok (g.took x r l (length old)))

abbrev pub all_reader : {X R : Type 0} → Reading X R → ℕ → X → R → List ℕ → List ℕ → R
all_reader g need x r l old = judged (λ number offset. r) (all_rules g need x r l old) (g.left x r l (length old))

abbrev pub all_out : {X R : Type 0} → Reading X R → ℕ → X → R → List ℕ → List ℕ → List ℕ
all_out g need x r l old = judged (λ number offset. old) (all_rules g need x r l old) (laid (g.bytes x r l (length old)) old)

-- the call for one packet: one that isn't 42 bytes long is refused, another is a list of one
abbrev pub one_heard : {X R : Type 0} → Reading X R → ℕ → X → R → List ℕ → List ℕ → Heard
one_heard g need x r p old = pick (eqb (length p) packet_length) (told (all_heard g need x r p old)) (refused_heard 16 0)

abbrev pub one_reader : {X R : Type 0} → Reading X R → ℕ → X → R → List ℕ → List ℕ → R
one_reader g need x r p old = pick (eqb (length p) packet_length) (all_reader g need x r p old) r

abbrev pub one_out : {X R : Type 0} → Reading X R → ℕ → X → R → List ℕ → List ℕ → List ℕ
one_out g need x r p old = pick (eqb (length p) packet_length) (all_out g need x r p old) old
