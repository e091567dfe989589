-- The calls of a reader of two streams, in a row (`Rows`), as their contracts have them, and what their answers owe (SCOPE 27).
use Rattle.std.specs.Prelude.{◌≡◌, true, ◌⊎◌, List, [], ◌∷◌, ◌++◌, map, ℕ, zero, suc, eqb, length, take, drop}
use Rattle.laws.specs.Pick.{pick}
use Rattle.blocks.specs.Block.{Block, blocks, record_length}
use Rattle.packet.specs.declared.two.Streams.{Streams}
use Rattle.packet.specs.Two.{first_of, in_range_of_two}
use Rattle.pages.specs.declared.two.Whose.TheVariants.{First, Second}
use Rattle.walk.specs.Mode.{running}
use Rattle.state.specs.declared.two.Readers.{Readers}
use Rattle.state.specs.Two.{TwoState, Handed, handed_from, readers_of, SoundOfTwo}
use Rattle.state.proofs.two.fresh.Reads as reader-fresh_two
use Rattle.reader.specs.Taking.{Heard, HeardAll}
use Rattle.reader.specs.Two.{room_of_two, does_for_two, tuned_to_two}
use Rattle.reader.proofs.two.feed.Reads as reader-feed_two
use Rattle.reader.proofs.two.feed_all.Reads as reader-feed_all_two
use Rattle.claims.specs.Rows.{AsCalls as Rows-as-AsCalls, Call as Rows-as-Call, Fed as Rows-as-Fed, Tells as Rows-as-Tells, TellsAll as Rows-as-TellsAll, comes_out as rows_comes_out, heard as rows_heard, Feeder}
use Rattle.claims.specs.March.{Unreadable}

-- ---- what is written, read back

-- blocks behind this number of a stream
abbrev pub handed_behind : Streams → ℕ → List Block → List Handed
handed_behind s k bs = pick (eqb k s.first) (map (handed_from First) bs) (pick (eqb k s.second) (map (handed_from Second) bs) [])

-- a stream's number and a record, and so on; the number bounds how many are tried
unfoldable pub handed_within : Streams → ℕ → List ℕ → List Handed
handed_within s zero l = []
handed_within s (suc n) [] = []
handed_within s (suc n) (k ∷ l) = handed_behind s k (blocks (take (record_length l) l)) ++ handed_within s n (drop (record_length l) l)

abbrev pub handed_in : Streams → List ℕ → List Handed
handed_in s l = handed_within s (length l) l

abbrev pub feeder_for_two : Streams → Feeder Readers TwoState Handed
feeder_for_two s = record { tuned = tuned_to_two s; blocks = handed_in s }

-- ---- each call

-- the readers that come back
pub data StartsTwo : Readers → Type 0 where
  fresh : (κs : _) (a : _) (x : _) (t : _) → reader-fresh_two.Post κs a x t → StartsTwo x

-- setting, readers, packet and lent output; the answer, the readers that come back, and the output afterwards
pub data FeedsTwo : Streams → Readers → List ℕ → List ℕ → Heard → Readers → List ℕ → Type 0 where
  feed :
      (κs : _) (a : _) (x : _) (t : _) → reader-feed_two.Post κs a x t
      → FeedsTwo a.0 a.1.0 a.1.1.0.now a.1.1.1.0.now x.heard x.reader t.1.1.1.0.now

-- the same for a list of packets
pub data FeedsAllTwo : Streams → Readers → List ℕ → List ℕ → HeardAll → Readers → List ℕ → Type 0 where
  feed-all :
      (κs : _) (a : _) (x : _) (t : _) → reader-feed_all_two.Post κs a x t
      → FeedsAllTwo a.0 a.1.0 a.1.1.0.now a.1.1.1.0.now x.heard x.reader t.1.1.1.0.now

-- ---- calls in a row

abbrev pub CallOfTwo : Type 0
CallOfTwo = Rows-as-Call room_of_two

-- the blocks that packets hand out, from a state on, each with whose it is
abbrev pub heard_by_two : Streams → TwoState → List (List ℕ) → List Handed
heard_by_two s = rows_heard (does_for_two s)

-- the blocks that the calls write
abbrev pub comes_out_of_two : Streams → Readers → List CallOfTwo → List Handed
comes_out_of_two s = rows_comes_out (feeder_for_two s)

-- the one call for a list of packets says, hands back and writes what a call for each of those in front does
abbrev pub AsCallsOfTwo : Streams → Readers → List ℕ → List CallOfTwo → List CallOfTwo → Type 0
AsCallsOfTwo s = Rows-as-AsCalls (feeder_for_two s)

-- packets are fed in order, the state handed on from call to call, each call with room
abbrev pub FedOfTwo : Streams → Readers → List (List ℕ) → List ℕ → List Handed → Type 0
FedOfTwo s = Rows-as-Fed room_of_two (handed_in s) (FeedsTwo s) (FeedsAllTwo s)

-- ---- what the answers owe

-- a block of either runs
abbrev pub EitherRuns : TwoState → Type 0
EitherRuns st = (running st.first.mode ≡ true) ⊎ (running st.second.mode ≡ true)

-- a packet can't be read for one stream where it can't for the other: only the magazine counts
abbrev pub TellsOfTwo : (Streams → Readers → List ℕ → List ℕ → Heard) → (Streams → Readers → List ℕ → List ℕ → List ℕ) → Type 0
TellsOfTwo heard out =
    (s : Streams) → in_range_of_two s ≡ true
    → Rows-as-Tells room_of_two readers_of (handed_in s) SoundOfTwo EitherRuns (Unreadable (first_of s)) (heard s) (out s)

abbrev pub TellsAllOfTwo : (Streams → Readers → List ℕ → List ℕ → HeardAll) → (Streams → Readers → List ℕ → List ℕ → List ℕ) → Type 0
TellsAllOfTwo heard out = (s : Streams) → in_range_of_two s ≡ true → Rows-as-TellsAll (feeder_for_two s) SoundOfTwo (heard s) (out s)
