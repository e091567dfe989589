-- Packets that are handed on as the calls allow, by `feed` or many at a time by `feed_all`, give what a call of `feed` for each of them gives: of one
-- stream and of two. Assumes nothing.
use mathlib.Core.Path.{◌≡◌}
use mathlib.Core.Bool.{true}
use mathlib.Core.List.{List}
use Prim.Native.Nat.{ℕ, ◌≤◌}
use lib.ListN.{length}
use Rattle.laws.specs.Each.{Each}
use Rattle.blocks.specs.Block.{Block}
use Rattle.packet.specs.declared.Setting.{Setting}
use Rattle.packet.specs.declared.two.Streams.{Streams}
use Rattle.packet.specs.Setting.{in_range}
use Rattle.packet.specs.Two.{in_range_of_two}
use Rattle.writer.specs.Cutting.{joined, FortyTwo}
use Rattle.walk.specs.Reading.{room}
use Rattle.state.specs.declared.Reader.{Reader}
use Rattle.state.specs.declared.two.Readers.{Readers}
use Rattle.state.specs.Acting.{State}
use Rattle.state.specs.State.{reader_of, Sound}
use Rattle.state.specs.Two.{TwoState, Handed, fresh_of_two, readers_of, SoundOfTwo}
use Rattle.reader.specs.Taking.{Heard, HeardAll}
use Rattle.reader.specs.Feeding.{feed_heard, feed_reader, feed_out}
use Rattle.reader.specs.Many.{feed_all_heard, feed_all_reader, feed_all_out}
use Rattle.reader.specs.Two.{room_of_two, feed_heard_of_two, feed_readers_of_two, feed_out_of_two, feed_all_heard_of_two, feed_all_readers_of_two, feed_all_out_of_two}
use Rattle.claims.specs.Carrying.{heard_blocks}
use Rattle.claims.specs.Feeding.{feeder_for, packets_of_all}
use Rattle.claims.specs.Tells.{TellsAll}
use Rattle.claims.specs.Calls.{Feeds, feed, FeedsAll, feed-all, Fed}
use Rattle.claims.specs.Two as Two
use Rattle.claims.specs.Two.{feeder_for_two, heard_by_two, StartsTwo, FeedsTwo, FeedsAllTwo, FedOfTwo, TellsAllOfTwo}
use Rattle.claims.proofs.Rows as Rows
use Rattle.claims.proofs.Fed.{works}
use Rattle.claims.proofs.FedTwo.{works_two}

-- ---- one stream

-- what the two calls say
pub feeds :
    {s : Setting} {r after : Reader} {p old out : List ℕ} {h : Heard} → Feeds s r p old h after out
    → (h ≡ feed_heard s r p old) × (after ≡ feed_reader s r p old) × (out ≡ feed_out s r p old)
feeds (feed κs a x t post) = (post.0, post.1.0, post.1.1)

pub feeds-all :
    {s : Setting} {r after : Reader} {l old out : List ℕ} {h : HeardAll} → FeedsAll s r l old h after out
    → (h ≡ feed_all_heard s r l old) × (after ≡ feed_all_reader s r l old) × (out ≡ feed_all_out s r l old)
feeds-all (feed-all κs a x t post) = (post.0, post.1.0, post.1.1)

-- with room, and a packet to take, it takes one: so calls that go on where the last one stopped come to an end
pub feed_all_moves :
    (s : Setting) → in_range s ≡ true → (st : State) → Sound st → {ps : List (List ℕ)} → FortyTwo ps → 1 ≤ length ps
    → {after : Reader} {old out : List ℕ} {h : HeardAll} → room ≤ length old → FeedsAll s (reader_of st) (joined ps) old h after out → 1 ≤ packets_of_all h
feed_all_moves s i st r e some {old = old} enough call = Rows.moves (feeder_for s) (works s i) st r e some old enough (feeds-all call).0

-- calls of `feed` for the packets of a chain of calls
pub as_ones :
    (s : Setting) (i : in_range s ≡ true) → {r : Reader} {qs : List (List ℕ)} {numbers : List ℕ} {bs : List Block}
    → Fed s r qs numbers bs → (st : State) → Sound st → r ≡ reader_of st → FortyTwo qs → Rows.AsOnes (feeder_for s) (works s i) st qs numbers bs
as_ones s i = Rows.as_ones (feeder_for s) (works s i) (λ r after p old out h call. feeds call) (λ r after l old out h call. feeds-all call)

-- any chain of calls: every call is accepted, and the blocks are what the packets hand out, in order
pub fed_of-one :
    (s : Setting) → in_range s ≡ true → {r : Reader} {qs : List (List ℕ)} {numbers : List ℕ} {bs : List Block} → Fed s r qs numbers bs
    → (st : State) → Sound st → r ≡ reader_of st → FortyTwo qs → Each (λ number. number ≡ 0) numbers × (bs ≡ heard_blocks s st qs)
unfolding heard_blocks
fed_of-one s i = Rows.fed-heard (feeder_for s) (works s i) (λ r after p old out h call. feeds call) (λ r after l old out h call. feeds-all call)

-- what it answers of the records that it writes, and of a block that was dropped
pub feed_all_tells : TellsAll feed_all_heard feed_all_out
feed_all_tells s i = Rows.all-tells (feeder_for s) (works s i)

-- ---- two streams

pub feeds_two :
    {s : Streams} {r after : Readers} {p old out : List ℕ} {h : Heard} → FeedsTwo s r p old h after out
    → (h ≡ feed_heard_of_two s r p old) × (after ≡ feed_readers_of_two s r p old) × (out ≡ feed_out_of_two s r p old)
feeds_two (Two.feed κs a x t post) = (post.0, post.1.0, post.1.1)

pub feeds-all_two :
    {s : Streams} {r after : Readers} {l old out : List ℕ} {h : HeardAll} → FeedsAllTwo s r l old h after out
    → (h ≡ feed_all_heard_of_two s r l old) × (after ≡ feed_all_readers_of_two s r l old) × (out ≡ feed_all_out_of_two s r l old)
feeds-all_two (Two.feed-all κs a x t post) = (post.0, post.1.0, post.1.1)

pub starts_two : {r : Readers} → StartsTwo r → r ≡ readers_of fresh_of_two
starts_two (Two.fresh κs a x t post) = post

pub feed_all_moves_of_two :
    (s : Streams) → in_range_of_two s ≡ true → (st : TwoState) → SoundOfTwo st → {ps : List (List ℕ)} → FortyTwo ps → 1 ≤ length ps
    → {after : Readers} {old out : List ℕ} {h : HeardAll} → room_of_two ≤ length old → FeedsAllTwo s (readers_of st) (joined ps) old h after out
    → 1 ≤ packets_of_all h
feed_all_moves_of_two s i st r e some {old = old} enough call =
    Rows.moves (feeder_for_two s) (works_two s i) st r e some old enough (feeds-all_two call).0

-- any chain of calls
pub fed_of_two :
    (s : Streams) → in_range_of_two s ≡ true → {r : Readers} {qs : List (List ℕ)} {numbers : List ℕ} {bs : List Handed} → FedOfTwo s r qs numbers bs
    → (st : TwoState) → SoundOfTwo st → r ≡ readers_of st → FortyTwo qs → Each (λ number. number ≡ 0) numbers × (bs ≡ heard_by_two s st qs)
fed_of_two s i =
    Rows.fed-heard (feeder_for_two s) (works_two s i) (λ r after p old out h call. feeds_two call) (λ r after l old out h call. feeds-all_two call)

pub feed_all_tells_of_two : TellsAllOfTwo feed_all_heard_of_two feed_all_out_of_two
feed_all_tells_of_two s i = Rows.all-tells (feeder_for_two s) (works_two s i)
