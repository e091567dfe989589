-- Calls of a reader in a row, whatever a packet does to it, in terms of what the calls themselves say: packets are fed one after the other, and each
-- call is lent enough room (SCOPE 3.5). It is said once; `Feeding` and `Calls` take it for one stream, `Two` for two.
use Rattle.std.specs.Prelude.{◌≡◌, Bool, true, false, ◌⊎◌, List, [], ◌∷◌, ◌++◌, ℕ, ◌+◌, ◌≤◌, ◌<◌, length, take, drop}
use Rattle.laws.specs.Pick.{either}
use Rattle.packet.specs.Packet.{packet_length}
use Rattle.writer.specs.Cutting.{joined, FortyTwo}
use Rattle.reader.specs.Taking.{Heard, HeardAll, took_all}
use Rattle.std.specs.declared.result.Result.TheVariants.{Ok}
use Rattle.reader.specs.Values.{number_of, count_of, written_of, dropped_of, number_of_all, packets_of_all, count_of_all, written_of_all, dropped_of_all}
use Rattle.reader.specs.Calls.{Does, Tuned, feed_heard, feed_reader, feed_out, feed_all_heard, feed_all_reader, feed_all_out}

-- a reader, and the blocks that the bytes which it writes are
pub record Feeder (R S B : Type 0) : Type 0 where
  pub tuned : Tuned R S B
  pub blocks : List ℕ → List B

-- ---- a call for each packet

-- a call: the packet, and the output lent to it, with room
pub record Call (room : ℕ) : Type 0 where
  pub packet : List ℕ
  pub lent : List ℕ
  pub enough : room ≤ length lent

-- the packets of a list of calls
unfoldable pub packets_of : {room : ℕ} → List (Call room) → List (List ℕ)
packets_of [] = []
packets_of (c ∷ cs) = c.packet ∷ packets_of cs

-- what packets fed in order hand out, from a state on
unfoldable pub heard : {S B : Type 0} → Does S B → S → List (List ℕ) → List B
heard d st [] = []
heard d st (q ∷ qs) = d.handed st q ++ heard d (d.act st q) qs

-- the blocks that the calls write, each taken from the output as the call leaves it, the reader handed on from call to call
unfoldable pub comes_out : {R S B : Type 0} → (f : Feeder R S B) → R → List (Call f.tuned.does.room) → List B
comes_out f r [] = []
comes_out f r (c ∷ cs) =
    f.blocks (take (written_of (feed_heard f.tuned r c.packet c.lent)) (feed_out f.tuned r c.packet c.lent))
    ++ comes_out f (feed_reader f.tuned r c.packet c.lent) cs

-- ---- a list of packets in one call

-- the reader that the calls leave
unfoldable pub leaves : {R S B : Type 0} → (f : Feeder R S B) → R → List (Call f.tuned.does.room) → R
leaves f r [] = r
leaves f r (c ∷ cs) = leaves f (feed_reader f.tuned r c.packet c.lent) cs

-- whether one of them drops a block
unfoldable pub drops : {R S B : Type 0} → (f : Feeder R S B) → R → List (Call f.tuned.does.room) → Bool
drops f r [] = false
drops f r (c ∷ cs) =
    either (dropped_of (feed_heard f.tuned r c.packet c.lent)) (drops f (feed_reader f.tuned r c.packet c.lent) cs)

-- their packets as one list
unfoldable pub in_one : {room : ℕ} → List (Call room) → List ℕ
in_one [] = []
in_one (c ∷ cs) = c.packet ++ in_one cs

-- the one call for a list of packets says, hands back and writes what a call for each of those in front does; those behind it leaves,
-- and only where there is no room for one more
pub record AsCalls {R S B : Type 0} (f : Feeder R S B) (r : R) (old : List ℕ) (front back : List (Call f.tuned.does.room)) : Type 0 where
  pub heard :
      feed_all_heard f.tuned r (in_one (front ++ back)) old
      ≡ Ok (took_all (length front) (length (comes_out f r front)) (length (f.tuned.does.bytes (comes_out f r front))) (drops f r front))
  pub reader : feed_all_reader f.tuned r (in_one (front ++ back)) old ≡ leaves f r front
  pub out :
      feed_all_out f.tuned r (in_one (front ++ back)) old
      ≡ f.tuned.does.bytes (comes_out f r front) ++ drop (length (f.tuned.does.bytes (comes_out f r front))) old
  pub stops : (back ≡ []) ⊎ (length old < length (f.tuned.does.bytes (comes_out f r front)) + f.tuned.does.room)

-- ---- calls as their contracts have them

-- packets are fed in order, the reader handed on from call to call, each call with room: the answers' numbers, and the blocks whose
-- bytes the calls write. A call for a packet and one for a list may answer, hand back and leave what these relations say
pub data Fed {R B : Type 0} (room : ℕ) (blocks : List ℕ → List B) (Feeds : R → List ℕ → List ℕ → Heard → R → List ℕ → Type 0)
    (FeedsAll : R → List ℕ → List ℕ → HeardAll → R → List ℕ → Type 0) : R → List (List ℕ) → List ℕ → List B → Type 0 where
  end : {r : R} → Fed room blocks Feeds FeedsAll r [] [] []
  -- the next packet goes to `feed`
  one :
      {r after : R} {q old out : List ℕ} {qs : List (List ℕ)} {h : Heard} {numbers : List ℕ} {bs : List B}
      → room ≤ length old → Feeds r q old h after out → Fed room blocks Feeds FeedsAll after qs numbers bs
      → Fed room blocks Feeds FeedsAll r (q ∷ qs) (number_of h ∷ numbers) (blocks (take (written_of h) out) ++ bs)
  -- at most n of those that are left go to `feed_all`; those that it doesn't take stay
  many :
      {r after : R} {old out : List ℕ} {qs : List (List ℕ)} {h : HeardAll} {numbers : List ℕ} {bs : List B} (n : ℕ)
      → room ≤ length old → FeedsAll r (joined (take n qs)) old h after out
      → Fed room blocks Feeds FeedsAll after (drop (packets_of_all h) qs) numbers bs
      → Fed room blocks Feeds FeedsAll r qs (number_of_all h ∷ numbers) (blocks (take (written_of_all h) out) ++ bs)

-- ---- what the answers owe, of any feed of that setting: `answer` is what it answers and `out` the output that it leaves, each of a reader, a packet
-- or a list of them, and the output lent

-- of each call to a reader that calls leave, with a packet of 42 bytes and room
pub record Tells {R S B : Type 0} (room : ℕ) (held : S → R) (blocks : List ℕ → List B) (Sound Runs : S → Type 0) (Unreadable : List ℕ → Type 0)
    (answer : R → List ℕ → List ℕ → Heard) (out : R → List ℕ → List ℕ → List ℕ) : Type 0 where
  -- it counts the records that the call writes
  pub counts :
      (st : S) → Sound st → (c : Call room) → length c.packet ≡ packet_length
      → count_of (answer (held st) c.packet c.lent)
      ≡ length (blocks (take (written_of (answer (held st) c.packet c.lent)) (out (held st) c.packet c.lent)))
  -- it says so where a block is running and the packet can't be read
  pub drops :
      (st : S) → Sound st → (c : Call room) → length c.packet ≡ packet_length → Runs st → Unreadable c.packet
      → dropped_of (answer (held st) c.packet c.lent) ≡ true

-- of each call to such a reader with a list of packets of 42 bytes and room for one
pub record TellsAll {R S B : Type 0} (f : Feeder R S B) (Sound : S → Type 0) (answer : R → List ℕ → List ℕ → HeardAll) (out : R → List ℕ → List ℕ → List ℕ) : Type 0 where
  -- it counts the records that the call writes
  pub counts :
      (st : S) → Sound st → (ps : List (List ℕ)) → FortyTwo ps → (old : List ℕ) → f.tuned.does.room ≤ length old
      → count_of_all (answer (f.tuned.held st) (joined ps) old)
      ≡ length (f.blocks (take (written_of_all (answer (f.tuned.held st) (joined ps) old)) (out (f.tuned.held st) (joined ps) old)))
  -- it says that a block was dropped exactly where one of the calls says so that feed the packets which it takes one by one
  pub dropped :
      (st : S) → Sound st → (ps : List (List ℕ)) → FortyTwo ps → (old : List ℕ) → f.tuned.does.room ≤ length old
      → (calls : List (Call f.tuned.does.room))
      × (packets_of calls ≡ take (packets_of_all (answer (f.tuned.held st) (joined ps) old)) ps)
      × (dropped_of_all (answer (f.tuned.held st) (joined ps) old) ≡ drops f (f.tuned.held st) calls)
