-- Packets fed one after the other to one reader.
use Rattle.std.specs.Prelude.{List, ℕ, zero, suc, ◌+◌, ◌%◌, take, drop}
use Rattle.packet.specs.Packet.{packet_length}
use Rattle.packet.specs.declared.Setting.{Setting}
use Rattle.packet.specs.declared.two.Streams.{Streams}
use Rattle.state.specs.declared.Reader.{Reader}
use Rattle.state.specs.declared.two.Readers.{Readers}
use Rattle.reader.specs.Taking.{Heard, HeardAll, took, took_all}
use Rattle.std.specs.declared.result.Result.TheVariants.{Ok, Err}
use Rattle.state.specs.State.{reader_of, fresh_state}
use Rattle.state.specs.Two.{readers_of, fresh_of_two}
use Rattle.reader.specs.Feeding.{feed_heard, feed_reader, feed_out}

-- the desk's setting
abbrev pub desk : Setting
desk = record { magazine = 1; page = 223; stream = 1; application = 1 }

abbrev pub start : Reader
start = reader_of fresh_state

-- the same of two streams
abbrev pub desks : Streams
desks = record { magazine = 1; page = 223; first = 1; second = 2; application = 1 }

abbrev pub both_start : Readers
both_start = readers_of fresh_of_two

-- counts go up to this
abbrev pub wrap : ℕ
wrap = 4294967296

abbrev pub added : ℕ → Heard → ℕ
added count (Ok t) = (count + t.blocks % 65536) % wrap
added count (Err r) = count

-- the blocks of the n packets from the front of l, into this output, and of those counted before
unfoldable pub each_count : ℕ → Reader → List ℕ → List ℕ → ℕ → ℕ
each_count zero r l out count = count
each_count (suc n) r l out count =
    each_count n (feed_reader desk r (take packet_length l) out) (drop packet_length l) (feed_out desk r (take packet_length l) out)
    (added count (feed_heard desk r (take packet_length l) out))

-- the output after them
unfoldable pub each_out : ℕ → Reader → List ℕ → List ℕ → List ℕ
each_out zero r l out = out
each_out (suc n) r l out = each_out n (feed_reader desk r (take packet_length l) out) (drop packet_length l) (feed_out desk r (take packet_length l) out)

-- how many blocks a list of packets gave
abbrev pub blocks_of : HeardAll → ℕ
blocks_of (Ok t) = t.blocks
blocks_of (Err r) = 0
