-- What a packet is where one stream is read or two (SCOPE 27.8): a packet 0 of either is ours. A setting that names one stream twice is of
-- that stream alone.
use Rattle.std.specs.Prelude.{List, ℕ}
use Rattle.packet.specs.declared.two.Streams.{Streams}
use Rattle.pages.specs.Headers.{Seen, junk, other, foreign, ours, packet_y}
use Rattle.pages.specs.Two.{SeenByTwo, unreadable, passing, neither, header, numbered, see_by_two}

-- whosever it is
abbrev pub anyones : SeenByTwo → Seen
anyones unreadable = junk
anyones passing = other
anyones neither = foreign
anyones (header owner index n) = ours index n
anyones (numbered y p l) = packet_y y p l

-- a packet
unfoldable pub see_either : Streams → List ℕ → Seen
see_either s p = anyones (see_by_two s p)
