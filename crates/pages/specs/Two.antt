-- What a packet is to a reader of two streams: a packet 0 says whose it is (SCOPE 27.3). What a reader of one stream sees is said where one
-- stream's is.
use Rattle.std.specs.Prelude.{Bool, true, false, List, ℕ}
use Rattle.laws.specs.Pick.{pick}
use Rattle.packet.specs.declared.Setting.{Setting}
use Rattle.packet.specs.declared.two.Streams.{Streams}
use Rattle.packet.specs.Two.{first_of, second_of}
use Rattle.packet.specs.Address.{address_of}
use Rattle.pages.specs.declared.headers.Page.{Page}
use Rattle.pages.specs.declared.headers.Page.TheVariants.{Shut, Open}
use Rattle.pages.specs.declared.two.Whose.{Whose}
use Rattle.pages.specs.declared.two.Whose.TheVariants.{First, Second}
use Rattle.pages.specs.declared.two.SharedPage.{SharedPage}
use Rattle.pages.specs.declared.two.SharedPage.TheVariants.{None, One}
use Rattle.pages.specs.Headers.{Seen, junk, other, foreign, ours, packet_y}
use Rattle.pages.specs.Seen.{seen_as}

-- both are one stream
abbrev pub same : Whose → Whose → Bool
same First First = true
same First Second = false
same Second First = false
same Second Second = true

pub data SeenByTwo : Type 0 where
  -- an address, or one of the six bytes of our magazine's packet 0, that can't be decoded
  unreadable : SeenByTwo
  -- another magazine, or Y 26 to 31
  passing : SeenByTwo
  -- packet 0 of another page of our magazine, or of our page in a third stream
  neither : SeenByTwo
  -- packet 0 of our page in one of the two: whose it is, its index and its count n
  header : Whose → ℕ → ℕ → SeenByTwo
  -- packet Y of our magazine, 1 to 25: Y, its pointer and the 39 bytes after it
  numbered : ℕ → ℕ → List ℕ → SeenByTwo

-- of what one stream's reader would see, and the other's: a packet 0 is the first's, the second's, or neither's
abbrev pub whose_of : Seen → Seen → SeenByTwo
whose_of junk y = unreadable
whose_of other y = passing
whose_of (packet_y y p l) x = numbered y p l
whose_of (ours index n) y = header First index n
whose_of foreign (ours index n) = header Second index n
whose_of foreign junk = neither
whose_of foreign other = neither
whose_of foreign foreign = neither
whose_of foreign (packet_y y p l) = neither

-- a packet with this address, which is over 255 where it can't be decoded
unfoldable pub seen_by_two_as : Streams → ℕ → List ℕ → SeenByTwo
seen_by_two_as s address p = whose_of (seen_as (first_of s) address p) (seen_as (second_of s) address p)

-- a packet
unfoldable pub see_by_two : Streams → List ℕ → SeenByTwo
see_by_two s p = seen_by_two_as s (address_of p) p

-- ---- one of the two alone (SCOPE 27.4)

abbrev pub setting_for : Whose → Streams → Setting
setting_for First s = first_of s
setting_for Second s = second_of s

-- what is seen, to one stream: the other's packet 0 is foreign
abbrev pub seen_for : Whose → SeenByTwo → Seen
seen_for w unreadable = junk
seen_for w passing = other
seen_for w neither = foreign
seen_for w (header owner index n) = pick (same w owner) (ours index n) foreign
seen_for w (numbered y p l) = packet_y y p l

-- the open page, to one stream: the other's is shut
abbrev pub page_for : Whose → SharedPage → Page
page_for w None = Shut
page_for w (One owner n last) = pick (same w owner) (Open n last) Shut
