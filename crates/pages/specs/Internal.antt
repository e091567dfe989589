-- What only private calls cite; nothing here needs to be believed. A packet 0 that its caller may not have measured; what the reader of two
-- streams asks of one.
use Rattle.std.specs.Prelude.{Bool, List, ℕ, eqb, length, drop}
use Rattle.laws.specs.Pick.{pick, both}
use Rattle.packet.specs.declared.Setting.{Setting}
use Rattle.packet.specs.declared.two.Streams.{Streams}
use Rattle.packet.specs.Packet.{packet_length}
use Rattle.packet.specs.Address.{decodes}
use Rattle.pages.specs.declared.headers.Page.{Page}
use Rattle.pages.specs.declared.headers.Page.TheVariants.{Shut, Open}
use Rattle.pages.specs.declared.two.Whose.TheVariants.{First, Second}
use Rattle.pages.specs.declared.two.SharedPage.{SharedPage}
use Rattle.pages.specs.declared.two.SharedPage.TheVariants.{None, One}
use Rattle.pages.specs.Headers.{Seen, see_zero, in_full}

-- a packet 0 that can be read: 42 bytes, and the six after its address can be decoded
abbrev pub legible : List ℕ → Bool
legible p = both (eqb (length p) packet_length) (decodes 6 (drop 2 p))

-- what a packet 0 is
unfoldable pub seen_zero : Setting → List ℕ → Seen
seen_zero s p = in_full p (see_zero s (drop 2 p))

-- the second stream's setting, as a packet 0 is asked by it: where both are one stream it is one that no packet 0 has
abbrev pub second_only : Streams → Setting
second_only s =
    record {
      magazine = s.magazine;
      page = s.page;
      stream = pick (eqb s.first s.second) 16 s.second;
      application = s.application;
    }

-- the open page, of what is open to each stream
abbrev pub shared : Page → Page → SharedPage
shared (Open n last) page = One First n last
shared Shut (Open n last) = One Second n last
shared Shut Shut = None
