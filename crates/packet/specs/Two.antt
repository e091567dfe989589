-- What a reader of two streams is set to (SCOPE 27.1).
use Rattle.std.specs.Prelude.{Bool, not, eqb}
use Rattle.laws.specs.Pick.{both}
use Rattle.packet.specs.declared.Setting.{Setting}
use Rattle.packet.specs.declared.two.Streams.{Streams}
use Rattle.packet.specs.Setting.{in_range}

-- each stream's setting
abbrev pub first_of : Streams → Setting
first_of s = record { magazine = s.magazine; page = s.page; stream = s.first; application = s.application }

abbrev pub second_of : Streams → Setting
second_of s = record { magazine = s.magazine; page = s.page; stream = s.second; application = s.application }

-- a setting of two is in range: each stream's is, and the two differ
unfoldable pub in_range_of_two : Streams → Bool
in_range_of_two s = both (in_range (first_of s)) (both (in_range (second_of s)) (not (eqb s.first s.second)))
