-- What a reader or writer is set to: magazine 1 to 8, page up to 255, stream up to 15, application up to 31 (SCOPE 8.1).
use Rattle.std.specs.Prelude.{Bool, leb}
use Rattle.laws.specs.Pick.{both}
use Rattle.packet.specs.declared.Setting.{Setting}

-- a setting is in range
unfoldable pub in_range : Setting → Bool
in_range s =
    both (leb 1 s.magazine)
    (both (leb s.magazine 8) (both (leb s.page 255) (both (leb s.stream 15) (leb s.application 31))))
