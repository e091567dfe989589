-- Where the bytes of a capture would fit (SCOPE 13.9).
use Rattle.std.specs.Prelude.{Bool, true, false, List, [], ◌∷◌, ℕ, suc, take}
use Rattle.std.specs.declared.option.Option.{Option}
use Rattle.std.specs.declared.option.Option.TheVariants.{None, Some}
use Rattle.laws.specs.Pick.{pick}
use Rattle.packet.specs.declared.two.Streams.{Streams}
use Rattle.packet.specs.Packet.{packet_length}
use Rattle.pages.specs.Headers.{Seen, junk, other, foreign, ours, packet_y}
use Rattle.survey.specs.Either.{see_either}

-- a packet 0 of our page, in a stream of ours
abbrev pub is_ours : Seen → Bool
is_ours junk = false
is_ours other = false
is_ours foreign = false
is_ours (ours i n) = true
is_ours (packet_y y p l) = false

-- one stands at the front of the bytes
unfoldable pub fits : Streams → List ℕ → Bool
fits s l = is_ours (see_either s (take packet_length l))

-- the first place where one stands, of bytes whose first stands at the place `at`
unfoldable pub first_in : Streams → List ℕ → ℕ → Option ℕ
first_in s [] at = None
first_in s (b ∷ bs) at = pick (fits s (b ∷ bs)) (Some at) (first_in s bs (suc at))
