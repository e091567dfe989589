-- The packet that stands for a loss.
use Rattle.std.specs.Prelude.{List, ℕ, leb, length, replicate}
use Rattle.std.proofs.lemmas.List.Edits.{sets}
use Rattle.laws.specs.Pick.{pick}
use Rattle.pes.specs.Texts.{text_bytes}

-- a packet whose bytes can't be decoded, so that a reader drops what it holds (SCOPE 6.12, 8.2)
abbrev pub unreadable : List ℕ
unreadable = replicate text_bytes 0x16

-- a packet that can't be decoded stands at the front, where it has room
unfoldable pub blanked : List ℕ → List ℕ
blanked packets = pick (leb text_bytes (length packets)) (sets packets 0 unreadable) packets
