-- Case F of SCOPE 14.1, and case G's packets, from the definitions: they join the one list of all cases in crate `claims`.
-- Assumes nothing.
use mathlib.Core.Path.{◌≡◌, refl}
use mathlib.Core.List.{List, [], ◌∷◌, ◌++◌, map}
use Prim.Native.Nat.{ℕ, ◌+◌, ◌*◌}
use lib.ListN.{length, take, drop, replicate, get_or}
use Rattle.octet.specs.Bits.{number}
use Rattle.octet.specs.Image.{image, with_parity}
use Rattle.blocks.specs.Block.{blocks_within}
use Rattle.packet.specs.declared.Setting.{Setting}
use Rattle.packet.specs.Packet.{packet_zero, packet_of}
use Rattle.symbols.specs.Stream.{byte_of, symbols, cells_of, stream_of, grab, before_start}
use Rattle.writer.specs.Cutting.{data_packets, pages, packets, joined, cut_bytes}

-- F: of application 1 and size 30, the four bytes behind the start
abbrev pub CaseF : Type 0
CaseF =
    map byte_of (take 4 (drop 1 (symbols (record { head = 1 + 32 * 30; part = 0; second = 0; raw = [] })))) ≡ 0x02 ∷ 0xA1 ∷ 0x5E ∷ 0x15 ∷ []

pub case_f : CaseF
unfolding symbols image with_parity number
case_f = refl

-- the desk's setting (SCOPE 13.1)
abbrev pub desk : Setting
desk = record { magazine = 1; page = 0xDF; stream = 1; application = 1 }

-- G: the record of its block, in pages of one packet from index 0 on: 84 bytes, packet 0, and how packet 1 begins
abbrev pub CaseG : List ℕ → Type 0
CaseG record' =
    (length (cut_bytes desk 0 1 record') ≡ 84)
    × (get_or (packets desk 0 1 record') 0 [] ≡ (0x02 ∷ 0x15 ∷ 0xEA ∷ 0xB6 ∷ 0x15 ∷ 0x02 ∷ 0x02 ∷ 0x15 ∷ 0x15 ∷ 0x15 ∷ []) ++ replicate 32 0x20)
    × (take 4 (get_or (packets desk 0 1 record') 1 []) ≡ 0xC7 ∷ 0x15 ∷ 0x15 ∷ 0xA1 ∷ [])

-- the record of G's block
abbrev pub record_g : List ℕ
record_g =
    0xC1 ∷ 0x03 ∷ 0 ∷ 0 ∷ 0xB6 ∷ 0xC7 ∷ 0xEA ∷ 0x15 ∷ 0x15 ∷ 0x49 ∷ 0x15 ∷ 0x15 ∷ 0x15 ∷ 0x15 ∷ 0x15 ∷ 0x49 ∷ 0x15 ∷ 0x02
    ∷ 0x64 ∷ 0x02 ∷ 0x02 ∷ 0x64 ∷ 0x2F ∷ 0x73 ∷ 0x2F ∷ 0x64 ∷ 0x38 ∷ 0xD0 ∷ 0xD0 ∷ 0xD0 ∷ 0x15 ∷ 0x15 ∷ 0x15 ∷ 0x15 ∷ []

pub case_g : CaseG record_g
unfolding packets pages data_packets joined packet_zero packet_of stream_of cells_of symbols grab before_start blocks_within image with_parity number
case_g = (refl, refl, refl)
