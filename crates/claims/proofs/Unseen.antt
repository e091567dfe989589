-- A second byte of 0 doesn't say that a block is whole: with pages of two packets, three packets gone without a word join two halves inside what
-- the reader takes for one page. The table that comes out was not sent, none of its bytes was mended, and its block has second byte 0
-- (SCOPE 26.5). Assumes nothing.
use mathlib.Core.Path.{◌≡◌, refl}
use mathlib.Core.List.{List, [], ◌∷◌, map}
use Prim.Native.Nat.{ℕ}
use lib.ListN.{get_or}
use Rattle.octet.specs.Bits.{bits, number, differing}
use Rattle.octet.specs.Image.{image, with_parity}
use Rattle.octet.specs.Decoding.{nib, nibble_from}
use Rattle.octet.specs.Hearing.{harm, harms}
use Rattle.blocks.specs.Block.{Block, blocks_within, nibbles_of}
use Rattle.fields.specs.Fields.{alike, width, laid, parts, field, whole}
use Rattle.packet.specs.Packet.{packet_zero, packet_of}
use Rattle.packet.specs.Address.{address_of, decodes}
use Rattle.symbols.specs.Stream.{symbols, cells_of, stream_of, grab, before_start}
use Rattle.writer.specs.Cutting.{data_packets, pages, packets}
use Rattle.pages.specs.Headers.{see_zero}
use Rattle.pages.specs.Seen.{see, see_y, seen_as}
use Rattle.walk.specs.Mode.{goes_on, continues, emitted, ends, gives, spoiled, spoils, step}
use Rattle.state.specs.Acting.{act, handed}
use Rattle.blocks.specs.Sums.{total, checksum, sound}
use Rattle.parity.specs.Parity.{odds}
use Rattle.kinds.specs.Block.{nibbles, checksum_of, block_with}
use Rattle.kinds.specs.Reading.{front_in, front_rules, whole_rules, mended_of, sent_in, length_rules, read_as}
use Rattle.table.specs.Control.{descriptors_of, table_of}
use Rattle.blocks.specs.Framing.{frame_rules}
use Rattle.forms.specs.Tables.{Table, loops, fields}
use Rattle.forms.specs.Kinds.{LI, per}
use Rattle.writer.proofs.Cases.{desk}
use Rattle.state.specs.State.{fresh_state}
use Rattle.claims.specs.Carrying.{heard_blocks}
use Rattle.claims.specs.Tables.{records_of, sent, tables_of}

-- a list of nine languages, the last two as they are given: a block of two packets, with a byte of filler behind it
abbrev nine : ℕ → ℕ → ℕ → Table
nine network a b =
    record {
      kind = LI;
      copyright = 0;
      block = 0;
      network = network;
      descriptors =
          record {
            id = 1;
            words = 0x667265 ∷ 0x667265 ∷ 0x667265 ∷ 0x667265 ∷ 0x667265 ∷ 0x667265 ∷ 0x667265 ∷ a ∷ b ∷ [];
          }
          ∷ [];
    }

-- those of two networks, whose last two languages stand in another order
abbrev air : List (List ℕ)
air = sent desk 0 2 (nine 2 0x647574 0x656E67 ∷ nine 3 0x656E67 0x647574 ∷ [])

-- packet 2 of the first page, and packets 0 and 1 of the second, are gone
abbrev gone : List (List ℕ)
gone = get_or air 0 [] ∷ get_or air 1 [] ∷ get_or air 5 [] ∷ []

-- the languages of the one network come out under the other
pub record Joins (bs : List Block) : Type 0 where
  pub table : tables_of 1 bs ≡ record { what = nine 2 0x656E67 0x647574; mended = 0 } ∷ []
  pub second : map (λ (b : Block). b.second) bs ≡ 0 ∷ []

pub gone_joins : Joins (heard_blocks desk fresh_state gone)
unfolding
    tables_of
    heard_blocks
    records_of
    block_with
    harm
    harms
    nibbles
    nibbles_of
    checksum_of
    checksum
    total
    sound
    laid
    parts
    alike
    width
    fields
    loops
    per
    field
    whole
    packets
    pages
    data_packets
    stream_of
    cells_of
    symbols
    grab
    before_start
    blocks_within
    image
    with_parity
    number
    packet_zero
    packet_of
    address_of
    decodes
    nib
    nibble_from
    differing
    bits
    see
    see_y
    seen_as
    see_zero
    goes_on
    continues
    emitted
    ends
    gives
    spoiled
    spoils
    step
    act
    handed
    descriptors_of
    table_of
    length_rules
    frame_rules
    front_rules
    whole_rules
    front_in
    sent_in
    mended_of
    odds
    read_as
gone_joins = record { table = refl; second = refl }
