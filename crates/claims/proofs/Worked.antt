-- Cases with another value in every field, so that none can stand in another's place unseen. Their bytes don't come from our definitions or
-- programs: packets are in_nibbles by hand from SCOPE 7, blocks are laid out from the standard's syntax tables, field after field from the lowest
-- bit up, each nibble as its protected byte (SCOPE 5.2), and the model in tests/model makes the same bytes. Assumes nothing.
use mathlib.Core.Path.{◌≡◌, refl, subst}
use mathlib.Core.Bool.{true}
use mathlib.Core.List.{List, [], ◌∷◌, ◌++◌}
use Prim.Native.Nat.{ℕ, ◌+◌, ◌*◌}
use lib.Dec.{lit<}
use lib.ListN.{replicate}
use Rattle.octet.specs.Bits.{differing, number}
use Rattle.octet.specs.Image.{image, with_parity}
use Rattle.octet.specs.Decoding.{nib, nibble_from}
use Rattle.packet.specs.declared.Setting.{Setting}
use Rattle.packet.specs.Packet.{address, packet_zero}
use Rattle.packet.specs.Address.{decodes, address_of}
use Rattle.pages.specs.Headers.{ours, packet_y, see_zero}
use Rattle.pages.specs.Seen.{see_y, seen_as, see}
use Rattle.fields.specs.Fields.{alike, width, laid, parts, fitting}
use Rattle.forms.specs.Tables.{Table, TI, per, loops, fields, entire, fits}
use Rattle.blocks.specs.Sums.{total, checksum}
use Rattle.forms.specs.Block.{record_of}
use Rattle.blocks.specs.Outcome.{accepted}
use Rattle.table.specs.Reading.{read_block}
use Rattle.table.proofs.Back.{writes-back}
use Rattle.parity.specs.Parity.{ones, letter}
use Rattle.menu_forms.specs.Menus.{Menu, info_bytes, text_format, event_format, fill_up, sevens, fits as menu_fits}
use Rattle.kinds.specs.Kind.{fits as kind_fits}
use Rattle.kinds.specs.Block.{nibbles as kind_nibbles, checksum_of as kind_checksum_of, block_with as kind_block_with}
use Rattle.menu_forms.specs.Block.{record_of as menu_record_of}
use Rattle.menu_reader.specs.Reading.{read_menu}
use Rattle.menu_reader.proofs.Written.{writes-back as menu_writes_back}

-- ---- packets (SCOPE 7.1 to 7.4)

-- magazine 3 and packet 25, which is 11001: its lowest bit on top of the magazine's three makes B, and 1100 is C
pub address_25 : (address 3 25 ≡ 0x9B ∷ 0xA1 ∷ []) × (address_of (0x9B ∷ 0xA1 ∷ []) ≡ 3 + 8 * 25)
unfolding address_of decodes nib nibble_from image with_parity differing number
address_25 = (refl, refl)

-- magazine 8, sent as 0, and packet 22, which is 10110: 0, and 1011 is B
pub address_22 : (address 8 22 ≡ 0x15 ∷ 0x9B ∷ []) × (address_of (0x15 ∷ 0x9B ∷ []) ≡ 8 * 22)
unfolding address_of decodes nib nibble_from image with_parity differing number
address_22 = (refl, refl)

-- page DF of magazine 3, stream 5
abbrev third : Setting
third = record { magazine = 3; page = 0xDF; stream = 5; application = 9 }

-- packet 25 of it, with the pointer 7
pub row_25 : see third (0x9B ∷ 0xA1 ∷ 0x2F ∷ replicate 39 0x5E) ≡ packet_y 25 7 (replicate 39 0x5E)
unfolding see seen_as see_y address_of decodes nib nibble_from image with_parity differing number
row_25 = refl

-- its packet 0, with these bytes for S1 to S4
abbrev header : ℕ → ℕ → ℕ → ℕ → List ℕ
header s1 s2 s3 s4 = (0x5E ∷ 0x15 ∷ 0xEA ∷ 0xB6 ∷ s1 ∷ s2 ∷ s3 ∷ s4 ∷ 0x15 ∷ 0x15 ∷ []) ++ replicate 32 0x20

-- index 11 and 20 packets, which is 10100: B in S1, 100 in S2, the stream's 5 in S3, 10 in S4
pub header_20 : (packet_zero third 11 20 ≡ header 0x9B 0x64 0x73 0x49) × (see third (header 0x9B 0x64 0x73 0x49) ≡ ours 11 20)
unfolding packet_zero see seen_as see_y see_zero address_of decodes nib nibble_from image with_parity differing number
header_20 = (refl, refl)

-- the same is read with C4 to C6 set: 1100 in S2 and 1110 in S4
pub header_controls : see third (header 0x9B 0xA1 0x73 0xFD) ≡ ours 11 20
unfolding see seen_as see_y see_zero address_of decodes nib nibble_from image with_parity differing number
header_controls = refl

-- ---- a subtitle block (EN 300 707, table 17)

abbrev titles : Table
titles =
    record {
      kind = TI;
      copyright = 1;
      block = 0x8000;
      network = 0x53;
      descriptors =
          record { id = 37; words = 0x667265 ∷ 0x000881 ∷ 0x676572 ∷ 0x010FAE ∷ [] }
          ∷ record { id = 21; words = 0x647574 ∷ 0x123456 ∷ [] }
          ∷ [];
    }

-- its record, of application 9: 222 bits and 2 of fill, 56 bytes
abbrev titles_bytes : List ℕ
titles_bytes =
    0x09 ∷ 0x07 ∷ 0x00 ∷ 0x00 ∷ 0x2F ∷ 0xFD ∷ 0xA1 ∷ 0x02 ∷ 0x15 ∷ 0x49 ∷ 0x64 ∷ 0x15 ∷ 0x15 ∷ 0x15 ∷ 0xD0 ∷ 0x5E
    ∷ 0x73 ∷ 0x49 ∷ 0x64 ∷ 0xC7 ∷ 0x49 ∷ 0x73 ∷ 0x38 ∷ 0x49 ∷ 0x2F ∷ 0x38 ∷ 0x38 ∷ 0x02 ∷ 0xD0 ∷ 0xD0 ∷ 0x15 ∷ 0x15
    ∷ 0x15 ∷ 0x49 ∷ 0x2F ∷ 0x73 ∷ 0x38 ∷ 0x2F ∷ 0x38 ∷ 0xFD ∷ 0x8C ∷ 0xEA ∷ 0x15 ∷ 0x02 ∷ 0x15 ∷ 0x73 ∷ 0x73 ∷ 0x15
    ∷ 0xB6 ∷ 0x73 ∷ 0xB6 ∷ 0x02 ∷ 0xC7 ∷ 0xC7 ∷ 0x73 ∷ 0x02 ∷ 0xB6 ∷ 0xD0 ∷ 0x64 ∷ 0x15 ∷ []

pub titles-written : record_of 9 titles ≡ titles_bytes
unfolding kind_block_with laid parts alike width fields loops per kind_nibbles kind_checksum_of checksum total image with_parity number
titles-written = refl

titles-fit : fits titles ≡ true
unfolding fits kind_fits sevens entire fitting fields loops per alike width
titles-fit = refl

pub titles-read : read_block 9 titles_bytes ≡ accepted titles 0
titles-read = subst (λ (r : List ℕ). read_block 9 r ≡ accepted titles 0) titles-written (writes-back 9 titles (lit< tt) titles-fit)

-- ---- a menu (EN 300 707, table 19, with escape sequences by 11.12.1 and attributes by 11.12.4)

abbrev menu : Menu
menu =
    record {
      copyright = 1;
      block = 0x1234;
      header_size = 2;
      message_size = 5;
      message = 0x9A;
      descriptors = record { which = 0x2B; id = 0x15; eval = 0xC6 } ∷ record { which = 0x0E; id = 0x31; eval = 0x97 } ∷ [];
      header = record { escapes = record { position = 0x155; mode = 0x2A; content = 0xC3 } ∷ []; codes = 0x48 ∷ 0x69 ∷ [] };
      events =
          record {
            link = 0x4321;
            link_type = 6;
            attributes = record { kind = 0x51; info = 0x7E } ∷ record { kind = 0x92; info = 0xBEEF } ∷ [];
            text = record { escapes = record { position = 0x2AA; mode = 0x15; content = 0x3C } ∷ []; codes = 0x47 ∷ 0x6F ∷ 0x21 ∷ [] };
          }
          ∷ record { link = 0x0765; link_type = 3; attributes = []; text = record { escapes = []; codes = 0x4E ∷ [] } }
          ∷ [];
    }

-- its record, of application 22: 296 bits in 74 bytes, and "Hi", "Go!" and "N" with their parity
abbrev menu_bytes : List ℕ
menu_bytes =
    0x16 ∷ 0x0A ∷ 0x00 ∷ 0x00 ∷ 0xC7 ∷ 0x38 ∷ 0x73 ∷ 0x49 ∷ 0xA1 ∷ 0x15 ∷ 0x64 ∷ 0x64 ∷ 0x5E ∷ 0x49 ∷ 0x02 ∷ 0x8C
    ∷ 0x64 ∷ 0xC7 ∷ 0x15 ∷ 0x9B ∷ 0x38 ∷ 0x73 ∷ 0x38 ∷ 0xA1 ∷ 0xFD ∷ 0x64 ∷ 0xA1 ∷ 0x2F ∷ 0xC7 ∷ 0x15 ∷ 0x02 ∷ 0x15
    ∷ 0x73 ∷ 0x73 ∷ 0xC7 ∷ 0x8C ∷ 0x5E ∷ 0xA1 ∷ 0x49 ∷ 0x15 ∷ 0x8C ∷ 0xC7 ∷ 0x02 ∷ 0x49 ∷ 0x5E ∷ 0x64 ∷ 0x38 ∷ 0x49
    ∷ 0x02 ∷ 0x73 ∷ 0xFD ∷ 0x2F ∷ 0x49 ∷ 0xC7 ∷ 0xEA ∷ 0xFD ∷ 0xFD ∷ 0x9B ∷ 0x02 ∷ 0x15 ∷ 0x8C ∷ 0x8C ∷ 0x38 ∷ 0x73
    ∷ 0xA1 ∷ 0x5E ∷ 0x5E ∷ 0x15 ∷ 0x73 ∷ 0x38 ∷ 0x2F ∷ 0x15 ∷ 0x5E ∷ 0x15 ∷ 0x15 ∷ 0x15 ∷ 0x02 ∷ 0x15 ∷ 0xC8 ∷ 0xE9
    ∷ 0xC7 ∷ 0xEF ∷ 0xA1 ∷ 0xCE ∷ []

pub menu-written : menu_record_of 22 menu ≡ menu_bytes
unfolding
    kind_block_with
    kind_checksum_of
    checksum
    total
    kind_nibbles
    text_format
    event_format
    info_bytes
    fill_up
    width
    laid
    parts
    letter
    ones
    image
    with_parity
    number
menu-written = refl

menu-fits : menu_fits menu ≡ true
unfolding menu_fits kind_fits fitting text_format event_format info_bytes fill_up sevens width
menu-fits = refl

pub menu_read_lem : read_menu 22 menu_bytes ≡ accepted menu 0
menu_read_lem = subst (λ (r : List ℕ). read_menu 22 r ≡ accepted menu 0) menu-written (menu_writes_back 22 menu (lit< tt) menu-fits)
