-- Why the better of two aerials is safe, where both heard one packet: what goes on is as near to it as each of the two, so that the third
-- demand holds of packets chosen so (SCOPE 18). Assumes nothing.
use mathlib.Core.Path.{◌≡◌, ◌∙◌, refl, sym, ap, subst}
use mathlib.Core.Bool.{Bool, true, false}
use mathlib.Core.List.{List, [], ◌∷◌, ◌++◌, map}
use Prim.Native.Nat.{ℕ, suc}
use native.Mathlib.Omega.{arith}
use borrow.Author.Tests.{eq-eqb}
use lib.Dec.{ltb}
use lib.ListN.{length, get_or, set, take, drop, take-append-drop}
use Rattle.laws.specs.Pick.{pick}
use Rattle.packet.specs.declared.Setting.{Setting}
use Rattle.packet.specs.Packet.{packet_length, packet_zero, packet_of}
use Rattle.aerials.specs.Better.{judged_bytes, address_length, broken_in, better_of}
use Rattle.octet.specs.Bits.{bits, number, differing}
use Rattle.octet.specs.Image.{image, with_parity}
use Rattle.octet.specs.Decoding.{nib, nibble_from}
use Rattle.octet.specs.Hearing.{harm, harms}
use Rattle.blocks.specs.Block.{blocks_within, nibbles_of}
use Rattle.fields.specs.Fields.{alike, width, laid, parts, field, whole}
use Rattle.packet.specs.Address.{address_of, decodes}
use Rattle.symbols.specs.Stream.{symbols, cells_of, stream_of, grab, before_start}
use Rattle.writer.specs.Cutting.{data_packets, pages, packets}
use Rattle.pages.specs.Headers.{see_zero}
use Rattle.pages.specs.Seen.{see, see_y, seen_as}
use Rattle.walk.specs.Mode.{goes_on, continues, emitted, ends, gives, spoiled, spoils, step}
use Rattle.state.specs.Acting.{act, handed}
use Rattle.blocks.specs.Sums.{total, checksum, sound}
use Rattle.parity.specs.Parity.{odds}
use Rattle.kinds.specs.Block.{nibbles, checksum_of, block_with}
use Rattle.kinds.specs.Reading.{front_in, front_rules, whole_rules, mended_of, sent_in, length_rules, read_as}
use Rattle.table.specs.Control.{descriptors_of, table_of}
use Rattle.blocks.specs.Framing.{frame_rules}
use Rattle.forms.specs.Tables.{Table, loops, fields}
use Rattle.forms.specs.Kinds.{TI, LI, per}
use Rattle.writer.proofs.Cases.{desk}
use Rattle.state.specs.State.{fresh_state}
use Rattle.claims.specs.Carrying.{heard_blocks}
use Rattle.claims.specs.Tables.{records_of, sent as tables_sent, tables_of}
use Rattle.claims.specs.Noise.{Near, Aired, ended, sent, between}
use Rattle.claims.specs.Twice.{glued, Both, of_first, of_second, Twice, ended as twice_ended, sent as twice_sent, between as twice_between}
use Rattle.claims.proofs.Losing.{near-length, near-append, near-drop, near-take}

-- ---- the packet that goes on

module _ {R : ℕ → ℕ → Type 0} {p first second : List ℕ} (long : length p ≡ packet_length) (one : Near R p first) (two : Near R p second) where
  -- its part is the first's or the second's, and each is near
  part-near : Near R (drop address_length p) (better_of first second)
  unfolding better_of
  part-near = rw (eq-eqb _ _ (sym (near-length one) ∙ long), eq-eqb _ _ (sym (near-length two) ∙ long)) (go (ltb (broken_in judged_bytes second) (broken_in judged_bytes first)))
    where
      go : (t : Bool) → Near R (drop address_length p) (drop address_length (pick t second first))
      go true = near-drop address_length two
      go false = near-drop address_length one

  -- behind the address of either it is as near as they are
  pub glued-near : {a : List ℕ} → Near R p a → Near R p (glued a first second)
  glued-near {a} n =
      subst (λ (l : List ℕ). Near R l (glued a first second)) (take-append-drop address_length p) (near-append (near-take address_length n) part-near)

both-near : {R : ℕ → ℕ → Type 0} {p q : List ℕ} → length p ≡ packet_length → Both R p q → Near R p q
both-near long (of_first one two e) = rw e (glued-near long one two one)
both-near long (of_second one two e) = rw e (glued-near long one two two)

-- ---- what goes on of all packets has been aired: so `exactly`, `never-wrong` and the statements of the calls hold of it

pub twice_aired : {R : ℕ → ℕ → Type 0} {s : Setting} {ps ours qs : List (List ℕ)} → Twice R s ps ours qs → Aired R s ps ours qs
twice_aired twice_ended = ended
twice_aired (twice_sent long b t) = sent (both-near long b) (twice_aired t)
twice_aired (twice_between m y rest h long d b t) =
    between (record { magazine = m; y = y; number = h; rest = rest; long = long; differs = d; near = both-near (ap (λ (n : ℕ). suc (suc n)) long) b }) (twice_aired t)

-- ---- why the caller must know that both are one packet

-- two tables: a list of languages, and a list of subtitles
abbrev languages : Table
languages =
    record {
      kind = LI;
      copyright = 0;
      block = 0;
      network = 2;
      descriptors = record { id = 1; words = 0x647574 ∷ 0x656E67 ∷ 0x667265 ∷ [] } ∷ [];
    }

abbrev subtitles : ℕ → Table
subtitles page =
    record {
      kind = TI;
      copyright = 0;
      block = 0;
      network = 2;
      descriptors =
          record { id = 3; words = [] }
          ∷ record { id = 4; words = [] }
          ∷ record { id = 5; words = 0x647574 ∷ page ∷ [] }
          ∷ [];
    }

-- sent in pages of one packet: three packets 0, and three packets 1, whose addresses are equal
abbrev air : List (List ℕ)
air = tables_sent desk 0 1 (languages ∷ subtitles 0x900888 ∷ [])

-- the second aerial is a page late: where the first hears the last packet, with two flips in its pointer, the second hears the one of the page
-- before
abbrev late : List (List ℕ)
late =
    let heard = set (get_or air 5 []) 2 0xB5 in
    take 5 air ++ (glued heard heard (get_or air 3 []) ∷ [])

-- the head of one table and the tail of the other come out as a table that was not sent: its page is another
pub late_joins : map (λ c. c.what) (tables_of 1 (heard_blocks desk fresh_state late)) ≡ languages ∷ subtitles 0x306888 ∷ []
unfolding
    tables_of
    heard_blocks
    records_of
    block_with
    harm
    harms
    nibbles
    nibbles_of
    checksum_of
    checksum
    total
    sound
    laid
    parts
    alike
    width
    fields
    loops
    per
    field
    whole
    packets
    pages
    data_packets
    stream_of
    cells_of
    symbols
    grab
    before_start
    blocks_within
    image
    with_parity
    number
    packet_zero
    packet_of
    address_of
    decodes
    better_of
    broken_in
    nib
    nibble_from
    differing
    bits
    see
    see_y
    seen_as
    see_zero
    goes_on
    continues
    emitted
    ends
    gives
    spoiled
    spoils
    step
    act
    handed
    descriptors_of
    table_of
    length_rules
    frame_rules
    front_rules
    whole_rules
    front_in
    sent_in
    mended_of
    odds
    read_as
late_joins = refl
