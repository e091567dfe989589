-- Going along control data and strings finds the menu that the format reads, and where the numbers that it opens with stand. Assumes nothing.
use mathlib.Core.Path.{◌≡◌, ◌∙◌, refl, sym, ap, ap₂}
use mathlib.Core.List.{List, ◌∷◌}
use Prim.Native.Nat.{ℕ, zero, suc, ◌+◌, ◌*◌, ◌/◌, ◌%◌, ◌^◌}
use native.Mathlib.Omega.{arith}
use lib.ListN.{length, drop}
use lib.Pow.{shr-shr}
use lib.Seq.{drop-drop}
use Rattle.fields.specs.Fields.{Field, width, field, whole}
use Rattle.fields.proofs.Laid.{field_past}
use Rattle.codecs.specs.Codec.{Codec, past, left, row_read}
use Rattle.codecs.proofs.Codes.{each_none}
use Rattle.codecs.proofs.Lawful.{row-length}
use Rattle.menu_forms.specs.Rows.{each, in_row}
use Rattle.menu_forms.specs.Menus.{Descriptor, Escape, Text, Attribute, Event, Menu, Ordered, named, lead, rest, menu_sent, codes_of}
use Rattle.menu_forms.specs.Menus.{descriptor_format, escape_format, attribute_format, text_format, event_format, fill_up, descriptor_fields, escape_fields, attribute_fields, text_fields, event_fields, fill_fields}
use Rattle.menu_forms.specs.Form.{codes_in}
use Rattle.menu_forms.specs.Block.{in_nibbles}
use Rattle.menu_forms.proofs.Spelling.{each-nibbled, each-spelled}
use Rattle.menu_forms.proofs.Forms.{row_count}
use Rattle.menu_forms.proofs.Formats.{text-strings, event_strings}
use Rattle.menu_forms.proofs.Nibbled.{descriptor_nibbled, escape_nibbled, attribute_nibbled, text_nibbled, event_nibbled, fill_nibbled, fill-same}
use Rattle.kinds.specs.Front.{Front}
use Rattle.kinds.specs.Kind.{content_of}
use Rattle.kinds.specs.Reading.{front_in, sent_in}
use Rattle.kinds.proofs.Fronts.{front_at}
use Rattle.kinds.proofs.Places.{whole_drop}
use Rattle.menu_reader.specs.Control.{sent_of, menu_of}
use Rattle.menu_reader.specs.Internal.{bits_at, descriptor_at, escape_at, attribute_at, descriptor_nibbles, escape_nibbles, attribute_nibbles, text_at, event_at, events_at, menu_at}
use Rattle.menu_reader.proofs.Places.{whole-behind}

-- ---- entries

descriptor_at_lem : (ns cs : List ℕ) → descriptor_format.read (whole 4 ns) cs ≡ descriptor_at ns
unfolding width
descriptor_at_lem ns cs = simp (shr-shr, field_past)

escape_at_lem : (ns cs : List ℕ) → escape_format.read (whole 4 ns) cs ≡ escape_at ns
unfolding width
escape_at_lem ns cs = simp (shr-shr, field_past)

attribute_at_lem : (ns cs : List ℕ) → attribute_format.read (whole 4 ns) cs ≡ attribute_at ns
unfolding width
attribute_at_lem ns cs = simp field_past

-- those in a row, which have no codes
module _ {E : Type 0} (c : Codec E) (read : List ℕ → E) (nibbled : (e : E) → width (c.fields e) % 4 ≡ 0)
    (same : (ns cs : List ℕ) → c.read (whole 4 ns) cs ≡ read ns) where
  abbrev spell : E → List ℕ
  spell e = in_nibbles (c.fields e)

  row_at_lem : (k : ℕ) (ns cs : List ℕ) → row_read c k (whole 4 ns) cs ≡ in_row spell read k ns
  unfolding in_row
  row_at_lem zero ns cs = refl
  row_at_lem (suc k) ns cs =
      let on = drop (length (spell (read ns))) ns in
      let up : past c (whole 4 ns) cs ≡ whole 4 on =
      ap (λ (e : E). whole 4 ns / 2 ^ width (c.fields e)) (same ns cs) ∙ sym (whole-behind (c.fields (read ns)) ns (nibbled (read ns))) in
      ap₂ (λ (e : E) (es : List E). e ∷ es) (same ns cs)
      (ap (λ (n : ℕ). row_read c k n (left c (whole 4 ns) cs)) up ∙ row_at_lem k on (left c (whole 4 ns) cs))

  -- what is left behind j nibbles and a row
  row-behind :
      (j : ℕ) (es : List E) (ns : List ℕ)
      → whole 4 ns / 2 ^ (j * 4) / 2 ^ width (each c.fields es) ≡ whole 4 (drop (j + length (each spell es)) ns)
  row-behind j es ns =
      let fs : List Field = each c.fields es in
      sym
      (ap (λ (k : ℕ). whole 4 (drop (j + k) ns)) (ap length (sym (each-spelled c.fields nibbled es)))
      ∙ ap (whole 4) (sym (drop-drop (length (in_nibbles fs)) j ns))
      ∙ whole-behind fs (drop j ns) (each-nibbled c.fields nibbled es)
      ∙ ap (λ (n : ℕ). n / 2 ^ width fs) (whole_drop 4 j ns))

-- ---- strings and events

text_at_lem : (ns cs : List ℕ) → text_format.read (whole 4 ns) cs ≡ text_at ns cs
unfolding text_format text_at width
text_at_lem ns cs =
    let n = whole 4 ns in
    let k = field 0 8 n in
    let es : List Escape = in_row escape_nibbles escape_at k (drop 2 ns) in
    let found : row_read escape_format k (n / 2 ^ 8) cs ≡ es =
    ap (λ (x : ℕ). row_read escape_format k x cs) (sym (whole_drop 4 2 ns)) ∙ row_at_lem escape_format escape_at escape_nibbled escape_at_lem k (drop 2 ns) cs in
    let behind : n / 2 ^ (8 + width (each escape_fields es)) ≡ whole 4 (drop (2 + length (each escape_nibbles es)) ns) =
    sym (shr-shr n 8 (width (each escape_fields es))) ∙ row-behind escape_format escape_at escape_nibbled escape_at_lem 2 es ns in
    ap (λ (x : List Escape).
    record { escapes = x; codes = codes_in (field 0 8 (n / 2 ^ (8 + width (each escape_fields x)))) (drop (length (each escape_format.strings x)) cs) })
    found
    ∙ ap₂ (λ (x : ℕ) (l : List ℕ). record { escapes = es; codes = codes_in (field 0 8 x) (drop (length l) cs) }) behind (each_none es)

event_at_lem : (ns cs : List ℕ) → event_format.read (whole 4 ns) cs ≡ event_at ns cs
unfolding event_format event_at width
event_at_lem ns cs =
    let n = whole 4 ns in
    let xs : List Attribute = in_row attribute_nibbles attribute_at (bits_at 20 4 ns) (drop 6 ns) in
    let w = width (each attribute_fields xs) in
    let found : row_read attribute_format (field 0 4 (n / 2 ^ 20)) (n / 2 ^ 20 / 2 ^ 4) cs ≡ xs =
    ap₂ (λ (k x : ℕ). row_read attribute_format k x cs) (field_past 0 4 20 n) (shr-shr n 20 4 ∙ sym (whole_drop 4 6 ns))
    ∙ row_at_lem attribute_format attribute_at attribute_nibbled attribute_at_lem (bits_at 20 4 ns) (drop 6 ns) cs in
    let behind : n / 2 ^ 20 / 2 ^ (4 + w) ≡ whole 4 (drop (6 + length (each attribute_nibbles xs)) ns) =
    shr-shr n 20 (4 + w) ∙ ap (λ (x : ℕ). n / 2 ^ x) (omega arith) ∙ sym (shr-shr n 24 w)
    ∙ row-behind attribute_format attribute_at attribute_nibbled attribute_at_lem 6 xs ns in
    ap₂ (λ (type y : ℕ). made n type (row_read attribute_format (field 0 4 y) (y / 2 ^ 4) cs) y) (field_past 0 4 16 n) (shr-shr n 16 4)
    ∙ ap (λ (l : List Attribute). made n (field 16 4 n) l (n / 2 ^ 20)) found
    ∙ ap₂ (λ (x : ℕ) (l : List ℕ). record { link = field 0 16 n; link_type = field 16 4 n; attributes = xs; text = text_format.read x (drop (length l) cs) })
    behind (each_none xs)
    ∙ ap (λ (t : Text). record { link = field 0 16 n; link_type = field 16 4 n; attributes = xs; text = t })
    (text_at_lem (drop (6 + length (each attribute_nibbles xs)) ns) cs)
  where
    -- of its attributes, and what stands from their number on
    made : ℕ → ℕ → List Attribute → ℕ → Event
    made n type l y =
        record {
          link = field 0 16 n;
          link_type = type;
          attributes = l;
          text = text_format.read (y / 2 ^ (4 + width (each attribute_fields l))) (drop (length (each attribute_format.strings l)) cs);
        }

events_at_lem : (k : ℕ) (ns cs : List ℕ) → row_read event_format k (whole 4 ns) cs ≡ events_at k ns cs
unfolding events_at
events_at_lem zero ns cs = refl
events_at_lem (suc k) ns cs =
    let e = event_at ns cs in
    let up : past event_format (whole 4 ns) cs ≡ whole 4 (drop (length (in_nibbles (event_fields e))) ns) =
    ap (λ (x : Event). whole 4 ns / 2 ^ width (event_fields x)) (event_at_lem ns cs) ∙ sym (whole-behind (event_fields e) ns (event_nibbled e)) in
    let on : left event_format (whole 4 ns) cs ≡ drop (length (codes_of e)) cs =
    ap (λ (x : Event). drop (length (event_format.strings x)) cs) (event_at_lem ns cs) ∙ ap (λ (l : List ℕ). drop (length l) cs) (event_strings e) in
    ap₂ (λ (x : Event) (xs : List Event). x ∷ xs) (event_at_lem ns cs)
    (ap₂ (row_read event_format k) up on ∙ events_at_lem k (drop (length (in_nibbles (event_fields e))) ns) (drop (length (codes_of e)) cs))

pub events_count : (k : ℕ) (ns codes : List ℕ) → length (events_at k ns codes) ≡ k
events_count k ns codes = ap length (sym (events_at_lem k ns codes)) ∙ row-length event_format k (whole 4 ns) codes

-- ---- the menu

-- the numbers before the descriptors, each at its place
lead-at :
    {B : Type 0} (d : ℕ → Codec B) (n : ℕ) (cs : List ℕ)
    → (lead d).read (n / 2 ^ 28) cs
    ≡ (field 28 16 n, (field 44 2 n, (field 46 4 n, (field 50 3 n, (field 53 1 n, (d (field 46 4 n)).read (n / 2 ^ 54) cs)))))
unfolding width
lead-at d n cs = simp (shr-shr, field_past)

-- the control size stands at bit 8
pub control-at : (ns cs : List ℕ) → (sent_of ns cs).0.control ≡ bits_at 8 10 ns
unfolding sent_in front_in
control-at ns cs = ap (λ (f : Front). f.control) (front_at ns)

module _ (ns cs : List ℕ) where
  abbrev n : ℕ
  n = whole 4 ns

  -- by its descriptors, its header, its message and its events
  abbrev made : List Descriptor → Text → ℕ → List Event → Menu
  made ds header message events =
      record {
        copyright = field 26 1 n;
        block = field 28 16 n;
        header_size = field 44 2 n;
        message_size = field 50 3 n;
        message = message;
        descriptors = ds;
        header = header;
        events = events;
      }

  -- by its descriptors, the bits behind them and fill_up_2, and the codes
  abbrev made_from : List Descriptor → ℕ → List ℕ → Menu
  made_from ds b l =
      let header = text_format.read b l in
      let p = b / 2 ^ width (text_fields header) in
      made ds header (field 0 8 p) (row_read event_format (field 46 4 n) (p / 2 ^ 8) (drop (length (text_format.strings header)) l))

  -- the bits behind the descriptors, and those behind fill_up_2
  abbrev above : List Descriptor → ℕ
  above ds = n / 2 ^ 54 / 2 ^ (6 + width (each descriptor_fields ds))

  abbrev higher : List Descriptor → ℕ → ℕ
  higher ds second = above ds / 2 ^ width (fill_fields (length ds) second)

  abbrev read-ones : List Descriptor
  read-ones = row_read descriptor_format (field 0 6 (n / 2 ^ 54)) (n / 2 ^ 54 / 2 ^ 6) cs

  abbrev found : List Descriptor
  found = in_row descriptor_nibbles descriptor_at (bits_at 54 6 ns) (drop 15 ns)

  abbrev behind : List ℕ
  behind = drop (15 + length (each descriptor_nibbles found) + length (in_nibbles (fill_fields (bits_at 54 6 ns) 0))) ns

  read_first :
      menu_of ns cs
      ≡ made_from read-ones (higher read-ones ((fill_up (length read-ones)).read (above read-ones) cs)) (drop (length (each descriptor_format.strings read-ones)) cs)
  unfolding sent_in front_in width fill_up
  read_first = ap₂ (λ (f : Front) (r : Ordered). menu_sent (content_of (f, named r))) (front_at ns) (lead-at rest n cs)

  found-same : read-ones ≡ found
  found-same =
      ap₂ (λ (k x : ℕ). row_read descriptor_format k x cs) (field_past 0 6 54 n) (shr-shr n 54 6 ∙ sym (whole_drop 4 15 ns))
      ∙ row_at_lem descriptor_format descriptor_at descriptor_nibbled descriptor_at_lem (bits_at 54 6 ns) (drop 15 ns) cs

  behind-same : higher found 0 ≡ whole 4 behind
  behind-same =
      let w = width (each descriptor_fields found) in
      let j = 15 + length (each descriptor_nibbles found) in
      let fl : List Field = fill_fields (bits_at 54 6 ns) 0 in
      let places : n / 2 ^ 54 / 2 ^ (6 + w) ≡ n / 2 ^ 60 / 2 ^ w =
      shr-shr n 54 (6 + w) ∙ ap (λ (x : ℕ). n / 2 ^ x) (omega arith) ∙ sym (shr-shr n 60 w) in
      ap₂ (λ (x y : ℕ). x / 2 ^ y) (places ∙ row-behind descriptor_format descriptor_at descriptor_nibbled descriptor_at_lem 15 found ns)
      (ap (λ (k : ℕ). width (fill_fields k 0)) (row_count descriptor_nibbles descriptor_at (bits_at 54 6 ns) (drop 15 ns)))
      ∙ sym (whole-behind fl (drop j ns) (fill_nibbled (bits_at 54 6 ns) 0))
      ∙ ap (whole 4) (drop-drop (length (in_nibbles fl)) j ns)

  read-last : made_from found (whole 4 behind) cs ≡ menu_at ns cs
  unfolding menu_at
  read-last =
      let k = field 46 4 n in
      let header = text_at behind cs in
      let behind-it = drop (length (in_nibbles (text_fields header))) behind in
      ap (λ (t : Text).
      made found t (field 0 8 (whole 4 behind / 2 ^ width (text_fields t)))
      (row_read event_format k (whole 4 behind / 2 ^ width (text_fields t) / 2 ^ 8) (drop (length (text_format.strings t)) cs)))
      (text_at_lem behind cs)
      ∙ ap₂ (λ (p : ℕ) (l : List ℕ). made found header (field 0 8 p) (row_read event_format k (p / 2 ^ 8) (drop (length l) cs)))
      (sym (whole-behind (text_fields header) behind (text_nibbled header))) (text-strings header)
      ∙ ap (λ (es : List Event). made found header (bits_at 0 8 behind-it) es)
      (ap (λ (x : ℕ). row_read event_format k x (drop (length header.codes) cs)) (sym (whole_drop 4 2 behind-it))
      ∙ events_at_lem k (drop 2 behind-it) (drop (length header.codes) cs))

  -- what going along them finds is what is read
  pub menu-at : menu_of ns cs ≡ menu_at ns cs
  menu-at =
      let second = (fill_up (length read-ones)).read (above read-ones) cs in
      read_first
      ∙ ap₂ (λ (w : ℕ) (l : List ℕ). made_from read-ones (above read-ones / 2 ^ w) (drop (length l) cs)) (fill-same (length read-ones) second 0) (each_none read-ones)
      ∙ ap (λ (ds : List Descriptor). made_from ds (higher ds 0) cs) found-same
      ∙ ap (λ (b : ℕ). made_from found b cs) behind-same
      ∙ read-last

-- its number stands at bit 28
pub block_at_lem : (ns cs : List ℕ) → (menu_of ns cs).block ≡ bits_at 28 16 ns
block_at_lem ns cs = ap (λ (m : Menu). m.block) (menu-at ns cs) ∙ (unfold menu_at in refl)
