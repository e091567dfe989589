-- What is accepted as a menu: its form is no longer than its block, and its number stands where the search looks for it. Assumes nothing.
use mathlib.Core.Path.{◌≡◌, ◌∙◌, refl, sym, ap}
use mathlib.Core.Bool.{true}
use mathlib.Core.List.{List, [], ◌∷◌, ◌++◌, map}
use Prim.Native.Nat.{ℕ, ◌+◌, ◌*◌, ◌≤◌}
use native.Mathlib.Omega.{arith}
use borrow.Author.Tests.{ltb-true}
use lib.Dec.{ltb}
use lib.ListN.{length, take, drop, length-append, length-take}
use Rattle.laws.proofs.Maps.{map-take}
use Rattle.laws.specs.Pick.{both}
use Rattle.laws.proofs.Tests.{both-second}
use Rattle.octet.specs.Decoding.{nib}
use Rattle.answer.specs.Rules.{Every}
use Rattle.blocks.specs.Block.{head_length}
use Rattle.laws.specs.Bytes.{Bytes}
use Rattle.fields.specs.Fields.{Field, width, fitting, field}
use Rattle.fields.specs.Compound.{compound}
use Rattle.fields.proofs.Laid.{width-append}
use Rattle.menu_forms.specs.Rows.{each}
use Rattle.menu_forms.specs.Menus.{Descriptor, Escape, Text, Attribute, Event, Menu, zeros, info_bytes, navigation, menu_sent, descriptor_fields, escape_fields, attribute_fields, text_fields, event_fields}
use Rattle.menu_forms.specs.Menus.{fill_fields, fields, codes_of, strings, control, size, sevens, fits, event_format, text_format}
use Rattle.menu_forms.specs.Block.{Says}
use Rattle.menu_forms.specs.Form.{descriptor_form, escape_form, attribute_form, text_form, event_form, form}
use Rattle.menu_forms.proofs.Forms.{high_length}
use Rattle.kinds.specs.Reading.{control_length, content_in}
use Rattle.kinds.proofs.Exact.{rules-mean, control-read}
use Rattle.menu_forms.proofs.Formats.{owed, control-sent, fits_by, strings_are}
use Rattle.menu_reader.specs.Internal.{bits_at}
use Rattle.menu_reader.proofs.Places.{bits-take}
use Rattle.menu_reader.proofs.Walked.{block_at_lem}
use Rattle.menu_reader.proofs.Written.{said_fits}
use Rattle.menu_reader.specs.Reading.{menu_read, read_rules}

-- ---- a form is no longer than its block: a byte of it comes from four bits of control data at least, or from a byte of a string

module _ {E : Type 0} (spell : E → List ℕ) (fields_of : E → List Field) (codes : E → List ℕ)
    (one : (e : E) → 4 * length (spell e) ≤ width (fields_of e) + 4 * length (codes e)) where
  row-most : (es : List E) → 4 * length (each spell es) ≤ width (each fields_of es) + 4 * length (each codes es)
  unfolding width
  row-most [] = omega arith
  row-most (e ∷ es) =
      omega (arith, one e, row-most es, length-append (spell e) (each spell es), width-append (fields_of e) (each fields_of es), length-append (codes e) (each codes es))

-- entries without codes
none_of : {E : Type 0} (es : List E) → length (each {A = ℕ} (λ (e : E). []) es) ≡ 0
none_of [] = refl
none_of (e ∷ es) = none_of es

module _ {E : Type 0} (spell : E → List ℕ) (fields_of : E → List Field) (one : (e : E) → 4 * length (spell e) ≤ width (fields_of e)) where
  plain-most : (es : List E) → 4 * length (each spell es) ≤ width (each fields_of es)
  plain-most es = omega (arith, row-most spell fields_of (λ (e : E). []) (λ e. omega (arith, one e)) es, none_of es)

descriptor_most_lem : (d : Descriptor) → 4 * length (descriptor_form d) ≤ width (descriptor_fields d)
unfolding width
descriptor_most_lem d = omega arith

escape_most : (e : Escape) → 4 * length (escape_form e) ≤ width (escape_fields e)
unfolding width
escape_most e = omega arith

attribute_most : (a : Attribute) → 4 * length (attribute_form a) ≤ width (attribute_fields a)
unfolding width
attribute_most a = omega (arith, high_length (info_bytes a.kind) a.info)

text_most_lem : (t : Text) → 4 * length (text_form t) ≤ width (text_fields t) + 4 * length t.codes
unfolding text_form text_format width
text_most_lem t =
    let own = plain-most escape_form escape_fields escape_most t.escapes in
    let formed = length-append (each escape_form t.escapes) t.codes in
    omega (arith, own, formed, width-append (each escape_fields t.escapes) ((8, length t.codes) ∷ []))

event_most_lem : (e : Event) → 4 * length (event_form e) ≤ width (event_fields e) + 4 * length (codes_of e)
unfolding event_form event_format width
event_most_lem e =
    let own = plain-most attribute_form attribute_fields attribute_most e.attributes in
    let formed = length-append (each attribute_form e.attributes) (text_form e.text) in
    let wide = width-append (each attribute_fields e.attributes) (text_fields e.text) in
    omega (arith, own, text_most_lem e.text, formed, wide)

module _ (m : Menu) where
  abbrev behind-opening : List Field
  behind-opening =
      each descriptor_fields m.descriptors
      ++ (fill_fields (length m.descriptors) 0 ++ (text_fields m.header ++ (8, m.message) ∷ each event_fields m.events))

  control-wide : width (fields 0 0 zeros m) ≡ 60 + width behind-opening
  unfolding fields width
  control-wide = omega arith

  behind-wide :
      width behind-opening
      ≡ width (each descriptor_fields m.descriptors)
      + (width (fill_fields (length m.descriptors) 0) + (width (text_fields m.header) + (8 + width (each event_fields m.events))))
  behind-wide =
      let ds : List Field = each descriptor_fields m.descriptors in
      let fl : List Field = fill_fields (length m.descriptors) 0 in
      let tx : List Field = text_fields m.header in
      let ev : List Field = (8, m.message) ∷ each event_fields m.events in
      let last : width ev ≡ 8 + width (each event_fields m.events) = unfold width in refl in
      omega (arith, width-append ds (fl ++ (tx ++ ev)), width-append fl (tx ++ ev), width-append tx ev, last)

  form-wide :
      length (form m)
      ≡ 9 + (length (each descriptor_form m.descriptors) + (length (text_form m.header) + length (each event_form m.events)))
  unfolding form
  form-wide =
      let ds = each descriptor_form m.descriptors in
      let tx = text_form m.header in
      let ev = each event_form m.events in
      omega (arith, length-append ds (tx ++ ev), length-append tx ev)

  strings-long : length (strings m) ≡ length m.header.codes + length (each codes_of m.events)
  strings-long = ap length (strings_are m) ∙ length-append m.header.codes (each codes_of m.events)

  pub form_most_lem : length (form m) ≤ size m
  form_most_lem =
      let descriptors = plain-most descriptor_form descriptor_fields descriptor_most_lem m.descriptors in
      let events = row-most event_form event_fields codes_of event_most_lem m.events in
      omega (arith, control-wide, behind-wide, form-wide, strings-long, descriptors, text_most_lem m.header, events)

  pub form-fits : fits m ≡ true → length (form m) ≤ 2047
  form-fits h =
      let q = both-second (both (fitting (fields 0 0 zeros m)) (both (ltb m.header_size 3) (sevens (strings m)))) (ltb (size m) 2048) (sym (fits_by m) ∙ h) in
      omega (arith, form_most_lem, ltb-true (size m) 2048 q)

  pub control-least : 7 ≤ control m
  control-least = omega (arith, control-wide)

-- ---- an accepted record

-- bits that lie within the first n bytes are those of all
bits-within : (at w n : ℕ) (raw : List ℕ) → at + w ≤ n * 4 → bits_at at w (map nib (take n raw)) ≡ field at w (compound raw)
bits-within at w n raw h = rw (map-take nib n raw) (bits-take at w n (map nib raw) h)

module _ (application : ℕ) (rec : List ℕ) (b : Bytes rec) (e : Every (read_rules application rec)) where
  abbrev raw : List ℕ
  raw = drop head_length rec

  abbrev m : Menu
  m = menu_read raw

  -- it says its menu
  said : Says application rec m
  said = rules-mean navigation owed menu_sent application rec (λ t. b) e

  pub accepted-fits : fits m ≡ true
  accepted-fits = said_fits application rec m said

  pub accepted-form : length (form m) ≤ 2047
  accepted-form = form-fits m accepted-fits

  pub accepted-number : m.block ≡ field 28 16 (compound raw)
  accepted-number =
      block_at_lem _ _ ∙ bits-within 28 16 (control_length raw) raw
      (omega (
        arith,
        control-read navigation owed application rec e,
        control-sent (content_in navigation raw),
        control-least m,
        length-take (control_length raw) raw,
      ))
