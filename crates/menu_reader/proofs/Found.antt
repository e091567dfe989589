-- A menu as the walk spells it: the opening, the descriptors, the header, the events. Assumes nothing.
use mathlib.Core.Path.{◌≡◌, ◌∙◌, refl, sym, ap, ap₂, subst}
use mathlib.Core.List.{List, [], ◌∷◌, ◌++◌}
use Prim.Native.Nat.{ℕ, ◌+◌, ◌*◌, ◌/◌, ◌%◌}
use native.Mathlib.Nat.{add-zero, zero-add}
use native.Mathlib.Omega.{arith}
use lib.ListN.{length, drop, length-append}
use lib.Seq.{sets, drop-drop}
use Rattle.fields.specs.Fields.{width}
use Rattle.menu_forms.specs.Rows.{each, in_row}
use Rattle.menu_forms.specs.Menus.{Descriptor, Text, Event, Menu, NI, zeros, text_fields, event_fields, fill_fields, fields, codes_of, strings, control, size}
use Rattle.menu_forms.specs.Form.{text_form, event_form, form}
use Rattle.menu_forms.specs.Block.{in_nibbles}
use Rattle.menu_forms.proofs.Spelling.{length-spelled, each-nibbled}
use Rattle.menu_forms.proofs.Forms.{row_count}
use Rattle.menu_forms.proofs.Formats.{strings_are}
use Rattle.menu_forms.proofs.Nibbled.{text_nibbled, event_nibbled, fill-width, menu_bytes_lem, menu-whole}
use Rattle.menu_reader.specs.Control.{menu_of}
use Rattle.menu_reader.specs.Internal.{bits_at, descriptor_at, descriptor_nibbles, text_at, events_at, menu_at}
use Rattle.menu_reader.specs.declared.Spot.{Spot}
use Rattle.menu_reader.specs.declared.Loop.TheVariants.{Descriptors}
use Rattle.menu_reader.specs.Internal.{loop_nibbles, loop_form, Went, PutText, PutEvents, Spelled, opening_bytes}
use Rattle.menu_reader.proofs.Walked.{events_count, menu-at}
use Rattle.menu_reader.proofs.Going.{went_on}
use Rattle.menu_reader.proofs.Rows.{descriptors_long}
use Rattle.menu_reader.proofs.Texts.{text-long, escapes-count}

-- fill_up_2 is a nibble where the number of descriptors is even
fill-bits : (d : ℕ) → width (fill_fields d 0) ≡ 4 * ((d + 1) % 2)
fill-bits d = omega (arith, fill-width d 0)

module _ (ns cs : List ℕ) (descriptors events behind escapes message : ℕ) (e₁ : descriptors ≡ bits_at 54 6 ns)
    (e₂ : events ≡ bits_at 46 4 ns) (e : behind ≡ 15 + 5 * descriptors + (descriptors + 1) % 2) where
  abbrev header : Text
  header = text_at (drop behind ns) cs

  abbrev ds : List Descriptor
  ds = in_row descriptor_nibbles descriptor_at descriptors (drop 15 ns)

  -- the descriptors end on a whole byte
  fill-nibbles : length (in_nibbles (fill_fields descriptors 0)) ≡ (descriptors + 1) % 2
  fill-nibbles =
      let e : 4 * ((descriptors + 1) % 2) / 4 ≡ (descriptors + 1) % 2 = omega arith in
      length-spelled (fill_fields descriptors 0) ∙ ap (λ (x : ℕ). x / 4) (fill-bits descriptors) ∙ e

  module _ (e₃ : escapes ≡ bits_at 0 8 (drop behind ns)) (e₄ : message ≡ bits_at 0 8 (drop (behind + 4 + 6 * escapes) ns)) (at from : ℕ)
      (e₅ : at ≡ behind + length (in_nibbles (text_fields header))) (e₆ : from ≡ length header.codes) where
    abbrev evs : List Event
    evs = events_at events (drop (at + 2) ns) (drop from cs)

    menu-found :
        menu_at ns cs
        ≡ record {
          copyright = bits_at 26 1 ns;
          block = bits_at 28 16 ns;
          header_size = bits_at 44 2 ns;
          message_size = bits_at 50 3 ns;
          message = message;
          descriptors = ds;
          header = header;
          events = evs;
        }
    unfolding menu_at
    menu-found =
        let place : 15 + length (each descriptor_nibbles ds) + length (in_nibbles (fill_fields descriptors 0)) ≡ behind =
        ap₂ (λ (x y : ℕ). 15 + x + y) (descriptors_long descriptors (drop 15 ns)) fill-nibbles ∙ sym e in
        let said : behind + 4 + 6 * escapes ≡ at =
        ap (λ (x : ℕ). behind + 4 + 6 * x) (sym (escapes-count ns cs behind escapes e₃)) ∙ (omega (arith, text-long header, e₅)) in
        let last : bits_at 0 8 (drop at ns) ≡ message = ap (λ (x : ℕ). bits_at 0 8 (drop x ns)) (sym said) ∙ sym e₄ in
        rw (
          ← e₁,
          ← e₂,
          place,
          drop-drop (length (in_nibbles (text_fields header))) behind ns,
          ← e₅,
          drop-drop 2 at ns,
          ← e₆,
          last,
        )

    all-form :
        opening_bytes ns message ++ (loop_form Descriptors descriptors (drop 15 ns) ++ (text_form header ++ each event_form evs)) ≡ form (menu_at ns cs)
    unfolding form
    all-form =
        let rest = loop_form Descriptors descriptors (drop 15 ns) ++ (text_form header ++ each event_form evs) in
        let first : List ℕ = bits_at 26 1 ns ∷ bits_at 28 16 ns % 256 ∷ bits_at 28 16 ns / 256 ∷ bits_at 44 2 ns ∷ bits_at 50 3 ns ∷ message ∷ [] in
        ap₂ (λ (x y : ℕ). NI ∷ first ++ (x ∷ y ∷ rest)) (sym (row_count descriptor_nibbles descriptor_at descriptors (drop 15 ns) ∙ e₁))
        (sym (events_count events (drop (at + 2) ns) (drop from cs) ∙ e₂))
        ∙ sym (ap form menu-found)

    all-bits :
        width (fields 0 0 zeros (menu_at ns cs))
        ≡ 4 * (15 + (loop_nibbles Descriptors descriptors (drop 15 ns) + ((descriptors + 1) % 2 + (length (in_nibbles (text_fields header)) + (2 + length (in_nibbles (each event_fields evs)))))))
    all-bits =
        let count = row_count descriptor_nibbles descriptor_at descriptors (drop 15 ns) in
        let tx = text_fields header in
        ap (λ (m : Menu). width (fields 0 0 zeros m)) menu-found
        ∙ menu_bytes_lem 0 0 zeros _
        ∙ (rw (count, descriptors_long descriptors (drop 15 ns), length-spelled tx, length-spelled (each event_fields evs))
        (omega (arith, fill-width descriptors 0, fill-bits descriptors, text_nibbled header, each-nibbled event_fields event_nibbled evs)))

    all_codes : length header.codes + length (each codes_of evs) ≡ length (strings (menu_at ns cs))
    all_codes =
        sym (ap (λ (m : Menu). length (strings m)) menu-found ∙ ap length (strings_are _) ∙ length-append header.codes (each codes_of evs))

-- the walk's parts, one behind another, are the menu in_nibbles
pub spelled-all :
    (ns cs : List ℕ) (descriptors events behind escapes message : ℕ) (d h r : Spot) (out₀ out₁ out₂ out₃ out₄ : List ℕ)
    → descriptors ≡ bits_at 54 6 ns
    → events ≡ bits_at 46 4 ns
    → behind ≡ 15 + 5 * descriptors + (descriptors + 1) % 2
    → escapes ≡ bits_at 0 8 (drop behind ns)
    → message ≡ bits_at 0 8 (drop (behind + 4 + 6 * escapes) ns)
    → out₁ ≡ sets out₀ 0 (opening_bytes ns message)
    → Went (record { at = 15; from = 0; to = 9 }) d (loop_nibbles Descriptors descriptors (drop 15 ns)) 0
    (loop_form Descriptors descriptors (drop 15 ns)) out₁ out₂
    → PutText (record { at = behind; from = 0; to = d.to }) h (text_at (drop behind ns) cs) out₂ out₃
    → PutEvents (record { at = h.at + 2; from = h.from; to = h.to }) r (events_at events (drop (h.at + 2) ns) (drop h.from cs)) out₃ out₄
    → Spelled r (menu_of ns cs) out₀ out₄
spelled-all ns cs descriptors events behind escapes message d h r out₀ out₁ out₂ out₃ out₄ e₁ e₂ e e₃ e₄ w₀ w₁ w₂ w₃ =
    let t = text_at (drop behind ns) cs in
    let from : h.from ≡ length t.codes = w₂.takes ∙ zero-add _ in
    let first : Went (record { at = 0; from = 0; to = 0 }) (record { at = 15; from = 0; to = 9 }) 15 0 (opening_bytes ns message) out₀ out₁ =
    record { passes = refl; takes = refl; fills = refl; writes = w₀ } in
    let filled : Went d (record { at = behind; from = 0; to = d.to }) ((descriptors + 1) % 2) 0 [] out₂ out₂ =
    record {
      passes = e ∙ (omega (arith, w₁.passes, descriptors_long descriptors (drop 15 ns)));
      takes = sym w₁.takes ∙ sym (add-zero d.from);
      fills = sym (add-zero d.to);
      writes = refl;
    } in
    let past : Went h (record { at = h.at + 2; from = h.from; to = h.to }) 2 0 [] out₃ out₃ =
    record { passes = refl; takes = sym (add-zero h.from); fills = sym (add-zero h.to); writes = refl } in
    let all = went_on first (went_on w₁ (went_on filled (went_on w₂ (went_on past w₃)))) in
    let bits = all-bits ns cs descriptors events behind escapes message e₁ e₂ e e₃ e₄ h.at h.from w₂.passes from in
    let codes = all_codes ns cs descriptors events behind escapes message e₁ e₂ e e₃ e₄ h.at h.from w₂.passes from in
    let bytes = all-form ns cs descriptors events behind escapes message e₁ e₂ e e₃ e₄ h.at h.from w₂.passes from in
    subst (λ (m : Menu). Spelled r m out₀ out₄) (sym (menu-at ns cs))
    (record {
      passes = omega (arith, all.passes, bits);
      takes = omega (arith, all.takes, codes);
      fills = all.fills ∙ zero-add _ ∙ ap length bytes;
      writes = all.writes ∙ ap (sets out₀ 0) bytes;
    })

-- what a in_nibbles menu takes
module _ {r : Spot} {m : Menu} {old new : List ℕ} (s : Spelled r m old new) where
  pub control-spelled : r.at / 2 ≡ control m
  control-spelled = omega (arith, s.passes, menu-whole 0 0 zeros m)

  pub size-spelled : 2 * (r.at / 2) + r.from ≡ size m
  size-spelled = ap₂ (λ (x y : ℕ). 2 * x + y) control-spelled s.takes

pub header_read : (ns cs : List ℕ) → bits_at 44 2 ns ≡ (menu_of ns cs).header_size
header_read ns cs = sym (ap (λ (m : Menu). m.header_size) (menu-at ns cs) ∙ (unfold menu_at in refl))
