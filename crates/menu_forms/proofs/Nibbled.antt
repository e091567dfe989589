-- Each part of a menu's control data is whole nibbles, and how many. Assumes nothing.
use mathlib.Core.Path.{◌≡◌, ◌∙◌, refl, ap}
use mathlib.Core.Bool.{Bool, true, false}
use mathlib.Core.List.{List, [], ◌∷◌, ◌++◌}
use Prim.Native.Nat.{ℕ, zero, suc, ◌+◌, ◌*◌, ◌/◌, ◌%◌, ◌<◌, ◌≤◌}
use native.Mathlib.Omega.{arith}
use borrow.Author.Tests.{lt-ltb, eqb-true, eqb-false}
use lib.Dec.{eqb}
use lib.ListN.{length, length-append}
use Rattle.laws.specs.Pick.{pick}
use Rattle.fields.specs.Fields.{Field, width, fitting}
use Rattle.fields.proofs.Laid.{width-append}
use Rattle.menu_forms.specs.Rows.{each}
use Rattle.menu_forms.specs.Menus.{Descriptor, Escape, Text, Attribute, Event, Menu, Spare, zeros, size, control as control_size}
use Rattle.menu_forms.specs.Menus.{descriptor_fields, escape_fields, attribute_fields, text_fields, event_fields, fill_fields, fields, event_format, fill_up, text_format}
use Rattle.menu_forms.specs.Form.{attribute_form}
use Rattle.menu_forms.proofs.Forms.{high_length}

pub attribute_nibbled : (a : Attribute) → width (attribute_fields a) % 4 ≡ 0
unfolding width
attribute_nibbled a = omega arith

pub escape_nibbled : (e : Escape) → width (escape_fields e) % 4 ≡ 0
unfolding width
escape_nibbled e = refl

pub descriptor_nibbled : (d : Descriptor) → width (descriptor_fields d) % 4 ≡ 0
unfolding width
descriptor_nibbled d = refl

pub escapes_width : (es : List Escape) → width (each escape_fields es) ≡ 24 * length es
unfolding width
escapes_width [] = refl
escapes_width (e ∷ es) = width-append (escape_fields e) (each escape_fields es) ∙ (rw (escapes_width es) (omega arith))

pub text_nibbled : (t : Text) → width (text_fields t) % 4 ≡ 0
unfolding text_format width
text_nibbled t =
    let e = width-append (each escape_fields t.escapes) ((8, length t.codes) ∷ []) in
    let w = escapes_width t.escapes in
    rw (e, w) (omega arith)

-- an attribute takes as many bytes of control data as of a form
pub attributes_width : (xs : List Attribute) → width (each attribute_fields xs) ≡ 8 * length (each attribute_form xs)
unfolding width
attributes_width [] = refl
attributes_width (a ∷ xs) =
    width-append (attribute_fields a) (each attribute_fields xs)
    ∙ (rw (attributes_width xs, length-append (attribute_form a) (each attribute_form xs), high_length) (omega arith))

pub event_nibbled : (e : Event) → width (event_fields e) % 4 ≡ 0
unfolding event_format width
event_nibbled e =
    let w = width-append (each attribute_fields e.attributes) (text_fields e.text) in
    let a = attributes_width e.attributes in
    let t = text_nibbled e.text in
    rw (w, a) (omega arith)

-- fill_up_2 is one nibble or none, whatever its value
pub fill-same : (d x y : ℕ) → width (fill_fields d x) ≡ width (fill_fields d y)
unfolding fill_up width
fill-same d x y = go (eqb (d % 2) 0)
  where
    go : (b : Bool) → width (pick b ((4, x) ∷ []) []) ≡ width (pick b ((4, y) ∷ []) [])
    go true = refl
    go false = refl

pub fill_nibbled : (d filling : ℕ) → width (fill_fields d filling) % 4 ≡ 0
unfolding fill_up width
fill_nibbled d filling = go (eqb (d % 2) 0)
  where
    go : (b : Bool) → width (pick b ((4, filling) ∷ []) []) % 4 ≡ 0
    go true = refl
    go false = refl

-- and a nibble fits there
pub fill-fits : (d filling : ℕ) → filling < 16 → fitting (fill_fields d filling) ≡ true
unfolding fill_up fitting
fill-fits d filling h = go (eqb (d % 2) 0)
  where
    go : (b : Bool) → fitting (pick b ((4, filling) ∷ []) []) ≡ true
    go true = rw (lt-ltb filling 16 h)
    go false = refl

pub descriptors_width : (ds : List Descriptor) → width (each descriptor_fields ds) ≡ 20 * length ds
unfolding width
descriptors_width [] = refl
descriptors_width (d ∷ ds) = width-append (descriptor_fields d) (each descriptor_fields ds) ∙ (rw (descriptors_width ds) (omega arith))

one : (r : ℕ) → r < 2 → (r ≡ 0 → ⊥) → r ≡ 1
one zero l ne = absurd (ne refl)
one (suc zero) l ne = refl
one (suc (suc r)) l ne = absurd (omega arith)

doubled : (k : ℕ) → 5 * (2 * k) / 2 ≡ 5 * k
doubled k = omega arith

halved : (k : ℕ) → 5 * (2 * k + 1) / 2 ≡ 5 * k + 2
halved k = omega arith

-- fill_up_2 ends the descriptors on a whole byte
pub fill-width : (d filling : ℕ) → 20 * d + width (fill_fields d filling) ≡ 4 + 8 * (5 * d / 2)
unfolding fill_up width
fill-width d filling = go (eqb (d % 2) 0) refl
  where
    go : (b : Bool) → eqb (d % 2) 0 ≡ b → 20 * d + width (pick b ((4, filling) ∷ []) []) ≡ 4 + 8 * (5 * d / 2)
    go true e =
        let even : d ≡ 2 * (d / 2) = omega (arith, eqb-true (d % 2) 0 e) in
        let half : 5 * d / 2 ≡ 5 * (d / 2) = ap (λ (x : ℕ). 5 * x / 2) even ∙ doubled (d / 2) in
        omega (arith, even, half)
    go false e =
        let odd : d ≡ 2 * (d / 2) + 1 = omega (arith, one (d % 2) (omega arith) (eqb-false (d % 2) 0 e)) in
        let half : 5 * d / 2 ≡ 5 * (d / 2) + 2 = ap (λ (x : ℕ). 5 * x / 2) odd ∙ halved (d / 2) in
        omega (arith, odd, half)

-- all of it is whole bytes, as many whatever the checksum and the spare bits are
pub menu_bytes_lem :
    (sum control : ℕ) (spare : Spare) (m : Menu)
    → width (fields sum control spare m) ≡ 8 * (9 + 5 * length m.descriptors / 2) + width (text_fields m.header) + width (each event_fields m.events)
unfolding fields width
menu_bytes_lem sum control spare m =
    let ds : List Field = each descriptor_fields m.descriptors in
    let fl = fill_fields (length m.descriptors) spare.second in
    let tx = text_fields m.header in
    let ev : List Field = each event_fields m.events in
    rw (width-append ds (fl ++ (tx ++ (8, m.message) ∷ ev)), width-append fl (tx ++ (8, m.message) ∷ ev), width-append tx ((8, m.message) ∷ ev))
    (omega (arith, descriptors_width m.descriptors, fill-width (length m.descriptors) spare.second))

-- and ends on a byte
pub text_bytes_lem : (t : Text) → width (text_fields t) % 8 ≡ 0
unfolding text_format width
text_bytes_lem t =
    let e = width-append (each escape_fields t.escapes) ((8, length t.codes) ∷ []) in
    rw (e, escapes_width t.escapes) (omega arith)

pub events_bytes : (es : List Event) → width (each event_fields es) % 8 ≡ 0
unfolding event_format width
events_bytes [] = refl
events_bytes (e ∷ es) =
    let w = width-append (event_fields e) (each event_fields es) in
    let v = width-append (each attribute_fields e.attributes) (text_fields e.text) in
    rw (w, v) (omega (arith, attributes_width e.attributes, text_bytes_lem e.text, events_bytes es))

-- so control_block_size is all of it
pub menu-whole : (sum control : ℕ) (spare : Spare) (m : Menu) → width (fields sum control spare m) ≡ 8 * control_size m
menu-whole sum control spare m =
    omega (arith, menu_bytes_lem sum control spare m, menu_bytes_lem 0 0 zeros m, text_bytes_lem m.header, events_bytes m.events)

-- and a block within its 2,047 bytes has at most 8,184 control bits
pub bits_most : (m : Menu) → size m ≤ 2047 → width (fields 0 0 zeros m) ≤ 8184
bits_most m h = omega (arith, menu-whole 0 0 zeros m)
