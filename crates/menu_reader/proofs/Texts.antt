-- Strings, events and the menu as the walk finds them, part by part. Assumes nothing.
use mathlib.Core.Path.{◌≡◌, ◌∙◌, sym, ap, ap₂}
use mathlib.Core.List.{List, [], ◌∷◌, ◌++◌}
use Prim.Native.Nat.{ℕ, ◌+◌, ◌-◌, ◌*◌, ◌/◌, ◌%◌, ◌≤◌, ◌<◌}
use native.Mathlib.Nat.{add_assoc}
use native.Mathlib.Omega.{arith}
use lib.ListN.{length, drop, length-append}
use lib.Seq.{drop-drop}
use Rattle.laws.proofs.Countdown.{at_none, at_more}
use Rattle.fields.specs.Fields.{Field, width}
use Rattle.fields.proofs.Laid.{width-append}
use Rattle.menu_forms.specs.Rows.{each, in_row}
use Rattle.menu_forms.specs.Menus.{Escape, Text, Attribute, Event, escape_fields, attribute_fields, text_fields, event_fields, codes_of, event_format, text_format}
use Rattle.menu_forms.specs.Form.{escape_form, attribute_form, text_form, event_form, codes_in}
use Rattle.menu_forms.specs.Block.{in_nibbles}
use Rattle.menu_forms.proofs.Spelling.{length-spelled, spelled-append, each-spelled, each-nibbled}
use Rattle.codecs.proofs.Codes.{codes-count}
use Rattle.menu_forms.proofs.Forms.{row_count}
use Rattle.menu_forms.proofs.Nibbled.{attribute_nibbled, text_nibbled, event_nibbled, escapes_width}
use Rattle.menu_reader.specs.Internal.{bits_at, escape_at, attribute_at, escape_nibbles, attribute_nibbles, text_at, event_at, events_at}
use Rattle.menu_reader.specs.declared.Loop.TheVariants.{Escapes, Attributes}
use Rattle.menu_reader.specs.Internal.{loop_nibbles, loop_form}
use Rattle.menu_reader.proofs.Rows.{escapes_long}

-- ---- a string

text-width : (t : Text) → width (text_fields t) ≡ 16 + 24 * length t.escapes
unfolding text_format width
text-width t =
    ap (λ (x : ℕ). 8 + x) (width-append (each escape_fields t.escapes) ((8, length t.codes) ∷ []))
    ∙ (rw (escapes_width t.escapes) (omega arith))

pub text-long : (t : Text) → length (in_nibbles (text_fields t)) ≡ 4 + 6 * length t.escapes
text-long t =
    let e : (16 + 24 * length t.escapes) / 4 ≡ 4 + 6 * length t.escapes = omega arith in
    length-spelled (text_fields t) ∙ ap (λ (x : ℕ). x / 4) (text-width t) ∙ e

module _ (ns cs : List ℕ) (at escapes : ℕ) (e₁ : escapes ≡ bits_at 0 8 (drop at ns)) where
  es : List Escape
  es = in_row escape_nibbles escape_at escapes (drop (at + 2) ns)

  escapes-found : in_row escape_nibbles escape_at (bits_at 0 8 (drop at ns)) (drop 2 (drop at ns)) ≡ es
  unfolding es
  escapes-found = ap₂ (in_row escape_nibbles escape_at) (sym e₁) (drop-drop 2 at ns)

  -- how many it has
  pub escapes-count : length (text_at (drop at ns) cs).escapes ≡ escapes
  unfolding text_at
  escapes-count = row_count escape_nibbles escape_at (bits_at 0 8 (drop at ns)) (drop 2 (drop at ns)) ∙ sym e₁

  module _ (codes : ℕ) (e₂ : codes ≡ bits_at 0 8 (drop (at + 2 + 6 * escapes) ns)) where
    text-found : text_at (drop at ns) cs ≡ record { escapes = es; codes = codes_in codes cs }
    unfolding text_at es
    text-found =
        let long : at + (2 + length (each escape_nibbles es)) ≡ at + 2 + 6 * escapes =
        ap (λ (x : ℕ). at + (2 + x)) (escapes_long escapes (drop (at + 2) ns)) ∙ (omega arith) in
        rw (escapes-found, drop-drop (2 + length (each escape_nibbles es)) at ns, long, ← e₂)

    pub text_codes : length (text_at (drop at ns) cs).codes ≡ codes
    text_codes = ap (λ (t : Text). length t.codes) text-found ∙ codes-count codes cs

    pub text-form :
        (escapes ∷ codes ∷ []) ++ (loop_form Escapes escapes (drop (at + 2) ns) ++ codes_in codes cs) ≡ text_form (text_at (drop at ns) cs)
    unfolding text_form es
    text-form =
        sym
        (ap text_form text-found
        ∙ ap₂ (λ (x y : ℕ). x ∷ y ∷ each escape_form es ++ codes_in codes cs) (row_count escape_nibbles escape_at escapes (drop (at + 2) ns)) (codes-count codes cs))

    pub text-nibbles : 2 + (loop_nibbles Escapes escapes (drop (at + 2) ns) + 2) ≡ length (in_nibbles (text_fields (text_at (drop at ns) cs)))
    text-nibbles =
        ap (λ (x : ℕ). 2 + (x + 2)) (escapes_long escapes (drop (at + 2) ns)) ∙ (omega arith)
        ∙ ap (λ (x : ℕ). 4 + 6 * x) (sym escapes-count)
        ∙ sym (text-long (text_at (drop at ns) cs))

-- ---- an event

event_long : (e : Event) → length (in_nibbles (event_fields e)) ≡ 6 + (length (each attribute_nibbles e.attributes) + length (in_nibbles (text_fields e.text)))
unfolding event_format width
event_long e =
    let xs : List Field = each attribute_fields e.attributes in
    let ts = text_fields e.text in
    let row : length (each attribute_nibbles e.attributes) ≡ width xs / 4 =
    ap length (sym (each-spelled attribute_fields attribute_nibbled e.attributes)) ∙ length-spelled xs in
    let w = width-append xs ts in
    length-spelled (event_fields e)
    ∙ (rw (w, row, length-spelled ts)
    (omega (arith, each-nibbled attribute_fields attribute_nibbled e.attributes, text_nibbled e.text)))

module _ (ns cs : List ℕ) (at link kind count behind : ℕ) (e₁ : link ≡ bits_at 0 16 (drop at ns)) (e₂ : kind ≡ bits_at 16 4 (drop at ns))
    (e₃ : count ≡ bits_at 20 4 (drop at ns)) (e₄ : behind ≡ at + 6 + loop_nibbles Attributes count (drop (at + 6) ns)) where
  xs : List Attribute
  xs = in_row attribute_nibbles attribute_at count (drop (at + 6) ns)

  event-found : event_at (drop at ns) cs ≡ record { link = link; link_type = kind; attributes = xs; text = text_at (drop behind ns) cs }
  unfolding event_at xs
  event-found =
      let row : in_row attribute_nibbles attribute_at (bits_at 20 4 (drop at ns)) (drop 6 (drop at ns)) ≡ xs =
      ap₂ (in_row attribute_nibbles attribute_at) (sym e₃) (drop-drop 6 at ns) in
      let long : at + (6 + length (each attribute_nibbles xs)) ≡ behind = sym (add_assoc at 6 _) ∙ sym e₄ in
      rw (row, drop-drop (6 + length (each attribute_nibbles xs)) at ns, long, ← e₁, ← e₂)

  pub event-codes : length (text_at (drop behind ns) cs).codes ≡ length (codes_of (event_at (drop at ns) cs))
  event-codes = sym (ap (λ (e : Event). length (codes_of e)) event-found)

  pub event-form :
      (link % 256 ∷ link / 256 ∷ kind ∷ count ∷ []) ++ (loop_form Attributes count (drop (at + 6) ns) ++ text_form (text_at (drop behind ns) cs))
      ≡ event_form (event_at (drop at ns) cs)
  unfolding event_form xs
  event-form =
      sym
      (ap event_form event-found
      ∙ ap (λ (x : ℕ). link % 256 ∷ link / 256 ∷ kind ∷ x ∷ each attribute_form xs ++ text_form (text_at (drop behind ns) cs))
      (row_count attribute_nibbles attribute_at count (drop (at + 6) ns)))

  pub event-nibbles :
      6 + (loop_nibbles Attributes count (drop (at + 6) ns) + length (in_nibbles (text_fields (text_at (drop behind ns) cs))))
      ≡ length (in_nibbles (event_fields (event_at (drop at ns) cs)))
  unfolding xs
  event-nibbles = sym (ap (λ (e : Event). length (in_nibbles (event_fields e))) event-found ∙ event_long _)

-- ---- events in a row

module _ (ns cs : List ℕ) (at from left : ℕ) where
  module _ {at' from' : ℕ} (some : 0 < left) (e₁ : at' ≡ at + length (in_nibbles (event_fields (event_at (drop at ns) (drop from cs)))))
      (e₂ : from' ≡ from + length (codes_of (event_at (drop at ns) (drop from cs)))) where
    here : Event
    here = event_at (drop at ns) (drop from cs)

    others : List Event
    others = events_at (left - 1) (drop at' ns) (drop from' cs)

    events_split : events_at left (drop at ns) (drop from cs) ≡ here ∷ others
    unfolding events_at here others
    events_split =
        at_more (λ (k : ℕ). events_at k (drop at ns) (drop from cs)) left some
        ∙ ap₂ (λ (x y : List ℕ). here ∷ events_at (left - 1) x y)
        (drop-drop (length (in_nibbles (event_fields here))) at ns ∙ ap (λ (k : ℕ). drop k ns) (sym e₁))
        (drop-drop (length (codes_of here)) from cs ∙ ap (λ (k : ℕ). drop k cs) (sym e₂))

    pub events-nibbles :
        length (in_nibbles (each event_fields (events_at left (drop at ns) (drop from cs))))
        ≡ length (in_nibbles (event_fields (event_at (drop at ns) (drop from cs))))
        + length (in_nibbles (each event_fields (events_at (left - 1) (drop at' ns) (drop from' cs))))
    unfolding here others
    events-nibbles =
        ap (λ (l : List Event). length (in_nibbles (each event_fields l))) events_split
        ∙ ap length (spelled-append (event_fields here) (each event_fields others) (event_nibbled here))
        ∙ length-append (in_nibbles (event_fields here)) (in_nibbles (each event_fields others))

    pub events-codes :
        length (each codes_of (events_at left (drop at ns) (drop from cs)))
        ≡ length (codes_of (event_at (drop at ns) (drop from cs)))
        + length (each codes_of (events_at (left - 1) (drop at' ns) (drop from' cs)))
    unfolding here others
    events-codes =
        ap (λ (l : List Event). length (each codes_of l)) events_split ∙ length-append (codes_of here) (each codes_of others)

    pub events-form :
        each event_form (events_at left (drop at ns) (drop from cs))
        ≡ event_form (event_at (drop at ns) (drop from cs)) ++ each event_form (events_at (left - 1) (drop at' ns) (drop from' cs))
    unfolding here others
    events-form = ap (each event_form) events_split

  pub events_none : left ≤ 0 → events_at left (drop at ns) (drop from cs) ≡ []
  unfolding events_at
  events_none none = at_none (λ (k : ℕ). events_at k (drop at ns) (drop from cs)) left none
