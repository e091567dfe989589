-- An event of a form, and what is sent for it in the control data. Assumes nothing.
use mathlib.Core.Path.{◌≡◌, ◌∙◌, refl, sym, ap, ap₂}
use mathlib.Core.Bool.{Bool, true, false}
use mathlib.Core.List.{List, [], ◌∷◌, ◌++◌, map, map-append}
use Prim.Native.Nat.{ℕ, ◌+◌, ◌-◌, ◌*◌, ◌%◌, ◌<◌, ◌≤◌}
use native.Mathlib.Nat.{add_assoc, mod-eq_of_lt, zero-mul, zero-add}
use native.Mathlib.Omega.{arith}
use borrow.Author.Tests.{lt-ltb}
use lib.Dec.{ltb}
use lib.ListN.{length, get_or, drop, length-append}
use lib.Seq.{get_or-drop, drop-drop}
use Rattle.laws.specs.Pick.{both}
use Rattle.laws.proofs.Tests.{both_assoc, both_false}
use Rattle.laws.proofs.Countdown.{at_none, at_more}
use Rattle.octet.specs.Image.{image}
use Rattle.fields.specs.Fields.{Field, width, laid, fitting, parts, whole}
use Rattle.fields.proofs.Laid.{fitting-append, width-append, whole_lt}
use Rattle.parity.specs.Parity.{letter}
use Rattle.menu_forms.specs.Rows.{each, in_row}
use Rattle.menu_forms.specs.Menus.{Attribute, Text, Event, attribute_fields, text_fields, event_fields, codes_of, sevens, event_format}
use Rattle.menu_forms.specs.Form.{attribute_form, attribute_in, text_form, text_in, event_form, event_in}
use Rattle.menu_forms.specs.Block.{in_nibbles}
use Rattle.menu_forms.proofs.Forms.{row_count}
use Rattle.menu_forms.proofs.Spelling.{spelled-append, each-nibbled}
use Rattle.menu_forms.proofs.Nibbled.{attribute_nibbled, attributes_width, event_nibbled}
use Rattle.menu_writer.specs.declared.Tally.{Tally}
use Rattle.menu_writer.specs.declared.Loop.TheVariants.{Attributes}
use Rattle.menu_writer.specs.Internal.{loop_length, loop_fine, loop_bytes, Told}
use Rattle.menu_writer.proofs.Entries.{byte-front, low_high}
use Rattle.menu_writer.proofs.Listed.{row-length, row_fine, row-bytes, attribute_long}

-- the values before the attributes, attrs one number
heading : ℕ → ℕ → ℕ → List Field
heading link kind count = (16, link) ∷ (4, kind) ∷ (4, count) ∷ []

module _ (f : List ℕ) (at a : ℕ) (ha : a ≡ get_or f (at + 3) 0) where
  m : ℕ
  m = loop_length Attributes a (drop (at + 4) f)

  attrs : List Attribute
  attrs = in_row attribute_form attribute_in a (drop (at + 4) f)

  t : Text
  t = text_in (drop (at + 4 + m) f)

  link : ℕ
  link = whole 8 (get_or f at 0 ∷ get_or f (at + 1) 0 ∷ [])

  event-is : ◌≡◌ {A = Event} (event_in (drop at f)) (record { link = link; link_type = get_or f (at + 2) 0; attributes = attrs; text = t })
  unfolding event_in m attrs t link
  event-is =
      rw (
        byte-front at f,
        get_or-drop at f 1 0,
        get_or-drop at f 2 0,
        get_or-drop at f 3 0,
        ← ha,
        drop-drop 4 at f,
        row-length Attributes attribute_form attribute_in attribute_long a (drop (at + 4) f),
        drop-drop (4 + loop_length Attributes a (drop (at + 4) f)) at f,
        ← add_assoc,
      )

  pub event-codes : codes_of (event_in (drop at f)) ≡ (text_in (drop (at + 4 + loop_length Attributes a (drop (at + 4) f)) f)).codes
  unfolding t m
  event-codes = ap codes_of event-is

  pub event-length :
      length (event_form (event_in (drop at f)))
      ≡ 4 + loop_length Attributes a (drop (at + 4) f) + length (text_form (text_in (drop (at + 4 + loop_length Attributes a (drop (at + 4) f)) f)))
  unfolding event_form attrs t m
  event-length =
      ap (λ (e : Event). length (event_form e)) event-is
      ∙ (rw (length-append (each attribute_form attrs) (text_form t), row-length Attributes attribute_form attribute_in attribute_long a (drop (at + 4) f))
      (omega arith))

  pub event-width :
      width (event_fields (event_in (drop at f)))
      ≡ 24 + 8 * loop_length Attributes a (drop (at + 4) f) + width (text_fields (text_in (drop (at + 4 + loop_length Attributes a (drop (at + 4) f)) f)))
  unfolding event_format width attrs t m
  event-width =
      ap (λ (e : Event). width (event_fields e)) event-is
      ∙ (rw (
        width-append (each attribute_fields attrs) (text_fields t),
        attributes_width attrs,
        row-length Attributes attribute_form attribute_in attribute_long a (drop (at + 4) f),
      )
      (omega arith))

  pub event-fits :
      fitting (event_fields (event_in (drop at f)))
      ≡ both (ltb (get_or f (at + 2) 0) 16)
      (both (ltb a 16)
      (both (loop_fine Attributes a (drop (at + 4) f))
      (fitting (text_fields (text_in (drop (at + 4 + loop_length Attributes a (drop (at + 4) f)) f))))))
  unfolding event_format fitting attrs t m link
  event-fits =
      ap (λ (e : Event). fitting (event_fields e)) event-is
      ∙ (rw (
        fitting-append (each attribute_fields attrs) (text_fields t),
        row_fine Attributes attribute_form attribute_in attribute_long attribute_fields (λ (l : List ℕ). refl) a (drop (at + 4) f),
        row_count attribute_form attribute_in a (drop (at + 4) f),
        lt-ltb link 65536 (whole_lt 8 (get_or f at 0 ∷ get_or f (at + 1) 0 ∷ [])),
      ))

  -- the place behind the event, by that behind its attributes
  pub event-past :
      (aend end : ℕ) → aend ≡ at + 4 + loop_length Attributes a (drop (at + 4) f) → end ≡ aend + length (text_form (text_in (drop aend f)))
      → end ≡ at + length (event_form (event_in (drop at f)))
  event-past aend end he hx =
      let l = event-length ∙ ap (λ (z : ℕ). 4 + loop_length Attributes a (drop (at + 4) f) + length (text_form (text_in (drop z f)))) (sym he) in
      omega (arith, he, hx, l)

  five : (k c x y s : Bool) → both (both k c) (both x (both y s)) ≡ both (both k (both c (both x y))) s
  five true true true y s = refl
  five true true false y s = refl
  five true false x y s = refl
  five false c x y s = refl

  -- the event is measured
  pub event-told :
      (aend control : ℕ) (afine fine : Bool) (x : Tally)
      → aend ≡ at + 4 + loop_length Attributes a (drop (at + 4) f)
      → afine ≡ loop_fine Attributes a (drop (at + 4) f)
      → Told x aend (text_form (text_in (drop aend f))) (text_fields (text_in (drop aend f))) (text_in (drop aend f)).codes
      → control ≡ 3 + (aend - (at + 4)) + x.control
      → fine ≡ both (both (ltb (get_or f (at + 2) 0) 16) (ltb a 16)) (both afine x.fine)
      → Told (record { end = x.end; control = control; strings = x.strings; fine = fine }) at (event_form (event_in (drop at f)))
      (event_fields (event_in (drop at f))) (codes_of (event_in (drop at f)))
  event-told aend control afine fine x ha hf told hc hx =
      let at' : at + 4 + loop_length Attributes a (drop (at + 4) f) ≡ aend = sym ha in
      let l : length (event_form (event_in (drop at f))) ≡ 4 + loop_length Attributes a (drop (at + 4) f) + length (text_form (text_in (drop aend f))) =
      event-length ∙ ap (λ (z : ℕ). 4 + loop_length Attributes a (drop (at + 4) f) + length (text_form (text_in (drop z f)))) at' in
      let w : width (event_fields (event_in (drop at f))) ≡ 24 + 8 * loop_length Attributes a (drop (at + 4) f) + width (text_fields (text_in (drop aend f))) =
      event-width ∙ ap (λ (z : ℕ). 24 + 8 * loop_length Attributes a (drop (at + 4) f) + width (text_fields (text_in (drop z f)))) at' in
      let cs : codes_of (event_in (drop at f)) ≡ (text_in (drop aend f)).codes = event-codes ∙ ap (λ (z : ℕ). (text_in (drop z f)).codes) at' in
      record {
        ends = omega (arith, told.ends, l, ha);
        takes = omega (arith, told.takes, w, hc, ha);
        sends = told.sends ∙ sym (ap length cs);
        fine =
            hx
            ∙ ap (both (both (ltb (get_or f (at + 2) 0) 16) (ltb a 16))) (ap₂ (λ (p q : Bool). both p q) hf told.fine)
            ∙ five (ltb (get_or f (at + 2) 0) 16) (ltb a 16) (loop_fine Attributes a (drop (at + 4) f)) (fitting (text_fields (text_in (drop aend f)))) (sevens (text_in (drop aend f)).codes)
            ∙ sym
            (ap₂ (λ (p q : Bool). both p q)
            (event-fits
            ∙ ap (λ (z : ℕ). both (ltb (get_or f (at + 2) 0) 16) (both (ltb a 16) (both (loop_fine Attributes a (drop (at + 4) f)) (fitting (text_fields (text_in (drop z f))))))) at')
            (ap sevens cs));
      }

-- ---- event by event

pub sevens-append : (xs ys : List ℕ) → sevens (xs ++ ys) ≡ both (sevens xs) (sevens ys)
unfolding sevens
sevens-append [] ys = refl
sevens-append (x ∷ xs) ys = rw (sevens-append xs ys) (both_assoc (ltb x 128) (sevens xs) (sevens ys))

six : (x a b c d : Bool) → both (both x (both a c)) (both b d) ≡ both x (both (both a b) (both c d))
six false a b c d = refl
six true false b c d = refl
six true true b false d = sym (both_false b)
six true true b true d = refl

abbrev pub events_in : ℕ → List ℕ → List Event
events_in k l = in_row event_form event_in k l

pub events_split :
    (f : List ℕ) (at left next : ℕ) → 0 < left → next ≡ at + length (event_form (event_in (drop at f)))
    → events_in left (drop at f) ≡ event_in (drop at f) ∷ events_in (left - 1) (drop next f)
unfolding in_row
events_split f at left next some e =
    at_more (λ (k : ℕ). events_in k (drop at f)) left some ∙ (rw (drop-drop (length (event_form (event_in (drop at f)))) at f, ← e))

module _ (f : List ℕ) (at left : ℕ) (some : 0 < left) (r : Tally)
    (told : Told r at (event_form (event_in (drop at f))) (event_fields (event_in (drop at f))) (codes_of (event_in (drop at f)))) where
  split : events_in left (drop at f) ≡ event_in (drop at f) ∷ events_in (left - 1) (drop r.end f)
  split = events_split f at left r.end some told.ends

  pub ends_on : r.end + length (each event_form (events_in (left - 1) (drop r.end f))) ≡ at + length (each event_form (events_in left (drop at f)))
  ends_on =
      rw (split, length-append (event_form (event_in (drop at f))) (each event_form (events_in (left - 1) (drop r.end f)))) (omega (arith, told.ends))

  pub takes-on :
      (c : ℕ)
      → 8 * (c + r.control) + width (each event_fields (events_in (left - 1) (drop r.end f)))
      ≡ 8 * c + width (each event_fields (events_in left (drop at f)))
  takes-on c =
      rw (split, width-append (event_fields (event_in (drop at f))) (each event_fields (events_in (left - 1) (drop r.end f)))) (omega (arith, told.takes))

  pub sends-on :
      (c : ℕ)
      → c + r.strings + length (each codes_of (events_in (left - 1) (drop r.end f)))
      ≡ c + length (each codes_of (events_in left (drop at f)))
  sends-on c =
      rw (split, length-append (codes_of (event_in (drop at f))) (each codes_of (events_in (left - 1) (drop r.end f)))) (omega (arith, told.sends))

  pub all-fine-on :
      (x y : Bool) → y ≡ both x r.fine
      → both y (both (fitting (each event_fields (events_in (left - 1) (drop r.end f)))) (sevens (each codes_of (events_in (left - 1) (drop r.end f)))))
      ≡ both x (both (fitting (each event_fields (events_in left (drop at f)))) (sevens (each codes_of (events_in left (drop at f)))))
  all-fine-on x y e =
      rw (
        e,
        told.fine,
        split,
        fitting-append (event_fields (event_in (drop at f))) (each event_fields (events_in (left - 1) (drop r.end f))),
        sevens-append (codes_of (event_in (drop at f))) (each codes_of (events_in (left - 1) (drop r.end f))),
      )
      (six x (fitting (event_fields (event_in (drop at f)))) (fitting (each event_fields (events_in (left - 1) (drop r.end f))))
      (sevens (codes_of (event_in (drop at f)))) (sevens (each codes_of (events_in (left - 1) (drop r.end f)))))

pub events_none : (f : List ℕ) (at left : ℕ) → left ≤ 0 → events_in left (drop at f) ≡ []
unfolding in_row
events_none f at left h = at_none (λ (k : ℕ). events_in k (drop at f)) left h

-- ---- what is sent

module _ (f : List ℕ) (at low high kind a : ℕ) (hl : low ≡ get_or f at 0) (hh : high ≡ get_or f (at + 1) 0) (hk : kind ≡ get_or f (at + 2) 0)
    (ha : a ≡ get_or f (at + 3) 0) (ll : low < 256) (lh : high < 256) where
  attrs₂ : List Attribute
  attrs₂ = in_row attribute_form attribute_in a (drop (at + 4) f)

  t₂ : Text
  t₂ = text_in (drop (at + 4 + loop_length Attributes a (drop (at + 4) f)) f)

  heading-number : in_nibbles (heading (whole 8 (low ∷ high ∷ [])) kind a) ≡ parts 4 6 (((a % 16 * 16 + kind % 16) * 256 + high) * 256 + low)
  unfolding in_nibbles heading width laid
  heading-number =
      let l : low + 256 * high < 65536 = omega arith in
      let e : (a % 16 * 16 + kind % 16) * 65536 + (low + 256 * high) ≡ ((a % 16 * 16 + kind % 16) * 256 + high) * 256 + low = omega arith in
      rw (low_high low high ll lh, zero-mul, zero-add, mod-eq_of_lt l) (ap (parts 4 6) e)

  is : event_fields (event_in (drop at f)) ≡ heading (whole 8 (low ∷ high ∷ [])) kind a ++ (each attribute_fields attrs₂ ++ text_fields t₂)
  unfolding event_format heading attrs₂ t₂ t attrs m link
  is = ap event_fields (event-is f at a ha) ∙ (rw (row_count attribute_form attribute_in a (drop (at + 4) f), ← hl, ← hh, ← hk))

  pub event-sent :
      map image (in_nibbles (event_fields (event_in (drop at f))))
      ≡ map image (parts 4 6 (((a % 16 * 16 + kind % 16) * 256 + high) * 256 + low))
      ++ (loop_bytes Attributes a (drop (at + 4) f)
      ++ map image (in_nibbles (text_fields (text_in (drop (at + 4 + loop_length Attributes a (drop (at + 4) f)) f)))))
  unfolding t₂ attrs₂
  event-sent =
      let h = heading (whole 8 (low ∷ high ∷ [])) kind a in
      let rest : List Field = each attribute_fields attrs₂ ++ text_fields t₂ in
      let nibbled : width h % 4 ≡ 0 = unfold heading width in refl in
      ap (λ (fs : List Field). map image (in_nibbles fs)) is
      ∙ ap (map image)
      (spelled-append h rest nibbled
      ∙ ap₂ (λ (x y : List ℕ). x ++ y) heading-number (spelled-append (each attribute_fields attrs₂) (text_fields t₂) (each-nibbled attribute_fields attribute_nibbled attrs₂)))
      ∙ map-append image (parts 4 6 (((a % 16 * 16 + kind % 16) * 256 + high) * 256 + low)) (in_nibbles (each attribute_fields attrs₂) ++ in_nibbles (text_fields t₂))
      ∙ ap (λ (l : List ℕ). map image (parts 4 6 (((a % 16 * 16 + kind % 16) * 256 + high) * 256 + low)) ++ l)
      (map-append image (in_nibbles (each attribute_fields attrs₂)) (in_nibbles (text_fields t₂))
      ∙ ap (λ (l : List ℕ). l ++ map image (in_nibbles (text_fields t₂)))
      (row-bytes Attributes attribute_form attribute_in attribute_long attribute_fields attribute_nibbled (λ (l : List ℕ). refl) a (drop (at + 4) f)))

-- one event's control data, then that of the others
pub sent-split :
    (e : Event) (es : List Event)
    → map image (in_nibbles (each event_fields (e ∷ es))) ≡ map image (in_nibbles (event_fields e)) ++ map image (in_nibbles (each event_fields es))
sent-split e es =
    ap (map image) (spelled-append (event_fields e) (each event_fields es) (event_nibbled e))
    ∙ map-append image (in_nibbles (event_fields e)) (in_nibbles (each event_fields es))

pub codes-split : (e : Event) (es : List Event) → map letter (each codes_of (e ∷ es)) ≡ map letter (codes_of e) ++ map letter (each codes_of es)
codes-split e es = map-append letter (codes_of e) (each codes_of es)
