-- A form as a whole: its menu by its parts, and what it comes to. Assumes nothing.
use mathlib.Core.Path.{◌≡◌, ◌∙◌, refl, sym, ap, ap₂}
use mathlib.Core.Bool.{Bool, true, false}
use mathlib.Core.List.{List, [], ◌∷◌, ◌++◌, map, map-append}
use Prim.Native.Nat.{ℕ, ◌+◌, ◌*◌, ◌/◌, ◌%◌, ◌<◌}
use native.Mathlib.Nat.{mod-eq_of_lt}
use native.Mathlib.Omega.{arith}
use borrow.Author.Tests.{lt-ltb, ltb-true, eq-eqb, ne_eqb}
use lib.Dec.{ltb}
use lib.ListN.{length, get_or, drop, length-append, length-map}
use lib.Seq.{drop-drop}
use Rattle.laws.specs.Pick.{both}
use Rattle.laws.proofs.Tests.{both_false}
use Rattle.octet.specs.Image.{image}
use Rattle.fields.specs.Fields.{Field, width, laid, fitting, parts, whole}
use Rattle.parity.specs.Parity.{letter}
use Rattle.fields.proofs.Laid.{fitting-append, width-append, whole_lt}
use Rattle.menu_forms.specs.Rows.{each, in_row}
use Rattle.menu_forms.proofs.Formats.{strings_are}
use Rattle.menu_forms.specs.Menus.{Descriptor, Menu, zeros, descriptor_fields, fill_fields, opening_fields, text_fields, event_fields, fields, strings, codes_of, sevens, fill_up}
use Rattle.menu_forms.specs.Form.{descriptor_form, descriptor_in, text_form, text_in, event_form, event_in, form, menu_in}
use Rattle.menu_forms.specs.Block.{in_nibbles}
use Rattle.menu_forms.proofs.Forms.{row_count}
use Rattle.menu_forms.proofs.Spelling.{spelled-append, spelled-one, spelled-first, each-nibbled, length-spelled}
use Rattle.menu_forms.proofs.Nibbled.{descriptor_nibbled, text_nibbled, fill_nibbled, descriptors_width, fill-width, fill-fits}
use Rattle.menu_writer.specs.declared.Tally.{Tally}
use Rattle.menu_writer.specs.declared.Loop.TheVariants.{Descriptors}
use Rattle.menu_writer.specs.Internal.{loop_length, loop_fine, loop_bytes, Told, Whole, opening_fine}
use Rattle.menu_writer.proofs.Entries.{low_high}
use Rattle.menu_writer.proofs.Listed.{row-length, row_fine, row-bytes}
use Rattle.menu_writer.proofs.Events.{events_in, sevens-append}

-- what is sent of fill_up_2: a nibble where the number is even, else nothing
pub even_fill : (d : ℕ) → d % 2 ≡ 0 → map image (in_nibbles (fill_fields d 0)) ≡ map image (parts 4 1 0)
unfolding fill_up
even_fill d h = rw (eq-eqb (d % 2) 0 h) (ap (map image) (spelled-one 4 1 0 refl))

pub odd-fill : (d : ℕ) → (d % 2 ≡ 0 → ⊥) → map image (in_nibbles (fill_fields d 0)) ≡ []
unfolding fill_up in_nibbles width parts
odd-fill d h = rw (ne_eqb (d % 2) 0 h)

order :
    (c h3 h4 n m d g x h s e t : Bool) → (h3 ≡ true → h4 ≡ true)
    → both (both (both h3 m) (both (both d n) (both c g))) (both x (both (both h s) (both e t)))
    ≡ both (both (both c (both h4 (both n (both m d)))) (both x (both h (both g e)))) (both h3 (both s t))
order false h3 h4 n m d g x h s e t i = rw (both_false (both d n), both_false (both h3 m))
order true false h4 n m d g x h s e t i = sym (both_false (both (both h4 (both n (both m d))) (both x (both h (both g e)))))
order true true h4 n m d g x h s e t i = rw (i refl) (rest n m d g x h s e t)
  where
    rest :
        (n m d g x h s e t : Bool)
        → both (both m (both (both d n) g)) (both x (both (both h s) (both e t)))
        ≡ both (both (both n (both m d)) (both x (both h (both g e)))) (both s t)
    rest false false d g x h s e t = refl
    rest false true false g x h s e t = refl
    rest false true true g x h s e t = refl
    rest true false d g x h s e t = refl
    rest true true false g x h s e t = refl
    rest true true true false false h s e t = refl
    rest true true true false true false s e t = refl
    rest true true true false true true s e t = refl
    rest true true true true false h s e t = refl
    rest true true true true true false s e t = refl
    rest true true true true true true false e t = sym (both_false e)
    rest true true true true true true true e t = refl

seven : (c h n m d r : Bool) → both c (both h (both n (both m (both d r)))) ≡ both (both c (both h (both n (both m d)))) r
seven false h n m d r = refl
seven true false n m d r = refl
seven true true false m d r = refl
seven true true true false d r = refl
seven true true true true d r = refl

module _ (f : List ℕ) (d n b h : ℕ) (hd : d ≡ get_or f 7 0) (hn : n ≡ get_or f 8 0) (hb : b ≡ 9 + loop_length Descriptors d (drop 9 f))
    (hh : h ≡ b + length (text_form (text_in (drop b f)))) where
  abbrev pub ds : List Descriptor
  ds = in_row descriptor_form descriptor_in d (drop 9 f)

  abbrev pub the-menu : Menu
  the-menu =
      record {
        copyright = get_or f 1 0;
        block = whole 8 (get_or f 2 0 ∷ get_or f 3 0 ∷ []);
        header_size = get_or f 4 0;
        message_size = get_or f 5 0;
        message = get_or f 6 0;
        descriptors = ds;
        header = text_in (drop b f);
        events = events_in n (drop h f);
      }

  pub menu-is : menu_in f ≡ the-menu
  unfolding menu_in
  menu-is =
      rw (
        ← hd,
        ← hn,
        row-length Descriptors descriptor_form descriptor_in (λ (l : List ℕ). refl) d (drop 9 f),
        ← hb,
        drop-drop (length (text_form (text_in (drop b f)))) b f,
        ← hh,
      )

  pub form-length : length (form (menu_in f)) ≡ h + length (each event_form (events_in n (drop h f)))
  unfolding form
  form-length =
      ap (λ (m : Menu). length (form m)) menu-is
      ∙ (rw (
        length-append (each descriptor_form ds) (text_form (text_in (drop b f)) ++ each event_form (events_in n (drop h f))),
        length-append (text_form (text_in (drop b f))) (each event_form (events_in n (drop h f))),
        row-length Descriptors descriptor_form descriptor_in (λ (l : List ℕ). refl) d (drop 9 f),
      )
      (omega (arith, hb, hh)))

  pub fields-width :
      width (fields 0 0 zeros (menu_in f))
      ≡ 8 * (9 + 5 * d / 2) + width (text_fields (text_in (drop b f))) + width (each event_fields (events_in n (drop h f)))
  unfolding fields width
  fields-width =
      ap (λ (m : Menu). width (fields 0 0 zeros m)) menu-is
      ∙ (rw (
        width-append (each descriptor_fields ds) (fill_fields (length ds) 0 ++ (text_fields (text_in (drop b f)) ++ (8, get_or f 6 0) ∷ each event_fields (events_in n (drop h f)))),
        width-append (fill_fields (length ds) 0) (text_fields (text_in (drop b f)) ++ (8, get_or f 6 0) ∷ each event_fields (events_in n (drop h f))),
        width-append (text_fields (text_in (drop b f))) ((8, get_or f 6 0) ∷ each event_fields (events_in n (drop h f))),
        descriptors_width ds,
        row_count descriptor_form descriptor_in d (drop 9 f),
      )
      (omega (arith, fill-width d 0)))

  pub strings-in : strings (menu_in f) ≡ (text_in (drop b f)).codes ++ each codes_of (events_in n (drop h f))
  strings-in = ap strings menu-is ∙ strings_are _

  fields_fit :
      fitting (fields 0 0 zeros (menu_in f))
      ≡ both (both (ltb (get_or f 1 0) 2) (both (ltb (get_or f 4 0) 4) (both (ltb n 16) (both (ltb (get_or f 5 0) 8) (ltb d 64)))))
      (both (loop_fine Descriptors d (drop 9 f))
      (both (fitting (text_fields (text_in (drop b f)))) (both (ltb (get_or f 6 0) 256) (fitting (each event_fields (events_in n (drop h f)))))))
  unfolding fields fitting
  fields_fit =
      let hdr : List Field = text_fields (text_in (drop b f)) in
      let ev : List Field = each event_fields (events_in n (drop h f)) in
      ap (λ (m : Menu). fitting (fields 0 0 zeros m)) menu-is
      ∙ (rw (
        fitting-append (each descriptor_fields ds) (fill_fields (length ds) 0 ++ (hdr ++ (8, get_or f 6 0) ∷ ev)),
        fitting-append (fill_fields (length ds) 0) (hdr ++ (8, get_or f 6 0) ∷ ev),
        fill-fits (length ds) 0 (omega arith),
        fitting-append hdr ((8, get_or f 6 0) ∷ ev),
        row_fine Descriptors descriptor_form descriptor_in (λ (l : List ℕ). refl) descriptor_fields (λ (l : List ℕ). refl) d (drop 9 f),
        row_count descriptor_form descriptor_in d (drop 9 f),
        row_count event_form event_in n (drop h f),
        lt-ltb (whole 8 (get_or f 2 0 ∷ get_or f 3 0 ∷ [])) 65536 (whole_lt 8 (get_or f 2 0 ∷ get_or f 3 0 ∷ [])),
      )
      (seven (ltb (get_or f 1 0) 2) (ltb (get_or f 4 0) 4) (ltb n 16) (ltb (get_or f 5 0) 8) (ltb d 64) _))

  pub whole-told :
      (dfine fine : Bool) (control strings' : ℕ) (x y : Tally)
      → dfine ≡ loop_fine Descriptors d (drop 9 f)
      → Told x b (text_form (text_in (drop b f))) (text_fields (text_in (drop b f))) (text_in (drop b f)).codes
      → Told y h (each event_form (events_in n (drop h f))) (each event_fields (events_in n (drop h f))) (each codes_of (events_in n (drop h f)))
      → fine ≡ both (opening_fine f) (both dfine (both x.fine y.fine))
      → control ≡ 9 + 5 * d / 2 + x.control + y.control
      → strings' ≡ x.strings + y.strings
      → Whole (record { end = y.end; control = control; strings = strings'; fine = fine }) f
  whole-told dfine fine control strings' x y hdf tx ty hf hc hs =
      record {
        ends = ty.ends ∙ sym form-length;
        takes = omega (arith, tx.takes, ty.takes, fields-width, hc);
        sends = omega (arith, hs, tx.sends, ty.sends, ap length strings-in, length-append (text_in (drop b f)).codes (each codes_of (events_in n (drop h f))));
        fine =
            hf
            ∙ ap₂ (λ (p q : Bool). both p q)
            (ap₂ (λ (p q : ℕ). both (both (ltb (get_or f 4 0) 3) (ltb (get_or f 5 0) 8)) (both (both (ltb p 64) (ltb q 16)) (both (ltb (get_or f 1 0) 2) (ltb (get_or f 6 0) 256)))) (sym hd) (sym hn))
            (ap₂ (λ (p q : Bool). both p q) hdf (ap₂ (λ (p q : Bool). both p q) tx.fine ty.fine))
            ∙ order (ltb (get_or f 1 0) 2) (ltb (get_or f 4 0) 3) (ltb (get_or f 4 0) 4) (ltb n 16) (ltb (get_or f 5 0) 8) (ltb d 64) (ltb (get_or f 6 0) 256)
            (loop_fine Descriptors d (drop 9 f)) (fitting (text_fields (text_in (drop b f)))) (sevens (text_in (drop b f)).codes)
            (fitting (each event_fields (events_in n (drop h f)))) (sevens (each codes_of (events_in n (drop h f))))
            (λ e. lt-ltb (get_or f 4 0) 4 (omega (arith, ltb-true (get_or f 4 0) 3 e)))
            ∙ sym
            (ap₂ (λ (p q : Bool). both p q) fields_fit
            (ap₂ (λ (p q : Bool). both p q) (ap (λ (m : Menu). ltb m.header_size 3) menu-is)
            (ap sevens strings-in ∙ sevens-append (text_in (drop b f)).codes (each codes_of (events_in n (drop h f))))));
      }

  -- ---- what is sent

  abbrev first_fields : ℕ → List Field
  first_fields c = (8, 0) ∷ (10, c) ∷ (6, 3) ∷ (2, 0) ∷ (1, get_or f 1 0) ∷ (1, 0) ∷ []

  abbrev second_fields : List Field
  second_fields =
      (16, whole 8 (get_or f 2 0 ∷ get_or f 3 0 ∷ [])) ∷ (2, get_or f 4 0) ∷ (4, n) ∷ (3, get_or f 5 0) ∷ (1, 0) ∷ (6, d) ∷ []

  first-number : (c : ℕ) → in_nibbles (first_fields c) ≡ parts 4 7 (((get_or f 1 0 % 2 * 256 + 3) * 1024 + c % 1024) * 256)
  unfolding in_nibbles width laid
  first-number c = ap (parts 4 7) (omega arith)

  second-number :
      get_or f 2 0 < 256 → get_or f 3 0 < 256
      → in_nibbles second_fields
      ≡ parts 4 8 ((((d % 64 * 16 + get_or f 5 0 % 8) * 16 + n % 16) * 4 + get_or f 4 0 % 4) * 65536 + (get_or f 2 0 + 256 * get_or f 3 0))
  unfolding in_nibbles width laid
  second-number l2 l3 =
      let l : get_or f 2 0 + 256 * get_or f 3 0 < 65536 = omega arith in
      rw (low_high (get_or f 2 0) (get_or f 3 0) l2 l3, mod-eq_of_lt l) (ap (parts 4 8) (omega arith))

  opening-is : (c : ℕ) → opening_fields 0 c zeros (menu_in f) ≡ first_fields c ++ second_fields
  opening-is c =
      ap (λ (m : Menu). opening_fields 0 c zeros m) menu-is
      ∙ (rw (row_count descriptor_form descriptor_in d (drop 9 f), row_count event_form event_in n (drop h f)))

  pub opening-sent :
      (c : ℕ) → get_or f 2 0 < 256 → get_or f 3 0 < 256
      → map image (in_nibbles (opening_fields 0 c zeros (menu_in f)))
      ≡ map image (parts 4 7 (((get_or f 1 0 % 2 * 256 + 3) * 1024 + c % 1024) * 256))
      ++ map image (parts 4 8 ((((d % 64 * 16 + get_or f 5 0 % 8) * 16 + n % 16) * 4 + get_or f 4 0 % 4) * 65536 + (get_or f 2 0 + 256 * get_or f 3 0)))
  opening-sent c l2 l3 =
      let nibbled : width (first_fields c) % 4 ≡ 0 = unfold width in refl in
      ap (λ (fs : List Field). map image (in_nibbles fs)) (opening-is c)
      ∙ ap (map image) (spelled-append (first_fields c) second_fields nibbled ∙ ap₂ (λ (x y : List ℕ). x ++ y) (first-number c) (second-number l2 l3))
      ∙ map-append image (parts 4 7 (((get_or f 1 0 % 2 * 256 + 3) * 1024 + c % 1024) * 256)) _

  fields-are :
      (c : ℕ)
      → fields 0 c zeros (menu_in f)
      ≡ opening_fields 0 c zeros (menu_in f)
      ++ (each descriptor_fields ds
      ++ (fill_fields d 0 ++ (text_fields (text_in (drop b f)) ++ (8, get_or f 6 0) ∷ each event_fields (events_in n (drop h f)))))
  unfolding fields
  fields-are c = rw (menu-is, row_count descriptor_form descriptor_in d (drop 9 f))

  pub control-sent :
      (c : ℕ)
      → map image (in_nibbles (fields 0 c zeros (menu_in f)))
      ≡ map image (in_nibbles (opening_fields 0 c zeros (menu_in f)))
      ++ (loop_bytes Descriptors d (drop 9 f)
      ++ (map image (in_nibbles (fill_fields d 0))
      ++ (map image (in_nibbles (text_fields (text_in (drop b f))))
      ++ (map image (parts 4 2 (get_or f 6 0)) ++ map image (in_nibbles (each event_fields (events_in n (drop h f))))))))
  control-sent c =
      let hdr : List Field = text_fields (text_in (drop b f)) in
      let ev : List Field = each event_fields (events_in n (drop h f)) in
      let open' : List Field = opening_fields 0 c zeros (menu_in f) in
      let each' : List Field = each descriptor_fields ds in
      let nibbled : width open' % 4 ≡ 0 = unfold width in refl in
      ap (map image)
      (ap in_nibbles (fields-are c)
      ∙ spelled-append open' (each' ++ (fill_fields d 0 ++ (hdr ++ (8, get_or f 6 0) ∷ ev))) nibbled
      ∙ ap (λ (x : List ℕ). in_nibbles open' ++ x)
      (spelled-append each' (fill_fields d 0 ++ (hdr ++ (8, get_or f 6 0) ∷ ev)) (each-nibbled descriptor_fields descriptor_nibbled ds)
      ∙ ap (λ (x : List ℕ). in_nibbles each' ++ x)
      (spelled-append (fill_fields d 0) (hdr ++ (8, get_or f 6 0) ∷ ev) (fill_nibbled d 0)
      ∙ ap (λ (x : List ℕ). in_nibbles (fill_fields d 0) ++ x)
      (spelled-append hdr ((8, get_or f 6 0) ∷ ev) (text_nibbled (text_in (drop b f)))
      ∙ ap (λ (x : List ℕ). in_nibbles hdr ++ x) (spelled-first 8 2 (get_or f 6 0) ev refl)))))
      ∙ (rw (
        map-append image (in_nibbles open'),
        map-append image (in_nibbles each'),
        map-append image (in_nibbles (fill_fields d 0)),
        map-append image (in_nibbles hdr),
        map-append image (parts 4 2 (get_or f 6 0)),
      )
      (ap (λ (x : List ℕ). map image (in_nibbles open') ++ (x ++ (map image (in_nibbles (fill_fields d 0)) ++ (map image (in_nibbles hdr) ++ (map image (parts 4 2 (get_or f 6 0)) ++ map image (in_nibbles ev))))))
      (row-bytes Descriptors descriptor_form descriptor_in (λ (l : List ℕ). refl) descriptor_fields descriptor_nibbled (λ (l : List ℕ). refl) d (drop 9 f))))

  pub all_codes : map letter (strings (menu_in f)) ≡ map letter (text_in (drop b f)).codes ++ map letter (each codes_of (events_in n (drop h f)))
  all_codes = ap (map letter) strings-in ∙ map-append letter (text_in (drop b f)).codes (each codes_of (events_in n (drop h f)))

-- the same, with each value by its name
pub opening-numbers :
    (f : List ℕ) (c v x y h m d n : ℕ)
    → v ≡ get_or f 1 0
    → x ≡ get_or f 2 0
    → y ≡ get_or f 3 0
    → h ≡ get_or f 4 0
    → m ≡ get_or f 5 0
    → d ≡ get_or f 7 0
    → n ≡ get_or f 8 0
    → x < 256
    → y < 256
    → map image (in_nibbles (opening_fields 0 c zeros (menu_in f)))
    ≡ map image (parts 4 7 (((v % 2 * 256 + 3) * 1024 + c % 1024) * 256))
    ++ map image (parts 4 8 ((((d % 64 * 16 + m % 8) * 16 + n % 16) * 4 + h % 4) * 65536 + (x + 256 * y)))
opening-numbers f c v x y h m d n hv hx hy hh hm hd hn lx ly =
    rw (hv, hx, hy, hh, hm)
    (opening-sent f d n (9 + loop_length Descriptors d (drop 9 f))
    (9 + loop_length Descriptors d (drop 9 f) + length (text_form (text_in (drop (9 + loop_length Descriptors d (drop 9 f)) f)))) hd hn refl refl c
    (rw hx at lx) (rw hy at ly))

pub opening-long : (f : List ℕ) (c : ℕ) → 19 ≡ 4 + length (map image (in_nibbles (opening_fields 0 c zeros (menu_in f))))
unfolding width
opening-long f c = sym (ap (λ (k : ℕ). 4 + k) (length-map (in_nibbles (opening_fields 0 c zeros (menu_in f))) image ∙ length-spelled (opening_fields 0 c zeros (menu_in f))))
