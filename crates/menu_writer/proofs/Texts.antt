-- A string of a form, and what is sent for it in the control data. Assumes nothing.
use mathlib.Core.Path.{◌≡◌, ◌∙◌, refl, sym, ap, ap₂}
use mathlib.Core.Bool.{Bool}
use mathlib.Core.List.{List, [], ◌∷◌, ◌++◌, map, map-append}
use Prim.Native.Nat.{ℕ, ◌+◌, ◌*◌, ◌<◌}
use native.Mathlib.Nat.{add_assoc}
use native.Mathlib.Omega.{arith}
use borrow.Author.Tests.{lt-ltb}
use lib.ListN.{length, get_or, drop, length-append}
use lib.Seq.{get_or-drop, drop-drop}
use Rattle.laws.specs.Pick.{both}
use Rattle.laws.proofs.Tests.{both_right}
use Rattle.octet.specs.Image.{image}
use Rattle.fields.specs.Fields.{Field, width, fitting, parts}
use Rattle.fields.proofs.Laid.{fitting-append, width-append}
use Rattle.menu_forms.specs.Rows.{each, in_row}
use Rattle.menu_forms.specs.Menus.{Escape, Text, escape_fields, text_fields, sevens, text_format}
use Rattle.menu_forms.specs.Form.{escape_form, escape_in, text_form, text_in, codes_in}
use Rattle.menu_forms.specs.Block.{in_nibbles}
use Rattle.codecs.proofs.Codes.{codes-count}
use Rattle.menu_forms.proofs.Forms.{row_count}
use Rattle.menu_forms.proofs.Spelling.{spelled-append, spelled-one, spelled-first, each-nibbled}
use Rattle.menu_forms.proofs.Nibbled.{escape_nibbled, escapes_width}
use Rattle.menu_writer.specs.declared.Loop.TheVariants.{Codes, Escapes}
use Rattle.menu_writer.specs.Internal.{loop_length, loop_fine, loop_bytes, Told}
use Rattle.menu_writer.proofs.Entries.{byte-front}
use Rattle.menu_writer.proofs.Listed.{row-length, row_fine, row-bytes, codes-length, codes_fine}

module _ (f : List ℕ) (at e c : ℕ) (he : e ≡ get_or f at 0) (hc : c ≡ get_or f (at + 1) 0) where
  n : ℕ
  n = loop_length Escapes e (drop (at + 2) f)

  es : List Escape
  es = in_row escape_form escape_in e (drop (at + 2) f)

  cs : List ℕ
  cs = codes_in c (drop (at + 2 + n) f)

  text-is : ◌≡◌ {A = Text} (text_in (drop at f)) (record { escapes = es; codes = cs })
  unfolding text_in n es cs
  text-is =
      rw (
        byte-front at f,
        get_or-drop at f 1 0,
        ← he,
        ← hc,
        drop-drop 2 at f,
        row-length Escapes escape_form escape_in (λ (l : List ℕ). refl) e (drop (at + 2) f),
        drop-drop (2 + loop_length Escapes e (drop (at + 2) f)) at f,
        ← add_assoc,
      )

  pub text_codes : (text_in (drop at f)).codes ≡ codes_in c (drop (at + 2 + loop_length Escapes e (drop (at + 2) f)) f)
  unfolding cs n
  text_codes = ap (λ (t : Text). t.codes) text-is

  pub text-count : c ≡ length (text_in (drop at f)).codes
  text-count = sym (ap length text_codes ∙ codes-count c _)

  pub text-length : length (text_form (text_in (drop at f))) ≡ 2 + loop_length Escapes e (drop (at + 2) f) + c
  unfolding text_form es cs
  text-length =
      ap (λ (t : Text). length (text_form t)) text-is
      ∙ (rw (
        length-append (each escape_form es) cs,
        row-length Escapes escape_form escape_in (λ (l : List ℕ). refl) e (drop (at + 2) f),
        codes-count c (drop (at + 2 + n) f),
      )
      (omega arith))

  pub text-width : width (text_fields (text_in (drop at f))) ≡ 8 * (2 + 3 * e)
  unfolding text_format width es
  text-width =
      ap (λ (t : Text). width (text_fields t)) text-is
      ∙ (rw (
        width-append (each escape_fields es) ((8, length cs) ∷ []),
        escapes_width es,
        row_count escape_form escape_in e (drop (at + 2) f),
      )
      (omega arith))

  pub text-fits : e < 256 → c < 256 → fitting (text_fields (text_in (drop at f))) ≡ loop_fine Escapes e (drop (at + 2) f)
  unfolding text_format fitting es cs
  text-fits le lc =
      ap (λ (t : Text). fitting (text_fields t)) text-is
      ∙ (rw (
        fitting-append (each escape_fields es) ((8, length cs) ∷ []),
        row_fine Escapes escape_form escape_in (λ (l : List ℕ). refl) escape_fields (λ (l : List ℕ). refl) e (drop (at + 2) f),
        row_count escape_form escape_in e (drop (at + 2) f),
        codes-count c (drop (at + 2 + n) f),
        lt-ltb e 256 le,
        lt-ltb c 256 lc,
        both_right,
      ))

  pub text-sent :
      map image (in_nibbles (text_fields (text_in (drop at f))))
      ≡ map image (parts 4 2 e) ++ (loop_bytes Escapes e (drop (at + 2) f) ++ map image (parts 4 2 c))
  unfolding text_format es cs
  text-sent =
      let last : List Field = (8, length cs) ∷ [] in
      ap (λ (t : Text). map image (in_nibbles (text_fields t))) text-is
      ∙ ap (map image)
      (spelled-first 8 2 (length es) (each escape_fields es ++ last) refl
      ∙ ap (λ (l : List ℕ). parts 4 2 (length es) ++ l) (spelled-append (each escape_fields es) last (each-nibbled escape_fields escape_nibbled es) ∙ ap (λ (l : List ℕ). in_nibbles (each escape_fields es) ++ l) (spelled-one 8 2 (length cs) refl)))
      ∙ map-append image (parts 4 2 (length es)) (in_nibbles (each escape_fields es) ++ parts 4 2 (length cs))
      ∙ ap (λ (l : List ℕ). map image (parts 4 2 (length es)) ++ l) (map-append image (in_nibbles (each escape_fields es)) (parts 4 2 (length cs)))
      ∙ (rw (
        row_count escape_form escape_in e (drop (at + 2) f),
        codes-count c (drop (at + 2 + n) f),
        row-bytes Escapes escape_form escape_in (λ (l : List ℕ). refl) escape_fields escape_nibbled (λ (l : List ℕ). refl) e (drop (at + 2) f),
      ))

  -- the string is measured
  pub text-told :
      (aend bend : ℕ) (afine bfine fine : Bool) → e < 256 → c < 256
      → aend ≡ at + 2 + loop_length Escapes e (drop (at + 2) f)
      → afine ≡ loop_fine Escapes e (drop (at + 2) f)
      → bend ≡ aend + loop_length Codes c (drop aend f)
      → bfine ≡ loop_fine Codes c (drop aend f)
      → fine ≡ both afine bfine
      → Told (record { end = bend; control = 2 + 3 * e; strings = c; fine = fine }) at (text_form (text_in (drop at f))) (text_fields (text_in (drop at f)))
      (text_in (drop at f)).codes
  text-told aend bend afine bfine fine le lc ha hf hb hg hx =
      record {
        ends = omega (arith, hb, ha, text-length, codes-length c (drop aend f));
        takes = sym text-width;
        sends = text-count;
        fine =
            hx
            ∙ ap₂ (λ (x y : Bool). both x y) (hf ∙ sym (text-fits le lc))
            (hg ∙ ap (λ (z : ℕ). loop_fine Codes c (drop z f)) ha ∙ sym (codes_fine c (drop (at + 2 + loop_length Escapes e (drop (at + 2) f)) f)) ∙ sym (ap sevens text_codes));
      }

  -- the place behind the string's control data
  pub text-end : (send : ℕ) → send ≡ at + 2 + loop_length Escapes e (drop (at + 2) f) → send + c ≡ at + length (text_form (text_in (drop at f)))
  text-end send h = omega (arith, h, text-length)
