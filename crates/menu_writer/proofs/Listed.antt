-- The loops of a form as the menu's lists have them. Assumes nothing.
use mathlib.Core.Path.{◌≡◌, ◌∙◌, refl, ap}
use mathlib.Core.Bool.{Bool}
use mathlib.Core.List.{List, ◌∷◌, ◌++◌, map, map-append}
use Prim.Native.Nat.{ℕ, zero, suc, ◌+◌, ◌%◌}
use lib.Dec.{ltb}
use native.Mathlib.Omega.{arith}
use lib.ListN.{length, get_or, drop, length-append}
use Rattle.laws.specs.Pick.{both}
use Rattle.octet.specs.Image.{image}
use Rattle.fields.specs.Fields.{Field, width, fitting}
use Rattle.fields.proofs.Laid.{fitting-append}
use Rattle.parity.specs.Parity.{letter}
use Rattle.menu_forms.specs.Rows.{each, in_row}
use Rattle.menu_forms.specs.Menus.{info_bytes, sevens}
use Rattle.menu_forms.specs.Form.{attribute_form, attribute_in, codes_in}
use Rattle.menu_forms.specs.Block.{in_nibbles}
use Rattle.menu_forms.proofs.Forms.{high_length}
use Rattle.menu_forms.proofs.Spelling.{each-spelled}
use Rattle.menu_writer.specs.declared.Loop.{Loop}
use Rattle.menu_writer.specs.declared.Loop.TheVariants.{Codes, Attributes}
use Rattle.menu_writer.specs.Internal.{entry_length, entry_fine, entry_bytes, loop_length, loop_fine, loop_bytes}

module _ {E : Type 0} (what : Loop) (spell : E → List ℕ) (read : List ℕ → E) (long : (l : List ℕ) → length (spell (read l)) ≡ entry_length what l) where
  pub row-length : (k : ℕ) (l : List ℕ) → length (each spell (in_row spell read k l)) ≡ loop_length what k l
  unfolding in_row loop_length
  row-length zero l = refl
  row-length (suc k) l =
      length-append (spell (read l)) (each spell (in_row spell read k (drop (length (spell (read l))) l)))
      ∙ (rw (long l) (ap (λ (x : ℕ). entry_length what l + x) (row-length k (drop (entry_length what l) l))))

  module _ (fields_of : E → List Field) where
    pub row_fine :
        ((l : List ℕ) → fitting (fields_of (read l)) ≡ entry_fine what l)
        → (k : ℕ) (l : List ℕ) → fitting (each fields_of (in_row spell read k l)) ≡ loop_fine what k l
    unfolding in_row loop_fine
    row_fine fine zero l = unfold fitting in refl
    row_fine fine (suc k) l =
        fitting-append (fields_of (read l)) (each fields_of (in_row spell read k (drop (length (spell (read l))) l)))
        ∙ (rw (fine l, long l) (ap (λ (x : Bool). both (entry_fine what l) x) (row_fine fine k (drop (entry_length what l) l))))

    pub row-bytes :
        ((e : E) → width (fields_of e) % 4 ≡ 0) → ((l : List ℕ) → map image (in_nibbles (fields_of (read l))) ≡ entry_bytes what l)
        → (k : ℕ) (l : List ℕ) → map image (in_nibbles (each fields_of (in_row spell read k l))) ≡ loop_bytes what k l
    unfolding in_row loop_bytes
    row-bytes nibbled sent k l = ap (map image) (each-spelled fields_of nibbled (in_row spell read k l)) ∙ go k l
      where
        go : (k : ℕ) (l : List ℕ) → map image (each (λ (e : E). in_nibbles (fields_of e)) (in_row spell read k l)) ≡ loop_bytes what k l
        go zero l = refl
        go (suc k) l =
            map-append image (in_nibbles (fields_of (read l))) (each (λ (e : E). in_nibbles (fields_of e)) (in_row spell read k (drop (length (spell (read l))) l)))
            ∙ (rw (sent l, long l) (ap (λ (x : List ℕ). entry_bytes what l ++ x) (go k (drop (entry_length what l) l))))

-- ---- each loop

pub attribute_long : (l : List ℕ) → length (attribute_form (attribute_in l)) ≡ entry_length Attributes l
attribute_long l = ap suc (high_length (info_bytes (get_or l 0 0)) _) ∙ (omega arith)

-- ---- codes

pub codes-length : (k : ℕ) (l : List ℕ) → loop_length Codes k l ≡ k
unfolding loop_length
codes-length zero l = refl
codes-length (suc k) l = rw (codes-length k (drop 1 l)) (omega arith)

pub codes_fine : (k : ℕ) (l : List ℕ) → sevens (codes_in k l) ≡ loop_fine Codes k l
unfolding sevens codes_in loop_fine
codes_fine zero l = refl
codes_fine (suc k) l = ap (λ (x : Bool). both (ltb (get_or l 0 0) 128) x) (codes_fine k (drop 1 l))

pub codes_bytes : (k : ℕ) (l : List ℕ) → map letter (codes_in k l) ≡ loop_bytes Codes k l
unfolding codes_in loop_bytes
codes_bytes zero l = refl
codes_bytes (suc k) l = ap (λ (x : List ℕ). letter (get_or l 0 0) ∷ x) (codes_bytes k (drop 1 l))
