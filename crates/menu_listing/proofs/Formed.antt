-- What the walk reads at the places of a form is the menu that the form stands for. Assumes nothing.
use mathlib.Core.Path.{◌≡◌, ◌∙◌, refl, sym, ap, ap₂}
use mathlib.Core.List.{List, [], ◌∷◌, ◌++◌}
use Prim.Native.Nat.{ℕ, zero, suc, ◌+◌, ◌*◌}
use native.Mathlib.Omega.{arith}
use lib.ListN.{length, get_or, drop, length-append}
use lib.Seq.{drop-drop}
use Rattle.menu_forms.specs.Rows.{each, in_row}
use Rattle.menu_forms.specs.Menus.{Attribute, Menu, info_bytes}
use Rattle.menu_forms.specs.Form.{descriptor_form, escape_form, attribute_form, text_form, event_form, opening}
use Rattle.menu_forms.specs.Form.{descriptor_in, escape_in, attribute_in, text_in, event_in, menu_in}
use Rattle.codecs.proofs.Codes.{codes-count}
use Rattle.menu_forms.proofs.Forms.{row_count, high_length}
use Rattle.menu_listing.specs.Lines.{event_lines, events_lines, menu_lines}
use Rattle.menu_listing.specs.Internal.{attributes_length, string_length, codes_at, text_place, event_length}
use Rattle.menu_listing.specs.Internal.{own_lines_at, event_lines_at, events_lines_at, header_place, events_place, head_lines_at}

-- entries of one length each
module _ {E : Type 0} (spell : E → List ℕ) (read : List ℕ → E) (n : ℕ) (each_long : (e : E) → length (spell e) ≡ n) where
  length-each : (es : List E) → length (each spell es) ≡ n * length es
  length-each [] = omega arith
  length-each (e ∷ es) =
      let k : n * suc (length es) ≡ n + n * length es = omega arith in
      length-append (spell e) (each spell es) ∙ (rw (each_long e, length-each es, k))

  row-long : (k : ℕ) (g : List ℕ) → length (each spell (in_row spell read k g)) ≡ n * k
  row-long k g = length-each (in_row spell read k g) ∙ ap (λ (x : ℕ). n * x) (row_count spell read k g)

-- ---- strings

module _ (g : List ℕ) where
  escapes_long : length (each escape_form (in_row escape_form escape_in (get_or g 0 0) (drop 2 g))) ≡ 4 * get_or g 0 0
  escapes_long = row-long escape_form escape_in 4 (λ e. refl) (get_or g 0 0) (drop 2 g)

  string-codes : codes_at g ≡ (text_in g).codes
  unfolding text_in
  string-codes = rw escapes_long

  string-long : string_length g ≡ length (text_form (text_in g))
  unfolding text_in text_form
  string-long =
      let xs = each escape_form (in_row escape_form escape_in (get_or g 0 0) (drop 2 g)) in
      omega (arith, length-append xs (text_in g).codes, escapes_long, codes-count (get_or g 1 0) (drop (2 + length xs) g))

-- ---- events

attributes_long : (k : ℕ) (g : List ℕ) → attributes_length k g ≡ length (each attribute_form (in_row attribute_form attribute_in k g))
unfolding attributes_length in_row
attributes_long zero g = refl
attributes_long (suc k) g =
    let n = info_bytes (get_or g 0 0) in
    let own : List ℕ = attribute_form (attribute_in g) in
    let long : length own ≡ 1 + n = omega (arith, high_length n (attribute_in g).info) in
    let after : List ℕ = each attribute_form (in_row attribute_form attribute_in k (drop (length own) g)) in
    ap (λ (x : ℕ). 1 + n + x) (attributes_long k (drop (1 + n) g) ∙ ap (λ (x : ℕ). length (each attribute_form (in_row attribute_form attribute_in k (drop x g)))) (sym long))
    ∙ omega (arith, length-append own after)

module _ (g : List ℕ) where
  abbrev wants : List Attribute
  wants = in_row attribute_form attribute_in (get_or g 3 0) (drop 4 g)

  text-there : text_place g ≡ 4 + length (each attribute_form wants)
  text-there = ap (λ (n : ℕ). 4 + n) (attributes_long (get_or g 3 0) (drop 4 g))

  event_long : event_length g ≡ length (event_form (event_in g))
  unfolding event_form event_in
  event_long =
      rw text-there
      (omega (arith, length-append (each attribute_form wants) (text_form (event_in g).text), string-long (drop (4 + length (each attribute_form wants)) g)))

  event-lines : (follow : ℕ → List ℕ) (level : ℕ) → event_lines_at follow level g ≡ event_lines follow level (event_in g)
  unfolding event_lines_at own_lines_at event_lines event_in
  event-lines follow level = rw (text-there, string-codes (drop (4 + length (each attribute_form wants)) g))

events_lines_lem :
    (follow : ℕ → List ℕ) (level k : ℕ) (g : List ℕ)
    → events_lines_at follow level k g ≡ events_lines follow level (in_row event_form event_in k g)
unfolding events_lines_at events_lines in_row
events_lines_lem follow level zero g = refl
events_lines_lem follow level (suc k) g =
    ap₂ (λ (a b : List ℕ). a ++ b) (event-lines g follow level)
    (ap (λ (n : ℕ). events_lines_at follow level k (drop n g)) (event_long g) ∙ events_lines_lem follow level k (drop (length (event_form (event_in g))) g))

-- ---- a menu

module _ (f : List ℕ) where
  abbrev behind-them : List ℕ
  behind-them = drop (opening + length (each descriptor_form (in_row descriptor_form descriptor_in (get_or f 7 0) (drop opening f)))) f

  header-there : drop (header_place f) f ≡ behind-them
  header-there = rw (row-long descriptor_form descriptor_in 3 (λ d. refl) (get_or f 7 0) (drop opening f))

  events-there : drop (events_place f) f ≡ drop (length (text_form (text_in behind-them))) behind-them
  events-there =
      sym (drop-drop (string_length (drop (header_place f) f)) (header_place f) f) ∙ (rw (header-there, string-long behind-them))

  -- the lines that a form makes are its menu's
  pub menu-lines :
      (follow : ℕ → List ℕ) (level number : ℕ) (ms : List Menu)
      → head_lines_at level number f ++ events_lines_at follow level (get_or f 8 0) (drop (events_place f) f)
      ≡ menu_lines follow level number (menu_in f ∷ ms)
  unfolding head_lines_at menu_lines menu_in
  menu-lines follow level number ms =
      rw (events-there, header-there, string-codes behind-them, events_lines_lem follow level (get_or f 8 0) (drop (length (text_form (text_in behind-them))) behind-them))
