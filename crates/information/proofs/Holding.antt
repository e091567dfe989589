-- What control bytes and string bytes hold, part by part, and the form that the walk puts together. Assumes nothing.
use mathlib.Core.Path.{◌≡◌, ◌∙◌, refl, sym, ap, ap₂}
use mathlib.Core.List.{List, [], ◌∷◌, ◌++◌, append_assoc}
use Prim.Native.Nat.{ℕ, suc, ◌+◌, ◌*◌, ◌/◌, ◌%◌, ◌^◌, ◌<◌}
use native.Mathlib.Nat.{zero-add, div-one, mod-eq_of_lt}
use native.Mathlib.Omega.{arith}
use lib.ListN.{length, drop, length-append}
use lib.Pow.{shr-shr}
use lib.Seq.{sets}
use Rattle.laws.proofs.Lists.{sets-append}
use Rattle.fields.specs.Fields.{width, field, parts}
use Rattle.fields.specs.Compound.{compound}
use Rattle.fields.proofs.Laid.{field_past}
use Rattle.codecs.specs.Codec.{row_read}
use Rattle.codecs.specs.Rows.{each, codes_in, rowed, values_in}
use Rattle.codecs.proofs.Codes.{codes-count}
use Rattle.codecs.proofs.Lawful.{value_at_lem, values-width}
use Rattle.information_forms.specs.Rows.{cut, row_bytes}
use Rattle.information_forms.specs.Information.{Network, Information, AI, opening_widths, network_count, name_length, network_format, names}
use Rattle.information_forms.specs.Form.{network_form, form}
use Rattle.information_forms.proofs.Rowed.{row-long}
use Rattle.information.specs.Internal.{row_at, spoken, networks_from, named, held}

-- two bytes of the form: its kind and copyright
pub two_bytes : (c : ℕ) → c < 2 → parts 8 2 (1 + 256 * c) ≡ 1 ∷ c ∷ []
unfolding parts
two_bytes c h =
    let low : (1 + 256 * c) % 256 ≡ 1 = omega arith in
    let up : (1 + 256 * c) / 256 ≡ c = omega arith in
    let high : (1 + 256 * c) / 256 % 256 ≡ c = ap (λ (x : ℕ). x % 256) up ∙ mod-eq_of_lt (omega arith) in
    rw (low, high)

module _ (control strings : List ℕ) (count name : ℕ) (ec : count ≡ field 136 8 (compound control)) (en : name ≡ field 152 5 (compound control)) where
  abbrev n : ℕ
  n = compound control

  abbrev opening : List ℕ
  opening = values_in opening_widths (n / 2 ^ 28)

  pub count_at : network_count opening ≡ count
  unfolding rowed width
  count_at = value_at_lem opening_widths (n / 2 ^ 28) 8 (omega arith) ∙ field_past 108 8 28 n ∙ sym ec

  name_at : name_length opening ≡ name
  unfolding rowed width
  name_at = value_at_lem opening_widths (n / 2 ^ 28) 10 (omega arith) ∙ field_past 124 5 28 n ∙ sym en

  abbrev nets : List Network
  nets = networks_from count 0 name control strings

  -- the bits behind fill_up_1
  past-opening : n / 2 ^ 28 / 2 ^ width (rowed opening_widths opening) / 2 ^ 2 / 2 ^ 0 ≡ n / 2 ^ 160
  past-opening =
      let wide : width (rowed opening_widths opening) ≡ 130 = values-width opening_widths opening [] ∙ (unfold rowed width in refl) in
      div-one _ ∙ ap (λ (w : ℕ). n / 2 ^ 28 / 2 ^ w / 2 ^ 2) wide ∙ ap (λ (x : ℕ). x / 2 ^ 2) (shr-shr n 28 130) ∙ shr-shr n 158 2

  pub held_found :
      held control strings
      ≡ record { copyright = field 26 1 n; opening = opening; name = codes_in name (spoken strings); networks = nets }
  unfolding held width
  held_found =
      let cs = spoken strings in
      let codes : codes_in (name_length opening) cs ≡ codes_in name cs = ap (λ (k : ℕ). codes_in k cs) name_at in
      let behind : drop (length (codes_in (name_length opening) cs)) cs ≡ drop name cs =
      ap (λ (k : ℕ). drop k cs) (codes-count (name_length opening) cs ∙ name_at) in
      let found : row_read network_format (network_count opening) (n / 2 ^ 28 / 2 ^ width (rowed opening_widths opening) / 2 ^ 2 / 2 ^ 0) (drop (length (codes_in (name_length opening) cs)) cs) ≡ nets =
      ap₂ (λ (k m : ℕ). row_read network_format k m (drop (length (codes_in (name_length opening) cs)) cs)) count_at past-opening
      ∙ ap (row_read network_format count (n / 2 ^ 160)) behind in
      ap₂ (λ (x : List ℕ) (ns : List Network). record { copyright = field 26 1 n; opening = opening; name = x; networks = ns }) codes found

  pub names-held : (r : ℕ) → r ≡ name + named nets → r ≡ length (names (held control strings))
  names-held r e =
      e ∙ ap (λ (k : ℕ). k + named nets) (sym (codes-count name (spoken strings)))
      ∙ sym (length-append (codes_in name (spoken strings)) (each (λ (x : Network). x.name) nets))
      ∙ ap (λ (i : Information). length (names i)) (sym held_found)

  pub form-put :
      (out out₁ out₂ out₃ : List ℕ) → out₁ ≡ sets out 0 (AI ∷ field 26 1 n ∷ row_at opening_widths (n / 2 ^ 28))
      → out₂ ≡ sets out₁ 20 (codes_in name (spoken strings))
      → out₃ ≡ sets out₂ (20 + name) (each network_form nets)
      → out₃ ≡ sets out 0 (form (held control strings))
  unfolding form cut row_bytes
  form-put out out₁ out₂ out₃ e₁ e₂ e₃ =
      let xs : List ℕ = AI ∷ field 26 1 n ∷ row_at opening_widths (n / 2 ^ 28) in
      let cs = codes_in name (spoken strings) in
      let ns = each network_form nets in
      let long : length xs ≡ 20 = ap (λ (k : ℕ). suc (suc k)) (row-long opening_widths opening) in
      let two : out₂ ≡ sets out 0 (xs ++ cs) =
      e₂ ∙ ap₂ (λ (l : List ℕ) (k : ℕ). sets l k cs) e₁ (sym (zero-add (length xs) ∙ long)) ∙ sym (sets-append out 0 xs cs) in
      let far : 20 + name ≡ 0 + length (xs ++ cs) =
      sym (zero-add (length (xs ++ cs)) ∙ length-append xs cs ∙ ap₂ (λ (x y : ℕ). x + y) long (codes-count name (spoken strings))) in
      let all : xs ++ cs ++ ns ≡ form (held control strings) =
      append_assoc xs cs ns ∙ ap form (sym held_found) in
      e₃ ∙ ap₂ (λ (l : List ℕ) (k : ℕ). sets l k ns) two far ∙ sym (sets-append out 0 (xs ++ cs) ns) ∙ ap (sets out 0) all

-- the bytes before the service's name
pub opening-put :
    (n c : ℕ) (out out₁ out₂ : List ℕ) → c ≡ field 26 1 n → c < 2 → out₁ ≡ sets out 0 (parts 8 2 (1 + 256 * c))
    → out₂ ≡ sets out₁ 2 (row_at opening_widths (n / 2 ^ 28))
    → out₂ ≡ sets out 0 (AI ∷ field 26 1 n ∷ row_at opening_widths (n / 2 ^ 28))
opening-put n c out out₁ out₂ e h e₁ e₂ =
    let xs = row_at opening_widths (n / 2 ^ 28) in
    e₂ ∙ ap (λ (l : List ℕ). sets l 2 xs) (e₁ ∙ ap (sets out 0) (two_bytes c h)) ∙ ap (λ (x : ℕ). sets out 0 (1 ∷ x ∷ xs)) e
