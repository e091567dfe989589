-- Networks as the walk finds them: where a value stands, what one puts, and what is left behind it. Assumes nothing.
use mathlib.Core.Path.{◌≡◌, ◌∙◌, refl, sym, ap, ap₂}
use mathlib.Core.List.{List, [], ◌∷◌, ◌++◌}
use Prim.Native.Nat.{ℕ, suc, ◌+◌, ◌-◌, ◌*◌, ◌/◌, ◌^◌, ◌≤◌, ◌<◌}
use native.Mathlib.Nat.{add_assoc}
use native.Mathlib.Omega.{arith}
use lib.ListN.{length, drop, length-append}
use lib.Pow.{shr-shr}
use lib.Seq.{sets, drop-drop}
use Rattle.laws.proofs.Countdown.{at_none, at_more}
use Rattle.laws.proofs.Lists.{sets-append}
use Rattle.fields.specs.Fields.{width, field}
use Rattle.fields.specs.Compound.{compound}
use Rattle.fields.proofs.Laid.{field_past}
use Rattle.codecs.specs.Codec.{row_read}
use Rattle.codecs.specs.Rows.{each, codes_in, rowed, values_in}
use Rattle.codecs.proofs.Codes.{codes-count}
use Rattle.codecs.proofs.Lawful.{value_at_lem}
use Rattle.information_forms.specs.Rows.{cut, row_bytes}
use Rattle.information_forms.specs.Information.{Network, network_widths, network_name, network_format}
use Rattle.information_forms.specs.Form.{network_form}
use Rattle.information_forms.proofs.Rowed.{row-long}
use Rattle.information_forms.proofs.Sizes.{network-long, network-width, network-strings}
use Rattle.information.specs.Internal.{row_at, spoken, networks_from, network_from, named}

-- the length of a name stands behind 29 bits
name_at : (n at : ℕ) → network_name (values_in network_widths (n / 2 ^ at)) ≡ field (at + 29) 5 n
name_at n at = value_at_lem network_widths (n / 2 ^ at) 4 (omega arith) ∙ (unfold rowed width in field_past 29 5 at n)

module _ (n at codes : ℕ) (cs : List ℕ) (e : codes ≡ field (at + 29) 5 n) where
  abbrev one : Network
  one = network_format.read (n / 2 ^ at) cs

  one_name : one.name ≡ codes_in codes cs
  unfolding network_format
  one_name = ap (λ (k : ℕ). codes_in k cs) (name_at n at ∙ sym e)

  pub one-long : length one.name ≡ codes
  one-long = ap length one_name ∙ codes-count codes cs

  pub one_form : network_form one ≡ row_at network_widths (n / 2 ^ at) ++ codes_in codes cs
  unfolding network_form network_format cut
  one_form = ap (λ (l : List ℕ). row_at network_widths (n / 2 ^ at) ++ l) one_name

  pub one-put :
      (to : ℕ) (out out₁ out₂ : List ℕ) → out₁ ≡ sets out to (row_at network_widths (n / 2 ^ at)) → out₂ ≡ sets out₁ (to + 17) (codes_in codes cs)
      → out₂ ≡ sets out to (network_form one)
  one-put to out out₁ out₂ e₁ e₂ =
      let xs = row_at network_widths (n / 2 ^ at) in
      let long : length xs ≡ 17 = row-long (cut network_widths) (values_in (cut network_widths) (n / 2 ^ at)) ∙ (unfold cut row_bytes in refl) in
      e₂ ∙ ap₂ (λ (l : List ℕ) (k : ℕ). sets l (to + k) (codes_in codes cs)) e₁ (sym long) ∙ sym (sets-append out to xs (codes_in codes cs))
      ∙ ap (sets out to) (sym one_form)

-- one network, and those behind it
module _ (control strings : List ℕ) (j from : ℕ) where
  abbrev here : Network
  here = network_from j from control strings

  pub networks-more :
      (k : ℕ) → networks_from (suc k) j from control strings ≡ here ∷ networks_from k (j + 1) (from + length here.name) control strings
  networks-more k =
      let n = compound control in
      let cs = spoken strings in
      let far : 160 + 100 * j + 100 ≡ 160 + 100 * (j + 1) = omega arith in
      ap (λ (l : List Network). here ∷ l)
      (ap₂ (λ (m : ℕ) (l : List ℕ). row_read network_format k m l)
      (ap (λ (w : ℕ). n / 2 ^ (160 + 100 * j) / 2 ^ w) (network-width here) ∙ shr-shr n (160 + 100 * j) 100 ∙ ap (λ (w : ℕ). n / 2 ^ w) far)
      (ap (λ (l : List ℕ). drop (length l) (drop from cs)) (network-strings here) ∙ drop-drop (length here.name) from cs))

-- the loop: what is left makes all of it
module _ (control strings : List ℕ) (left j from next : ℕ) (some : 0 < left)
    (e : next ≡ from + length (network_from j from control strings).name) where
  abbrev first : Network
  first = network_from j from control strings

  abbrev rest : List Network
  rest = networks_from (left - 1) (j + 1) next control strings

  split : networks_from left j from control strings ≡ first ∷ rest
  split =
      at_more (λ (k : ℕ). networks_from k j from control strings) left some ∙ networks-more control strings j from (left - 1)
      ∙ ap (λ (x : ℕ). first ∷ networks_from (left - 1) (j + 1) x control strings) (sym e)

  pub names-on : (all : ℕ) → from + named (networks_from left j from control strings) ≡ all → next + named rest ≡ all
  names-on all inv =
      ap (λ (x : ℕ). x + named rest) e ∙ add_assoc from (length first.name) (named rest)
      ∙ ap (λ (x : ℕ). from + x) (sym (length-append first.name (each (λ (n : Network). n.name) rest)))
      ∙ ap (λ (ns : List Network). from + named ns) (sym split)
      ∙ inv

  pub networks-on :
      (out out' whole : List ℕ) → out' ≡ sets out (20 + 17 * j + from) (network_form first)
      → sets out (20 + 17 * j + from) (each network_form (networks_from left j from control strings)) ≡ whole
      → sets out' (20 + 17 * (j + 1) + next) (each network_form rest) ≡ whole
  networks-on out out' whole eo inv =
      let to = 20 + 17 * j + from in
      let long : length (network_form first) ≡ 17 + length first.name = network-long first in
      let far : 20 + 17 * (j + 1) + next ≡ to + length (network_form first) = omega (arith, e, long) in
      ap₂ (λ (l : List ℕ) (k : ℕ). sets l k (each network_form rest)) eo far
      ∙ sym (sets-append out to (network_form first) (each network_form rest))
      ∙ ap (λ (ns : List Network). sets out to (each network_form ns)) (sym split)
      ∙ inv

pub networks_none : (control strings : List ℕ) (left j from : ℕ) → left ≤ 0 → networks_from left j from control strings ≡ []
networks_none control strings left j from h = at_none (λ (k : ℕ). networks_from k j from control strings) left h
