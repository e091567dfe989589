-- How long information is: as control data and strings, as a block, and as a form. Assumes nothing.
use mathlib.Core.Path.{◌≡◌, ◌∙◌, refl, sym, ap}
use mathlib.Core.Bool.{Bool, true, false}
use mathlib.Core.List.{List, [], ◌∷◌, ◌++◌, append-nil}
use Prim.Native.Nat.{ℕ, zero, suc, ◌+◌, ◌*◌, ◌/◌, ◌%◌, ◌≤◌, ◌<◌}
use native.Mathlib.Omega.{arith}
use borrow.Author.Tests.{eqb-true, eqb-false}
use lib.Dec.{eqb}
use lib.ListN.{length, length-append}
use Rattle.laws.specs.Pick.{pick}
use Rattle.fields.specs.Fields.{Field, width}
use Rattle.fields.proofs.Laid.{width-append}
use Rattle.codecs.specs.Rows.{each, rowed}
use Rattle.codecs.proofs.Codes.{each-alike}
use Rattle.codecs.proofs.Lawful.{values-width}
use Rattle.kinds.specs.Kind.{Content, bits, control, strings, size}
use Rattle.kinds.proofs.Fronts.{bits_of}
use Rattle.information_forms.specs.Rows.{row_bytes, row_form}
use Rattle.information_forms.specs.Information.{Network, Information, opening_widths, network_widths, network_count, network_format, fill_up, Behind, behind, names}
use Rattle.information_forms.specs.Form.{network_form, form}
use Rattle.information_forms.specs.Kind.{information, value}
use Rattle.information_forms.proofs.Rowed.{row-long}

pub network-width : (n : Network) → width (network_format.fields n) ≡ 100
unfolding network_format
network-width n =
    ap width (append-nil (rowed network_widths n.numbers)) ∙ values-width network_widths n.numbers [] ∙ (unfold rowed width in refl)

pub network-strings : (n : Network) → network_format.strings n ≡ n.name
unfolding network_format
network-strings n = refl

pub network-long : (n : Network) → length (network_form n) ≡ 17 + length n.name
unfolding network_form
network-long n =
    length-append (row_form network_widths n.numbers) n.name
    ∙ ap (λ (k : ℕ). k + length n.name) (row-long network_widths n.numbers ∙ (unfold row_bytes in refl))

networks_width : (ns : List Network) → width (each network_format.fields ns) ≡ 100 * length ns
networks_width [] = unfold width in refl
networks_width (n ∷ ns) =
    width-append (network_format.fields n) (each network_format.fields ns) ∙ (rw (network-width n, networks_width ns) (omega arith))

-- fill_up is one nibble where the number of networks is odd
fill-width : (count second : ℕ) → width ((fill_up count).fields second) ≡ 4 * (count % 2)
unfolding fill_up width
fill-width count second = go (eqb (count % 2) 1) refl
  where
    go : (b : Bool) → eqb (count % 2) 1 ≡ b → width (pick {A = List Field} b ((4, second) ∷ []) []) ≡ 4 * (count % 2)
    go true e = omega (arith, eqb-true (count % 2) 1 e)
    go false e = omega (arith, two (count % 2) (omega arith) (eqb-false (count % 2) 1 e))
      where
        two : (r : ℕ) → r < 2 → (r ≡ 1 → ⊥) → r ≡ 0
        two zero h ne = refl
        two (suc zero) h ne = absurd (ne refl)
        two (suc (suc r)) h ne = absurd (omega arith)

-- the fields behind the front: with its 28 bits they are whole bytes
behind-width :
    (b : Behind) → width (behind.fields b) ≡ 132 + 100 * length b.1.1.1.0 + 4 * (network_count b.0 % 2)
behind-width b =
    let xs = rowed opening_widths b.0 in
    let ns : List Field = each network_format.fields b.1.1.1.0 in
    let fl : List Field = (fill_up (network_count b.0)).fields b.1.1.1.1 in
    let first : width xs ≡ 130 = values-width opening_widths b.0 [] ∙ (unfold rowed width in refl) in
    let next : width ((2, b.1.0) ∷ (ns ++ fl)) ≡ 2 + width (ns ++ fl) = unfold width in refl in
    width-append xs ((2, b.1.0) ∷ (ns ++ fl))
    ∙ (omega (arith, first, next, width-append ns fl, networks_width b.1.1.1.0, fill-width (network_count b.0) b.1.1.1.1))

module _ (c : Content Behind) where
  abbrev count : ℕ
  count = length (value c).networks

  -- control_block_size, of a content whose networks are as many as it says
  pub control-of : count ≡ network_count (value c).opening → control information c ≡ 20 + (25 * count + count % 2) / 2
  control-of h =
      let even : (25 * count + count % 2) % 2 ≡ 0 = omega arith in
      let own : network_count c.body.0 % 2 ≡ count % 2 = ap (λ (x : ℕ). x % 2) (sym h) in
      omega (arith, bits_of information c, behind-width c.body, own, even)

  -- at least that of what stands before the networks
  pub control-least : 20 ≤ control information c
  control-least = omega (arith, bits_of information c, behind-width c.body)

  -- whose fields are all of it
  pub bits-whole : count ≡ network_count (value c).opening → bits information c ≡ 8 * control information c
  bits-whole h =
      let own : network_count c.body.0 % 2 ≡ count % 2 = ap (λ (x : ℕ). x % 2) (sym h) in
      let even : (25 * count + count % 2) % 2 ≡ 0 = omega arith in
      omega (arith, bits_of information c, behind-width c.body, own, even)

  -- all codes: the service's name, then the networks' in their order
  pub strings-of : strings information c ≡ names (value c)
  unfolding fill_up
  strings-of =
      ap (λ (l : List ℕ). (value c).name ++ l)
      (append-nil (each network_format.strings (value c).networks) ∙ each-alike network-strings (value c).networks)

  pub size_of :
      count ≡ network_count (value c).opening → size information c ≡ 40 + 25 * count + count % 2 + length (names (value c))
  size_of h =
      let even : (25 * count + count % 2) % 2 ≡ 0 = omega arith in
      omega (arith, control-of h, ap length strings-of, even)

-- ---- the form

networks_long : (ns : List Network) → length (each network_form ns) ≡ 17 * length ns + length (each (λ (n : Network). n.name) ns)
networks_long [] = refl
networks_long (n ∷ ns) =
    length-append (network_form n) (each network_form ns)
    ∙ (omega (arith, network-long n, networks_long ns, length-append n.name (each (λ (x : Network). x.name) ns)))

pub form-long : (i : Information) → length (form i) ≡ 20 + 17 * length i.networks + length (names i)
unfolding form row_bytes
form-long i =
    let xs = row_form opening_widths i.opening in
    let ns : List ℕ = each network_form i.networks in
    let ms : List ℕ = each (λ (n : Network). n.name) i.networks in
    omega (arith, row-long opening_widths i.opening, length-append xs (i.name ++ ns), length-append i.name ns, length-append i.name ms, networks_long i.networks)
