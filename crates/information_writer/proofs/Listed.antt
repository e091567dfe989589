-- The networks of a form, one behind the other, and what stands before them. Assumes nothing.
use mathlib.Core.Path.{◌≡◌, ◌∙◌, sym, ap, ap₂}
use mathlib.Core.Bool.{Bool}
use mathlib.Core.List.{List, [], ◌∷◌}
use Prim.Native.Nat.{ℕ, ◌+◌, ◌-◌, ◌≤◌, ◌<◌}
use native.Mathlib.Omega.{arith}
use lib.Dec.{ltb}
use lib.ListN.{length, get_or, drop, length-append}
use lib.Seq.{drop-drop}
use Rattle.laws.specs.Pick.{both}
use Rattle.laws.proofs.Countdown.{at_none, at_more}
use Rattle.laws.proofs.Tests.{both_assoc, both_right}
use Rattle.fields.specs.Fields.{fitting, whole}
use Rattle.codecs.specs.Rows.{each, codes_in, in_row}
use Rattle.codecs.proofs.Codes.{codes-count}
use Rattle.kinds.specs.Kind.{sevens}
use Rattle.information_forms.specs.Rows.{cut, row_bytes, row_in}
use Rattle.information_forms.specs.Information.{Network, opening_widths, network_widths, network_count, name_length, network_name}
use Rattle.information_forms.specs.Form.{network_form, network_in, information_in}
use Rattle.information_forms.proofs.Rowed.{row_at_lem}
use Rattle.information_forms.proofs.Sizes.{network-long}
use Rattle.information_writer.specs.Internal.{placed, network_at, networks_from, named, row_at, network_fine, all_fine, opening_fine, Counted}
use Rattle.information_writer.specs.declared.Measured.{Measured}
use Rattle.information_writer.proofs.Along.{value-one}

-- ---- a network

module _ (f : List ℕ) (at name : ℕ) (e : name ≡ get_or f (at + 5) 0) (h : name < 256) where
  name-said : network_name (row_in network_widths (drop at f)) ≡ name
  unfolding row_bytes
  name-said =
      row_at_lem network_widths (drop at f) 4 (omega arith)
      ∙ ap (λ (l : List ℕ). whole 8 (codes_in 1 l)) (drop-drop 5 at f)
      ∙ sym (value-one f (at + 5) name e h)

  pub network-name : (network_in (drop at f)).name ≡ codes_in name (drop (at + 17) f)
  unfolding network_in row_bytes
  network-name = ap₂ codes_in name-said (drop-drop 17 at f)

  pub network-codes : length (network_in (drop at f)).name ≡ name
  network-codes = ap length network-name ∙ codes-count name (drop (at + 17) f)

  pub network_fits : network_fine (network_in (drop at f)) ≡ both (fitting (row_at network_widths at f)) (sevens (codes_in name (drop (at + 17) f)))
  unfolding network_in cut
  network_fits = ap (λ (l : List ℕ). both (fitting (row_at network_widths at f)) (sevens l)) network-name

-- ---- networks in a row

module _ (f : List ℕ) (left j codes name next : ℕ) (some : 0 < left) (en : name ≡ length (network_at j codes f).name) (e : next ≡ codes + name) where
  abbrev here : Network
  here = network_at j codes f

  abbrev rest : List Network
  rest = networks_from (left - 1) (j + 1) next f

  pub networks-split : networks_from left j codes f ≡ here ∷ rest
  unfolding in_row
  networks-split =
      let far : placed j codes + length (network_form here) ≡ placed (j + 1) next = omega (arith, network-long here, en, e) in
      at_more (λ (k : ℕ). networks_from k j codes f) left some
      ∙ ap (λ (l : List ℕ). here ∷ in_row network_form network_in (left - 1) l) (drop-drop (length (network_form here)) (placed j codes) f ∙ ap (λ (x : ℕ). drop x f) far)

  pub codes-on : (all : ℕ) → codes + named (networks_from left j codes f) ≡ all → next + named rest ≡ all
  codes-on all inv =
      let l = length-append here.name (each (λ (n : Network). n.name) rest) in
      let s = ap named networks-split in
      omega (arith, l, s, inv, en, e)

  pub fine-on :
      (good good' all : Bool) → good' ≡ both good (network_fine here) → both good (all_fine (networks_from left j codes f)) ≡ all
      → both good' (all_fine rest) ≡ all
  unfolding all_fine
  fine-on good good' all g inv =
      ap (λ (x : Bool). both x (all_fine rest)) g ∙ sym (both_assoc good (network_fine here) (all_fine rest))
      ∙ ap (λ (ns : List Network). both good (all_fine ns)) (sym networks-split)
      ∙ inv

pub networks_none : (f : List ℕ) (left j codes : ℕ) → left ≤ 0 → networks_from left j codes f ≡ []
unfolding in_row
networks_none f left j codes h = at_none (λ (k : ℕ). networks_from k j codes f) left h

pub none_fine : (good : Bool) → both good (all_fine []) ≡ good
unfolding all_fine
none_fine good = both_right good

-- ---- what stands before them

module _ (f : List ℕ) (name : ℕ) (e : name ≡ get_or f 18 0) (h : name < 256) where
  service-said : name_length (row_in opening_widths (drop 2 f)) ≡ name
  unfolding row_bytes
  service-said =
      row_at_lem opening_widths (drop 2 f) 10 (omega arith) ∙ ap (λ (l : List ℕ). whole 8 (codes_in 1 l)) (drop-drop 16 2 f) ∙ sym (value-one f 18 name e h)

  pub service-name : (information_in f).name ≡ codes_in name (drop 20 f)
  unfolding information_in row_bytes
  service-name = ap (λ (k : ℕ). codes_in k (drop 20 f)) service-said

  pub opening_fits :
      opening_fine (information_in f)
      ≡ both (ltb (get_or f 1 0) 2) (both (fitting (row_at opening_widths 2 f)) (sevens (codes_in name (drop 20 f))))
  unfolding information_in cut
  opening_fits = ap (λ (l : List ℕ). both (ltb (get_or f 1 0) 2) (both (fitting (row_at opening_widths 2 f)) (sevens l))) service-name

  pub networks-found : (count : ℕ) → count ≡ get_or f 16 0 → count < 256 → (information_in f).networks ≡ networks_from count 0 name f
  unfolding information_in row_bytes
  networks-found count ec hc =
      let said : network_count (row_in opening_widths (drop 2 f)) ≡ count =
      row_at_lem opening_widths (drop 2 f) 8 (omega arith) ∙ ap (λ (l : List ℕ). whole 8 (codes_in 1 l)) (drop-drop 14 2 f) ∙ sym (value-one f 16 count ec hc) in
      ap₂ (λ (k n : ℕ). in_row network_form network_in k (drop (20 + n) f)) said service-said

pub count-said : (f : List ℕ) (count : ℕ) → count ≡ get_or f 16 0 → count < 256 → network_count (information_in f).opening ≡ count
unfolding information_in row_bytes
count-said f count ec hc =
    row_at_lem opening_widths (drop 2 f) 8 (omega arith) ∙ ap (λ (l : List ℕ). whole 8 (codes_in 1 l)) (drop-drop 14 2 f) ∙ sym (value-one f 16 count ec hc)

-- ---- as the code tests them

-- the second of three tests doesn't hold
-- all of a form
pub measured :
    (f : List ℕ) (name count : ℕ) (m : Measured) (opened : Bool) → name ≡ get_or f 18 0 → name < 256 → count ≡ get_or f 16 0 → count < 256
    → opened ≡ opening_fine (information_in f)
    → m.codes ≡ name + named (networks_from count 0 name f)
    → m.fine ≡ both opened (all_fine (networks_from count 0 name f))
    → Counted m (information_in f)
measured f name count m opened en hn ec hc eo codes fine =
    let found = networks-found f name en hn count ec hc in
    let i = information_in f in
    let first : length i.name ≡ name = ap length (service-name f name en hn) ∙ codes-count name (drop 20 f) in
    let l = length-append i.name (each (λ (n : Network). n.name) i.networks) in
    let s = ap named found in
    record {
      coded = omega (arith, codes, first, l, s);
      fitted = fine ∙ ap₂ (λ (x : Bool) (ns : List Network). both x (all_fine ns)) eo (sym found);
    }
