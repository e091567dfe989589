-- What the pen lays, and the letters that are put: part by part, and what is left of them. Assumes nothing.
use mathlib.Core.Path.{◌≡◌, ◌∙◌, sym, ap, ap₂}
use mathlib.Core.List.{List, [], ◌∷◌, ◌++◌, map, map-append, append-nil}
use Prim.Native.Nat.{ℕ, ◌+◌, ◌-◌, ◌%◌, ◌≤◌, ◌<◌}
use native.Mathlib.Numerals.{add-one}
use native.Mathlib.Omega.{arith}
use borrow.Author.Tests.{eq-eqb, ne_eqb}
use lib.ListN.{length, get_or, drop, set, length-map}
use lib.Seq.{sets, drop-drop}
use Rattle.laws.proofs.Countdown.{at_none, at_more}
use Rattle.laws.proofs.Lists.{sets-append}
use Rattle.parity.specs.Parity.{letter}
use Rattle.fields.specs.Fields.{Field}
use Rattle.codecs.specs.Rows.{each, codes_in}
use Rattle.information_forms.specs.Rows.{cut}
use Rattle.information_forms.specs.Information.{Network, network_widths, network_format, fill_up}
use Rattle.information_forms.specs.Form.{network_in}
use Rattle.information_writer.specs.Internal.{placed, network_at, row_at, laid_from, spoken_from}
use Rattle.information_writer.proofs.Along.{byte_here}
use Rattle.information_writer.proofs.Listed.{networks-split, networks_none}

-- ---- fill_up

pub fill-odd : (networks : ℕ) → networks % 2 ≡ 1 → (fill_up networks).fields 0 ≡ (4, 0) ∷ []
unfolding fill_up
fill-odd networks h = rw (eq-eqb (networks % 2) 1 h)

pub fill_even : (networks : ℕ) → (networks % 2 ≡ 1 → ⊥) → (fill_up networks).fields 0 ≡ []
unfolding fill_up
fill_even networks h = rw (ne_eqb (networks % 2) 1 h)

-- ---- networks

module _ (f : List ℕ) (left j codes name next : ℕ) (some : 0 < left) (en : name ≡ length (network_at j codes f).name) (e : next ≡ codes + name) where
  its-row : network_format.fields (network_at j codes f) ≡ row_at network_widths (placed j codes) f
  unfolding network_format network_in cut
  its-row = append-nil (row_at network_widths (placed j codes) f)

  pub laid-split : laid_from left j codes f ≡ row_at network_widths (placed j codes) f ++ laid_from (left - 1) (j + 1) next f
  laid-split =
      ap (each network_format.fields) (networks-split f left j codes name next some en e)
      ∙ ap (λ (l : List Field). l ++ laid_from (left - 1) (j + 1) next f) its-row

  pub spoken-split : spoken_from left j codes f ≡ (network_at j codes f).name ++ spoken_from (left - 1) (j + 1) next f
  spoken-split = ap (each (λ (n : Network). n.name)) (networks-split f left j codes name next some en e)

  -- the letters of one name, and those behind it
  pub names-on :
      (to : ℕ) (cs out out' whole : List ℕ) → (network_at j codes f).name ≡ cs → out' ≡ sets out (to + codes) (map letter cs)
      → sets out (to + codes) (map letter (spoken_from left j codes f)) ≡ whole
      → sets out' (to + next) (map letter (spoken_from (left - 1) (j + 1) next f)) ≡ whole
  names-on to cs out out' whole es eo inv =
      let rest = spoken_from (left - 1) (j + 1) next f in
      let long : length (map letter cs) ≡ name = length-map cs letter ∙ ap length (sym es) ∙ sym en in
      let far : to + next ≡ to + codes + length (map letter cs) = omega (arith, long, e) in
      ap₂ (λ (l : List ℕ) (k : ℕ). sets l k (map letter rest)) eo far
      ∙ sym (sets-append out (to + codes) (map letter cs) (map letter rest))
      ∙ ap (sets out (to + codes)) (sym (map-append letter cs rest) ∙ ap (λ (l : List ℕ). map letter (l ++ rest)) (sym es) ∙ ap (map letter) (sym spoken-split))
      ∙ inv

pub laid_none : (f : List ℕ) (left j codes : ℕ) → left ≤ 0 → laid_from left j codes f ≡ []
laid_none f left j codes h = ap (each network_format.fields) (networks_none f left j codes h)

pub spoken-none : (f : List ℕ) (left j codes : ℕ) → left ≤ 0 → spoken_from left j codes f ≡ []
spoken-none f left j codes h = ap (each (λ (n : Network). n.name)) (networks_none f left j codes h)

-- ---- letters

pub letters-on :
    (f : List ℕ) (left i q v b : ℕ) (out out' whole : List ℕ) → 0 < left → v ≡ get_or f i 0 → b ≡ letter v → out' ≡ set out q b
    → sets out q (map letter (codes_in left (drop i f))) ≡ whole
    → sets out' (q + 1) (map letter (codes_in (left - 1) (drop (i + 1) f))) ≡ whole
unfolding codes_in
letters-on f left i q v b out out' whole some ev eb eo inv =
    rw (eo, eb, ev, add-one q, ← (drop-drop 1 i f), ← (byte_here i f))
    (sym (at_more (λ (k : ℕ). sets out q (map letter (codes_in k (drop i f)))) left some) ∙ inv)

pub letters-end : (cs : List ℕ) (left q : ℕ) (out whole : List ℕ) → left ≤ 0 → sets out q (map letter (codes_in left cs)) ≡ whole → out ≡ whole
unfolding codes_in
letters-end cs left q out whole none inv = sym (at_none (λ (k : ℕ). sets out q (map letter (codes_in k cs))) left none) ∙ inv
