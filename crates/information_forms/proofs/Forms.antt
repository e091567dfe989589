-- The form of information that fits its format stands for that information. Assumes nothing.
use mathlib.Core.Path.{◌≡◌, ◌∙◌, sym, ap, ap₂}
use mathlib.Core.Bool.{true}
use mathlib.Core.List.{List, [], ◌∷◌, ◌++◌, append_assoc, append-nil}
use Prim.Native.Nat.{ℕ, ◌+◌}
use borrow.Author.Tests.{eqb-true}
use lib.Dec.{eqb, ltb}
use lib.ListN.{length, drop}
use lib.Seq.{drop-drop, drop-append_seam}
use Rattle.laws.specs.Pick.{both}
use Rattle.laws.proofs.Tests.{both_true, both_first, both-second}
use Rattle.fields.specs.Fields.{Field, fitting}
use Rattle.fields.proofs.Laid.{fitting-append}
use Rattle.codecs.specs.Rows.{each, codes_in, in_row, rowed}
use Rattle.codecs.specs.Codec.{row_whole}
use Rattle.codecs.proofs.Codes.{codes-back}
use Rattle.codecs.proofs.Found.{found_back}
use Rattle.information_forms.specs.Rows.{row_bytes, row_form, row_in}
use Rattle.information_forms.specs.Information.{Network, Information, opening_widths, network_widths, network_count, name_length, network_name, network_format, fill_up, behind, sent_behind}
use Rattle.information_forms.specs.Form.{network_form, form, network_in, form_opening, information_in}
use Rattle.information_forms.proofs.Rowed.{row-long, row_back}

-- codes behind a row are found again, as many as one of its values says
codes-behind : (xs cs rest : List ℕ) (at k : ℕ) → length xs ≡ at → length cs ≡ k → codes_in k (drop at (xs ++ (cs ++ rest))) ≡ cs
codes-behind xs cs rest at k e h =
    ap₂ (λ (j a : ℕ). codes_in j (drop a (xs ++ (cs ++ rest)))) (sym h) (sym e) ∙ ap (codes_in (length cs)) (drop-append_seam xs (cs ++ rest))
    ∙ codes-back cs rest

network-back :
    (n : Network) → network_format.whole n ≡ true → fitting (network_format.fields n) ≡ true → (rest : List ℕ) → network_in (network_form n ++ rest) ≡ n
unfolding network_format network_form network_in
network-back n w h rest =
    let p = both_true (eqb (length n.numbers) 13) _ w in
    let row : fitting (rowed network_widths n.numbers) ≡ true = ap fitting (sym (append-nil (rowed network_widths n.numbers))) ∙ h in
    let xs = row_form network_widths n.numbers in
    let on : (xs ++ n.name) ++ rest ≡ xs ++ (n.name ++ rest) = append_assoc xs n.name rest in
    let numbers : row_in network_widths (xs ++ (n.name ++ rest)) ≡ n.numbers =
    row_back network_widths n.numbers (n.name ++ rest) (eqb-true (length n.numbers) 13 p.0) row in
    let name : codes_in (network_name n.numbers) (drop (row_bytes network_widths) (xs ++ (n.name ++ rest))) ≡ n.name =
    codes-behind xs n.name rest _ _ (row-long network_widths n.numbers) (eqb-true (length n.name) (network_name n.numbers) p.1) in
    rw (on, numbers, name)

-- the parts of information that fits
pub record Fitting (i : Information) : Type 0 where
  pub opening_count : length i.opening ≡ 12
  pub opening_fits : fitting (rowed opening_widths i.opening) ≡ true
  pub name_count : length i.name ≡ name_length i.opening
  pub networks_count : length i.networks ≡ network_count i.opening
  pub networks_whole : row_whole network_format i.networks ≡ true
  pub networks_fit : fitting (each network_format.fields i.networks) ≡ true

pub fitting-parts :
    (first second : ℕ) (i : Information) → behind.whole (sent_behind first second i) ≡ true
    → fitting (behind.fields (sent_behind first second i)) ≡ true
    → Fitting i
unfolding fitting
fitting-parts first second i w h =
    let ws = rowed opening_widths i.opening in
    let ns : List Field = each network_format.fields i.networks in
    let fl : List Field = (fill_up (network_count i.opening)).fields second in
    let w₁ = both_true (eqb (length i.opening) 12) _ w in
    let w₂ = both_true (eqb (length i.name) (name_length i.opening)) _ w₁.1 in
    let w₃ = both_first (both (eqb (length i.networks) (network_count i.opening)) (row_whole network_format i.networks)) _ w₂.1 in
    let w₄ = both_true (eqb (length i.networks) (network_count i.opening)) _ w₃ in
    let f₁ = both_true (fitting ws) _ (sym (fitting-append ws ((2, first) ∷ (ns ++ fl))) ∙ h) in
    let f₂ = both-second (ltb first 4) (fitting (ns ++ fl)) f₁.1 in
    let f₃ = both_first (fitting ns) (fitting fl) (sym (fitting-append ns fl) ∙ f₂) in
    record {
      opening_count = eqb-true (length i.opening) 12 w₁.0;
      opening_fits = f₁.0;
      name_count = eqb-true (length i.name) (name_length i.opening) w₂.0;
      networks_count = eqb-true (length i.networks) (network_count i.opening) w₄.0;
      networks_whole = w₄.1;
      networks_fit = f₃;
    }

-- whatever follows
pub form-back-on : (i : Information) → Fitting i → (rest : List ℕ) → information_in (form i ++ rest) ≡ i
unfolding form information_in
form-back-on i p rest =
    let xs = row_form opening_widths i.opening in
    let ns : List ℕ = each network_form i.networks in
    let tail = i.name ++ (ns ++ rest) in
    let on : (xs ++ (i.name ++ ns)) ++ rest ≡ xs ++ tail =
    append_assoc xs (i.name ++ ns) rest ∙ ap (λ (l : List ℕ). xs ++ l) (append_assoc i.name ns rest) in
    let opening : row_in opening_widths (xs ++ tail) ≡ i.opening =
    row_back opening_widths i.opening tail p.opening_count p.opening_fits in
    let f : List ℕ = 1 ∷ i.copyright ∷ xs ++ tail in
    let long = row-long opening_widths i.opening in
    let name : codes_in (name_length i.opening) (drop form_opening f) ≡ i.name =
    ap (codes_in (name_length i.opening)) (sym (drop-drop (row_bytes opening_widths) 2 f))
    ∙ codes-behind xs i.name (ns ++ rest) _ _ long p.name_count in
    let past : drop (form_opening + name_length i.opening) f ≡ ns ++ rest =
    ap (λ (k : ℕ). drop (2 + row_bytes opening_widths + k) f) (sym p.name_count)
    ∙ sym (drop-drop (length i.name) (2 + row_bytes opening_widths) f)
    ∙ ap (drop (length i.name)) (sym (drop-drop (row_bytes opening_widths) 2 f) ∙ ap (λ (k : ℕ). drop k (xs ++ tail)) (sym long) ∙ drop-append_seam xs tail)
    ∙ drop-append_seam i.name (ns ++ rest) in
    let networks : in_row network_form network_in (network_count i.opening) (drop (form_opening + name_length i.opening) f) ≡ i.networks =
    ap₂ (in_row network_form network_in) (sym p.networks_count) past
    ∙ found_back network_format network_form network_in network-back i.networks p.networks_whole p.networks_fit rest in
    rw (on, opening, name, networks)

pub form-back : (i : Information) → Fitting i → information_in (form i) ≡ i
form-back i p = ap information_in (sym (append-nil (form i))) ∙ form-back-on i p []
