-- A form that is as long as its counts make it is the form of the information that it stands for. Assumes nothing.
use mathlib.Core.Path.{◌≡◌, ◌∙◌, sym, ap, subst}
use mathlib.Core.List.{List, ◌∷◌, ◌++◌}
use Prim.Native.Nat.{ℕ, ◌+◌}
use lib.ListN.{length, get_or, drop}
use lib.Seq.{drop-drop}
use Rattle.laws.specs.Bytes.{Bytes}
use Rattle.laws.proofs.Byted.{bytes_drop}
use Rattle.codecs.specs.Rows.{each, codes_in, in_row}
use Rattle.codecs.proofs.Codes.{Begins, codes-count, begins-append, begins-codes, begins-all}
use Rattle.codecs.proofs.Found.{begins_at, found-begins}
use Rattle.information_forms.specs.Rows.{row_bytes, row_form, row_in}
use Rattle.information_forms.specs.Information.{Network, AI, opening_widths, network_widths, network_count, name_length, network_name}
use Rattle.information_forms.specs.Form.{network_form, form, network_in, form_opening, information_in}
use Rattle.information_forms.proofs.Rowed.{row-long, row-begins}

-- behind a row stand so many codes, and what else
row-then :
    (ws f : List ℕ) → Bytes f → (xs : List ℕ) → Begins (drop (row_bytes ws) f) xs → Begins f (row_form ws (row_in ws f) ++ xs)
row-then ws f h xs b =
    begins-append f (row_form ws (row_in ws f)) xs (row-begins ws f h)
    (subst (λ (k : ℕ). Begins (drop k f) xs) (sym (row-long ws (row_in ws f))) b)

network-begins : (f : List ℕ) → Bytes f → Begins f (network_form (network_in f))
unfolding network_form network_in
network-begins f h =
    let k = network_name (row_in network_widths f) in
    row-then network_widths f h _ (begins-codes k (drop (row_bytes network_widths) f))

module _ (f : List ℕ) (h : Bytes f) where
  information-begins : get_or f 0 0 ≡ AI → Begins f (form (information_in f))
  unfolding form information_in
  information-begins kind =
      let o = row_in opening_widths (drop 2 f) in
      let k = name_length o in
      let cs = codes_in k (drop form_opening f) in
      let found : List Network = in_row network_form network_in (network_count o) (drop (form_opening + k) f) in
      let last : Begins (drop (length cs) (drop form_opening f)) (each network_form found) =
      subst (λ (l : List ℕ). Begins l (each network_form found))
      (sym (ap (λ (j : ℕ). drop j (drop form_opening f)) (codes-count k (drop form_opening f)) ∙ drop-drop k form_opening f))
      (found-begins network_form network_in network-begins (network_count o) (drop (form_opening + k) f) (bytes_drop (form_opening + k) f h)) in
      let names : Begins (drop form_opening f) (cs ++ each network_form found) =
      begins-append (drop form_opening f) cs (each network_form found) (begins-codes k (drop form_opening f)) last in
      let rows : Begins (drop 2 f) (row_form opening_widths o ++ (cs ++ each network_form found)) =
      row-then opening_widths (drop 2 f) (bytes_drop 2 f h) _
      (subst (λ (l : List ℕ). Begins l (cs ++ each network_form found)) (sym (drop-drop (row_bytes opening_widths) 2 f)) names) in
      subst (λ (x : ℕ). Begins f (x ∷ get_or f 1 0 ∷ (row_form opening_widths o ++ (cs ++ each network_form found)))) kind
      (begins_at 0 f _ (begins_at 1 f _ rows))

  -- a form of its own length, of bytes and of this kind, is that of the information that it stands for
  pub in_form_lem : get_or f 0 0 ≡ AI → length f ≡ length (form (information_in f)) → form (information_in f) ≡ f
  in_form_lem kind long = sym (begins-all f (form (information_in f)) (information-begins kind) long)
