-- A form that is as long as its counts make it is the form of the menu that it stands for. Assumes nothing.
use mathlib.Core.Path.{◌≡◌, ◌∙◌, refl, sym, ap, ap₂, subst}
use mathlib.Core.List.{List, [], ◌∷◌, ◌++◌}
use Prim.Native.Nat.{ℕ, zero, suc, ◌+◌, ◌*◌, ◌/◌, ◌%◌, ◌<◌}
use native.Mathlib.Nat.{add-zero}
use native.Mathlib.Numerals.{add-one}
use native.Mathlib.Omega.{arith}
use lib.ListN.{length, get_or, drop}
use lib.Seq.{drop-drop, get_or-drop}
use Rattle.fields.specs.Fields.{whole}
use Rattle.laws.specs.Bytes.{Bytes}
use Rattle.laws.proofs.Byted.{bytes_drop}
use Rattle.menu_forms.specs.Rows.{each, in_row}
use Rattle.menu_forms.specs.Menus.{Descriptor, Escape, Attribute, Event, NI, info_bytes}
use Rattle.menu_forms.specs.Form.{high_first, descriptor_form, escape_form, attribute_form, text_form, event_form, opening, form}
use Rattle.menu_forms.specs.Form.{number_in, codes_in, descriptor_in, escape_in, attribute_in, text_in, event_in, menu_in}
use Rattle.codecs.proofs.Codes.{Begins, codes-count, codes-join, begins-none, begins-append, begins-codes, begins-all}
use Rattle.menu_forms.proofs.Forms.{row_count}

-- the byte at place k, and what follows it
begins_at : (k : ℕ) (l xs : List ℕ) → Begins (drop (k + 1) l) xs → Begins (drop k l) (get_or l k 0 ∷ xs)
unfolding codes_in
begins_at k l xs b =
    ap₂ (λ (x : ℕ) (ys : List ℕ). x ∷ ys) (get_or-drop k l 0 0 ∙ ap (λ (i : ℕ). get_or l i 0) (add-zero k))
    (ap (codes_in (length xs)) (drop-drop 1 k l) ∙ b)

-- ---- numbers

two_low : (a b : ℕ) → a < 256 → b < 256 → whole 8 (a ∷ b ∷ []) % 256 ≡ a
unfolding whole
two_low a b h k = omega arith

two_high : (a b : ℕ) → a < 256 → b < 256 → whole 8 (a ∷ b ∷ []) / 256 ≡ b
unfolding whole
two_high a b h k = omega arith

number_again : (k : ℕ) (l : List ℕ) → Bytes l → high_first k (number_in k l) ≡ codes_in k l
unfolding high_first number_in codes_in
number_again zero l h = refl
number_again (suc k) l h =
    let n = number_in k l in
    let v = get_or l k 0 in
    let small : v < 256 = h k in
    let up : (n * 256 + v % 256) / 256 ≡ n = omega arith in
    let low : (n * 256 + v % 256) % 256 ≡ v = omega arith in
    let last : codes_in 1 (drop k l) ≡ v ∷ [] =
    ap (λ (x : ℕ). x ∷ []) (get_or-drop k l 0 0 ∙ ap (λ (i : ℕ). get_or l i 0) (add-zero k)) in
    ap₂ (λ (x y : ℕ). high_first k x ++ y ∷ []) up low
    ∙ ap (λ (xs : List ℕ). xs ++ v ∷ []) (number_again k l h)
    ∙ sym (ap (λ (j : ℕ). codes_in j l) (sym (add-one k)) ∙ codes-join k 1 l ∙ ap (λ (xs : List ℕ). codes_in k l ++ xs) last)

-- ---- entries

descriptor-begins : (f : List ℕ) → Bytes f → Begins f (descriptor_form (descriptor_in f))
descriptor-begins f h = begins_at 0 f _ (begins_at 1 f _ (begins_at 2 f _ (begins-none (drop 3 f))))

escape_begins : (f : List ℕ) → Bytes f → Begins f (escape_form (escape_in f))
escape_begins f h =
    let a = get_or f 0 0 in
    let b = get_or f 1 0 in
    subst (Begins f)
    (ap₂ (λ (x y : ℕ). x ∷ y ∷ get_or f 2 0 ∷ get_or f 3 0 ∷ []) (sym (two_low a b (h 0) (h 1))) (sym (two_high a b (h 0) (h 1))))
    (begins_at 0 f _ (begins_at 1 f _ (begins_at 2 f _ (begins_at 3 f _ (begins-none (drop 4 f))))))

attribute_begins : (f : List ℕ) → Bytes f → Begins f (attribute_form (attribute_in f))
attribute_begins f h =
    let k = info_bytes (get_or f 0 0) in
    begins_at 0 f _
    (subst (Begins (drop 1 f)) (sym (number_again k (drop 1 f) (bytes_drop 1 f h))) (begins-codes k (drop 1 f)))

module _ {E : Type 0} (spell : E → List ℕ) (read : List ℕ → E) (begins : (f : List ℕ) → Bytes f → Begins f (spell (read f))) where
  row-begins : (k : ℕ) (f : List ℕ) → Bytes f → Begins f (each spell (in_row spell read k f))
  unfolding in_row
  row-begins zero f h = begins-none f
  row-begins (suc k) f h =
      let n = length (spell (read f)) in
      begins-append f (spell (read f)) _ (begins f h) (row-begins k (drop n f) (bytes_drop n f h))

-- ---- strings and events

text-begins : (f : List ℕ) → Bytes f → Begins f (text_form (text_in f))
unfolding text_in text_form
text-begins f h =
    let n = get_or f 0 0 in
    let k = get_or f 1 0 in
    let es : List Escape = in_row escape_form escape_in n (drop 2 f) in
    let xs = each escape_form es in
    let cs = codes_in k (drop (2 + length xs) f) in
    let rows : Begins (drop 2 f) xs = row-begins escape_form escape_in escape_begins n (drop 2 f) (bytes_drop 2 f h) in
    let last : Begins (drop (length xs) (drop 2 f)) cs =
    subst (λ (l : List ℕ). Begins l cs) (sym (drop-drop (length xs) 2 f)) (begins-codes k (drop (2 + length xs) f)) in
    subst (Begins f)
    (ap₂ (λ (x y : ℕ). x ∷ y ∷ xs ++ cs) (sym (row_count escape_form escape_in n (drop 2 f))) (sym (codes-count k (drop (2 + length xs) f))))
    (begins_at 0 f _ (begins_at 1 f _ (begins-append (drop 2 f) xs cs rows last)))

event_begins : (f : List ℕ) → Bytes f → Begins f (event_form (event_in f))
unfolding event_in event_form
event_begins f h =
    let a = get_or f 0 0 in
    let b = get_or f 1 0 in
    let n = get_or f 3 0 in
    let wants : List Attribute = in_row attribute_form attribute_in n (drop 4 f) in
    let xs = each attribute_form wants in
    let behind = drop (4 + length xs) f in
    let ys = text_form (text_in behind) in
    let rows : Begins (drop 4 f) xs = row-begins attribute_form attribute_in attribute_begins n (drop 4 f) (bytes_drop 4 f h) in
    let last : Begins (drop (length xs) (drop 4 f)) ys =
    subst (λ (l : List ℕ). Begins l ys) (sym (drop-drop (length xs) 4 f)) (text-begins behind (bytes_drop (4 + length xs) f h)) in
    let all : Begins f (a ∷ b ∷ get_or f 2 0 ∷ n ∷ xs ++ ys) =
    begins_at 0 f _ (begins_at 1 f _ (begins_at 2 f _ (begins_at 3 f _ (begins-append (drop 4 f) xs ys rows last)))) in
    subst (λ (x : ℕ). Begins f (whole 8 (a ∷ b ∷ []) % 256 ∷ whole 8 (a ∷ b ∷ []) / 256 ∷ get_or f 2 0 ∷ x ∷ xs ++ ys))
    (sym (row_count attribute_form attribute_in n (drop 4 f)))
    (subst (Begins f)
    (ap₂ (λ (x y : ℕ). x ∷ y ∷ get_or f 2 0 ∷ n ∷ xs ++ ys) (sym (two_low a b (h 0) (h 1))) (sym (two_high a b (h 0) (h 1)))) all)

-- ---- the menu

module _ (f : List ℕ) (h : Bytes f) where
  abbrev found : List Descriptor
  found = in_row descriptor_form descriptor_in (get_or f 7 0) (drop opening f)

  abbrev xs : List ℕ
  xs = each descriptor_form found

  abbrev behind : List ℕ
  behind = drop (opening + length xs) f

  abbrev ys : List ℕ
  ys = text_form (text_in behind)

  abbrev lines : List Event
  lines = in_row event_form event_in (get_or f 8 0) (drop (length ys) behind)

  abbrev zs : List ℕ
  zs = each event_form lines

  -- behind the opening
  rest-begins : Begins (drop opening f) (xs ++ (ys ++ zs))
  rest-begins =
      let after = bytes_drop (opening + length xs) f h in
      let last : Begins behind (ys ++ zs) =
      begins-append behind ys zs (text-begins behind after)
      (row-begins event_form event_in event_begins (get_or f 8 0) (drop (length ys) behind) (bytes_drop (length ys) behind after)) in
      begins-append (drop opening f) xs (ys ++ zs)
      (row-begins descriptor_form descriptor_in descriptor-begins (get_or f 7 0) (drop opening f) (bytes_drop opening f h))
      (subst (λ (l : List ℕ). Begins l (ys ++ zs)) (sym (drop-drop (length xs) opening f)) last)

  -- a form with these nine bytes
  abbrev opened : ℕ → ℕ → ℕ → ℕ → ℕ → List ℕ
  opened kind low high descriptors events =
      kind
      ∷ get_or f 1 0
      ∷ low
      ∷ high
      ∷ get_or f 4 0
      ∷ get_or f 5 0
      ∷ get_or f 6 0
      ∷ descriptors
      ∷ events
      ∷ (xs ++ (ys ++ zs))

  all-begins : Begins f (opened (get_or f 0 0) (get_or f 2 0) (get_or f 3 0) (get_or f 7 0) (get_or f 8 0))
  all-begins =
      begins_at 0 f _
      (begins_at 1 f _
      (begins_at 2 f _
      (begins_at 3 f _
      (begins_at 4 f _ (begins_at 5 f _ (begins_at 6 f _ (begins_at 7 f _ (begins_at 8 f (xs ++ (ys ++ zs)) rest-begins))))))))

  menu-begins : get_or f 0 0 ≡ NI → Begins f (form (menu_in f))
  unfolding form menu_in
  menu-begins kind =
      let a = get_or f 2 0 in
      let b = get_or f 3 0 in
      let w = whole 8 (a ∷ b ∷ []) in
      subst (λ (x : ℕ). Begins f (opened 3 (w % 256) (w / 256) (length found) x))
      (sym (row_count event_form event_in (get_or f 8 0) (drop (length ys) behind)))
      (subst (λ (x : ℕ). Begins f (opened 3 (w % 256) (w / 256) x (get_or f 8 0)))
      (sym (row_count descriptor_form descriptor_in (get_or f 7 0) (drop opening f)))
      (subst (Begins f)
      (ap₂ (λ (x y : ℕ). opened 3 x y (get_or f 7 0) (get_or f 8 0)) (sym (two_low a b (h 2) (h 3))) (sym (two_high a b (h 2) (h 3))))
      (subst (λ (x : ℕ). Begins f (opened x a b (get_or f 7 0) (get_or f 8 0))) kind all-begins)))

  -- a form of its own length, of bytes and of this kind, is that of the menu that it stands for
  pub in_form_lem : get_or f 0 0 ≡ NI → length f ≡ length (form (menu_in f)) → form (menu_in f) ≡ f
  in_form_lem kind long = sym (begins-all f (form (menu_in f)) (menu-begins kind) long)
