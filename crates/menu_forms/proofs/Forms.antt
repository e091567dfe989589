-- The form of a menu that can be sent stands for that menu, and is taken. Assumes nothing.
use mathlib.Core.Path.{◌≡◌, ◌∙◌, refl, sym, ap}
use mathlib.Core.Bool.{true}
use mathlib.Core.List.{List, [], ◌∷◌, ◌++◌, append_assoc, append-nil}
use Prim.Native.Nat.{ℕ, zero, suc, ◌+◌, ◌*◌, ◌/◌, ◌%◌, ◌^◌, ◌<◌, ◌≤◌}
use native.Mathlib.Nat.{mod-eq_of_lt, mod-one}
use native.Mathlib.Omega.{arith}
use borrow.Author.Tests.{ltb-true, le-leb, eq-eqb}
use lib.Dec.{ltb, eqb}
use lib.ListN.{length, get_or, drop, length-append}
use lib.Pow.{mod-pow-add}
use lib.Seq.{drop-drop, drop-append_seam, get_or-append_seam, append_snoc}
use Rattle.laws.specs.Pick.{both}
use Rattle.laws.proofs.Tests.{both_true, both_first, both-second}
use Rattle.fields.specs.Fields.{Field, fitting, whole}
use Rattle.fields.proofs.Laid.{fitting-append}
use Rattle.codecs.proofs.Codes.{codes-back}
use Rattle.answer.specs.Rules.{Every, none, more}
use Rattle.menu_forms.specs.Rows.{each, in_row}
use Rattle.menu_forms.specs.Menus.{Descriptor, Escape, Text, Attribute, Event, Menu, zeros, info_bytes, Body, navigation, content, menu_sent, fits}
use Rattle.menu_forms.specs.Menus.{descriptor_fields, escape_fields, attribute_fields, text_fields, event_fields, fill_fields, event_format, text_format}
use Rattle.kinds.specs.Kind.{Content, fields as kind_fields, control as kind_control}
use Rattle.kinds.proofs.Sendable.{sendable}
use Rattle.menu_forms.specs.Form.{high_first, descriptor_form, escape_form, attribute_form, text_form, event_form, opening_of, form}
use Rattle.menu_forms.specs.Form.{number_in, codes_in, descriptor_in, escape_in, attribute_in, text_in, event_in, menu_in}
use Rattle.menu_forms.specs.Writing.{form_rules}

-- entries in a row are found again
module _ {E : Type 0} (spell : E → List ℕ) (read : List ℕ → E) (fields_of : E → List Field)
    (back : (e : E) → fitting (fields_of e) ≡ true → (rest : List ℕ) → read (spell e ++ rest) ≡ e) where
  pub row_back : (es : List E) → fitting (each fields_of es) ≡ true → (rest : List ℕ) → in_row spell read (length es) (each spell es ++ rest) ≡ es
  unfolding in_row
  row_back [] h rest = refl
  row_back (e ∷ es) h rest =
      let p = both_true (fitting (fields_of e)) (fitting (each fields_of es)) (sym (fitting-append (fields_of e) (each fields_of es)) ∙ h) in
      let tail = each spell es ++ rest in
      let found = back e p.0 tail in
      rw (append_assoc (spell e) (each spell es) rest, found, drop-append_seam (spell e) tail) (ap (λ (x : List E). e ∷ x) (row_back es p.1 rest))

-- as many as are looked for
pub row_count : {E : Type 0} (spell : E → List ℕ) (read : List ℕ → E) (k : ℕ) (l : List ℕ) → length (in_row spell read k l) ≡ k
unfolding in_row
row_count spell read zero l = refl
row_count spell read (suc k) l = ap suc (row_count spell read k (drop (length (spell (read l))) l))

-- ---- numbers

-- two bytes make the number that they are of
two_bytes : (n : ℕ) → n < 65536 → whole 8 (n % 256 ∷ n / 256 ∷ []) ≡ n
unfolding whole
two_bytes n h = omega arith

pub high_length : (k n : ℕ) → length (high_first k n) ≡ k
unfolding high_first
high_length zero n = refl
high_length (suc k) n = length-append (high_first k (n / 256)) (n % 256 ∷ []) ∙ (rw (high_length k (n / 256)) (omega arith))

high_back : (k n : ℕ) (rest : List ℕ) → number_in k (high_first k n ++ rest) ≡ n % 2 ^ (8 * k)
unfolding number_in high_first
high_back zero n rest = sym (mod-one n)
high_back (suc k) n rest =
    let m = n / 256 in
    let last : get_or (high_first k m ++ n % 256 ∷ rest) k 0 ≡ n % 256 =
    ap (λ (i : ℕ). get_or (high_first k m ++ n % 256 ∷ rest) i 0) (sym (high_length k m)) ∙ get_or-append_seam (high_first k m) (n % 256) rest 0 in
    let e : 8 * suc k ≡ 8 * k + 8 = omega arith in
    rw (append_snoc (high_first k m) (n % 256) rest, high_back k m (n % 256 ∷ rest), last, e)
    (ap (λ (x : ℕ). m % 2 ^ (8 * k) * 256 + x) (mod-eq_of_lt (omega arith)) ∙ sym (mod-pow-add n (8 * k) 8))

-- ---- entries

descriptor-back : (d : Descriptor) → fitting (descriptor_fields d) ≡ true → (rest : List ℕ) → descriptor_in (descriptor_form d ++ rest) ≡ d
descriptor-back d h rest = refl

escape_back : (e : Escape) → fitting (escape_fields e) ≡ true → (rest : List ℕ) → escape_in (escape_form e ++ rest) ≡ e
unfolding fitting
escape_back e h rest =
    let l = ltb-true e.position 1024 (both_first (ltb e.position 1024) _ h) in
    let p = two_bytes e.position (omega arith) in
    λ i. record { position = p i; mode = e.mode; content = e.content }

attribute_back : (a : Attribute) → fitting (attribute_fields a) ≡ true → (rest : List ℕ) → attribute_in (attribute_form a ++ rest) ≡ a
unfolding fitting
attribute_back a h rest =
    let k = info_bytes a.kind in
    let q = both-second (ltb a.kind 256) (both (ltb a.info (2 ^ (8 * k))) true) h in
    let l = ltb-true a.info (2 ^ (8 * k)) (both_first (ltb a.info (2 ^ (8 * k))) true q) in
    let p = high_back k a.info rest ∙ mod-eq_of_lt l in
    λ i. record { kind = a.kind; info = p i }

text-back : (t : Text) → fitting (text_fields t) ≡ true → (rest : List ℕ) → text_in (text_form t ++ rest) ≡ t
unfolding text_in text_form text_format fitting
text-back t h rest =
    let es = each escape_form t.escapes in
    let p = both-second (ltb (length t.escapes) 256) _ h in
    let q = both_first (fitting (each escape_fields t.escapes)) _ (sym (fitting-append (each escape_fields t.escapes) ((8, length t.codes) ∷ [])) ∙ p) in
    let r : in_row escape_form escape_in (length t.escapes) ((es ++ t.codes) ++ rest) ≡ t.escapes =
    rw (append_assoc es t.codes rest) (row_back escape_form escape_in escape_fields escape_back t.escapes q (t.codes ++ rest)) in
    let f : List ℕ = length t.escapes ∷ length t.codes ∷ (es ++ t.codes) ++ rest in
    let c : codes_in (length t.codes) (drop (2 + length es) f) ≡ t.codes =
    rw (← (drop-drop (length es) 2 f), append_assoc es t.codes rest, drop-append_seam es (t.codes ++ rest)) (codes-back t.codes rest) in
    rw (r, c)

event_back : (e : Event) → fitting (event_fields e) ≡ true → (rest : List ℕ) → event_in (event_form e ++ rest) ≡ e
unfolding event_in event_form event_format fitting
event_back e h rest =
    let xs = each attribute_form e.attributes in
    let ys = text_form e.text in
    let p₁ = both_true (ltb e.link 65536) _ h in
    let p₂ = both-second (ltb e.link_type 16) _ p₁.1 in
    let p₃ = both-second (ltb (length e.attributes) 16) _ p₂ in
    let q = both_true (fitting (each attribute_fields e.attributes)) (fitting (text_fields e.text)) (sym (fitting-append (each attribute_fields e.attributes) (text_fields e.text)) ∙ p₃) in
    let l = two_bytes e.link (ltb-true e.link 65536 p₁.0) in
    let r : in_row attribute_form attribute_in (length e.attributes) ((xs ++ ys) ++ rest) ≡ e.attributes =
    rw (append_assoc xs ys rest) (row_back attribute_form attribute_in attribute_fields attribute_back e.attributes q.0 (ys ++ rest)) in
    let f : List ℕ = e.link % 256 ∷ e.link / 256 ∷ e.link_type ∷ length e.attributes ∷ (xs ++ ys) ++ rest in
    let t : text_in (drop (4 + length xs) f) ≡ e.text =
    rw (← (drop-drop (length xs) 4 f), append_assoc xs ys rest, drop-append_seam xs (ys ++ rest)) (text-back e.text q.1 rest) in
    rw (r, t, l)

-- the parts of a menu that fits
pub record Fitting (m : Menu) : Type 0 where
  pub fits_copyright : m.copyright < 2
  pub fits_block : m.block < 65536
  pub fits_lines : m.header_size < 4
  pub fits_count : length m.events < 16
  pub fits_rows : m.message_size < 8
  pub fits_number : length m.descriptors < 64
  pub fits_message : m.message < 256
  pub fits_descriptors : fitting (each descriptor_fields m.descriptors) ≡ true
  pub fits_header : fitting (text_fields m.header) ≡ true
  pub fits_events : fitting (each event_fields m.events) ≡ true

-- of what fits the format
pub fitting-parts : (sum control : ℕ) (c : Content Body) → fitting (kind_fields navigation sum control c) ≡ true → Fitting (menu_sent c)
unfolding fitting
fitting-parts sum control c h =
    let m = menu_sent c in
    let ds = each descriptor_fields m.descriptors in
    let fl = fill_fields (length m.descriptors) c.body.second in
    let tx = text_fields m.header in
    let ev = each event_fields m.events in
    let a₁ = both-second (ltb sum 256) _ h in
    let a₂ = both-second (ltb control 1024) _ a₁ in
    let a₃ = both-second (ltb c.kind 64) _ a₂ in
    let c₁ = both_true (ltb m.copyright 2) _ a₃ in
    let r = both-second (ltb c.reserved 2) _ c₁.1 in
    let b = both_true (ltb m.block 65536) _ r in
    let d₁ = both_true (ltb m.header_size 4) _ b.1 in
    let d₂ = both_true (ltb (length m.events) 16) _ d₁.1 in
    let d₃ = both_true (ltb m.message_size 8) _ d₂.1 in
    let f = both-second (ltb c.body.first 2) _ d₃.1 in
    let d₄ = both_true (ltb (length m.descriptors) 64) _ f in
    let e₁ = both_true (fitting ds) (fitting (fl ++ (tx ++ (8, m.message) ∷ ev))) (sym (fitting-append ds (fl ++ (tx ++ (8, m.message) ∷ ev))) ∙ d₄.1) in
    let e₂ = both-second (fitting fl) (fitting (tx ++ (8, m.message) ∷ ev)) (sym (fitting-append fl (tx ++ (8, m.message) ∷ ev)) ∙ e₁.1) in
    let e₃ = both_true (fitting tx) (fitting ((8, m.message) ∷ ev)) (sym (fitting-append tx ((8, m.message) ∷ ev)) ∙ e₂) in
    let e₄ = both_true (ltb m.message 256) (fitting ev) e₃.1 in
    record {
      fits_copyright = ltb-true m.copyright 2 c₁.0;
      fits_lines = ltb-true m.header_size 4 d₁.0;
      fits_count = ltb-true (length m.events) 16 d₂.0;
      fits_rows = ltb-true m.message_size 8 d₃.0;
      fits_number = ltb-true (length m.descriptors) 64 d₄.0;
      fits_message = ltb-true m.message 256 e₄.0;
      fits_block = ltb-true m.block 65536 b.0;
      fits_descriptors = e₁.0;
      fits_header = e₃.0;
      fits_events = e₄.1;
    }

-- and of a menu that can be sent
pub fits-parts : (m : Menu) → fits m ≡ true → Fitting m
unfolding fits
fits-parts m h =
    let c = content zeros m in fitting-parts 0 (kind_control navigation c) c (sendable navigation c h).fitted

-- the form of a menu that can be sent stands for it, whatever follows
pub form-back-on : (m : Menu) → fits m ≡ true → (rest : List ℕ) → menu_in (form m ++ rest) ≡ m
unfolding menu_in form
form-back-on m h rest =
    let p = fits-parts m h in
    let xs = each descriptor_form m.descriptors in
    let ys = text_form m.header in
    let zs = each event_form m.events in
    let tail = ys ++ (zs ++ rest) in
    let b = two_bytes m.block p.fits_block in
    let on : (xs ++ (ys ++ zs)) ++ rest ≡ xs ++ tail = append_assoc xs (ys ++ zs) rest ∙ ap (λ (x : List ℕ). xs ++ x) (append_assoc ys zs rest) in
    let d = row_back descriptor_form descriptor_in descriptor_fields descriptor-back m.descriptors p.fits_descriptors tail in
    let f : List ℕ = opening_of m ++ (xs ++ tail) in
    let behind : drop (9 + length xs) f ≡ tail = sym (drop-drop (length xs) 9 f) ∙ drop-append_seam xs tail in
    let t : text_in tail ≡ m.header = text-back m.header p.fits_header (zs ++ rest) in
    let e : in_row event_form event_in (length m.events) (drop (length ys) tail) ≡ m.events =
    rw (drop-append_seam ys (zs ++ rest)) (row_back event_form event_in event_fields event_back m.events p.fits_events rest) in
    rw (on, d, behind, t, e, b)

pub form-back : (m : Menu) → fits m ≡ true → menu_in (form m) ≡ m
form-back m h = ap menu_in (sym (append-nil (form m))) ∙ form-back-on m h []

-- and each rule of writing but the application's holds of it
pub form-taken : (m : Menu) → fits m ≡ true → Every (form_rules (form m))
unfolding form_rules
form-taken m h =
    let back = form-back m h in
    let long : 9 ≤ length (form m) = unfold form in omega arith in
    let kind : eqb (get_or (form m) 0 0) 3 ≡ true = unfold form in refl in
    more (le-leb 9 (length (form m)) long)
    (more kind
    (more (eq-eqb (length (form m)) (length (form (menu_in (form m)))) (sym (ap (λ (x : Menu). length (form x)) back))) (more (ap fits back ∙ h) none)))
