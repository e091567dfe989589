-- A form that is measured: how long it, its block and its record are, whether it can be sent, and the rules of writing in order. Assumes
-- nothing.
use mathlib.Core.Path.{◌≡◌, ◌∙◌, refl, sym, ap}
use mathlib.Core.Bool.{Bool, true, false, true≢false}
use mathlib.Core.List.{List, [], ◌∷◌, ◌++◌, map, append-nil}
use Prim.Native.Nat.{ℕ, zero, suc, ◌+◌, ◌*◌, ◌%◌, ◌≤◌, ◌<◌}
use native.Mathlib.Omega.{arith}
use borrow.Author.Tests.{ltb-true, lt-ltb, le-ltb, le-leb, lt-leb, eq-eqb, ne_eqb}
use lib.Dec.{ltb, eqb}
use lib.ListN.{length, get_or, drop, length-append, length-map}
use Rattle.std.specs.declared.result.Result.TheVariants.{Ok}
use Rattle.laws.proofs.Tests.{both_true, both-holds}
use Rattle.answer.specs.Rules.{judged}
use Rattle.answer.specs.Values.{refused}
use Rattle.answer.specs.Answer.{Answer}
use Rattle.answer.proofs.Steps.{done_every, first_holds, others_hold}
use Rattle.octet.specs.Image.{image}
use Rattle.parity.specs.Parity.{letter}
use Rattle.fields.specs.Fields.{Field, fitting}
use Rattle.fields.proofs.Laid.{fitting-append}
use Rattle.codecs.specs.Rows.{each, in_row, rowed}
use Rattle.codecs.specs.Codec.{row_whole}
use Rattle.codecs.proofs.Codes.{codes-count}
use Rattle.codecs.proofs.Found.{found-count}
use Rattle.kinds.specs.Kind.{sevens, strings, size}
use Rattle.kinds.specs.Block.{nibbles, checksum_of, block_with}
use Rattle.kinds.proofs.Laying.{nibbles-long}
use Rattle.information_forms.specs.Rows.{row_bytes, row_in}
use Rattle.information_forms.specs.Information.{Network, Information, opening_widths, network_widths, network_count, name_length, network_name, network_format}
use Rattle.information_forms.specs.Form.{network_form, form, network_in, form_opening, information_in}
use Rattle.information_forms.specs.Kind.{information, content, fits, record_of}
use Rattle.information_forms.specs.Writing.{form_rules, write_rules}
use Rattle.information_forms.proofs.Rowed.{row_count}
use Rattle.information_forms.proofs.Sizes.{size_of, form-long}
use Rattle.information_forms.proofs.Forms.{Fitting}
use Rattle.information_forms.proofs.Sending.{Sendable, sendable-fits, fits-sendable}
use Rattle.information_writer.specs.Internal.{network_fine, all_fine, opening_fine, Counted}
use Rattle.information_writer.specs.declared.Measured.{Measured}
use Rattle.information_writer.proofs.Listed.{count-said}

-- ---- values and codes of all networks

sevens-append : (xs ys : List ℕ) → sevens xs ≡ true → sevens ys ≡ true → sevens (xs ++ ys) ≡ true
unfolding sevens
sevens-append [] ys p q = q
sevens-append (x ∷ xs) ys p q =
    let h = both_true (ltb x 128) (sevens xs) p in both-holds (ltb x 128) _ h.0 (sevens-append xs ys h.1 q)

sevens-parts : (xs ys : List ℕ) → sevens (xs ++ ys) ≡ true → (sevens xs ≡ true) × (sevens ys ≡ true)
unfolding sevens
sevens-parts [] ys p = (refl, p)
sevens-parts (x ∷ xs) ys p =
    let h = both_true (ltb x 128) (sevens (xs ++ ys)) p in
    let r = sevens-parts xs ys h.1 in
    (both-holds (ltb x 128) _ h.0 r.0, r.1)

abbrev spoken : List Network → List ℕ
spoken ns = each (λ (n : Network). n.name) ns

abbrev laid_out : List Network → List Field
laid_out ns = each network_format.fields ns

row_of : (n : Network) → network_format.fields n ≡ rowed network_widths n.numbers
unfolding network_format
row_of n = append-nil (rowed network_widths n.numbers)

fine_all : (ns : List Network) → all_fine ns ≡ true → (fitting (laid_out ns) ≡ true) × (sevens (spoken ns) ≡ true)
unfolding all_fine
fine_all [] h = (unfold fitting in refl, unfold sevens in refl)
fine_all (n ∷ ns) h =
    let p = both_true (network_fine n) (all_fine ns) h in
    let q = both_true (fitting (rowed network_widths n.numbers)) (sevens n.name) p.0 in
    let r = fine_all ns p.1 in (
      fitting-append (network_format.fields n) (laid_out ns) ∙ both-holds (fitting (network_format.fields n)) _ (ap fitting (row_of n) ∙ q.0) r.0,
      sevens-append n.name (spoken ns) q.1 r.1,
    )

all_fine_lem : (ns : List Network) → fitting (laid_out ns) ≡ true → sevens (spoken ns) ≡ true → all_fine ns ≡ true
unfolding all_fine
all_fine_lem [] h k = refl
all_fine_lem (n ∷ ns) h k =
    let p = both_true (fitting (network_format.fields n)) _ (sym (fitting-append (network_format.fields n) (laid_out ns)) ∙ h) in
    let q = sevens-parts n.name (spoken ns) k in
    both-holds (network_fine n) _ (both-holds (fitting (rowed network_widths n.numbers)) _ (sym (ap fitting (row_of n)) ∙ p.0) q.0)
    (all_fine_lem ns p.1 q.1)

-- ---- counts

in_whole : (l : List ℕ) → network_format.whole (network_in l) ≡ true
unfolding network_format network_in
in_whole l =
    both-holds (eqb (length (row_in network_widths l)) 13) _ (eq-eqb (length (row_in network_widths l)) 13 (row_count network_widths l))
    (eq-eqb _ _ (codes-count (network_name (row_in network_widths l)) (drop (row_bytes network_widths) l)))

all_whole : (k : ℕ) (l : List ℕ) → row_whole network_format (in_row network_form network_in k l) ≡ true
unfolding in_row
all_whole zero l = refl
all_whole (suc k) l = both-holds (network_format.whole (network_in l)) _ (in_whole l) (all_whole k (drop (length (network_form (network_in l))) l))

module _ (f : List ℕ) where
  abbrev i : Information
  i = information_in f

  pub counts : (length i.opening ≡ 12) × (length i.name ≡ name_length i.opening) × (length i.networks ≡ network_count i.opening) × (row_whole network_format i.networks ≡ true)
  unfolding information_in
  counts =
      let o = row_in opening_widths (drop 2 f) in (
        row_count opening_widths (drop 2 f),
        codes-count (name_length o) (drop form_opening f),
        found-count network_form network_in (network_count o) (drop (form_opening + name_length o) f),
        all_whole (network_count o) (drop (form_opening + name_length o) f),
      )

  module _ (m : Measured) (c : Counted m i) (networks : ℕ) (en : networks ≡ get_or f 16 0) (hn : networks < 256) where
    many : length i.networks ≡ networks
    many = counts.2 ∙ count-said f networks en hn

    pub form-counted : 20 + 17 * networks + m.codes ≡ length (form i)
    form-counted = omega (arith, form-long i, many, c.coded)

    pub size-counted : 40 + 25 * networks + networks % 2 + m.codes ≡ size information (content i)
    size-counted =
        let own : length i.networks ≡ network_count i.opening = counts.2 in
        let k : networks % 2 ≡ length i.networks % 2 = ap (λ (x : ℕ). x % 2) (sym many) in
        omega (arith, size_of (content i) own, many, k, c.coded)

    pub fits-counted : m.fine ≡ true → 40 + 25 * networks + networks % 2 + m.codes < 2048 → fits i ≡ true
    fits-counted fine small =
        let p = both_true (opening_fine i) (all_fine i.networks) (sym c.fitted ∙ fine) in
        let o = both_true (ltb i.copyright 2) _ p.0 in
        let q = both_true (fitting (rowed opening_widths i.opening)) (sevens i.name) o.1 in
        let r = fine_all i.networks p.1 in
        let k : networks % 2 ≡ length i.networks % 2 = ap (λ (x : ℕ). x % 2) (sym many) in
        let own : Fitting i =
        record {
          opening_count = counts.0;
          opening_fits = q.0;
          name_count = counts.1;
          networks_count = counts.2;
          networks_whole = counts.3;
          networks_fit = r.0;
        } in
        let all : Sendable i =
        record {
          clear = ltb-true i.copyright 2 o.0;
          fitted = own;
          seven = sevens-append i.name (spoken i.networks) q.1 r.1;
          small = omega (arith, many, k, c.coded, small);
        } in
        sendable-fits i all

    fits-parts : fits i ≡ true → (m.fine ≡ true) × (40 + 25 * networks + networks % 2 + m.codes < 2048)
    fits-parts x =
        let p = fits-sendable i x in
        let q = sevens-parts i.name (spoken i.networks) p.seven in
        let k : networks % 2 ≡ length i.networks % 2 = ap (λ (y : ℕ). y % 2) (sym many) in (
          c.fitted
              ∙ both-holds (opening_fine i) _
              (both-holds (ltb i.copyright 2) _ (lt-ltb i.copyright 2 p.clear) (both-holds (fitting (rowed opening_widths i.opening)) _ p.fitted.opening_fits q.0))
              (all_fine_lem i.networks p.fitted.networks_fit q.1),
          omega (arith, p.small, many, k, c.coded),
        )

    pub over-values : m.fine ≡ false → fits i ≡ false
    over-values h = go (fits i) refl
      where
        go : (b : Bool) → fits i ≡ b → b ≡ false
        go true x = absurd (true≢false (sym (fits-parts x).0 ∙ h))
        go false x = refl

    pub over-size : 2048 ≤ 40 + 25 * networks + networks % 2 + m.codes → fits i ≡ false
    over-size h = go (fits i) refl
      where
        go : (b : Bool) → fits i ≡ b → b ≡ false
        go true x = absurd (over (fits-parts x).1 h)
          where
            over : {n : ℕ} → n < 2048 → 2048 ≤ n → ⊥
            over a b = omega arith
        go false x = refl

-- how long the record is
pub record_long : (application : ℕ) (i : Information) → length (record_of application i) ≡ 4 + size information (content i)
unfolding block_with
record_long application i =
    let c = content i in
    let sum = checksum_of information application 0 c in
    let xs = nibbles information sum 0 c in
    let ys = strings information c in
    omega (arith, length-append (map image xs) (map letter ys), length-map xs image, length-map ys letter, nibbles-long information sum 0 c)

-- ---- the rules in order

module _ (application : ℕ) (f : List ℕ) (a : Answer) where
  pub by-16 : 32 ≤ application → judged refused (write_rules application f) a ≡ refused 16 0
  unfolding form_rules
  by-16 h = rw (le-ltb application 32 h)

  module _ (h₁ : application < 32) where
    pub by-13 : length f < 20 → judged refused (write_rules application f) a ≡ refused 13 0
    unfolding form_rules row_bytes
    by-13 h = rw (lt-ltb application 32 h₁, lt-leb 20 (length f) h)

    module _ (h₂ : 20 ≤ length f) where
      pub by-15 : (get_or f 0 0 ≡ 1 → ⊥) → judged refused (write_rules application f) a ≡ refused 15 0
      unfolding form_rules row_bytes
      by-15 h = rw (lt-ltb application 32 h₁, le-leb 20 (length f) h₂, ne_eqb (get_or f 0 0) 1 h)

      module _ (h₃ : get_or f 0 0 ≡ 1) where
        pub by_length : (length f ≡ length (form (information_in f)) → ⊥) → judged refused (write_rules application f) a ≡ refused 13 0
        unfolding form_rules row_bytes
        by_length h =
            rw (lt-ltb application 32 h₁, le-leb 20 (length f) h₂, eq-eqb (get_or f 0 0) 1 h₃, ne_eqb (length f) (length (form (information_in f))) h)

        module _ (h₄ : length f ≡ length (form (information_in f))) where
          pub by_values : fits (information_in f) ≡ false → judged refused (write_rules application f) a ≡ refused 15 0
          unfolding form_rules row_bytes
          by_values h =
              rw (lt-ltb application 32 h₁, le-leb 20 (length f) h₂, eq-eqb (get_or f 0 0) 1 h₃, eq-eqb (length f) (length (form (information_in f))) h₄, h)

          pub by-none : fits (information_in f) ≡ true → judged refused (write_rules application f) a ≡ a
          unfolding form_rules row_bytes
          by-none h =
              rw (lt-ltb application 32 h₁, le-leb 20 (length f) h₂, eq-eqb (get_or f 0 0) 1 h₃, eq-eqb (length f) (length (form (information_in f))) h₄, h)

-- what is judged fine is of an application, and can be sent
pub writable :
    (application : ℕ) (f : List ℕ) (n m : ℕ) → judged refused (write_rules application f) (Ok n) ≡ Ok m
    → (application < 32) × (size information (content (information_in f)) < 2048) × ((information_in f).copyright < 2)
unfolding form_rules
writable application f n m e =
    let all = done_every (write_rules application f) n m e in
    let fit = first_holds (others_hold (others_hold (others_hold (others_hold all)))) in
    let p = fits-sendable (information_in f) fit in
    let z = size_of (content (information_in f)) p.fitted.networks_count in
    (ltb-true application 32 (first_holds all), omega (arith, z, p.small), p.clear)
