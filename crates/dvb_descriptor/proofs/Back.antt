-- What is packed comes back: each subtitle of a form fits its five bytes, and a descriptor is read as the subtitles that it was made of.
-- Assumes nothing.
use mathlib.Core.Path.{◌≡◌, ◌∙◌, refl, sym, ap, ap₂, subst}
use mathlib.Core.Bool.{true}
use mathlib.Core.Logic.{◌↔◌}
use mathlib.Core.List.{List, [], ◌∷◌}
use Prim.Native.Nat.{ℕ, zero, suc, ◌+◌, ◌-◌, ◌*◌, ◌/◌, ◌%◌, ◌^◌, ◌<◌}
use native.Mathlib.Nat.{mod-eq_of_lt}
use native.Mathlib.Omega.{arith}
use borrow.Author.Tests.{eqb-true, eq-eqb}
use lib.Dec.{eqb}
use lib.ListN.{length, get_or, drop}
use Rattle.laws.specs.Each.{Each, nil, and}
use Rattle.laws.proofs.Eaches.{each_append}
use Rattle.answer.specs.Rules.{Every, none, more}
use Rattle.answer.proofs.Steps.{first_holds, others_hold}
use Rattle.fields.specs.Fields.{field, parts, whole}
use Rattle.fields.proofs.Laid.{whole_parts, whole_lt}
use Rattle.forms.specs.Form.{word_at, spelled, words_in, descriptors_in, table_in}
use Rattle.dvb_descriptor.specs.declared.Subtitle.{Subtitle}
use Rattle.dvb_descriptor.specs.Subtitles.{subtitle_of, paired, subtitles_in, subtitles_of}
use Rattle.dvb_descriptor.specs.Entries.{tag, five, fives, kept, kept_in, count_in}
use Rattle.dvb_descriptor.specs.Calls.{packed, read_rules, Descriptive, handed, read_of}
use Rattle.dvb_descriptor.proofs.Packing.{length-fives}

-- ---- what fits

-- a language of 24 bits and a magazine of three
record Ranged (s : Subtitle) : Type 0 where
  language_fits : s.language < 2 ^ 24
  magazine_fits : s.magazine < 8

ranged-of : (language w : ℕ) → language < 2 ^ 24 → Ranged (subtitle_of language w)
unfolding subtitle_of field
ranged-of language w h = record { language_fits = h; magazine_fits = omega arith }

words_ranged : (k : ℕ) (f : List ℕ) → Each Ranged (paired (words_in k f))
unfolding paired words_in
words_ranged zero f = nil
words_ranged (suc zero) f = nil
words_ranged (suc (suc k)) f =
    and (ranged-of (word_at f 0) (word_at (drop 3 f) 0) (whole_lt 8 (get_or f 2 0 ∷ get_or f 1 0 ∷ get_or f 0 0 ∷ []))) (words_ranged k (drop 3 (drop 3 f)))

descriptors_ranged : (each k : ℕ) (f : List ℕ) → Each Ranged (subtitles_in (descriptors_in each k f))
unfolding subtitles_in descriptors_in
descriptors_ranged each zero f = nil
descriptors_ranged each (suc k) f =
    let words = each * get_or f 1 0 in each_append (words_ranged words (drop 2 f)) (descriptors_ranged each k (drop (2 + 3 * words) f))

form-ranged : (f : List ℕ) → Each Ranged (subtitles_of (table_in f))
unfolding table_in
form-ranged f = descriptors_ranged _ (get_or f 5 0) (drop 6 f)

-- ---- back

kept_back : {ss : List Subtitle} → Each Ranged ss → kept_in (length ss) (fives 2 ss) ≡ ss
unfolding kept_in kept fives five spelled parts
kept_back nil = refl
kept_back (and {a = s} {l = ss} r rs) =
    let m : (16 + s.magazine) % 8 ≡ s.magazine = omega (arith, r.magazine_fits) in
    let type : eqb ((16 + s.magazine) / 8) 2 ≡ true = eq-eqb ((16 + s.magazine) / 8) 2 (omega (arith, r.magazine_fits)) in
    let l : whole 8 (s.language % 256 ∷ s.language / 256 % 256 ∷ s.language / 256 / 256 % 256 ∷ []) ≡ s.language =
    whole_parts 8 3 s.language ∙ mod-eq_of_lt r.language_fits in
    let one : ◌≡◌ {A = Subtitle} (record { language = whole 8 (s.language % 256 ∷ s.language / 256 % 256 ∷ s.language / 256 / 256 % 256 ∷ []); magazine = (16 + s.magazine) % 8; page = s.page }) s =
    λ i. record { language = l i; magazine = m i; page = s.page } in
    rw type (ap₂ (λ (x : Subtitle) (xs : List Subtitle). x ∷ xs) one (kept_back rs))

packed-count : (ss : List Subtitle) → count_in (packed ss) ≡ length ss
unfolding packed
packed-count ss = omega arith

unpacked : {ss : List Subtitle} → Each Ranged ss → kept_in (count_in (packed ss)) (drop 2 (packed ss)) ≡ ss
unfolding packed
unpacked {ss} r = rw (packed-count ss) (kept_back r)

-- a tag, five times a count and as many bytes are what reading takes
descriptive_holds : (n : ℕ) (rest : List ℕ) → length rest ≡ 5 * n → Every (read_rules (tag ∷ 5 * n ∷ rest))
unfolding read_rules
descriptive_holds n rest h =
    more refl (more (eq-eqb (5 * n % 5) 0 (omega arith)) (more (eq-eqb (length (tag ∷ 5 * n ∷ rest)) (2 + 5 * n) (omega arith)) none))

module _ (f : List ℕ) where
  -- the descriptor of a form is one that reading takes
  pub packed-holds : Every (read_rules (packed (subtitles_of (table_in f))))
  unfolding packed
  packed-holds =
      let ss = subtitles_of (table_in f) in descriptive_holds (length ss) (fives 2 ss) (length-fives 2 ss)

  -- and is read as the form's subtitles, none passed over
  pub packed-read : read_of (packed (subtitles_of (table_in f))) ≡ handed 0 (subtitles_of (table_in f))
  unfolding read_of
  packed-read =
      let ss = subtitles_of (table_in f) in
      let none : count_in (packed ss) - length ss ≡ 0 = omega (arith, packed-count ss) in
      rw (unpacked (form-ranged f), none)

-- two forms give one descriptor exactly when their subtitles are the same
pub packed_alike :
    (f g : List ℕ) → (packed (subtitles_of (table_in f)) ≡ packed (subtitles_of (table_in g))) ↔ (subtitles_of (table_in f) ≡ subtitles_of (table_in g))
packed_alike f g =
    (λ e. sym (unpacked (form-ranged f)) ∙ ap (λ (b : List ℕ). kept_in (count_in b) (drop 2 b)) e ∙ unpacked (form-ranged g), λ e. ap packed e)

-- ---- what reading takes

pub reads_exactly : (b : List ℕ) → Every (read_rules b) ↔ Descriptive b
unfolding read_rules
reads_exactly b = (to b, from)
  where
    to : (l : List ℕ) → Every (read_rules l) → Descriptive l
    to [] e = let h = eqb-true 0 2 (first_holds (others_hold (others_hold e))) in absurd (omega arith)
    to (x ∷ []) e = let h = eqb-true 1 2 (first_holds (others_hold (others_hold e))) in absurd (omega arith)
    to (x ∷ c ∷ rest) e =
        let h₀ = eqb-true x tag (first_holds e) in
        let h₁ = eqb-true (c % 5) 0 (first_holds (others_hold e)) in
        let h₂ = eqb-true (length (x ∷ c ∷ rest)) (2 + c) (first_holds (others_hold (others_hold e))) in
        let n : c ≡ 5 * (c / 5) = omega arith in
        (c / 5, rest, ap₂ (λ (y d : ℕ). y ∷ d ∷ rest) h₀ n, omega (arith, h₂, n))

    from : Descriptive b → Every (read_rules b)
    from (n, rest, e, h) = subst (λ (l : List ℕ). Every (read_rules l)) (sym e) (descriptive_holds n rest h)
