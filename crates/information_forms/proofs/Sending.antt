-- Information that can be sent: what that says of its parts, that the bits which are no part of it don't matter, how long it is at most, and
-- that writing takes its form. Assumes nothing.
use mathlib.Core.Path.{◌≡◌, ◌∙◌, refl, sym, ap, subst}
use mathlib.Core.Bool.{Bool, true, false, true≢false}
use mathlib.Core.List.{List, [], ◌∷◌, ◌++◌, append-nil}
use Prim.Native.Nat.{ℕ, ◌+◌, ◌*◌, ◌%◌, ◌≤◌, ◌<◌}
use native.Mathlib.Omega.{arith}
use borrow.Author.Tests.{ltb-true, lt-ltb, le-leb, eqb-true, eq-eqb}
use lib.Dec.{eqb, ltb}
use lib.ListN.{length, get_or, length-append}
use Rattle.laws.specs.Pick.{pick, both, either}
use Rattle.laws.specs.Each.{Each, nil, and}
use Rattle.laws.proofs.Tests.{both_true, both-second, both-holds}
use Rattle.fields.specs.Fields.{Field, fitting}
use Rattle.fields.proofs.Laid.{fitting-append}
use Rattle.answer.specs.Rules.{Every, none, more}
use Rattle.codecs.specs.Rows.{each, rowed}
use Rattle.codecs.specs.Codec.{fit, row_whole}
use Rattle.kinds.specs.Kind.{Content, sent, sevens, format, control, strings, size, fits as sendable}
use Rattle.kinds.proofs.Fronts.{Owed}
use Rattle.information_forms.specs.Information.{Network, Information, opening_widths, network_widths, network_count, name_length, network_name, network_format, fill_up, Behind, behind, sent_behind, names}
use Rattle.information_forms.specs.Form.{form, information_in}
use Rattle.information_forms.specs.Kind.{information, value, content, fits}
use Rattle.information_forms.specs.Writing.{form_rules}
use Rattle.information_forms.specs.Rows.{row_bytes}
use Rattle.information_forms.proofs.Rowed.{row_fits}
use Rattle.information_forms.proofs.Formats.{behind-lawful}
use Rattle.information_forms.proofs.Forms.{Fitting, fitting-parts, form-back}
use Rattle.information_forms.proofs.Sizes.{control-of, strings-of, size_of, form-long}

-- what the kind owes
pub owed : Owed information
owed = record { lawful = λ kind. behind-lawful; silent = λ e c. absurd (true≢false e) }

pub record Sendable (i : Information) : Type 0 where
  pub clear : i.copyright < 2
  pub fitted : Fitting i
  pub seven : sevens (names i) ≡ true
  pub small : 40 + 25 * length i.networks + length i.networks % 2 + length (names i) < 2048

-- of a content that can be sent, the information in it
pub content-sendable : (c : Content Behind) → sendable information c ≡ true → Sendable (value c)
unfolding sendable fitting
content-sendable c h =
    let s = sent 0 (control information c) c in
    let p₁ = both-second (either (eqb c.kind 1) (eqb c.kind 1)) _ h in
    let p₂ = both_true (fit (format information) s) _ p₁ in
    let p₃ = both_true (sevens (strings information c)) _ p₂.1 in
    let q = both_true (behind.whole c.body) _ p₂.0 in
    let f₁ = both-second (ltb (control information c) 1024) _ q.1 in
    let f₂ = both-second (ltb c.kind 64) _ f₁ in
    let f₃ = both_true (ltb c.copyright 2) _ f₂ in
    let f₄ = both-second (ltb c.reserved 2) _ f₃.1 in
    let parts = fitting-parts c.body.1.0 c.body.1.1.1.1 (value c) q.0 f₄ in
    record {
      clear = ltb-true c.copyright 2 f₃.0;
      fitted = parts;
      seven = ap sevens (sym (strings-of c)) ∙ p₃.0;
      small = subst (λ (x : ℕ). x < 2048) (size_of c parts.networks_count) (ltb-true (size information c) 2048 p₃.1);
    }

-- and what is sent for it then can be sent
module _ (i : Information) (p : Sendable i) where
  filled : (count : ℕ) → ((fill_up count).whole 0 ≡ true) × (fitting ((fill_up count).fields 0) ≡ true)
  unfolding fill_up fitting
  filled count = go (eqb (count % 2) 1)
    where
      go : (b : Bool) → (either b (eqb 0 0) ≡ true) × (fitting (pick b ((4, 0) ∷ []) []) ≡ true)
      go true = (refl, refl)
      go false = (refl, refl)

  whole_sent : behind.whole (sent_behind 0 0 i) ≡ true
  whole_sent =
      both-holds (eqb (length i.opening) 12) _ (eq-eqb (length i.opening) 12 p.fitted.opening_count)
      (both-holds (eqb (length i.name) (name_length i.opening)) _ (eq-eqb (length i.name) (name_length i.opening) p.fitted.name_count)
      (both-holds (both (eqb (length i.networks) (network_count i.opening)) (row_whole network_format i.networks)) _
      (both-holds (eqb (length i.networks) (network_count i.opening)) _
      (eq-eqb (length i.networks) (network_count i.opening) p.fitted.networks_count) p.fitted.networks_whole)
      (filled (network_count i.opening)).0))

  fields-sent : fitting (behind.fields (sent_behind 0 0 i)) ≡ true
  unfolding fitting
  fields-sent =
      let ws = rowed opening_widths i.opening in
      let ns : List Field = each network_format.fields i.networks in
      let fl : List Field = (fill_up (network_count i.opening)).fields 0 in
      fitting-append ws ((2, 0) ∷ (ns ++ fl))
      ∙ both-holds (fitting ws) _ p.fitted.opening_fits
      (fitting-append ns fl ∙ both-holds (fitting ns) (fitting fl) p.fitted.networks_fit (filled (network_count i.opening)).1)

  pub sendable-fits : fits i ≡ true
  unfolding sendable fitting
  sendable-fits =
      let c = content i in
      let k = control-of c p.fitted.networks_count in
      let z = size_of c p.fitted.networks_count in
      let low : control information c < 1024 = omega (arith, k, p.small) in
      let less : size information c < 2048 = omega (arith, z, p.small) in
      let own : fitting ((format information).fields (sent 0 (control information c) c)) ≡ true =
      rw (lt-ltb (control information c) 1024 low, lt-ltb i.copyright 2 p.clear) fields-sent in
      both-holds (fit (format information) (sent 0 (control information c) c)) _ (both-holds (behind.whole c.body) _ whole_sent own)
      (both-holds (sevens (strings information c)) _ (ap sevens (strings-of c) ∙ p.seven) (lt-ltb (size information c) 2048 less))

-- whatever the bits are that are no part of it
pub spare_none : (c : Content Behind) → sendable information c ≡ true → fits (value c) ≡ true
spare_none c h = sendable-fits (value c) (content-sendable c h)

pub fits-sendable : (i : Information) → fits i ≡ true → Sendable i
fits-sendable i h = content-sendable (content i) h

-- the form of information that can be sent stands for it
pub sent_back : (i : Information) → fits i ≡ true → information_in (form i) ≡ i
sent_back i h = form-back i (fits-sendable i h).fitted

-- and each rule of writing but the application's holds of it
pub form-taken : (i : Information) → fits i ≡ true → Every (form_rules (form i))
unfolding form_rules row_bytes
form-taken i h =
    let back = sent_back i h in
    let long : 20 ≤ length (form i) = omega (arith, form-long i) in
    let kind : eqb (get_or (form i) 0 0) 1 ≡ true = unfold form in refl in
    more (le-leb 20 (length (form i)) long)
    (more kind
    (more (eq-eqb (length (form i)) (length (form (information_in (form i)))) (sym (ap (λ (x : Information). length (form x)) back)))
    (more (ap fits back ∙ h) none)))

-- ---- how long it is at most

-- annex E: a name has at most 31 codes, the service's and each network's
pub record Short (i : Information) : Type 0 where
  pub service : length i.name ≤ 31
  pub each_network : Each (λ (n : Network). length n.name ≤ 31) i.networks

networks_short :
    (ns : List Network) → row_whole network_format ns ≡ true → fitting (each network_format.fields ns) ≡ true
    → Each (λ (n : Network). length n.name ≤ 31) ns
unfolding network_format
networks_short [] w h = nil
networks_short (n ∷ ns) w h =
    let p = both_true (network_format.whole n) (row_whole network_format ns) w in
    let own = eqb-true (length n.name) (network_name n.numbers) (both-second (eqb (length n.numbers) 13) _ p.0) in
    let f = both_true (fitting (network_format.fields n)) _ (sym (fitting-append (network_format.fields n) (each network_format.fields ns)) ∙ h) in
    let row : fitting (rowed network_widths n.numbers) ≡ true = ap fitting (sym (append-nil (rowed network_widths n.numbers))) ∙ f.0 in
    let less : network_name n.numbers < 32 = row_fits network_widths n.numbers 4 (omega arith) row in
    let few : length n.name ≤ 31 = omega (arith, own, less) in
    and few (networks_short ns p.1 f.1)

pub names-short : (i : Information) → fits i ≡ true → Short i
names-short i h =
    let p = (fits-sendable i h).fitted in
    let less : name_length i.opening < 32 = row_fits opening_widths i.opening 10 (omega arith) p.opening_fits in
    record {
      service = omega (arith, p.name_count, less);
      each_network = networks_short i.networks p.networks_whole p.networks_fit;
    }

all_short :
    (ns : List Network) → Each (λ (n : Network). length n.name ≤ 31) ns → length (each (λ (n : Network). n.name) ns) ≤ 31 * length ns
all_short [] nil = omega arith
all_short (n ∷ ns) (and p ps) = omega (arith, p, all_short ns ps, length-append n.name (each (λ (x : Network). x.name) ns))

-- at most 80 networks go into a block
pub networks_most : (i : Information) → fits i ≡ true → length i.networks ≤ 80
networks_most i h = omega (arith, (fits-sendable i h).small)

-- a form is never longer than its block
pub form_shorter : (i : Information) → fits i ≡ true → length (form i) ≤ size information (content i)
form_shorter i h = omega (arith, form-long i, size_of (content i) (fits-sendable i h).fitted.networks_count)

-- and has at most 1,739 bytes
pub form_most_lem : (i : Information) → fits i ≡ true → length (form i) ≤ 1739
form_most_lem i h =
    let s = names-short i h in
    let few = all_short i.networks s.each_network in
    omega (arith, form-long i, (fits-sendable i h).small, s.service, few, length-append i.name (each (λ (n : Network). n.name) i.networks))
