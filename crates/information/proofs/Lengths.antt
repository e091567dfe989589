-- What control bytes and string bytes carry, how long it is by its number of networks and its codes, and the last rule of reading. Assumes
-- nothing.
use mathlib.Core.Path.{◌≡◌, ◌∙◌, refl, sym, ap, subst}
use mathlib.Core.List.{List, map}
use Prim.Native.Nat.{ℕ, ◌+◌, ◌*◌, ◌/◌, ◌%◌, ◌^◌}
use native.Mathlib.Omega.{arith}
use borrow.Author.Tests.{eq-eqb, ne_eqb}
use lib.ListN.{length}
use Rattle.answer.specs.Rules.{judged}
use Rattle.answer.specs.Values.{refused}
use Rattle.answer.specs.Answer.{Answer}
use Rattle.octet.specs.Decoding.{nib}
use Rattle.fields.specs.Fields.{width, field}
use Rattle.fields.specs.Compound.{compound}
use Rattle.codecs.proofs.Lawful.{row-length}
use Rattle.kinds.specs.Front.{Front}
use Rattle.kinds.specs.Kind.{Content, Sent, content_of, control, size}
use Rattle.kinds.specs.Reading.{front_in, sent_in, carried_by, length_rules}
use Rattle.kinds.proofs.Fronts.{front_at}
use Rattle.information_forms.specs.Information.{Information, Behind, network_count, network_format, behind, among, names}
use Rattle.information_forms.specs.Form.{form}
use Rattle.information_forms.specs.Kind.{information, value}
use Rattle.information_forms.proofs.Sizes.{control-of, size_of, form-long}
use Rattle.information.specs.Internal.{spoken, held}
use Rattle.information.proofs.Holding.{held_found, count_at}

module _ (bytes strings : List ℕ) where
  abbrev n : ℕ
  n = compound bytes

  abbrev s : Sent Behind
  s = carried_by information bytes strings

  abbrev c : Content Behind
  c = content_of s

  pub held_carried : value c ≡ held bytes strings
  unfolding held sent_in front_in width
  held_carried = ap (λ (f : Front). among f.copyright (behind.read (n / 2 ^ 28) (spoken strings))) (front_at (map nib bytes))

  pub control_said : s.0.control ≡ field 8 10 n
  unfolding sent_in front_in
  control_said = ap (λ (f : Front). f.control) (front_at (map nib bytes))

  module _ (networks : ℕ) (e : networks ≡ field 136 8 n) where
    counted : length (held bytes strings).networks ≡ networks
    counted =
        ap (λ (i : Information). length i.networks) (held_found bytes strings networks (field 152 5 n) e refl) ∙ row-length network_format networks _ _

    opened : network_count (held bytes strings).opening ≡ networks
    opened =
        ap (λ (i : Information). network_count i.opening) (held_found bytes strings networks (field 152 5 n) e refl) ∙ count_at bytes strings networks (field 152 5 n) e refl

    own : length (value c).networks ≡ network_count (value c).opening
    own = subst (λ (i : Information). length i.networks ≡ network_count i.opening) (sym held_carried) (counted ∙ sym opened)

    many : length (value c).networks ≡ networks
    many = ap (λ (i : Information). length i.networks) held_carried ∙ counted

    pub control-held : control information c ≡ 20 + (25 * networks + networks % 2) / 2
    control-held = control-of c own ∙ ap (λ (k : ℕ). 20 + (25 * k + k % 2) / 2) many

    pub size-held : (codes : ℕ) → codes ≡ length (names (held bytes strings)) → size information c ≡ 2 * (20 + (25 * networks + networks % 2) / 2) + codes
    size-held codes l =
        let even : (25 * networks + networks % 2) % 2 ≡ 0 = omega arith in
        let all : size information c ≡ 40 + 25 * networks + networks % 2 + length (names (value c)) =
        size_of c own ∙ ap (λ (k : ℕ). 40 + 25 * k + k % 2 + length (names (value c))) many in
        let same : length (names (value c)) ≡ codes = ap (λ (i : Information). length (names i)) held_carried ∙ sym l in
        omega (arith, all, same, even)

    pub form-held : (codes : ℕ) → codes ≡ length (names (held bytes strings)) → 20 + 17 * networks + codes ≡ length (form (held bytes strings))
    form-held codes l = omega (arith, form-long (held bytes strings), counted, l)

-- ---- the lengths

module _ (block_size : ℕ) (s : Sent Behind) (a : Answer) where
  pub lengths-control : (s.0.control ≡ control information (content_of s) → ⊥) → judged refused (length_rules information block_size s) a ≡ refused 14 0
  unfolding length_rules
  lengths-control h = rw (ne_eqb s.0.control (control information (content_of s)) h)

  module _ (h₁ : s.0.control ≡ control information (content_of s)) where
    pub lengths-size : (block_size ≡ size information (content_of s) → ⊥) → judged refused (length_rules information block_size s) a ≡ refused 14 0
    unfolding length_rules
    lengths-size h = rw (eq-eqb s.0.control (control information (content_of s)) h₁, ne_eqb block_size (size information (content_of s)) h)

    pub lengths-done : block_size ≡ size information (content_of s) → judged refused (length_rules information block_size s) a ≡ a
    unfolding length_rules
    lengths-done h = rw (eq-eqb s.0.control (control information (content_of s)) h₁, eq-eqb block_size (size information (content_of s)) h)
