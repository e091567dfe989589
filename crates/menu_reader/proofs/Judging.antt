-- How the rules of a menu's lengths decide, a lemma for each way that the code goes. Assumes nothing.
use mathlib.Core.Path.{◌≡◌, ◌∙◌, sym}
use Prim.Native.Nat.{ℕ, ◌<◌}
use borrow.Author.Tests.{lt-ltb, le-ltb, eq-eqb, ne_eqb}
use Rattle.answer.specs.Rules.{judged}
use Rattle.answer.specs.Answer.{Answer}
use Rattle.answer.specs.Values.{refused}
use Rattle.kinds.specs.Kind.{Sent, content_of, control as kind_control, size as kind_size}
use Rattle.kinds.specs.Reading.{length_rules as kind_length_rules}
use Rattle.menu_forms.specs.Menus.{Menu, Body, navigation, menu_sent, control, size}
use Rattle.menu_forms.proofs.Formats.{control-sent, size-sent}
use Rattle.menu_reader.specs.Reading.{length_rules}

module _ (block_size : ℕ) (s : Sent Body) (a : Answer) where
  abbrev m : Menu
  m = menu_sent (content_of s)

  pub lengths-header : 2 < m.header_size → judged refused (length_rules block_size s) a ≡ refused 14 0
  unfolding kind_length_rules
  lengths-header h = rw (le-ltb m.header_size 3 h)

  module _ (h₁ : m.header_size < 3) where
    pub lengths-control : (s.0.control ≡ control m → ⊥) → judged refused (length_rules block_size s) a ≡ refused 14 0
    unfolding kind_length_rules
    lengths-control h =
        rw (lt-ltb m.header_size 3 h₁, ne_eqb s.0.control (kind_control navigation (content_of s)) (λ e. h (e ∙ control-sent (content_of s))))

    module _ (h₂ : s.0.control ≡ control m) where
      pub lengths-size : (block_size ≡ size m → ⊥) → judged refused (length_rules block_size s) a ≡ refused 14 0
      unfolding kind_length_rules
      lengths-size h =
          rw (
            lt-ltb m.header_size 3 h₁,
            eq-eqb s.0.control (kind_control navigation (content_of s)) (h₂ ∙ sym (control-sent (content_of s))),
            ne_eqb block_size (kind_size navigation (content_of s)) (λ e. h (e ∙ size-sent (content_of s))),
          )

      pub lengths-done : block_size ≡ size m → judged refused (length_rules block_size s) a ≡ a
      unfolding kind_length_rules
      lengths-done h =
          rw (
            lt-ltb m.header_size 3 h₁,
            eq-eqb s.0.control (kind_control navigation (content_of s)) (h₂ ∙ sym (control-sent (content_of s))),
            eq-eqb block_size (kind_size navigation (content_of s)) (h ∙ sym (size-sent (content_of s))),
          )
