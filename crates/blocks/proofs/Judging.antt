-- How the rules of the frame decide, a lemma for each way that the code goes, and how the rules behind them go on. Assumes nothing.
use mathlib.Core.Path.{◌≡◌, ◌∙◌, refl, sym, ap}
use mathlib.Core.List.{List, [], ◌∷◌, ◌++◌, append_assoc}
use Prim.Native.Nat.{ℕ, ◌+◌, ◌/◌, ◌%◌, ◌≤◌, ◌<◌}
use borrow.Author.Tests.{lt-ltb, le-ltb, le-leb, lt-leb, eq-eqb, ne_eqb}
use lib.ListN.{length}
use Rattle.std.specs.declared.result.Result.TheVariants.{Ok, Err}
use Rattle.answer.specs.Rules.{Rule, judged, Every}
use Rattle.answer.specs.declared.Refusal.{Refusal}
use Rattle.answer.specs.Answer.{Answer}
use Rattle.answer.specs.Values.{refused}
use Rattle.answer.specs.Writing.{room, answered, left}
use Rattle.answer.proofs.Lent.{lent-refused}
use Rattle.answer.proofs.Steps.{ends, goes_on, done-value, done_every}
use Rattle.blocks.specs.Block.{head_of}
use Rattle.blocks.specs.Framing.{frame_rules, framing}
use Rattle.blocks.proofs.Framed.{framed}

-- ---- the frame

module _ {A : Type 0} (f : ℕ → ℕ → A) (application len head part second : ℕ) (a : A) where
  pub frame-16 : 32 ≤ application → judged f (frame_rules application len head part second) a ≡ f 16 0
  unfolding frame_rules
  frame-16 h = rw (le-ltb application 32 h)

  module _ (h₁ : application < 32) where
    pub frame-13 : (len ≡ 4 + head / 32 → ⊥) → judged f (frame_rules application len head part second) a ≡ f 13 0
    unfolding frame_rules
    frame-13 h = rw (lt-ltb application 32 h₁, ne_eqb len (4 + head / 32) h)

    module _ (h₂ : len ≡ 4 + head / 32) where
      pub frame-part : 5 < part → judged f (frame_rules application len head part second) a ≡ f 16 0
      unfolding frame_rules
      frame-part h = rw (lt-ltb application 32 h₁, eq-eqb len (4 + head / 32) h₂, lt-leb part 5 h)

      module _ (h₃ : part ≤ 5) where
        pub frame-second : 1 < second → judged f (frame_rules application len head part second) a ≡ f 16 0
        unfolding frame_rules
        frame-second h = rw (lt-ltb application 32 h₁, eq-eqb len (4 + head / 32) h₂, le-leb part 5 h₃, lt-leb second 1 h)

        module _ (h₄ : second ≤ 1) where
          pub frame-12 : (head % 32 ≡ application → ⊥) → judged f (frame_rules application len head part second) a ≡ f 12 0
          unfolding frame_rules
          frame-12 h =
              rw (
                lt-ltb application 32 h₁,
                eq-eqb len (4 + head / 32) h₂,
                le-leb part 5 h₃,
                le-leb second 1 h₄,
                ne_eqb (head % 32) application h,
              )

          module _ (h₅ : head % 32 ≡ application) where
            pub frame-13' : head / 32 < 8 → judged f (frame_rules application len head part second) a ≡ f 13 0
            unfolding frame_rules
            frame-13' h =
                rw (
                  lt-ltb application 32 h₁,
                  eq-eqb len (4 + head / 32) h₂,
                  le-leb part 5 h₃,
                  le-leb second 1 h₄,
                  eq-eqb (head % 32) application h₅,
                  lt-leb 8 (head / 32) h,
                )

            pub frame-done : 8 ≤ head / 32 → judged f (frame_rules application len head part second) a ≡ a
            unfolding frame_rules
            frame-done h =
                rw (
                  lt-ltb application 32 h₁,
                  eq-eqb len (4 + head / 32) h₂,
                  le-leb part 5 h₃,
                  le-leb second 1 h₄,
                  eq-eqb (head % 32) application h₅,
                  le-leb 8 (head / 32) h,
                )

-- ---- the frame, then what follows it

module _ (rs : List Rule) (n : ℕ) {first : Answer} (judges : first ≡ judged refused rs (Ok n)) where
  pub head-every : {m : ℕ} → first ≡ Ok m → Every rs
  head-every {m} e = done_every rs n m (sym judges ∙ e)

  pub head-value : {m : ℕ} → first ≡ Ok m → m ≡ n
  head-value {m} e = done-value rs n m (sym judges ∙ e)

  module _ (qs : List Rule) (bytes old : List ℕ) where
    pub frame_refused :
        {w : Refusal} → first ≡ Err w → (Err w ≡ answered (rs ++ qs) bytes old) × (old ≡ left (rs ++ qs) bytes old)
    frame_refused e = lent-refused (rs ++ qs) bytes old n (ends rs qs n judges (Ok n) e) refl

    pub frame-taken : {m : ℕ} → first ≡ Ok m → answered qs bytes old ≡ answered (rs ++ qs) bytes old
    frame-taken e =
        goes_on rs (qs ++ room bytes old ∷ []) n judges (Ok (length bytes)) e
        ∙ ap (λ (l : List Rule). judged refused l (Ok (length bytes))) (sym (append_assoc rs qs (room bytes old ∷ [])))

-- a record that the frame takes is so long
pub frame-sizes :
    (application : ℕ) (r : List ℕ) (n : ℕ) {m : ℕ} {first : Answer}
    → first ≡ judged refused (framing application r) (Ok n) → first ≡ Ok m
    → (length r ≡ 4 + head_of r / 32) × (8 ≤ head_of r / 32)
frame-sizes application r n judges e = let k = framed application r (head-every (framing application r) n judges e) in (k.long, k.eight)
