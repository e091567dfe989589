-- How the rules up to the checksum decide behind the frame, a lemma for each way that the code goes. Assumes nothing.
use mathlib.Core.Path.{◌≡◌}
use mathlib.Core.Bool.{Bool, true, false}
use mathlib.Core.List.{List}
use Prim.Native.Nat.{ℕ, ◌+◌, ◌%◌}
use borrow.Author.Tests.{eq-eqb, ne_eqb}
use lib.Dec.{eqb}
use lib.ListN.{length, take}
use Rattle.laws.specs.Pick.{either}
use Rattle.answer.specs.Rules.{judged}
use Rattle.answer.specs.Answer.{Answer}
use Rattle.answer.specs.Values.{refused}
use Rattle.parity.specs.Parity.{odds}
use Rattle.blocks.specs.Sums.{checksum, sound}
use Rattle.kinds.specs.Reading.{front_in, front_rules, whole_rules}

-- ---- the front

module _ (asked : ℕ → Bool) (spoken : Bool) (block_size : ℕ) (ns : List ℕ) (a : Answer) where
  pub front-10 : (sound (take 8 ns) ≡ 8 → ⊥) → judged refused (front_rules asked spoken block_size ns) a ≡ refused 10 (4 + sound (take 8 ns))
  unfolding front_rules
  front-10 h = rw (ne_eqb (sound (take 8 ns)) 8 h)

  module _ (h₁ : sound (take 8 ns) ≡ 8) where
    pub front-12 : asked (front_in ns).kind ≡ false → judged refused (front_rules asked spoken block_size ns) a ≡ refused 12 0
    unfolding front_rules
    front-12 h = rw (eq-eqb (sound (take 8 ns)) 8 h₁, h)

    module _ (h₂ : asked (front_in ns).kind ≡ true) where
      pub front-12' : ((front_in ns).access ≡ 0 → ⊥) → judged refused (front_rules asked spoken block_size ns) a ≡ refused 12 0
      unfolding front_rules
      front-12' h = rw (eq-eqb (sound (take 8 ns)) 8 h₁, h₂, ne_eqb (front_in ns).access 0 h)

      module _ (h₃ : (front_in ns).access ≡ 0) where
        pub front-13 : either spoken (eqb (block_size % 2) 0) ≡ false → judged refused (front_rules asked spoken block_size ns) a ≡ refused 13 0
        unfolding front_rules
        front-13 h = rw (eq-eqb (sound (take 8 ns)) 8 h₁, h₂, eq-eqb (front_in ns).access 0 h₃, h)

        pub front-done : either spoken (eqb (block_size % 2) 0) ≡ true → judged refused (front_rules asked spoken block_size ns) a ≡ a
        unfolding front_rules
        front-done h = rw (eq-eqb (sound (take 8 ns)) 8 h₁, h₂, eq-eqb (front_in ns).access 0 h₃, h)

-- ---- the whole block

module _ (head : ℕ) (ns strings : List ℕ) (a : Answer) where
  pub whole-10 : (sound ns ≡ length ns → ⊥) → judged refused (whole_rules head ns strings) a ≡ refused 10 (4 + sound ns)
  unfolding whole_rules
  whole-10 h = rw (ne_eqb (sound ns) (length ns) h)

  module _ (h₁ : sound ns ≡ length ns) where
    pub whole-23 :
        (odds strings ≡ length strings → ⊥) → judged refused (whole_rules head ns strings) a ≡ refused 23 (4 + length ns + odds strings)
    unfolding whole_rules
    whole-23 h = rw (eq-eqb (sound ns) (length ns) h₁, ne_eqb (odds strings) (length strings) h)

    module _ (h₂ : odds strings ≡ length strings) where
      pub whole-11 : ((front_in ns).checksum ≡ checksum head ns → ⊥) → judged refused (whole_rules head ns strings) a ≡ refused 11 0
      unfolding whole_rules
      whole-11 h =
          rw (eq-eqb (sound ns) (length ns) h₁, eq-eqb (odds strings) (length strings) h₂, ne_eqb (front_in ns).checksum (checksum head ns) h)

      pub whole-done : (front_in ns).checksum ≡ checksum head ns → judged refused (whole_rules head ns strings) a ≡ a
      unfolding whole_rules
      whole-done h =
          rw (eq-eqb (sound ns) (length ns) h₁, eq-eqb (odds strings) (length strings) h₂, eq-eqb (front_in ns).checksum (checksum head ns) h)
