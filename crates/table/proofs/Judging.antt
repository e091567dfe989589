-- How the rules of block reading behind the frame decide, a lemma for each way that the code goes. Assumes nothing.
use mathlib.Core.Path.{◌≡◌, refl}
use mathlib.Core.Bool.{true, false}
use mathlib.Core.List.{List, ◌++◌}
use Prim.Native.Nat.{ℕ, ◌+◌, ◌%◌}
use borrow.Author.Tests.{eq-eqb, ne_eqb}
use lib.ListN.{length, take}
use Rattle.answer.specs.Rules.{judged}
use Rattle.answer.specs.Answer.{Answer}
use Rattle.answer.specs.Values.{refused}
use Rattle.answer.specs.Writing.{answered}
use Rattle.kinds.specs.Kind.{Sent}
use Rattle.forms.specs.Tables.{Body, known}
use Rattle.blocks.specs.Sums.{checksum, sound}
use Rattle.blocks.specs.Block.{head_of, nibbles_of}
use Rattle.blocks.specs.Framing.{frame_rules, framing}
use Rattle.parity.specs.Parity.{odds}
use Rattle.kinds.specs.Reading.{front_in, sent_in, front_rules as kind_front_rules, whole_rules as kind_whole_rules, length_rules as kind_length_rules}
use Rattle.table.specs.Reading.{read_rules}
use Rattle.table.specs.Internal.{front_rules, whole_rules, body_rules}

-- ---- the front, with what it is judged by: how many of the first 8 bytes decode, the kind, the access

module _ (block_size : ℕ) (ns : List ℕ) (s : Sent Body) (a : Answer) where
  pub front-10 :
      (sound (take 8 ns) ≡ 8 → ⊥)
      → judged refused (front_rules block_size ns s) a ≡ refused 10 (4 + sound (take 8 ns))
  unfolding front_rules
  front-10 h = rw (ne_eqb (sound (take 8 ns)) 8 h)

  module _ (h₁ : sound (take 8 ns) ≡ 8) where
    pub front-12 : known s.0.kind ≡ false → judged refused (front_rules block_size ns s) a ≡ refused 12 0
    unfolding front_rules
    front-12 h = rw (eq-eqb (sound (take 8 ns)) 8 h₁, h)

    module _ (h₂ : known s.0.kind ≡ true) where
      pub front-12' :
          (s.0.access ≡ 0 → ⊥) → judged refused (front_rules block_size ns s) a ≡ refused 12 0
      unfolding front_rules
      front-12' h = rw (eq-eqb (sound (take 8 ns)) 8 h₁, h₂, ne_eqb s.0.access 0 h)

      module _ (h₃ : s.0.access ≡ 0) where
        pub front-13 : (block_size % 2 ≡ 0 → ⊥) → judged refused (front_rules block_size ns s) a ≡ refused 13 0
        unfolding front_rules
        front-13 h =
            rw (eq-eqb (sound (take 8 ns)) 8 h₁, h₂, eq-eqb s.0.access 0 h₃, ne_eqb (block_size % 2) 0 h)

        pub front-done : block_size % 2 ≡ 0 → judged refused (front_rules block_size ns s) a ≡ a
        unfolding front_rules
        front-done h =
            rw (eq-eqb (sound (take 8 ns)) 8 h₁, h₂, eq-eqb s.0.access 0 h₃, eq-eqb (block_size % 2) 0 h)

-- ---- the whole block

module _ (head : ℕ) (ns : List ℕ) (s : Sent Body) (a : Answer) where
  pub whole-10 : (sound ns ≡ length ns → ⊥) → judged refused (whole_rules head ns s) a ≡ refused 10 (4 + sound ns)
  unfolding whole_rules
  whole-10 h = rw (ne_eqb (sound ns) (length ns) h)

  module _ (h₁ : sound ns ≡ length ns) where
    pub whole-11 : (s.0.checksum ≡ checksum head ns → ⊥) → judged refused (whole_rules head ns s) a ≡ refused 11 0
    unfolding whole_rules
    whole-11 h = rw (eq-eqb (sound ns) (length ns) h₁, ne_eqb s.0.checksum (checksum head ns) h)

    pub whole-done : s.0.checksum ≡ checksum head ns → judged refused (whole_rules head ns s) a ≡ a
    unfolding whole_rules
    whole-done h = rw (eq-eqb (sound ns) (length ns) h₁, eq-eqb s.0.checksum (checksum head ns) h)

-- ---- these are the kind's rules: where there are no strings, none has wrong parity

pub same-answered :
    (application : ℕ) (r bytes old : List ℕ)
    → answered (framing application r ++ body_rules (head_of r) (nibbles_of r)) bytes old ≡ answered (read_rules application r) bytes old
unfolding frame_rules front_rules whole_rules kind_front_rules kind_whole_rules kind_length_rules front_in sent_in nibbles_of odds
same-answered application r bytes old = refl
