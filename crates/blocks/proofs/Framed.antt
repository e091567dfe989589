-- What the rules of the frame say of a record, and of an outcome that accepts it. Assumes nothing.
use mathlib.Core.Path.{◌≡◌, refl}
use mathlib.Core.Bool.{Bool, true, false}
use mathlib.Core.List.{List, [], ◌∷◌}
use Prim.Native.Nat.{ℕ, ◌+◌, ◌/◌, ◌%◌, ◌≤◌, ◌<◌}
use native.Mathlib.Omega.{arith}
use borrow.Author.Tests.{ltb-true, lt-ltb, leb-true, le-leb, eqb-true, eq-eqb}
use lib.Dec.{leb}
use lib.ListN.{length}
use Rattle.laws.specs.Pick.{pick}
use Rattle.laws.proofs.Tests.{both_first}
use Rattle.answer.specs.Rules.{Rule, judged, Every, none, more}
use Rattle.answer.proofs.Steps.{first_holds, others_hold}
use Rattle.blocks.specs.Block.{header, head_of, part_of, second_of, application_of, size_of}
use Rattle.fields.specs.Fields.{laid}
use Rattle.blocks.specs.Parts.{part_most, InRange}
use Rattle.blocks.specs.Framing.{frame_rules, framing}
use Rattle.blocks.specs.Outcome.{accepted, refused}

-- ---- the frame

pub record Framed (application : ℕ) (r : List ℕ) : Type 0 where
  pub within : application < 32
  pub long : length r ≡ 4 + head_of r / 32
  pub in_range : InRange r
  pub ours : head_of r % 32 ≡ application
  pub eight : 8 ≤ head_of r / 32

module _ (application : ℕ) (r : List ℕ) where
  pub framed : Every (framing application r) → Framed application r
  unfolding frame_rules
  framed e₀ =
      let e₁ = others_hold e₀ in
      let e₂ = others_hold e₁ in
      let e₃ = others_hold e₂ in
      record {
        within = ltb-true application 32 (first_holds e₀);
        long = eqb-true (length r) (4 + head_of r / 32) (first_holds e₁);
        in_range = first_holds e₂;
        ours = eqb-true (head_of r % 32) application (first_holds e₃);
        eight = leb-true 8 (head_of r / 32) (first_holds (others_hold e₃));
      }

  pub frame-holds : Framed application r → Every (framing application r)
  unfolding frame_rules
  frame-holds k =
      more (lt-ltb application 32 k.within)
      (more (eq-eqb (length r) (4 + head_of r / 32) k.long)
      (more k.in_range
      (more (eq-eqb (head_of r % 32) application k.ours) (more (le-leb 8 (head_of r / 32) k.eight) none))))

pub part_most_lem : (r : List ℕ) → InRange r → part_of r ≤ part_most
part_most_lem r e = leb-true (part_of r) part_most (both_first (leb (part_of r) part_most) (leb (second_of r) 1) e)

-- ---- a block's 16 bits are table 5's two fields

module _ (application block_size : ℕ) where
  pub header-lt : laid (header application block_size) 0 < 65536
  unfolding laid
  header-lt = omega arith

  pub header-size : block_size < 2048 → laid (header application block_size) 0 / 32 ≡ block_size
  unfolding laid
  header-size h = omega arith

  module _ (head : ℕ) (a : application < 32) (b : block_size < 2048) where
    pub header_of : application_of head ≡ application → size_of head ≡ block_size → head ≡ laid (header application block_size) 0
    unfolding laid
    header_of e f = omega arith

    pub headed : head ≡ laid (header application block_size) 0 → (application_of head ≡ application) × (size_of head ≡ block_size)
    unfolding laid
    headed e = (omega arith, omega arith)

-- ---- accepted: every rule holds

pub accepts :
    {A : Type 0} (rs : List Rule) (a b : A) (m n : ℕ) → judged refused rs (accepted a m) ≡ accepted b n → Every rs × (a ≡ b) × (m ≡ n)
accepts [] a b m n e = (none, cc, cc)
accepts (r ∷ rs) a b m n e = go r.holds refl e (accepts rs a b m n)
  where
    go :
        (h : Bool) → r.holds ≡ h → pick h (judged refused rs (accepted a m)) (refused r.number r.offset) ≡ accepted b n
        → (judged refused rs (accepted a m) ≡ accepted b n → Every rs × (a ≡ b) × (m ≡ n))
        → Every (r ∷ rs) × (a ≡ b) × (m ≡ n)
    go true h e' ih = (more h (ih e').0, (ih e').1, (ih e').2)
    go false h e' ih = absurd (let z : ◌≡◌ {A = ℕ} 0 1 = cc in omega arith)
