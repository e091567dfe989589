-- Block reading, set to an application in range, doesn't answer 16 to a record that the reader hands out: its part is at most 5, and its
-- second byte at most 1 (SCOPE 19.3, 26.3). Assumes nothing.
use mathlib.Core.Path.{◌≡◌, ◌∙◌, refl, sym, ap, subst}
use mathlib.Core.Bool.{Bool, true, false}
use mathlib.Core.List.{List, [], ◌∷◌}
use Prim.Native.Nat.{ℕ, ◌<◌}
use native.Mathlib.Omega.{arith}
use borrow.Author.Tests.{lt-ltb}
use Rattle.laws.specs.Each.{Each, nil, and}
use Rattle.laws.specs.Pick.{pick}
use Rattle.answer.specs.Rules.{Rule, judged}
use Rattle.blocks.specs.Block.{Block, record_of}
use Rattle.blocks.specs.Parts.{Parted, mended_in}
use Rattle.packet.specs.declared.Setting.{Setting}
use Rattle.packet.specs.Setting.{in_range}
use Rattle.writer.specs.Cutting.{FortyTwo}
use Rattle.state.specs.Acting.{State}
use Rattle.state.specs.State.{reader_of, Sound}
use Rattle.state.proofs.Handing.{handed-parted}
use Rattle.blocks.specs.Framing.{frame_rules}
use Rattle.forms.specs.Tables.{Table}
use Rattle.kinds.specs.Reading.{front_rules, whole_rules, length_rules}
use Rattle.table.specs.Reading.{Outcome, accepted, refused, read_rules, table_read, read_block}
use Rattle.table.proofs.Exact.{read_as_lem}
use Rattle.claims.specs.Feeding.{Call, packets_of, comes_out}
use Rattle.claims.proofs.Fed.{heard-each, fed-blocks}

-- every rule with number 16 holds
abbrev Holds16 : List Rule → Type 0
Holds16 rs = Each (λ (q : Rule). q.number ≡ 16 → q.holds ≡ true) rs

-- the number of an outcome
abbrev number_of : Outcome Table → ℕ
number_of (accepted t c) = 0
number_of (refused number offset) = number

not_sixteen : (rs : List Rule) (a : Outcome Table) → number_of a ≡ 0 → Holds16 rs → number_of (judged refused rs a) ≡ 16 → ⊥
not_sixteen [] a z nil e = omega arith
not_sixteen (q ∷ rs) a z (and h r) e = go q.holds (λ n. h n) (λ n. not_sixteen rs a z r n) e
  where
    go :
        (t : Bool) → (q.number ≡ 16 → t ≡ true) → (number_of (judged refused rs a) ≡ 16 → ⊥)
        → number_of (pick t (judged refused rs a) (refused q.number q.offset)) ≡ 16 → ⊥
    go true f g n = g n
    go false f g n = let w : false ≡ true = f n in let y : ◌≡◌ {A = ℕ} 0 1 = cc in omega arith

pub never_sixteen :
    (application : ℕ) (b : Block) (offset : ℕ) → application < 32 → Parted b
    → read_block application (record_of b) ≡ refused 16 offset → ⊥
unfolding frame_rules front_rules whole_rules length_rules
never_sixteen application b offset a p e =
    not_sixteen (read_rules application (record_of b)) (accepted (table_read (record_of b)) (mended_in (record_of b))) refl
    (and (λ n. lt-ltb application 32 a)
    (and (λ (n : ◌≡◌ {A = ℕ} 13 16). absurd (omega arith))
    (and (λ n. p)
    (and (λ (n : ◌≡◌ {A = ℕ} 12 16). absurd (omega arith))
    (and (λ (n : ◌≡◌ {A = ℕ} 13 16). absurd (omega arith))
    (and (λ (n : ◌≡◌ {A = ℕ} 10 16). absurd (omega arith))
    (and (λ (n : ◌≡◌ {A = ℕ} 12 16). absurd (omega arith))
    (and (λ (n : ◌≡◌ {A = ℕ} 13 16). absurd (omega arith))
    (and (λ (n : ◌≡◌ {A = ℕ} 10 16). absurd (omega arith))
    (and (λ (n : ◌≡◌ {A = ℕ} 23 16). absurd (omega arith))
    (and (λ (n : ◌≡◌ {A = ℕ} 11 16). absurd (omega arith))
    (and (λ (n : ◌≡◌ {A = ℕ} 22 16). absurd (omega arith))
    (and (λ (n : ◌≡◌ {A = ℕ} 14 16). absurd (omega arith)) nil)))))))))))))
    (ap number_of (sym (read_as_lem application (record_of b)) ∙ e))

-- of each record that calls write, from a reader that calls leave
module _ (s : Setting) (i : in_range s ≡ true) where
  pub comes-parted : (st : State) → Sound st → (cs : List Call) → FortyTwo (packets_of cs) → Each Parted (comes_out s (reader_of st) cs)
  comes-parted st r cs f = subst (Each Parted) (sym (fed-blocks s i st r cs f)) (heard-each Parted handed-parted s st r (packets_of cs))
