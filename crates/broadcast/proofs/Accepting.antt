-- Reading that is lent no room accepts, or refuses by 1, exactly when every rule holds: no other rule has that number. Assumes nothing.
use mathlib.Core.Path.{◌≡◌, ◌∙◌, refl, sym, ap}
use mathlib.Core.Bool.{Bool, true, false, true≢false}
use mathlib.Core.Logic.{◌⊎◌, inl, inr}
use mathlib.Core.List.{List, [], ◌∷◌}
use Prim.Native.Nat.{ℕ}
use lib.Dec.{eqb, leb}
use lib.ListN.{length}
use Rattle.std.specs.declared.result.Result.TheVariants.{Ok}
use Rattle.laws.specs.Pick.{pick, both}
use Rattle.laws.proofs.Tests.{both_first, both-second}
use Rattle.answer.specs.Rules.{Rule, judged, Every, First, here, later}
use Rattle.answer.specs.Values.{refused}
use Rattle.answer.specs.Writing.{room, answered}
use Rattle.answer.specs.Answer.{Answer}
use Rattle.answer.proofs.Judging.{passes, refuses, decided, first-append}
use Rattle.answer.proofs.Steps.{judged-append}
use Rattle.blocks.specs.Framing.{frame_rules}
use Rattle.blocks.specs.Values.{counted}
use Rattle.table.specs.Reading.{read_rules as table_rules}
use Rattle.forms.specs.Tables.{tables}
use Rattle.menu_reader.specs.Reading.{read_rules as menu_rules}
use Rattle.menu_forms.specs.Menus.{navigation}
use Rattle.kinds.specs.Kind.{Kind}
use Rattle.kinds.specs.Reading.{front_rules, whole_rules, length_rules, read_rules as kind_rules}
use Rattle.information.specs.Reading.{read_rules as information_rules}
use Rattle.information_forms.specs.Kind.{information}
use Rattle.broadcast.specs.Counting.{holding}
use Rattle.broadcast.specs.Internal.{is_accepted}

-- each rule's number passes a test
abbrev pub numbered : (ℕ → Bool) → List Rule → Bool
numbered test [] = true
numbered test (r ∷ rs) = both (test r.number) (numbered test rs)

pub first-numbered : (test : ℕ → Bool) {q : Rule} {rs : List Rule} → numbered test rs ≡ true → First q rs → test q.number ≡ true
first-numbered test o (here h) = both_first _ _ o
first-numbered test o (later {r} h f) = first-numbered test (both-second (test r.number) _ o) f

-- no rule has the number 1
abbrev not_one : ℕ → Bool
not_one n = pick (eqb n 1) false true

abbrev others : List Rule → Bool
others rules = numbered not_one rules

first-other : {q : Rule} {rs : List Rule} → others rs ≡ true → First q rs → eqb q.number 1 ≡ false
first-other {q} o f = go (eqb q.number 1) (first-numbered not_one o f)
  where
    go : (t : Bool) → pick t false true ≡ true → t ≡ false
    go true e = sym e
    go false e = refl

module _ (rules : List Rule) (bytes : List ℕ) (mended : ℕ) where
  -- by the room alone
  by-room : (t : Bool) → is_accepted (counted mended (pick t (Ok (length bytes)) (refused 1 0))) ≡ true
  by-room true = refl
  by-room false = refl

  pub accepted-bare : others rules ≡ true → is_accepted (counted mended (answered rules bytes [])) ≡ holding rules
  accepted-bare o = go (decided rules)
    where
      go : Every rules ⊎ ((q : Rule) × First q rules) → is_accepted (counted mended (answered rules bytes [])) ≡ holding rules
      go (inl e) =
          let last = judged refused (room bytes [] ∷ []) (Ok (length bytes)) in
          ap (λ (a : Answer). is_accepted (counted mended a)) (judged-append refused rules (room bytes [] ∷ []) (Ok (length bytes)) ∙ passes refused last e)
          ∙ by-room (leb (length bytes) 0)
          ∙ sym (passes {A = Bool} (λ number offset. false) true e)
      go (inr f) =
          ap (λ (a : Answer). is_accepted (counted mended a)) (refuses refused (Ok (length bytes)) (first-append (room bytes [] ∷ []) f.1))
          ∙ first-other o f.1
          ∙ sym (refuses {A = Bool} (λ number offset. false) true f.1)

-- where every rule is said to hold, each does
pub holding_every : (rules : List Rule) → holding rules ≡ true → Every rules
holding_every rules h = go (decided rules)
  where
    go : Every rules ⊎ ((q : Rule) × First q rules) → Every rules
    go (inl e) = e
    go (inr f) = absurd (true≢false (sym h ∙ refuses {A = Bool} (λ number offset. false) true f.1))

-- ---- the three kinds of reading

-- of any kind whose own rule has another number
kind_others : {B : Type 0} (k : Kind B) → not_one k.number ≡ true → (application : ℕ) (r : List ℕ) → others (kind_rules k application r) ≡ true
unfolding frame_rules front_rules whole_rules length_rules
kind_others k n application r = rw n

pub table-others : (application : ℕ) (r : List ℕ) → others (table_rules application r) ≡ true
table-others = kind_others tables refl

pub menu-others : (application : ℕ) (r : List ℕ) → others (menu_rules application r) ≡ true
menu-others = kind_others navigation refl

pub information-others : (application : ℕ) (r : List ℕ) → others (information_rules application r) ≡ true
information-others = kind_others information refl
