-- A list of rules judged in steps, by functions that each answer `Done` where theirs hold. Assumes nothing.
use mathlib.Core.Path.{◌≡◌, ◌∙◌, refl, sym}
use mathlib.Core.Bool.{Bool, true, false}
use mathlib.Core.List.{List, [], ◌∷◌, ◌++◌}
use Prim.Native.Nat.{ℕ}
use native.Mathlib.Omega.{arith}
use Rattle.std.specs.declared.result.Result.TheVariants.{Ok, Err}
use Rattle.laws.specs.Pick.{pick}
use Rattle.answer.specs.declared.Refusal.{Refusal}
use Rattle.answer.specs.Answer.{Answer}
use Rattle.answer.specs.Rules.{Rule, judged, Every, none, more, First}
use Rattle.answer.specs.Values.{refused}
use Rattle.answer.proofs.Judging.{passes, refuses}

-- two lists in a row are judged one after the other
pub judged-append {ℓ} :
    {A : Type ℓ} (f : ℕ → ℕ → A) (rs qs : List Rule) (a : A) → judged f (rs ++ qs) a ≡ judged f rs (judged f qs a)
judged-append f [] qs a = refl
judged-append f (r ∷ rs) qs a = rw (judged-append f rs qs a)

not_done : {w : Refusal} {n : ℕ} → Err w ≡ Ok n → ⊥
not_done p = let z : ◌≡◌ {A = ℕ} 0 1 = cc in omega arith

-- what refuses where the rest would be `Done` refuses whatever the rest is
pub refused-then :
    (rs : List Rule) (n : ℕ) (w : Refusal) (a : Answer) → judged refused rs (Ok n) ≡ Err w → judged refused rs a ≡ Err w
refused-then [] n w a e = absurd (not_done (sym e))
refused-then (r ∷ rs) n w a e = go r.holds e (refused-then rs n w a)
  where
    go :
        (b : Bool) → pick b (judged refused rs (Ok n)) (refused r.number r.offset) ≡ Err w
        → (judged refused rs (Ok n) ≡ Err w → judged refused rs a ≡ Err w)
        → pick b (judged refused rs a) (refused r.number r.offset) ≡ Err w
    go true e' ih = ih e'
    go false e' ih = e'

-- where they answer `Done`, the rest decides
pub done-then : (rs : List Rule) (n m : ℕ) (a : Answer) → judged refused rs (Ok n) ≡ Ok m → judged refused rs a ≡ a
done-then [] n m a e = refl
done-then (r ∷ rs) n m a e = go r.holds e (done-then rs n m a)
  where
    go :
        (b : Bool) → pick b (judged refused rs (Ok n)) (refused r.number r.offset) ≡ Ok m
        → (judged refused rs (Ok n) ≡ Ok m → judged refused rs a ≡ a)
        → pick b (judged refused rs a) (refused r.number r.offset) ≡ a
    go true e' ih = ih e'
    go false e' ih = absurd (not_done e')

pub done-value : (rs : List Rule) (n m : ℕ) → judged refused rs (Ok n) ≡ Ok m → m ≡ n
done-value rs n m e = let q = sym (done-then rs n m (Ok n) e) ∙ e in cc

-- and then each of them holds
pub done_every : (rs : List Rule) (n m : ℕ) → judged refused rs (Ok n) ≡ Ok m → Every rs
done_every [] n m e = none
done_every (r ∷ rs) n m e = go r.holds refl e (done_every rs n m)
  where
    go :
        (b : Bool) → r.holds ≡ b → pick b (judged refused rs (Ok n)) (refused r.number r.offset) ≡ Ok m
        → (judged refused rs (Ok n) ≡ Ok m → Every rs) → Every (r ∷ rs)
    go true h e' ih = more h (ih e')
    go false h e' ih = absurd (not_done e')

pub first_holds : {r : Rule} {rs : List Rule} → Every (r ∷ rs) → r.holds ≡ true
first_holds (more h e) = h

pub others_hold : {r : Rule} {rs : List Rule} → Every (r ∷ rs) → Every rs
others_hold (more h e) = e

-- the same, of two lists in a row, with what the first one answered
module _ (rs qs : List Rule) (n : ℕ) {first : Answer} (judges : first ≡ judged refused rs (Ok n)) (a : Answer) where
  pub ends : {w : Refusal} → first ≡ Err w → Err w ≡ judged refused (rs ++ qs) a
  ends {w} e = sym (judged-append refused rs qs a ∙ refused-then rs n w (judged refused qs a) (sym judges ∙ e))

  pub goes_on : {m : ℕ} → first ≡ Ok m → judged refused qs a ≡ judged refused (rs ++ qs) a
  goes_on {m} e = sym (judged-append refused rs qs a ∙ done-then rs n m (judged refused qs a) (sym judges ∙ e))

-- where every rule holds, none is the first that doesn't
pub every_first : {q : Rule} {rs : List Rule} → Every rs → First q rs → ⊥
every_first {q} every first = not_done (sym (refuses refused (Ok 0) first) ∙ passes refused (Ok 0) every)
