-- What a call that writes bytes answers and leaves, once its rules but the room are judged. Assumes nothing.
use mathlib.Core.Path.{◌≡◌, ◌∙◌, refl, sym, ap}
use mathlib.Core.List.{List, [], ◌∷◌, ◌++◌}
use Prim.Native.Nat.{ℕ, ◌≤◌, ◌<◌}
use borrow.Author.Tests.{le-leb, lt-leb, leb-true}
use lib.ListN.{length, drop}
use lib.Seq.{sets}
use Rattle.std.specs.declared.result.Result.TheVariants.{Ok, Err}
use Rattle.laws.proofs.Lists.{sets-front}
use Rattle.answer.specs.declared.Refusal.{Refusal}
use Rattle.answer.specs.Answer.{Answer}
use Rattle.answer.specs.Rules.{Rule, judged, Every, none, more}
use Rattle.answer.specs.Values.{refused}
use Rattle.answer.specs.Writing.{room, answered, after, left}
use Rattle.answer.proofs.Judging.{passes}
use Rattle.answer.proofs.Steps.{judged-append, ends, goes_on, done-value, done_every, first_holds, others_hold}

module _ (rules : List Rule) (bytes old : List ℕ) (n : ℕ) {first : Answer} (judges : first ≡ judged refused rules (Ok n)) where
  pub lent-value : {m : ℕ} → first ≡ Ok m → m ≡ n
  lent-value {m} e = done-value rules n m (sym judges ∙ e)

  -- a rule refuses
  pub lent-refused : {w : Refusal} → first ≡ Err w → (Err w ≡ answered rules bytes old) × (old ≡ left rules bytes old)
  lent-refused e =
      let a = ends rules (room bytes old ∷ []) n judges (Ok (length bytes)) e in
      (a, ap (λ (x : Answer). after x bytes old) a)

  on : {m : ℕ} → first ≡ Ok m → judged refused (room bytes old ∷ []) (Ok (length bytes)) ≡ answered rules bytes old
  on e = goes_on rules (room bytes old ∷ []) n judges (Ok (length bytes)) e

  -- no rule refuses, and the output is too short
  pub lent-short :
      {m : ℕ} → first ≡ Ok m → length old < length bytes → (refused 1 0 ≡ answered rules bytes old) × (old ≡ left rules bytes old)
  lent-short {m} e h =
      let r : refused 1 0 ≡ judged refused (room bytes old ∷ []) (Ok (length bytes)) =
      rw (lt-leb (length bytes) (length old) h) refl in
      let a = r ∙ on e in
      (a, ap (λ (x : Answer). after x bytes old) a)

  -- accepted
  pub lent-done :
      {m : ℕ} → first ≡ Ok m → length bytes ≤ length old
      → (Ok (length bytes) ≡ answered rules bytes old) × (sets old 0 bytes ≡ left rules bytes old)
  lent-done {m} e h =
      let r : Ok (length bytes) ≡ judged refused (room bytes old ∷ []) (Ok (length bytes)) =
      rw (le-leb (length bytes) (length old) h) refl in
      let a = r ∙ on e in
      (a, sets-front old bytes h ∙ ap (λ (x : Answer). after x bytes old) a)

-- ---- accepted exactly when every rule holds and there is room

pub front-holds : (rs qs : List Rule) → Every (rs ++ qs) → Every rs
front-holds [] qs e = none
front-holds (r ∷ rs) qs e = more (first_holds e) (front-holds rs qs (others_hold e))

pub back-holds : (rs qs : List Rule) → Every (rs ++ qs) → Every qs
back-holds [] qs e = e
back-holds (r ∷ rs) qs e = back-holds rs qs (others_hold e)

module _ (rules : List Rule) (bytes old : List ℕ) where
  pub lent-accepted :
      Every rules → length bytes ≤ length old
      → (answered rules bytes old ≡ Ok (length bytes)) × (left rules bytes old ≡ bytes ++ drop (length bytes) old)
  lent-accepted e h =
      let a : answered rules bytes old ≡ Ok (length bytes) =
      judged-append refused rules (room bytes old ∷ []) (Ok (length bytes))
      ∙ passes refused (judged refused (room bytes old ∷ []) (Ok (length bytes))) e
      ∙ (rw (le-leb (length bytes) (length old) h) refl) in
      (a, ap (λ (x : Answer). after x bytes old) a)

  pub lent-all : (n : ℕ) → answered rules bytes old ≡ Ok n → Every rules × (length bytes ≤ length old) × (n ≡ length bytes)
  lent-all n e =
      let all = done_every (rules ++ room bytes old ∷ []) (length bytes) n e in (
        front-holds rules (room bytes old ∷ []) all,
        leb-true (length bytes) (length old) (first_holds (back-holds rules (room bytes old ∷ []) all)),
        done-value (rules ++ room bytes old ∷ []) (length bytes) n e,
      )
