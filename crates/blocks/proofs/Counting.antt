-- An answer with a count beside it accepts exactly where the answer does: every rule holds and there is room. Assumes nothing.
use mathlib.Core.Path.{◌≡◌, ◌∙◌, sym, ap}
use mathlib.Core.List.{List, ◌++◌}
use Prim.Native.Nat.{ℕ, ◌≤◌}
use native.Mathlib.Omega.{arith}
use lib.ListN.{length, drop}
use Rattle.std.specs.declared.result.Result.TheVariants.{Ok, Err}
use Rattle.answer.specs.Answer.{Answer}
use Rattle.answer.specs.Rules.{Rule, Every}
use Rattle.answer.specs.Writing.{answered, left}
use Rattle.answer.proofs.Lent.{lent-accepted, lent-all}
use Rattle.blocks.specs.Taking.{taken}
use Rattle.blocks.specs.Values.{counted, written_of, mended_of}

-- an answer with a count that accepts is that of an answer that does
taken-done : (c : ℕ) (x : Answer) (n m : ℕ) → counted c x ≡ Ok (taken n m) → (x ≡ Ok n) × (c ≡ m)
taken-done c (Ok k) n m e = (ap Ok (ap written_of e), ap mended_of e)
taken-done c (Err w) n m e = absurd (let z : ◌≡◌ {A = ℕ} 0 1 = cc in omega arith)

-- a call that hands out the form of what it found
module _ {A : Type 0} (form : A → List ℕ) (rules : List Rule) (found : A) (mended : ℕ) (old : List ℕ) where
  pub counted-takes :
      (a : A) → Every rules → found ≡ a → length (form a) ≤ length old
      → (counted mended (answered rules (form found) old) ≡ Ok (taken (length (form a)) mended))
      × (left rules (form found) old ≡ form a ++ drop (length (form a)) old)
  counted-takes a every e h =
      let p = lent-accepted rules (form found) old every (rw e h) in (
        ap (counted mended) p.0 ∙ ap (λ (x : A). Ok (taken (length (form x)) mended)) e,
        p.1 ∙ ap (λ (x : A). form x ++ drop (length (form x)) old) e,
      )

  pub counted-all :
      (n m : ℕ) → counted mended (answered rules (form found) old) ≡ Ok (taken n m)
      → Every rules
      × (n ≡ length (form found))
      × (m ≡ mended)
      × (left rules (form found) old ≡ form found ++ drop (length (form found)) old)
  counted-all n m e =
      let d = taken-done mended _ n m e in
      let a = lent-all rules (form found) old n d.0 in
      (a.0, a.2, sym d.1, (lent-accepted rules (form found) old a.0 a.1).1)
