-- A call is accepted exactly when every rule holds, and has a rule's number exactly when it is the first that doesn't: judging
-- goes down the list by one clause a rule. Assumes nothing.
use mathlib.Core.Path.{◌≡◌, ◌∙◌, refl, sym, ap}
use mathlib.Core.Bool.{Bool, true, false}
use mathlib.Core.Logic.{◌⊎◌, inl, inr, ◌↔◌}
use mathlib.Core.List.{List, [], ◌∷◌, ◌++◌}
use Prim.Native.Nat.{ℕ, ◌≤◌, ◌<◌}
use native.Mathlib.Omega.{arith}
use lib.Dec.{leb}
use lib.ListN.{length, drop}
use borrow.Author.Tests.{leb-true}
use Rattle.std.specs.declared.result.Result.TheVariants.{Ok}
use Rattle.laws.proofs.Tests.{both_first, both-second, both_true, both-holds}
use Rattle.answer.specs.Answer.{Answer}
use Rattle.answer.specs.Values.{number_of, offset_of, written_of, refused}
use Rattle.answer.specs.Writing.{room, all_rules, answered, after, left}
use Rattle.answer.specs.Rules.{Rule, judged, last_number, refusing, all_refusing, Every, none, more, First, here, later}

pub passes {ℓ} : {A : Type ℓ} (f : ℕ → ℕ → A) {rs : List Rule} (a : A) → Every rs → judged f rs a ≡ a
passes f a none = refl
passes f a (more h e) = rw h (passes f a e)

pub refuses {ℓ} :
    {A : Type ℓ} (f : ℕ → ℕ → A) {q : Rule} {rs : List Rule} (a : A) → First q rs → judged f rs a ≡ f q.number q.offset
refuses f a (here h) = rw h
refuses f a (later h e) = rw h (refuses f a e)

-- one of the two is always so
pub decided : (rs : List Rule) → Every rs ⊎ ((q : Rule) × First q rs)
decided [] = inl none
decided (r ∷ rs) = go r.holds refl (decided rs)
  where
    go : (h : Bool) → r.holds ≡ h → Every rs ⊎ ((q : Rule) × First q rs) → Every (r ∷ rs) ⊎ ((q : Rule) × First q (r ∷ rs))
    go false e d = inr (r, here e)
    go true e (inl a) = inl (more e a)
    go true e (inr f) = inr (f.0, later e f.1)

-- ---- of a call that writes bytes

-- rules in two parts are judged one after the other
pub every_append : {rs qs : List Rule} → Every rs → Every qs → Every (rs ++ qs)
every_append none e = e
every_append (more h d) e = more h (every_append d e)

pub first-append : {q : Rule} {rs : List Rule} (qs : List Rule) → First q rs → First q (rs ++ qs)
first-append qs (here h) = here h
first-append qs (later h f) = later h (first-append qs f)

pub first-after : {q : Rule} {rs qs : List Rule} → Every rs → First q qs → First q (rs ++ qs)
first-after none f = f
first-after (more h d) f = later h (first-after d f)

-- ---- by the number and the values that an answer stands for

-- the first that doesn't hold has the number of a refusal
first-number : {q : Rule} {rs : List Rule} → all_refusing rs ≡ true → First q rs → 1 ≤ q.number
unfolding all_refusing
first-number {q} n (here h) = leb-true 1 q.number (both_first (leb 1 q.number) (leb q.number last_number) (both_first (refusing q.number) _ n))
first-number n (later {r} h f) = first-number (both-second (refusing r.number) _ n) f

pub refusing-append : (rs qs : List Rule) → all_refusing rs ≡ true → all_refusing qs ≡ true → all_refusing (rs ++ qs) ≡ true
unfolding all_refusing
refusing-append [] qs a b = b
refusing-append (r ∷ rs) qs a b =
    let p = both_true (refusing r.number) (all_refusing rs) a in
    both-holds (refusing r.number) _ p.0 (refusing-append rs qs p.1 b)

module _ (rules : List Rule) (bytes old : List ℕ) where
  all-refuse : all_refusing rules ≡ true → all_refusing (all_rules rules bytes old) ≡ true
  unfolding all_refusing
  all-refuse n = refusing-append rules (room bytes old ∷ []) n refl

  -- accepted, which is number 0, exactly when every rule holds, the room's among them; what it reports is how many bytes were written
  pub accepted-exactly :
      all_refusing rules ≡ true → (n : ℕ)
      → ((number_of (answered rules bytes old) ≡ 0) × (written_of (answered rules bytes old) ≡ n)) ↔ (Every (all_rules rules bytes old) × (length bytes ≡ n))
  accepted-exactly k n = (to, from)
    where
      to : (number_of (answered rules bytes old) ≡ 0) × (written_of (answered rules bytes old) ≡ n) → Every (all_rules rules bytes old) × (length bytes ≡ n)
      to e = go (decided (all_rules rules bytes old))
        where
          go : Every (all_rules rules bytes old) ⊎ ((q : Rule) × First q (all_rules rules bytes old)) → Every (all_rules rules bytes old) × (length bytes ≡ n)
          go (inl d) = let f = ap written_of (passes refused (Ok (length bytes)) d) in (d, cc)
          go (inr f) =
              let g = ap number_of (refuses refused (Ok (length bytes)) f.1) in
              absurd (omega (arith, first-number (all-refuse k) f.1))

      from : Every (all_rules rules bytes old) × (length bytes ≡ n) → (number_of (answered rules bytes old) ≡ 0) × (written_of (answered rules bytes old) ≡ n)
      from d = let f = passes refused (Ok (length bytes)) d.0 in (ap number_of f, ap written_of f ∙ d.1)

  -- a refusal's number and offset are those of the first rule that doesn't hold
  pub refused_exactly :
      (number offset : ℕ) → 0 < number
      → ((number_of (answered rules bytes old) ≡ number) × (offset_of (answered rules bytes old) ≡ offset))
      ↔ ((q : Rule) × First q (all_rules rules bytes old) × (q.number ≡ number) × (q.offset ≡ offset))
  refused_exactly number offset p = (to, from)
    where
      to : (number_of (answered rules bytes old) ≡ number) × (offset_of (answered rules bytes old) ≡ offset) → (q : Rule) × First q (all_rules rules bytes old) × (q.number ≡ number) × (q.offset ≡ offset)
      to e = go (decided (all_rules rules bytes old))
        where
          go : Every (all_rules rules bytes old) ⊎ ((q : Rule) × First q (all_rules rules bytes old)) → (q : Rule) × First q (all_rules rules bytes old) × (q.number ≡ number) × (q.offset ≡ offset)
          go (inl d) = let f = ap number_of (passes refused (Ok (length bytes)) d) in absurd (omega arith)
          go (inr f) = let g = refuses refused (Ok (length bytes)) f.1 in (f.0, f.1, sym (ap number_of g) ∙ e.0, sym (ap offset_of g) ∙ e.1)

      from : (q : Rule) × First q (all_rules rules bytes old) × (q.number ≡ number) × (q.offset ≡ offset) → (number_of (answered rules bytes old) ≡ number) × (offset_of (answered rules bytes old) ≡ offset)
      from f = let g = refuses refused (Ok (length bytes)) f.1 in (ap number_of g ∙ f.2, ap offset_of g ∙ f.3)

  -- a refusal leaves every lent byte
  pub refusal-leaves : 0 < number_of (answered rules bytes old) → left rules bytes old ≡ old
  refusal-leaves p = go (decided (all_rules rules bytes old))
    where
      go : Every (all_rules rules bytes old) ⊎ ((q : Rule) × First q (all_rules rules bytes old)) → left rules bytes old ≡ old
      go (inl d) = let f = ap number_of (passes refused (Ok (length bytes)) d) in absurd (omega arith)
      go (inr f) = ap (λ (a : Answer). after a bytes old) (refuses refused (Ok (length bytes)) f.1)

  -- an accepted call writes its bytes to the front and leaves the rest
  pub accepted-writes : all_refusing rules ≡ true → number_of (answered rules bytes old) ≡ 0 → left rules bytes old ≡ bytes ++ drop (length bytes) old
  accepted-writes k e =
      let d = ((accepted-exactly k (written_of (answered rules bytes old))).0 (e, refl)).0 in
      ap (λ (a : Answer). after a bytes old) (passes refused (Ok (length bytes)) d)
