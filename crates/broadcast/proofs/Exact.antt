-- The verdict is exact: yes where each rule is met by the blocks that count, and else the name of the first that isn't. Assumes nothing.
use mathlib.Core.Path.{◌≡◌, ◌∙◌, refl, sym, ap, ap₂}
use mathlib.Core.Bool.{Bool, true, false}
use mathlib.Core.Logic.{◌⊎◌, inl, inr, ◌↔◌}
use mathlib.Core.List.{List, [], ◌∷◌, ◌++◌, append-nil}
use Prim.Native.Nat.{ℕ, ◌<◌}
use native.Mathlib.Omega.{arith}
use borrow.Author.Tests.{ltb-true}
use lib.Dec.{ltb}
use lib.ListN.{length, get_or, take, drop, length-append}
use lib.Seq.{take-append_seam}
use Rattle.laws.specs.Pick.{both}
use Rattle.laws.specs.Each.{Each, nil, and}
use Rattle.laws.proofs.Tests.{both_first, both-second}
use Rattle.text_lines.specs.Codes.{codes}
use Rattle.broadcast.specs.Lawful.{Counts, Row, minimum, meets, verdict, line, guide_lines, counts_in, lawful_lines}
use Rattle.broadcast.specs.Internal.{said}

-- a row is met by these counts
abbrev pub Met : Counts → Row → Type 0
Met c r = meets c r.kind r.asked ≡ true

-- q is the first row that isn't
pub data FirstUnmet (c : Counts) (q : Row) : List Row → Type 0 where
  here : {rs : List Row} → meets c q.kind q.asked ≡ false → FirstUnmet c q (q ∷ rs)
  later : {r : Row} {rs : List Row} → Met c r → FirstUnmet c q rs → FirstUnmet c q (r ∷ rs)

-- ---- over any rows

-- each has a name
abbrev all_named : List Row → Bool
all_named [] = true
all_named (r ∷ rs) = both (ltb 0 (length r.name)) (all_named rs)

module _ (c : Counts) where
  none_named : {rs : List Row} → Each (Met c) rs → verdict c rs ≡ []
  unfolding verdict
  none_named nil = refl
  none_named (and h e) = rw h (none_named e)

  first-named : {q : Row} {rs : List Row} → FirstUnmet c q rs → verdict c rs ≡ q.name
  unfolding verdict
  first-named (here h) = rw h
  first-named (later h f) = rw h (first-named f)

  first_some : {q : Row} {rs : List Row} → all_named rs ≡ true → FirstUnmet c q rs → 0 < length q.name
  first_some {q} n (here h) = ltb-true 0 (length q.name) (both_first _ _ n)
  first_some n (later {r} h f) = first_some (both-second (ltb 0 (length r.name)) _ n) f

  -- one of the two is always so
  decided : (rs : List Row) → Each (Met c) rs ⊎ ((q : Row) × FirstUnmet c q rs)
  decided [] = inl nil
  decided (r ∷ rs) = go (meets c r.kind r.asked) refl (decided rs)
    where
      go :
          (t : Bool) → meets c r.kind r.asked ≡ t → Each (Met c) rs ⊎ ((q : Row) × FirstUnmet c q rs)
          → Each (Met c) (r ∷ rs) ⊎ ((q : Row) × FirstUnmet c q (r ∷ rs))
      go false e d = inr (r, here e)
      go true e (inl a) = inl (and e a)
      go true e (inr f) = inr (f.0, later e f.1)

-- ---- the lines

-- what is said where each rule is met, and where one isn't, by its name
abbrev pub yes_lines : List ℕ
yes_lines = line (codes "guide=") (codes "EPG") ++ line (codes "lawful=") (codes "yes")

abbrev pub no_lines : List ℕ → List ℕ
no_lines name = line (codes "guide=") (codes "EPG") ++ (line (codes "lawful=") (codes "no") ++ line (codes "rule=") name)

no_said : (name : List ℕ) → 0 < length name → said name ≡ no_lines name
unfolding said
no_said (a ∷ name) h = refl
no_said [] h = absurd (omega arith)

apart : (name : List ℕ) → yes_lines ≡ no_lines name → ⊥
apart name e = let z : ◌≡◌ {A = ℕ} 121 110 = ap (λ (l : List ℕ). get_or l 17 0) e in omega arith

-- the name stands in its line
same_name : (a b : List ℕ) → no_lines a ≡ no_lines b → a ≡ b
same_name a b e = append-one a b (ap (drop 25) e)
  where
    append-one : (a b : List ℕ) → a ++ (10 ∷ []) ≡ b ++ (10 ∷ []) → a ≡ b
    append-one a b e =
        let l : length a ≡ length b = omega (arith, ap (λ (x : List ℕ). length x) e, length-append a (10 ∷ []), length-append b (10 ∷ [])) in
        sym (take-append_seam a (10 ∷ [])) ∙ ap₂ (λ (n : ℕ) (x : List ℕ). take n x) l e ∙ take-append_seam b (10 ∷ [])

module _ (application : ℕ) (records : List ℕ) where
  abbrev c : Counts
  c = counts_in application records

  lines_of : lawful_lines application records ≡ said (verdict c minimum)
  unfolding said lawful_lines guide_lines
  lines_of = append-nil (said (verdict c minimum))

  said_yes : Each (Met c) minimum → lawful_lines application records ≡ yes_lines
  unfolding said
  said_yes e = lines_of ∙ ap said (none_named c e)

  said_no : {q : Row} → FirstUnmet c q minimum → lawful_lines application records ≡ no_lines q.name
  said_no {q} f = lines_of ∙ ap said (first-named c f) ∙ no_said q.name (first_some c refl f)

  -- lawful exactly when each row of table D.1 is met by the blocks that count
  pub lawful-exactly : (lawful_lines application records ≡ yes_lines) ↔ Each (Met c) minimum
  lawful-exactly = (to, said_yes)
    where
      to : lawful_lines application records ≡ yes_lines → Each (Met c) minimum
      to e = go (decided c minimum)
        where
          go : Each (Met c) minimum ⊎ ((q : Row) × FirstUnmet c q minimum) → Each (Met c) minimum
          go (inl all) = all
          go (inr f) = absurd (apart f.0.name (sym e ∙ said_no f.1))

  -- the rule that is named is the first that isn't
  pub unlawful-exactly : (name : List ℕ) → (lawful_lines application records ≡ no_lines name) ↔ ((q : Row) × FirstUnmet c q minimum × (q.name ≡ name))
  unlawful-exactly name = (to, λ f. said_no f.1 ∙ ap no_lines f.2)
    where
      to : lawful_lines application records ≡ no_lines name → (q : Row) × FirstUnmet c q minimum × (q.name ≡ name)
      to e = go (decided c minimum)
        where
          go : Each (Met c) minimum ⊎ ((q : Row) × FirstUnmet c q minimum) → (q : Row) × FirstUnmet c q minimum × (q.name ≡ name)
          go (inl all) = absurd (apart name (sym (said_yes all) ∙ e))
          go (inr f) = (f.0, f.1, same_name f.0.name name (sym (said_no f.1) ∙ e))
