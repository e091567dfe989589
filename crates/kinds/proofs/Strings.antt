-- String bytes and their codes are each other's inverse. Assumes nothing.
use mathlib.Core.Path.{◌≡◌, refl, ap₂}
use mathlib.Core.Bool.{Bool, true, false}
use mathlib.Core.List.{List, [], ◌∷◌, map}
use Prim.Native.Nat.{ℕ, suc, ◌%◌}
use native.Mathlib.Omega.{arith}
use borrow.Author.Tests.{ltb-true, lt-ltb}
use lib.Dec.{ltb}
use lib.ListN.{length}
use Rattle.laws.specs.Pick.{pick}
use Rattle.laws.proofs.Tests.{both_true, both-holds}
use Rattle.laws.specs.Bytes.{Bytes}
use Rattle.parity.specs.Parity.{is_odd, letter, odds}
use Rattle.parity.proofs.Letters.{letter-odd, letter-code, odd-letter}
use Rattle.kinds.specs.Kind.{sevens}
use Rattle.kinds.specs.Reading.{code_of}

-- bytes of right parity are those of their codes
pub letters_again : (bs : List ℕ) → Bytes bs → odds bs ≡ length bs → map letter (map code_of bs) ≡ bs
unfolding odds
letters_again [] h o = refl
letters_again (b ∷ bs) h o = go (is_odd b) refl o (letters_again bs (λ (i : ℕ). h (suc i)))
  where
    go :
        (t : Bool) → is_odd b ≡ t → pick t (suc (odds bs)) 0 ≡ suc (length bs)
        → (odds bs ≡ length bs → map letter (map code_of bs) ≡ bs)
        → letter (code_of b) ∷ map letter (map code_of bs) ≡ b ∷ bs
    go true e o' ih = ap₂ (λ (x : ℕ) (xs : List ℕ). x ∷ xs) (odd-letter b (h 0) e) (ih (omega arith))
    go false e o' ih = absurd (omega arith)

-- which have seven bits
pub codes-seven : (bs : List ℕ) → sevens (map code_of bs) ≡ true
unfolding sevens
codes-seven [] = refl
codes-seven (b ∷ bs) = both-holds (ltb (b % 128) 128) _ (lt-ltb (b % 128) 128 (omega arith)) (codes-seven bs)

-- the bytes of codes have them
pub codes_again : (cs : List ℕ) → sevens cs ≡ true → map code_of (map letter cs) ≡ cs
unfolding sevens
codes_again [] h = refl
codes_again (c ∷ cs) h =
    let p = both_true (ltb c 128) (sevens cs) h in
    ap₂ (λ (x : ℕ) (xs : List ℕ). x ∷ xs) (letter-code c (ltb-true c 128 p.0)) (codes_again cs p.1)

-- and are all of right parity
pub letters-odd : (cs : List ℕ) → sevens cs ≡ true → odds (map letter cs) ≡ length (map letter cs)
unfolding sevens odds
letters-odd [] h = refl
letters-odd (c ∷ cs) h =
    let p = both_true (ltb c 128) (sevens cs) h in
    rw (letter-odd c (ltb-true c 128 p.0), letters-odd cs p.1)
