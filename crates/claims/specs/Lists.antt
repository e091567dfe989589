-- What may come of a list (SCOPE 15.3).
use Rattle.std.specs.Prelude.{List, [], ◌∷◌}

-- the first list is got from the second by leaving some out: each was sent, in order, and each sending is used at most once
pub data Among {ℓ} {A : Type ℓ} : List A → List A → Type ℓ where
  none : Among [] []
  taken : {a : A} {l m : List A} → Among l m → Among (a ∷ l) (a ∷ m)
  passed : {a : A} {l m : List A} → Among l m → Among l (a ∷ m)

-- one to one, each related to its own
pub data Paired {ℓ} {A B : Type ℓ} (R : A → B → Type 0) : List A → List B → Type ℓ where
  both_end : Paired R [] []
  with : {a : A} {b : B} {l : List A} {m : List B} → R a b → Paired R l m → Paired R (a ∷ l) (b ∷ m)
