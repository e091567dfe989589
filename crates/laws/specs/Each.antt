-- What holds of each thing in a list.
use Rattle.std.specs.Prelude.{List, [], ◌∷◌}

-- every one of them has P
pub data Each {ℓ} {A : Type ℓ} (P : A → Type 0) : List A → Type ℓ where
  nil : Each P []
  and : {a : A} {l : List A} → P a → Each P l → Each P (a ∷ l)
