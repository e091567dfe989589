-- What holds of each thing in a list, in parts of the list and in lists made from it. By induction along the list. Assumes nothing.
use mathlib.Core.List.{List, [], ◌∷◌, ◌++◌, map}
use Rattle.laws.specs.Each.{Each, nil, and}

module _ {ℓ} {A : Type ℓ} {P : A → Type 0} where
  pub each_first : {a : A} {l : List A} → Each P (a ∷ l) → P a
  each_first (and p r) = p

  pub each-rest : {a : A} {l : List A} → Each P (a ∷ l) → Each P l
  each-rest (and p r) = r

  pub each_append : {l m : List A} → Each P l → Each P m → Each P (l ++ m)
  each_append nil s = s
  each_append (and p r) s = and p (each_append r s)

  pub each_left : (l m : List A) → Each P (l ++ m) → Each P l
  each_left [] m r = nil
  each_left (a ∷ l) m (and p r) = and p (each_left l m r)

  pub each_right : (l m : List A) → Each P (l ++ m) → Each P m
  each_right [] m r = r
  each_right (a ∷ l) m (and p r) = each_right l m r

pub each_map {ℓ κ} :
    {A : Type ℓ} {B : Type κ} {P : A → Type 0} {Q : B → Type 0} (f : A → B) → ((a : A) → P a → Q (f a)) → {l : List A} → Each P l
    → Each Q (map f l)
each_map f g nil = nil
each_map f g (and {a = a} p r) = and (g a p) (each_map f g r)

pub each_all {ℓ} : {A : Type ℓ} {P Q : A → Type 0} → ((a : A) → P a → Q a) → {l : List A} → Each P l → Each Q l
each_all f nil = nil
each_all f (and {a = a} p r) = and (f a p) (each_all f r)
