-- A choice by a test, taken apart: what holds of both choices holds of the one that is picked. Assumes nothing.
use mathlib.Core.Path.{◌≡◌}
use mathlib.Core.Bool.{Bool, true, false}
use Rattle.laws.specs.Pick.{pick}

-- two choices by one test agree where each pair of answers does
pub agree {ℓ ℓ' ℓ''} :
    {A : Type ℓ} {B : Type ℓ'} {C : Type ℓ''} (f : A → C) (g : B → C) (t : Bool) {a a' : A} {b b' : B} → f a ≡ g b → f a' ≡ g b'
    → f (pick t a a') ≡ g (pick t b b')
agree f g true p q = p
agree f g false p q = q

-- a choice between two answers that are each x
pub same {ℓ} : {A : Type ℓ} (t : Bool) {a b x : A} → a ≡ x → b ≡ x → pick t a b ≡ x
same true p q = p
same false p q = q
