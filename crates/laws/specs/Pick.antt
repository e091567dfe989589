-- A choice by a test, and the tests that tests are made of.
use Rattle.std.specs.Prelude.{Bool, true, false}

-- a where the test holds, b where it doesn't
abbrev pub pick {ℓ} : {A : Type ℓ} → Bool → A → A → A
pick true a b = a
pick false a b = b

-- both tests hold; the second may be anything where the first fails
abbrev pub both : Bool → Bool → Bool
both true b = b
both false b = false

-- at least one of the tests holds
abbrev pub either : Bool → Bool → Bool
either true b = true
either false b = b
