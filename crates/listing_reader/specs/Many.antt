-- Things of a kind, one after the other, as many as stand at the front of some bytes.
use Rattle.std.specs.Prelude.{Bool, true, List, [], ◌∷◌, ℕ, zero, suc, ◌+◌, drop}

-- what stands at the front: a thing and its length; or none, whether that is well, and where the line stands that ends the row
pub data Step (A : Type 0) : Type 0 where
  item : A → ℕ → Step A
  stop : Bool → ℕ → Step A

-- the things, whether the row ended well, and where the line stands that ended it
pub record Many (A : Type 0) : Type 0 where
  pub items : List A
  pub fine : Bool
  pub long : ℕ

module _ {A : Type 0} where
  abbrev pub none : Bool → ℕ → Many A
  none b n = record { items = []; fine = b; long = n }

  abbrev pub behind : A → ℕ → Many A → Many A
  behind a n m = record { items = a ∷ m.items; fine = m.fine; long = n + m.long }

  -- after one step: where it is a thing, what follows it
  unfoldable pub further : Step A → (A → ℕ → Many A) → Many A
  further (item a n) rest = behind a n (rest a n)
  further (stop b n) rest = none b n

  -- at most k things. A step looks at a number s, and `next` says that of the step after it
  unfoldable pub many : (ℕ → A → ℕ) → (ℕ → List ℕ → Step A) → ℕ → ℕ → List ℕ → Many A
  many next step zero s bytes = none true 0
  many next step (suc k) s bytes = further (step s bytes) (λ a n. many next step k (next s a) (drop n bytes))
