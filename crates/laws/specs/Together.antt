-- Any number of keyed lists: merged in a row or as a tree says, and what they can need at most. Over any type of entry.
use Rattle.std.specs.Prelude.{Bool, List, [], ◌∷◌, ◌++◌, ℕ, ◌+◌, ◌≤◌, leb, length}
use Rattle.laws.specs.Keyed.{merge}
use Rattle.laws.specs.Orders.{greater}

-- ---- in which order, in which grouping

-- the same members in another order
pub data Reordered {B : Type 0} : List B → List B → Type 0 where
  none : Reordered [] []
  keep : {x : B} {xs ys : List B} → Reordered xs ys → Reordered (x ∷ xs) (x ∷ ys)
  swap : {x y : B} {xs : List B} → Reordered (x ∷ y ∷ xs) (y ∷ x ∷ xs)
  then : {xs ys zs : List B} → Reordered xs ys → Reordered ys zs → Reordered xs zs

-- which two are taken together first: one alone, or two such
pub data Tree (B : Type 0) : Type 0 where
  one : B → Tree B
  two : Tree B → Tree B → Tree B

-- its members from left to right
unfoldable pub leaves : {B : Type 0} → Tree B → List B
leaves (one b) = b ∷ []
leaves (two s t) = leaves s ++ leaves t

module _ {A : Type 0} (key : A → ℕ) (choose : A → A → A) where
  -- all lists of a row
  unfoldable pub merge_all : List (List A) → List A
  merge_all [] = []
  merge_all (xs ∷ xss) = merge key choose xs (merge_all xss)

  -- as the tree says
  unfoldable pub merge_tree : Tree (List A) → List A
  merge_tree (one xs) = xs
  merge_tree (two s t) = merge key choose (merge_tree s) (merge_tree t)

-- ---- what they can need at most

-- a key, and how long an entry of it is
pub record Measure : Type 0 where
  pub place : ℕ
  pub long : ℕ

abbrev pub longer : Measure → Measure → Bool
longer m n = leb m.long n.long

-- the lengths added up
unfoldable pub added : List Measure → ℕ
added [] = 0
added (m ∷ ms) = m.long + added ms

module _ {A : Type 0} (key size : A → ℕ) where
  unfoldable pub measured : List A → List Measure
  measured [] = []
  measured (x ∷ xs) = record { place = key x; long = size x } ∷ measured xs

  -- every key of the lists, with the length of its longest entry
  unfoldable pub together : List (List A) → List Measure
  together [] = []
  together (xs ∷ xss) = merge (λ (m : Measure). m.place) (greater longer) (measured xs) (together xss)

  -- all the lists have at most so many keys, and the longest entries of each key come to at most so many bytes
  pub record Within (keys bytes : ℕ) (xss : List (List A)) : Type 0 where
    pub few : length (together xss) ≤ keys
    pub short : added (together xss) ≤ bytes

module _ {A : Type 0} (size : A → ℕ) where
  -- how long the entries of a list are in all
  unfoldable pub total : List A → ℕ
  total [] = 0
  total (x ∷ xs) = size x + total xs

  unfoldable pub totals : List (List A) → ℕ
  totals [] = 0
  totals (xs ∷ xss) = total xs + totals xss

  -- a list of so many entries and so many bytes at most
  pub record Allowed (keys bytes : ℕ) (xs : List A) : Type 0 where
    pub entries : length xs ≤ keys
    pub length_in_all : total xs ≤ bytes
