-- Two sheets joined are their entries merged, the greater of two with one key: the walk along both goes as merging does. Assumes nothing.
use mathlib.Core.Path.{◌≡◌, refl, ap}
use mathlib.Core.Bool.{Bool, true, false}
use mathlib.Core.List.{List, [], ◌∷◌, map}
use lib.Dec.{ltb, eqb}
use Rattle.laws.specs.Keyed.{into, merge}
use Rattle.laws.specs.Orders.{greater}
use Rattle.sheet_entry.specs.Entries.{Entry, key_of}
use Rattle.sheet_joins.specs.Along.{Stands, in_first, in_second, in_both, up_to, along}
use Rattle.sheet_joins.specs.Joining.{at_most, staying, joined}

seconds_stay : (ys : List Entry) → map staying (map in_second ys) ≡ ys
seconds_stay [] = refl
seconds_stay (y ∷ ys) = ap (λ (l : List Entry). y ∷ l) (seconds_stay ys)

up_to_merged :
    (x : Entry) (rest : List Entry → List Stands) (others : List Entry → List Entry) → ((zs : List Entry) → map staying (rest zs) ≡ others zs)
    → (ys : List Entry) → map staying (up_to x rest ys) ≡ into key_of (greater at_most) x others ys
unfolding up_to into
up_to_merged x rest others e [] = ap (λ (l : List Entry). x ∷ l) (e [])
up_to_merged x rest others e (y ∷ ys) =
    go (ltb (key_of x) (key_of y)) (eqb (key_of x) (key_of y)) (up_to_merged x rest others e ys)
  where
    go :
        (p q : Bool) → map staying (up_to x rest ys) ≡ into key_of (greater at_most) x others ys
        → map staying
        (elim p [
          | true ↦ in_first x ∷ rest (y ∷ ys)
          | false ↦ elim q [ true ↦ in_both x y ∷ rest ys | false ↦ in_second y ∷ up_to x rest ys ]
        ])
        ≡ elim p [
          | true ↦ x ∷ others (y ∷ ys)
          | false ↦ elim q [ true ↦ greater at_most x y ∷ others ys | false ↦ y ∷ into key_of (greater at_most) x others ys ]
        ]
    go true q i = ap (λ (l : List Entry). x ∷ l) (e (y ∷ ys))
    go false true i = ap (λ (l : List Entry). greater at_most x y ∷ l) (e ys)
    go false false i = ap (λ (l : List Entry). y ∷ l) i

pub joined_merged : (xs ys : List Entry) → joined xs ys ≡ merge key_of (greater at_most) xs ys
unfolding joined along merge
joined_merged [] ys = seconds_stay ys
joined_merged (x ∷ xs) ys = up_to_merged x (along xs) (merge key_of (greater at_most) xs) (joined_merged xs) ys
