-- Going along two sheets whose entries rise by their keys (SCOPE 20.8): of each key what stands in the first, in the second, or in both.
use Rattle.std.specs.Prelude.{true, false, List, [], ◌∷◌, map, ltb, eqb}
use Rattle.sheet_entry.specs.Entries.{Entry, key_of}

-- what stands at a key
pub data Stands : Type 0 where
  in_first : Entry → Stands
  in_second : Entry → Stands
  in_both : Entry → Entry → Stands

-- the second sheet's entries up to that of x's key, x among them, and behind x what `rest` gives of those that are left
unfoldable pub up_to : Entry → (List Entry → List Stands) → List Entry → List Stands
up_to x rest [] = in_first x ∷ rest []
up_to x rest (y ∷ ys) =
    elim (ltb (key_of x) (key_of y)) [
      | true ↦ in_first x ∷ rest (y ∷ ys)
      | false ↦ elim (eqb (key_of x) (key_of y)) [ true ↦ in_both x y ∷ rest ys | false ↦ in_second y ∷ up_to x rest ys ]
    ]

-- the keys of both in their order, each with what stands there
unfoldable pub along : List Entry → List Entry → List Stands
along [] ys = map in_second ys
along (x ∷ xs) ys = up_to x (along xs) ys
