-- Entries in a row, as they are spelled and as they are found again.
use Rattle.std.specs.Prelude.{List, [], ◌∷◌, ℕ, zero, suc, length, drop}
pub use Rattle.codecs.specs.Rows.{each}

-- the k entries at the front of l: the next stands behind what one takes when it is spelled
unfoldable pub in_row : {E : Type 0} → (E → List ℕ) → (List ℕ → E) → ℕ → List ℕ → List E
in_row spell read zero l = []
in_row spell read (suc k) l = read l ∷ in_row spell read k (drop (length (spell (read l))) l)
