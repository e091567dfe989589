-- Things in a row: what is laid for each of them, how they are found again, numbers of given widths, and codes at the front of a list.
use Rattle.std.specs.Prelude.{List, [], ◌∷◌, ◌++◌, ℕ, zero, suc, ◌/◌, ◌^◌, length, get_or, drop}
use Rattle.fields.specs.Fields.{Field, field}

-- what is made of each thing, one after the other
abbrev pub each : {E A : Type 0} → (E → List A) → List E → List A
each spell [] = []
each spell (e ∷ es) = spell e ++ each spell es

-- the k codes at the front of l. Past its end it reads as zeros
unfoldable pub codes_in : ℕ → List ℕ → List ℕ
codes_in zero l = []
codes_in (suc k) l = get_or l 0 0 ∷ codes_in k (drop 1 l)

-- the k entries at the front of l: the next stands behind what one takes when it is spelled
unfoldable pub in_row : {E : Type 0} → (E → List ℕ) → (List ℕ → E) → ℕ → List ℕ → List E
in_row spell read zero l = []
in_row spell read (suc k) l = read l ∷ in_row spell read k (drop (length (spell (read l))) l)

-- a value for each of these widths. One that isn't there stands for 0
unfoldable pub rowed : List ℕ → List ℕ → List Field
rowed [] vs = []
rowed (w ∷ ws) vs = (w, get_or vs 0 0) ∷ rowed ws (drop 1 vs)

-- the values of these widths that n begins with
unfoldable pub values_in : List ℕ → ℕ → List ℕ
values_in [] n = []
values_in (w ∷ ws) n = field 0 w n ∷ values_in ws (n / 2 ^ w)
