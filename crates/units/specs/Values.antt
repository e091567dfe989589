-- The walk's answer: the number and the values that each of its cases stands for (SCOPE 4.3).
use Rattle.std.specs.Prelude.{ℕ}
use Rattle.std.specs.declared.result.Result.{Result}
use Rattle.std.specs.declared.result.Result.TheVariants.{Ok, Err}
use Rattle.answer.specs.declared.Refusal.{Refusal}
use Rattle.units.specs.declared.DataUnit.{DataUnit}

-- the number of what the walk finds: 0, or that of the refusal (SCOPE 2)
abbrev pub number_of : Result DataUnit Refusal → ℕ
number_of (Ok DataUnit.End) = 0
number_of (Ok (DataUnit.Text next)) = 0
number_of (Ok (DataUnit.Stuffing next)) = 0
number_of (Err r) = r.no

-- the place after the unit, or the offset of the refusal; 0 where no byte is left
abbrev pub place_of : Result DataUnit Refusal → ℕ
place_of (Ok DataUnit.End) = 0
place_of (Ok (DataUnit.Text next)) = next
place_of (Ok (DataUnit.Stuffing next)) = next
place_of (Err r) = r.at
