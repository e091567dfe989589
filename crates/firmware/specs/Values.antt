-- The walk's answer in one number, for C (SCOPE 6.11).
use Rattle.std.specs.Prelude.{ℕ, ◌+◌, ◌*◌, ◌%◌, ◌^◌}
use Rattle.std.specs.declared.result.Result.{Result}
use Rattle.std.specs.declared.result.Result.TheVariants.{Ok, Err}
use Rattle.answer.specs.declared.Refusal.{Refusal}
use Rattle.units.specs.declared.DataUnit.{DataUnit}
use Rattle.units.specs.Values.{number_of, place_of}

-- what is found, for C: 254 a text unit, 255 stuffing, else the number: 0 where no byte is left, or the refusal's
abbrev pub code_of : Result DataUnit Refusal → ℕ
code_of (Ok DataUnit.End) = number_of (Ok DataUnit.End)
code_of (Ok (DataUnit.Text next)) = 254
code_of (Ok (DataUnit.Stuffing next)) = 255
code_of (Err r) = number_of (Err r)

-- both in one number: the code in the 8 lowest bits, the place in the 56 above them, which hold every place of a packet
unfoldable pub packed : Result DataUnit Refusal → ℕ
packed u = code_of u + 256 * (place_of u % 2 ^ 56)
