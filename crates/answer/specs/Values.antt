-- An answer is an enum: the number and the values that each of its cases stands for (SCOPE 4.3).
use Rattle.std.specs.declared.result.Result.TheVariants.{Ok, Err}
use Rattle.std.specs.Prelude.{ℕ}
use Rattle.answer.specs.declared.Refusal.{Refusal}
use Rattle.answer.specs.Answer.{Answer}

-- an answer's number: 0 is accepted
abbrev pub number_of : Answer → ℕ
number_of (Ok n) = 0
number_of (Err r) = r.no

-- its offset; 0 where it is accepted
abbrev pub offset_of : Answer → ℕ
offset_of (Ok n) = 0
offset_of (Err r) = r.at

-- how many bytes it reports as written
abbrev pub written_of : Answer → ℕ
written_of (Ok n) = n
written_of (Err r) = 0

abbrev pub refusal : ℕ → ℕ → Refusal
refusal n o = record { no = n; at = o }

abbrev pub refused : ℕ → ℕ → Answer
refused n o = Err (refusal n o)
