-- What reading a block answers: what was taken, or the refusal.
use Rattle.std.specs.Prelude.{ℕ}
use Rattle.std.specs.declared.result.Result.{Result}
use Rattle.answer.specs.declared.Refusal.{Refusal}
use Rattle.blocks.specs.declared.Taken.{Taken}

abbrev pub Read : Type 0
Read = Result Taken Refusal

abbrev pub taken : ℕ → ℕ → Taken
taken written mended = record { written = written; mended = mended }
