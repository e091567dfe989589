-- What a reader's calls answer of a packet, and of a list of packets: what was taken, or the refusal.
use Rattle.std.specs.Prelude.{Bool, ℕ}
use Rattle.std.specs.declared.result.Result.{Result}
use Rattle.answer.specs.declared.Refusal.{Refusal}
use Rattle.reader.specs.declared.Took.{Took}
use Rattle.reader.specs.declared.many.TookAll.{TookAll}

abbrev pub Heard : Type 0
Heard = Result Took Refusal

abbrev pub HeardAll : Type 0
HeardAll = Result TookAll Refusal

abbrev pub took : ℕ → ℕ → Bool → Took
took blocks written dropped = record { blocks = blocks; written = written; dropped = dropped }

abbrev pub took_all : ℕ → ℕ → ℕ → Bool → TookAll
took_all packets blocks written dropped = record { packets = packets; blocks = blocks; written = written; dropped = dropped }
