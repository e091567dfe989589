-- What is heard of a packet, or of a list of packets, is what was taken, or the refusal: the number and the values that each stands for (SCOPE 4.3).
use Rattle.std.specs.Prelude.{Bool, false, ℕ}
use Rattle.reader.specs.Taking.{Heard, HeardAll}
use Rattle.std.specs.declared.result.Result.TheVariants.{Ok, Err}

-- ---- one packet

-- its number: 0 is accepted
abbrev pub number_of : Heard → ℕ
number_of (Ok t) = 0
number_of (Err r) = r.no

-- its offset; 0 where it is accepted
abbrev pub offset_of : Heard → ℕ
offset_of (Ok t) = 0
offset_of (Err r) = r.at

-- how many blocks it reports
abbrev pub count_of : Heard → ℕ
count_of (Ok t) = t.blocks
count_of (Err r) = 0

-- how many bytes it reports as written
abbrev pub written_of : Heard → ℕ
written_of (Ok t) = t.written
written_of (Err r) = 0

-- whether it says that a block was dropped
abbrev pub dropped_of : Heard → Bool
dropped_of (Ok t) = t.dropped
dropped_of (Err r) = false

-- ---- a list of packets

abbrev pub number_of_all : HeardAll → ℕ
number_of_all (Ok t) = 0
number_of_all (Err r) = r.no

abbrev pub offset_of_all : HeardAll → ℕ
offset_of_all (Ok t) = 0
offset_of_all (Err r) = r.at

-- how many packets it says were taken
abbrev pub packets_of_all : HeardAll → ℕ
packets_of_all (Ok t) = t.packets
packets_of_all (Err r) = 0

abbrev pub count_of_all : HeardAll → ℕ
count_of_all (Ok t) = t.blocks
count_of_all (Err r) = 0

abbrev pub written_of_all : HeardAll → ℕ
written_of_all (Ok t) = t.written
written_of_all (Err r) = 0

abbrev pub dropped_of_all : HeardAll → Bool
dropped_of_all (Ok t) = t.dropped
dropped_of_all (Err r) = false
