-- What reading a block answers: the number and the values that each case stands for (SCOPE 4.3). That of a record's frame is a call's
-- answer, with the head in place of a count.
use Rattle.std.specs.declared.result.Result.TheVariants.{Ok, Err}
use Rattle.std.specs.Prelude.{ℕ}
use Rattle.answer.specs.Answer.{Answer}
use Rattle.blocks.specs.Taking.{Read, taken}

-- its number: 0 is accepted
abbrev pub number_of : Read → ℕ
number_of (Ok t) = 0
number_of (Err r) = r.no

-- its offset; 0 where it is accepted
abbrev pub offset_of : Read → ℕ
offset_of (Ok t) = 0
offset_of (Err r) = r.at

-- how many bytes it reports as written
abbrev pub written_of : Read → ℕ
written_of (Ok t) = t.written
written_of (Err r) = 0

-- how many bytes of the block it says were mended (SCOPE 19.5)
abbrev pub mended_of : Read → ℕ
mended_of (Ok t) = t.mended
mended_of (Err r) = 0

-- the answer of a call that writes, with the count of mended bytes beside it where it accepts
abbrev pub counted : ℕ → Answer → Read
counted mended (Ok n) = Ok (taken n mended)
counted mended (Err r) = Err r

-- the 16 bits of the head that a record's frame reports
abbrev pub head_of_frame : Answer → ℕ
head_of_frame (Ok head) = head
head_of_frame (Err r) = 0
