-- Reading Application Information: its rules, what is read, and the count of mended bytes, as the kind has them (EN 300 707, clause 11.2; SCOPE 31.5).
use Rattle.std.specs.Prelude.{true, List, ℕ}
use Rattle.answer.specs.Rules.{Rule}
use Rattle.blocks.specs.Outcome.{Outcome}
use Rattle.kinds.specs.Reading.{mended_of, content_in, read_as, read_rules as rules_of}
use Rattle.information_forms.specs.Information.{Information}
use Rattle.information_forms.specs.Kind.{information, value}

-- in order: the frame, 10 in the first eight bytes, 12, 10 in any other control byte, 23, 11, 14
abbrev pub read_rules : ℕ → List ℕ → List Rule
read_rules application r = rules_of information application r

-- what a block's raw bytes hold
abbrev pub information_read : List ℕ → Information
information_read raw = value (content_in information raw)

-- the count of mended bytes: the part, and the control bytes that aren't images; string bytes don't count
abbrev pub mended_control : List ℕ → ℕ
mended_control r = mended_of true r

-- what reading makes of a record, room apart
abbrev pub read_information : ℕ → List ℕ → Outcome Information
read_information application r = read_as information value application r
