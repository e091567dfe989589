-- What stands at a place of a list of records.
use Rattle.std.specs.Prelude.{List, ℕ, ◌+◌, eqb, length, drop}
use Rattle.laws.specs.Pick.{pick}
use Rattle.blocks.specs.declared.Found.{Found}
use Rattle.blocks.specs.declared.Found.TheVariants.{End, Record, Broken}
use Rattle.blocks.specs.Block.{head_length, head_of, record_length, begins}

-- the end of the list; a whole record, with its 16 bits, the place of its raw bytes and the place after it; or neither, as past
-- the end
unfoldable pub found_at : List ℕ → ℕ → Found
found_at l place =
    let rest = drop place l in
    pick (eqb place (length l)) End
    (pick (begins rest) (Record (head_of rest) (place + head_length) (place + record_length rest)) Broken)

-- the place after what was found; where it is no record, the end of the list
abbrev pub after_found : ℕ → Found → ℕ
after_found end (Record head raw next) = next
after_found end End = end
after_found end Broken = end

-- the place after the record at a place
unfoldable pub after_at : List ℕ → ℕ → ℕ
after_at l place = after_found (length l) (found_at l place)
