-- The moves of a day sheet between its forms as their contracts have them (claims/specs/Calls says how).
use Rattle.std.specs.Prelude.{List, ℕ}
use Rattle.answer.specs.Answer.{Answer}
use Rattle.sheet_moves.proofs.up.Reads as sheet_moves-up
use Rattle.sheet_moves.proofs.down.Reads as sheet_moves-down

-- a sheet of the old form and lent output; the answer, and the output afterwards
pub data MovesUp : List ℕ → List ℕ → Answer → List ℕ → Type 0 where
  move_up : (κs : _) (a : _) (x : _) (t : _) → sheet_moves-up.Post κs a x t → MovesUp a.0.now a.1.0.now x t.1.0.now

-- a sheet of the new form and lent output; the answer, and the output afterwards
pub data MovesDown : List ℕ → List ℕ → Answer → List ℕ → Type 0 where
  move_down : (κs : _) (a : _) (x : _) (t : _) → sheet_moves-down.Post κs a x t → MovesDown a.0.now a.1.0.now x t.1.0.now
