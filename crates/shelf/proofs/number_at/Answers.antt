-- `shelf::number_at` meets its contract: the two bytes are read where they stand. Assumes nothing.
use native.Mathlib.Omega.{arith}
use lib.Seq.{get_or-drop}
use Rattle.shelf.specs.Shelf.{number_in}
use Rattle.shelf.proofs.number_at.Goals as goal

pub returns : goal.returns
unfolding number_in
returns c = simp get_or-drop (omega (arith, c.byte_at.ensures.0, c.byte_at-2.ensures.0))
