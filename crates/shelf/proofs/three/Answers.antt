-- `shelf::three` meets its contract: its bytes are read one by one. Assumes nothing.
use native.Mathlib.Omega.{arith}
use Rattle.shelf.specs.Shelf.{three as shelf_three}
use Rattle.shelf.proofs.three.Goals as goal

pub returns : goal.returns
unfolding shelf_three
returns c =
    (omega (arith, c.byte_at-low.ensures.0, c.byte_at-middle.ensures.0, c.byte_at-high.ensures.0), omega arith)
