-- `shelf::put_three` meets its contract: three stores in a row. Assumes nothing.
use native.Mathlib.Numerals.{add-one, add-two}
use native.Mathlib.Omega.{arith}
use lib.ListN.{length-set}
use Rattle.shelf.specs.Shelf.{three_of}
use Rattle.shelf.proofs.put_three.Goals as goal

pub bounds-list-at-2 : goal.bounds-list-at-2
bounds-list-at-2 c = simp length-set (omega arith)

pub bounds-list-at-3 : goal.bounds-list-at-3
bounds-list-at-3 c = simp length-set (omega arith)

pub returns : goal.returns
unfolding three_of
returns c = rw (add-one, add-two)
