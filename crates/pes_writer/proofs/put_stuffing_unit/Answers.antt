-- `pes_writer::put_stuffing_unit` meets its contract: its two stores and the bytes of FF are the unit's bytes in order. Assumes nothing.
use borrow.Author.Rules.{rules}
use mathlib.Core.Path.{◌∙◌}
use Prim.Native.Nat.{◌+◌}
use native.Mathlib.Numerals.{add-one, add-two}
use native.Mathlib.Omega.{arith}
use lib.ListN.{length-set}
use Rattle.pes_writer.specs.Writing.{stuffing_unit}
use Rattle.pes_writer.proofs.Fills.{filled}
use Rattle.pes_writer.proofs.put_stuffing_unit.Goals as goal

pub returns : goal.returns
unfolding stuffing_unit
returns c =
    let to = c.args.to in
    filled _ (to + 2) 44 (simp length-set (omega arith)) (omega arith) (c.fill.ensures.after (search rules)) ∙ rw (add-one to, add-two to)
