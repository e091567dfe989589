-- `writer::write_symbols` meets its contract. The loop's invariant: the bytes stored, with those still to be stored, are the whole, and
-- so is the place of the first start. Assumes nothing.
use Rattle.symbols.specs.Stream.{per_packet}
use Rattle.writer.proofs.Filling.{Stored}
use Rattle.writer.proofs.write_symbols.Given as goal

abbrev pub invariant-loop-i : goal.invariant-loop-i
invariant-loop-i l = Stored l.records l.initial.at l.initial.out l.q per_packet l.out l.at l.before l.i
