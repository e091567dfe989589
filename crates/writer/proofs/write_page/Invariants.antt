-- `writer::write_page` meets its contract. The loop's invariant: the packets stored, with those still to be stored, are the page's
-- behind packet 0. Assumes nothing.
use Rattle.writer.proofs.Paging.{Rowed}
use Rattle.writer.proofs.write_page.Given as goal

abbrev pub invariant-loop-y : goal.invariant-loop-y
invariant-loop-y l = Rowed l.s l.k l.records l.initial.at l.initial.out l.initial.to l.out l.at l.to l.y
