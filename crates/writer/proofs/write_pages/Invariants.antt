-- `writer::write_pages` meets its contract. The loop's invariant: the pages stored, with those still to be stored, are the whole. Assumes nothing.
use Prim.Native.Nat.{◌-◌}
use Rattle.blocks.specs.Block.{blocks}
use Rattle.symbols.specs.Stream.{stream_of}
use Rattle.writer.specs.Cutting.{pages, joined}
use Rattle.writer.proofs.Paging.{Paged}
use Rattle.writer.proofs.write_pages.Given as goal

abbrev pub invariant-loop-page : goal.invariant-loop-page
invariant-loop-page l = Paged l.s l.k l.records l.initial.out (joined (pages l.s l.k l.count l.index (stream_of (blocks l.records)))) l.out l.at l.next l.to (l.count - l._page)
