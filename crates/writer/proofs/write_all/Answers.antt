-- `writer::write_all` meets its contract: so many pages fit where their number is at most the room divided by a page's length. Assumes nothing.
use borrow.Author.Rules.{rules}
use mathlib.Core.Path.{◌∙◌}
use native.Mathlib.Omega.{arith}
use lib.ListN.{length}
use Rattle.blocks.specs.Block.{blocks}
use Rattle.symbols.specs.Stream.{stream_of}
use Rattle.writer.specs.Internal.{page_length, pages_bytes}
use Rattle.writer.proofs.Paging.{pages-length}
use Rattle.writer.proofs.Answering.{short-of-room, fits-room, room-enough}
use Rattle.writer.proofs.write_all.Goals as goal

pub returns-then-out-size : goal.returns-then-out-size
returns-then-out-size c =
    let a = c.args in
    let it = short-of-room (pages_bytes a.s a.index a.k a.count a.records.now) a.out.now a.count (page_length a.k)
    (pages-length a.s a.k a.count a.index (stream_of (blocks a.records.now))) (omega arith) c.if-out-size.true in
    record { value = c.refuse.ensures ∙ it.0; out_after = it.1 }

pub write_pages-requires : goal.write_pages-requires
write_pages-requires c =
    let a = c.args in
    (search rules, search rules, fits-room (length a.out.now) a.count (page_length a.k) (omega arith) c.if-out-size.false)

pub overflow_mul-result : goal.overflow_mul-result
overflow_mul-result c =
    let a = c.args in
    omega (arith, fits-room (length a.out.now) a.count (page_length a.k) (omega arith) c.if-out-size.false)

pub returns : goal.returns
returns c =
    let w = c.write_pages in
    let a = c.args in
    let it = room-enough (pages_bytes a.s a.index a.k a.count a.records.now) a.out.now w.new.out a.count (page_length a.k)
    (pages-length a.s a.k a.count a.index (stream_of (blocks a.records.now))) (omega arith) c.if-out-size.false w.ensures in
    record { value = it.0; out_after = it.1 }
