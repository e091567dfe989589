-- `writer::cut_pages` meets its contract: each refusal is that of the first rule that doesn't hold, and past them the pages are
-- those that the stream needs. Assumes nothing.
use mathlib.Core.Path.{◌≡◌, ◌∙◌, sym, ap}
use mathlib.Core.Bool.{true}
use Prim.Native.Nat.{ℕ, ◌*◌, ◌/◌}
use native.Mathlib.Omega.{arith}
use lib.ListN.{length}
use Rattle.blocks.specs.Block.{whole, blocks}
use Rattle.symbols.specs.Stream.{cell, stream_of}
use Rattle.writer.specs.Cutting.{pages_for, takes_of}
use Rattle.writer.proofs.Aligned.{stream_cells}
use Rattle.writer.proofs.Measuring.{cells_bound}
use Rattle.writer.proofs.Answering.{measured-broken, measured_cells, Taken, taken, cut-out-of-range, cut-broken, cut-written}
use Rattle.writer.proofs.cut_pages.Goals as goal

pub returns-then-not-takes : goal.returns-then-not-takes
returns-then-not-takes c =
    let a = c.args in
    let it = cut-out-of-range a.s a.index a.k a.records.now a.out.now (sym c.takes.ensures ∙ c.if-not-takes.true) in
    record { answer = c.refuse.ensures ∙ it.0; bytes = it.1 }

pub pages_for-requires : goal.pages_for-requires
pages_for-requires c =
    let in_range_lem-c : (takes_of c.args.s c.args.index c.args.k ≡ true) = (sym c.takes.ensures ∙ c.if-not-takes.false) in
    let counted-c : ((whole c.args.records.now ≡ true)
    × (c.in-Some.cells ≡ length (stream_of (blocks c.args.records.now)) / cell)) = (measured_cells c.args.records.now _
    (sym c.measure.ensures ∙ c.in-Some.is)) in
    let a = c.args in
    let t : Taken a.index a.k = taken a.s a.index a.k in_range_lem-c in
    (omega arith, omega (arith, counted-c.1, cells_bound a.records.now))

pub write_all-requires : goal.write_all-requires
write_all-requires c =
    let in_range_lem-c : (takes_of c.args.s c.args.index c.args.k ≡ true) = (sym c.takes.ensures ∙ c.if-not-takes.false) in
    let a = c.args in
    let t : Taken a.index a.k = taken a.s a.index a.k in_range_lem-c in
    (omega arith, omega arith)

pub returns-in-None : goal.returns-in-None
returns-in-None c =
    let in_range_lem-c : (takes_of c.args.s c.args.index c.args.k ≡ true) = (sym c.takes.ensures ∙ c.if-not-takes.false) in
    let a = c.args in
    let it = cut-broken a.s a.index a.k a.records.now a.out.now in_range_lem-c
    (measured-broken a.records.now (sym c.measure.ensures ∙ c.in-None.is)) in
    record { answer = c.refuse-in-None.ensures ∙ it.0; bytes = it.1 }

pub returns-in-Some : goal.returns-in-Some
returns-in-Some c =
    let in_range_lem-c : (takes_of c.args.s c.args.index c.args.k ≡ true) = (sym c.takes.ensures ∙ c.if-not-takes.false) in
    let counted-c : ((whole c.args.records.now ≡ true)
    × (c.in-Some.cells ≡ length (stream_of (blocks c.args.records.now)) / cell)) = (measured_cells c.args.records.now _
    (sym c.measure.ensures ∙ c.in-Some.is)) in
    let w = c.write_all in
    let a = c.args in
    let n = counted-c in
    let it = cut-written a.s a.index a.k a.records.now a.out.now in_range_lem-c n.0 c.pages_for.result
    (c.pages_for.ensures ∙ ap (pages_for a.k) (ap (λ (m : ℕ). m * cell) n.1 ∙ stream_cells (blocks a.records.now)))
    w.result w.new.out w.ensures.value w.ensures.out_after in
    record { answer = it.0; bytes = it.1 }
