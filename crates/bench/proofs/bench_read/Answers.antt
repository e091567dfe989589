-- `bench::bench_read` meets its contract: it says how many bytes the answer of `table::read_block` reports. Assumes nothing.
use mathlib.Core.Path.{◌∙◌, ap, sym}
use Rattle.blocks.specs.Values.{written_of}
use Rattle.bench.proofs.bench_read.Goals as goal

pub returns-in-Ok : goal.returns-in-Ok
returns-in-Ok c =
    let e = c.read_block.ensures in
    record {
      count = ap written_of (sym c.in-Ok.is ∙ e.answer);
      bytes = e.output;
    }

pub returns-in-Err : goal.returns-in-Err
returns-in-Err c =
    let e = c.read_block.ensures in
    record {
      count = ap written_of (sym c.in-Err.is ∙ e.answer);
      bytes = e.output;
    }
