-- `bench::bench_pes` meets its contract: it says how many bytes the answer of `pes::read` reports. Assumes nothing.
use mathlib.Core.Path.{◌∙◌, ap, sym}
use Rattle.answer.specs.Values.{written_of}
use Rattle.bench.proofs.bench_pes.Goals as goal

pub returns-in-Ok : goal.returns-in-Ok
returns-in-Ok c =
    let e = c.read.ensures in
    record {
      count = ap written_of (sym c.in-Ok.is ∙ e.answer);
      bytes = e.bytes;
    }

pub returns-in-Err : goal.returns-in-Err
returns-in-Err c =
    let e = c.read.ensures in
    record {
      count = ap written_of (sym c.in-Err.is ∙ e.answer);
      bytes = e.bytes;
    }
