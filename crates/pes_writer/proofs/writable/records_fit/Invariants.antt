-- `pes_writer::writable::records_fit` meets its contract. The loop's invariant: whether the records from here on fit is the whole answer.
-- Assumes nothing.
use mathlib.Core.Path.{◌≡◌}
use Rattle.pes_writer.specs.Records.{records_fit}
use Rattle.pes_writer.proofs.Fits.{fit_from}
use Rattle.pes_writer.proofs.writable.records_fit.Given as goal

abbrev pub invariant-loop-i : goal.invariant-loop-i
invariant-loop-i l = fit_from l.units l.records l.i ≡ records_fit l.units l.records 0
