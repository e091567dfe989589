-- The answers that `pes_writer::writable::records_fit` wants beside its invariant. Assumes nothing.
use mathlib.Core.Path.{◌∙◌, sym}
use native.Mathlib.Omega.{arith}
use Rattle.pes_writer.proofs.Fits.{fit_stops, fit_goes, fit_end}
use Rattle.pes_writer.proofs.writable.records_fit.Goals as goal

pub returns-then-not-record_fits : goal.returns-then-not-record_fits
returns-then-not-record_fits c =
    let l = c.loop-i in
    sym (fit_stops _ _ l.i (omega arith) (sym c.record_fits.ensures ∙ c.if-not-record_fits.true)) ∙ l.invariant

pub loop-i-preserved : goal.loop-i-preserved
loop-i-preserved c =
    let l = c.loop-i in
    sym (fit_goes _ _ l.i (omega arith) (sym c.record_fits.ensures ∙ c.if-not-record_fits.false)) ∙ l.invariant

pub returns : goal.returns
returns c = sym (fit_end _ _ c.loop-i.i (omega arith)) ∙ c.loop-i.invariant
