-- The answers that `pes_writer::put_stuffing` wants beside its invariant. Assumes nothing.
use mathlib.Core.Path.{◌≡◌, ◌∙◌, sym}
use Prim.Native.Nat.{ℕ, ◌+◌, ◌-◌, ◌*◌}
use native.Mathlib.Omega.{arith}
use lib.Seq.{sets}
use Rattle.laws.proofs.Stores.{sets_next}
use Rattle.pes_writer.specs.Writing.{stuffing_unit, stuffing_units}
use Rattle.pes_writer.proofs.Fills.{one-more, none-left}
use Rattle.pes_writer.proofs.Making.{stuffing_unit-length}
use Rattle.pes_writer.proofs.put_stuffing.Goals as goal

pub loop-i-preserved : goal.loop-i-preserved
unfolding stuffing_units
loop-i-preserved c =
    let l = c.loop-i in
    let a = c.args in
    let p = c.put_stuffing_unit in
    let next : a.from + 46 * (l.i + 1) ≡ a.from + 46 * l.i + 46 = omega arith in
    rw next
    (sets_next l.out p.new.out (a.from + 46 * l.i) 46 stuffing_unit (stuffing_units (a.count - (l.i + 1))) _ (one-more stuffing_units a.count l.i (omega arith))
    stuffing_unit-length p.ensures ∙ l.invariant)

pub returns : goal.returns
unfolding stuffing_units
returns c =
    let l = c.loop-i in
    sym (none-left (λ (n : ℕ). sets l.out (c.args.from + 46 * l.i) (stuffing_units n)) c.args.count l.i (omega arith)) ∙ l.invariant
