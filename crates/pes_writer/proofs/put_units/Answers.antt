-- The answers that `pes_writer::put_units` wants beside its invariant. Assumes nothing.
use mathlib.Core.Path.{◌≡◌, ◌∙◌, sym}
use Prim.Native.Nat.{ℕ, ◌+◌, ◌-◌, ◌*◌}
use native.Mathlib.Omega.{arith}
use lib.Seq.{sets}
use Rattle.laws.proofs.Stores.{sets_next}
use Rattle.pes_writer.specs.Writing.{unit_of, units_of}
use Rattle.pes_writer.proofs.Fills.{one-more, none-left}
use Rattle.pes_writer.proofs.Making.{unit_length}
use Rattle.pes_writer.proofs.put_units.Goals as goal

pub loop-i-preserved : goal.loop-i-preserved
unfolding units_of
loop-i-preserved c =
    let l = c.loop-i in
    let a = c.args in
    let rs = a.records.now in
    let p = c.put_unit in
    let at : 44 * (l.i + 1) ≡ 44 * l.i + 44 = omega arith in
    let to : 46 + 46 * (l.i + 1) ≡ 46 + 46 * l.i + 46 = omega arith in
    rw (at, to)
    (sets_next l.out p.new.out (46 + 46 * l.i) 46 (unit_of rs (44 * l.i)) (units_of (a.units - (l.i + 1)) rs (44 * l.i + 44)) _
    (one-more (λ (n : ℕ). units_of n rs (44 * l.i)) a.units l.i (omega arith)) (unit_length rs (44 * l.i) (omega arith)) p.ensures ∙ l.invariant)

pub returns : goal.returns
unfolding units_of
returns c =
    let l = c.loop-i in
    let rs = c.args.records.now in
    sym (none-left (λ (n : ℕ). sets l.out (46 + 46 * l.i) (units_of n rs (44 * l.i))) c.args.units l.i (omega arith)) ∙ l.invariant
