-- The answers that `menu_reader::spelling::put_entries` wants beside its invariants. Assumes nothing.
use mathlib.Core.Path.{◌≡◌, refl}
use mathlib.Core.List.{List, map}
use Prim.Native.Nat.{ℕ, ◌+◌, ◌-◌, ◌<◌}
use native.Mathlib.Omega.{arith}
use Rattle.octet.specs.Decoding.{nib}
use Rattle.menu_reader.proofs.Going.{ahead_start, ahead-on, ahead-end}
use Rattle.menu_reader.proofs.Rows.{form-on, nibbles-on, form-end, nibbles-end}
use Rattle.menu_reader.proofs.spelling.put_entries.Goals as goal

pub loop-init : goal.loop-init
loop-init c =
    let all : c.args.count - 0 ≡ c.args.count = omega arith in
    rw all (omega arith, omega arith, omega arith, ahead_start _ _ _ _ _)

pub loop-preserved : goal.loop-preserved
loop-preserved c =
    let a = c.args in
    let ns : List ℕ = map nib a.control.now in
    let l = c.loop in
    let p = c.put_entry-p in
    let left = a.count - l.counter in
    let some : 0 < left = omega arith in
    let fewer : a.count - (l.counter + 1) ≡ left - 1 = omega arith in
    let w = p.ensures.0 in
    rw fewer (
      omega (arith, l.invariant.0, p.ensures.1),
      omega (arith, l.invariant.1, p.ensures.1),
      omega (arith, l.invariant.2, p.ensures.1),
      ahead-on l.invariant.3 w (nibbles-on ns l.p.at left a.what some w.passes) refl (form-on ns l.p.at left a.what some w.passes),
    )

pub returns : goal.returns
returns c =
    let a = c.args in
    let ns : List ℕ = map nib a.control.now in
    let l = c.loop in
    let left = a.count - l.counter in (
      ahead-end l.invariant.3 (nibbles-end ns l.p.at left a.what (omega arith)) refl (form-end ns l.p.at left a.what (omega arith)),
      (omega arith, omega arith, omega arith),
    )
