-- `menu_writer::loops::pass` meets its contract: what is left from here makes what was to be passed. Assumes nothing.
use mathlib.Core.Path.{◌≡◌}
use Prim.Native.Nat.{◌+◌, ◌-◌, ◌*◌, ◌≤◌}
use lib.ListN.{drop}
use Rattle.laws.specs.Pick.{both}
use Rattle.menu_writer.specs.Internal.{loop_length, loop_fine}
use Rattle.menu_writer.proofs.loops.pass.Given as goal

abbrev pub invariant-loop : goal.invariant-loop
invariant-loop l =
    let left = l.count - l.counter in
    (l.at ≤ l.from + 5 * l.counter) × (l.at + loop_length l.what left (drop l.at l.form) ≡ l.from + loop_length l.what l.count (drop l.from l.form))
    × (both l.fine (loop_fine l.what left (drop l.at l.form)) ≡ loop_fine l.what l.count (drop l.from l.form))
