-- `menu_writer::loops::put_entries` meets its contract: what is left from here makes what was to be sent. Assumes nothing.
use mathlib.Core.Path.{◌≡◌}
use Prim.Native.Nat.{◌+◌, ◌-◌, ◌*◌, ◌≤◌}
use lib.ListN.{length, drop}
use lib.Seq.{sets}
use Rattle.menu_writer.specs.Internal.{loop_length, loop_bytes}
use Rattle.menu_writer.proofs.loops.put_entries.Given as goal

abbrev pub invariant-loop : goal.invariant-loop
invariant-loop l =
    let left = l.count - l.counter in
    let here = drop l.at l.form in
    let all = drop l.from l.form in
    (l.at ≤ l.from + 5 * l.counter) × (l.q ≤ l.to + 10 * l.counter)
    × (l.at + loop_length l.what left here ≡ l.from + loop_length l.what l.count all)
    × (l.q + length (loop_bytes l.what left here) ≡ l.to + length (loop_bytes l.what l.count all))
    × (sets l.out l.q (loop_bytes l.what left here) ≡ sets l.initial.out l.to (loop_bytes l.what l.count all))
