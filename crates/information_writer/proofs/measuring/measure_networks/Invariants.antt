-- `information_writer::measuring::measure_networks` meets its contract: what is left from here makes what was to be done. Assumes nothing.
use mathlib.Core.Path.{◌≡◌}
use Prim.Native.Nat.{◌+◌, ◌-◌, ◌*◌, ◌≤◌}
use Rattle.laws.specs.Pick.{both}
use Rattle.information_writer.specs.Internal.{networks_from, named, all_fine}
use Rattle.information_writer.proofs.measuring.measure_networks.Given as goal

abbrev pub invariant-loop-j : goal.invariant-loop-j
invariant-loop-j l =
    let here = networks_from (l.count - l.j) l.j l.codes l.form in
    let all = networks_from l.count 0 l.first l.form in
    (l.codes ≤ l.first + 255 * l.j) × (l.codes + named here ≡ l.first + named all)
    × (both l.good (all_fine here) ≡ both l.fine (all_fine all))
