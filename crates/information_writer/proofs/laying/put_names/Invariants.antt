-- `information_writer::laying::put_names` meets its contract: what is left from here makes what was to be put. Assumes nothing.
use mathlib.Core.Path.{◌≡◌}
use mathlib.Core.List.{map}
use Prim.Native.Nat.{◌+◌, ◌-◌, ◌*◌, ◌≤◌}
use lib.Seq.{sets}
use Rattle.parity.specs.Parity.{letter}
use Rattle.information_writer.specs.Internal.{spoken_from}
use Rattle.information_writer.proofs.laying.put_names.Given as goal

abbrev pub invariant-loop-j : goal.invariant-loop-j
invariant-loop-j l =
    let here = spoken_from (l.count - l.j) l.j l.codes l.form in
    let all = spoken_from l.count 0 l.first l.form in
    (l.codes ≤ l.first + 255 * l.j) × (sets l.out (l.to + l.codes) (map letter here) ≡ sets l.initial.out (l.to + l.first) (map letter all))
