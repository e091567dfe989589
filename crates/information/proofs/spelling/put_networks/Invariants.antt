-- `information::spelling::put_networks` meets its contract: what is left from here makes what was to be done. Assumes nothing.
use mathlib.Core.Path.{◌≡◌}
use Prim.Native.Nat.{◌+◌, ◌-◌, ◌*◌, ◌≤◌}
use lib.Seq.{sets}
use Rattle.codecs.specs.Rows.{each}
use Rattle.information_forms.specs.Form.{network_form}
use Rattle.information.specs.Internal.{networks_from, named}
use Rattle.information.proofs.spelling.put_networks.Given as goal

abbrev pub invariant-loop-j : goal.invariant-loop-j
invariant-loop-j l =
    let here = networks_from (l.count - l.j) l.j l.from l.control l.strings in
    let all = networks_from l.count 0 l.first l.control l.strings in
    (l.from ≤ l.first + 31 * l.j) × (l.from + named here ≡ l.first + named all)
    × (sets l.out (20 + 17 * l.j + l.from) (each network_form here) ≡ sets l.initial.out (20 + l.first) (each network_form all))
