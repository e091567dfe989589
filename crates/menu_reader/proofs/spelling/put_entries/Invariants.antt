-- `menu_reader::spelling::put_entries` meets its contract: what is left from here makes what was to be done. Assumes nothing.
use mathlib.Core.List.{map}
use Prim.Native.Nat.{◌+◌, ◌-◌, ◌*◌, ◌≤◌}
use lib.ListN.{drop}
use Rattle.octet.specs.Decoding.{nib}
use Rattle.menu_reader.specs.Internal.{loop_nibbles, loop_form}
use Rattle.menu_reader.proofs.Going.{Ahead}
use Rattle.menu_reader.proofs.spelling.put_entries.Given as goal

abbrev pub invariant-loop : goal.invariant-loop
invariant-loop l =
    let left = l.count - l.counter in
    let ns = map nib l.control in
    let s = l.initial.p in
    (l.p.at ≤ s.at + 10 * l.counter) × (l.p.from ≤ s.from) × (l.p.to ≤ s.to + 5 * l.counter)
    × Ahead l.p (loop_nibbles l.what left (drop l.p.at ns)) 0 (loop_form l.what left (drop l.p.at ns)) l.out s
    (loop_nibbles l.what l.count (drop s.at ns)) 0 (loop_form l.what l.count (drop s.at ns)) l.initial.out
