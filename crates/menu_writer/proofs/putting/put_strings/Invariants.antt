-- `menu_writer::putting::put_strings` meets its contract: what is left from here makes what was to be sent. Assumes nothing.
use mathlib.Core.Path.{◌≡◌}
use mathlib.Core.List.{map}
use Prim.Native.Nat.{◌+◌, ◌-◌, ◌*◌, ◌≤◌}
use lib.ListN.{drop}
use lib.Seq.{sets}
use Rattle.parity.specs.Parity.{letter}
use Rattle.menu_forms.specs.Rows.{each}
use Rattle.menu_forms.specs.Menus.{codes_of}
use Rattle.menu_writer.proofs.Events.{events_in}
use Rattle.menu_writer.proofs.putting.put_strings.Given as goal

abbrev pub invariant-loop : goal.invariant-loop
invariant-loop l =
    let here = events_in (l.count - l.counter) (drop l.p.at l.form) in
    let all = events_in l.count (drop l.from l.form) in
    (l.p.at ≤ l.from + 3831 * l.counter) × (l.p.to ≤ l.to + 2550 * l.counter)
    × (sets l.out l.p.to (map letter (each codes_of here)) ≡ sets l.initial.out l.to (map letter (each codes_of all)))
