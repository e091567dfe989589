-- `menu_writer::putting::put_events` meets its contract: what is left from here makes what was to be sent. Assumes nothing.
use mathlib.Core.Path.{◌≡◌}
use mathlib.Core.List.{map}
use Prim.Native.Nat.{◌+◌, ◌-◌, ◌*◌, ◌≤◌}
use lib.ListN.{length, drop}
use lib.Seq.{sets}
use Rattle.octet.specs.Image.{image}
use Rattle.menu_forms.specs.Rows.{each}
use Rattle.menu_forms.specs.Menus.{event_fields}
use Rattle.menu_forms.specs.Block.{in_nibbles}
use Rattle.menu_writer.proofs.Events.{events_in}
use Rattle.menu_writer.proofs.putting.put_events.Given as goal

abbrev pub invariant-loop : goal.invariant-loop
invariant-loop l =
    let here = map image (in_nibbles (each event_fields (events_in (l.count - l.counter) (drop l.p.at l.form)))) in
    let all = map image (in_nibbles (each event_fields (events_in l.count (drop l.from l.form)))) in
    (l.p.at ≤ l.from + 3831 * l.counter) × (l.p.to ≤ l.to + 5110 * l.counter) × (l.p.to + length here ≡ l.to + length all)
    × (sets l.out l.p.to here ≡ sets l.initial.out l.to all)
