-- `menu_writer::measuring::measure_events` meets its contract: what is left from here makes what was to be measured. Assumes nothing.
use mathlib.Core.Path.{◌≡◌}
use Prim.Native.Nat.{◌+◌, ◌-◌, ◌*◌, ◌≤◌}
use lib.ListN.{length, drop}
use Rattle.laws.specs.Pick.{both}
use Rattle.fields.specs.Fields.{width, fitting}
use Rattle.menu_forms.specs.Rows.{each}
use Rattle.menu_forms.specs.Menus.{event_fields, codes_of, sevens}
use Rattle.menu_forms.specs.Form.{event_form}
use Rattle.menu_writer.proofs.Events.{events_in}
use Rattle.menu_writer.proofs.measuring.measure_events.Given as goal

abbrev pub invariant-loop : goal.invariant-loop
invariant-loop l =
    let t = l.sum in
    let here = events_in (l.count - l.counter) (drop t.end l.form) in
    let all = events_in l.count (drop l.from l.form) in
    (t.end ≤ l.from + 3831 * l.counter) × (t.control ≤ 2300 * l.counter) × (t.strings ≤ 255 * l.counter)
    × (t.end + length (each event_form here) ≡ l.from + length (each event_form all))
    × (8 * t.control + width (each event_fields here) ≡ width (each event_fields all))
    × (t.strings + length (each codes_of here) ≡ length (each codes_of all))
    × (both t.fine (both (fitting (each event_fields here)) (sevens (each codes_of here)))
    ≡ both (fitting (each event_fields all)) (sevens (each codes_of all)))
