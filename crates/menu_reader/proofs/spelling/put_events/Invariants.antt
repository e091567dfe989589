-- `menu_reader::spelling::put_events` meets its contract: what is left from here makes what was to be done. Assumes nothing.
use Prim.Native.Nat.{◌+◌, ◌-◌, ◌*◌, ◌≤◌}
use lib.ListN.{length}
use Rattle.menu_forms.specs.Rows.{each}
use Rattle.menu_forms.specs.Menus.{event_fields, codes_of}
use Rattle.menu_forms.specs.Form.{event_form}
use Rattle.menu_forms.specs.Block.{in_nibbles}
use Rattle.menu_reader.specs.Internal.{events_from}
use Rattle.menu_reader.proofs.Going.{Ahead}
use Rattle.menu_reader.proofs.spelling.put_events.Given as goal

abbrev pub invariant-loop : goal.invariant-loop
invariant-loop l =
    let s = l.initial.p in
    let here = events_from (l.count - l.counter) l.control l.strings l.p in
    let all = events_from l.count l.control l.strings s in
    (l.p.at ≤ s.at + 2710 * l.counter) × (l.p.from ≤ s.from + 255 * l.counter) × (l.p.to ≤ s.to + 1611 * l.counter)
    × Ahead l.p (length (in_nibbles (each event_fields here))) (length (each codes_of here)) (each event_form here) l.out s
    (length (in_nibbles (each event_fields all))) (length (each codes_of all)) (each event_form all) l.initial.out
