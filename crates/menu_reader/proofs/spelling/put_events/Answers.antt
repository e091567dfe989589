-- The answers that `menu_reader::spelling::put_events` wants beside its invariants. Assumes nothing.
use mathlib.Core.Path.{◌≡◌, ap}
use mathlib.Core.List.{List, map}
use Prim.Native.Nat.{ℕ, ◌+◌, ◌-◌, ◌<◌}
use native.Mathlib.Omega.{arith}
use lib.ListN.{length}
use Rattle.octet.specs.Decoding.{nib}
use Rattle.fields.specs.Fields.{width, parts}
use Rattle.menu_forms.specs.Rows.{each}
use Rattle.menu_forms.specs.Menus.{Event, event_fields, codes_of}
use Rattle.menu_forms.specs.Form.{event_form}
use Rattle.menu_forms.specs.Block.{in_nibbles}
use Rattle.kinds.specs.Reading.{code_of}
use Rattle.menu_reader.proofs.Going.{ahead_start, ahead-on, ahead-end}
use Rattle.menu_reader.proofs.Texts.{events-nibbles, events-codes, events-form, events_none}
use Rattle.menu_reader.proofs.spelling.put_events.Goals as goal

pub loop-init : goal.loop-init
loop-init c =
    let all : c.args.count - 0 ≡ c.args.count = omega arith in
    rw all (omega arith, omega arith, omega arith, ahead_start _ _ _ _ _)

pub loop-preserved : goal.loop-preserved
loop-preserved c =
    let a = c.args in
    let ns : List ℕ = map nib a.control.now in
    let cs : List ℕ = map code_of a.strings.now in
    let l = c.loop in
    let p = c.put_event-p in
    let left = a.count - l.counter in
    let some : 0 < left = omega arith in
    let fewer : a.count - (l.counter + 1) ≡ left - 1 = omega arith in
    let w = p.ensures.0 in
    rw fewer (
      omega (arith, l.invariant.0, p.ensures.1),
      omega (arith, l.invariant.1, p.ensures.1),
      omega (arith, l.invariant.2, p.ensures.1),
      ahead-on l.invariant.3 w (events-nibbles ns cs l.p.at l.p.from left some w.passes w.takes)
          (events-codes ns cs l.p.at l.p.from left some w.passes w.takes)
          (events-form ns cs l.p.at l.p.from left some w.passes w.takes),
    )

pub returns : goal.returns
unfolding in_nibbles width parts
returns c =
    let a = c.args in
    let l = c.loop in
    let none =
    events_none (map nib a.control.now) (map code_of a.strings.now) l.p.at l.p.from (a.count - l.counter) (omega arith) in (
      ahead-end l.invariant.3 (ap (λ (es : List Event). length (in_nibbles (each event_fields es))) none)
          (ap (λ (es : List Event). length (each codes_of es)) none) (ap (each event_form) none),
      (omega arith, omega arith, omega arith),
    )
