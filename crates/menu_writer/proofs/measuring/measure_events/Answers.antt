-- The answers that `menu_writer::measuring::measure_events` wants beside its invariants. Assumes nothing.
use borrow.Author.Rules.{rules}
use mathlib.Core.Path.{◌≡◌, ◌∙◌, refl, sym, ap}
use mathlib.Core.List.{List}
use Prim.Native.Nat.{ℕ, ◌+◌, ◌-◌, ◌*◌, ◌<◌}
use native.Mathlib.Nat.{add-zero, zero-add}
use native.Mathlib.Omega.{arith}
use lib.ListN.{length}
use Rattle.laws.specs.Pick.{both}
use Rattle.laws.proofs.Tests.{both_right}
use Rattle.fields.specs.Fields.{width, fitting}
use Rattle.menu_forms.specs.Rows.{each}
use Rattle.menu_forms.specs.Menus.{Event, event_fields, codes_of, sevens}
use Rattle.menu_forms.specs.Form.{event_form}
use Rattle.menu_writer.proofs.Events.{ends_on, takes-on, sends-on, all-fine-on, events_none}
use Rattle.menu_writer.proofs.measuring.measure_events.Goals as goal

pub loop-init : goal.loop-init
loop-init c =
    let all : c.args.count - 0 ≡ c.args.count = omega arith in
    rw all (omega arith, omega arith, omega arith, refl, zero-add _, zero-add _, refl)

pub loop-preserved : goal.loop-preserved
loop-preserved c =
    let a = c.args in
    let f : List ℕ = a.form.now in
    let l = c.loop in
    let e = c.measure_event-e in
    let t = l.sum in
    let left = a.count - l.counter in
    let some : 0 < left = omega arith in
    let fewer : a.count - (l.counter + 1) ≡ left - 1 = omega arith in
    rw fewer (
      omega (arith, l.invariant.0, e.ensures.1),
      omega (arith, l.invariant.1, e.ensures.2),
      omega (arith, l.invariant.2, e.ensures.3),
      ends_on f t.end left some e.result e.ensures.0 ∙ l.invariant.3,
      takes-on f t.end left some e.result e.ensures.0 t.control ∙ l.invariant.4,
      sends-on f t.end left some e.result e.ensures.0 t.strings ∙ l.invariant.5,
      all-fine-on f t.end left some e.result e.ensures.0 t.fine _ (search rules) ∙ l.invariant.6,
    )

pub returns : goal.returns
unfolding width fitting sevens
returns c =
    let a = c.args in
    let l = c.loop in
    let t = l.sum in
    let e = events_none a.form.now t.end (a.count - l.counter) (omega arith) in (
      record {
        ends = sym (ap (λ (es : List Event). t.end + length (each event_form es)) e ∙ add-zero t.end) ∙ l.invariant.3;
        takes = sym (ap (λ (es : List Event). 8 * t.control + width (each event_fields es)) e ∙ add-zero (8 * t.control)) ∙ l.invariant.4;
        sends = sym (ap (λ (es : List Event). t.strings + length (each codes_of es)) e ∙ add-zero t.strings) ∙ l.invariant.5;
        fine =
            sym (ap (λ (es : List Event). both t.fine (both (fitting (each event_fields es)) (sevens (each codes_of es)))) e ∙ both_right t.fine) ∙ l.invariant.6;
      },
      omega arith,
      omega arith,
      omega arith,
    )
