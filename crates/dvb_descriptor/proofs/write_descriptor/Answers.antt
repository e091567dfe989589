-- `dvb_descriptor::write_descriptor` meets its contract: `judge` says which rule refuses or how many subtitles there are, then the room
-- decides. Assumes nothing.
use mathlib.Core.Path.{◌≡◌, ◌∙◌, sym, ap}
use mathlib.Core.List.{List}
use Prim.Native.Nat.{ℕ, ◌+◌, ◌*◌}
use native.Mathlib.Omega.{arith}
use lib.ListN.{length}
use Rattle.std.specs.declared.result.Result.TheVariants.{Ok}
use Rattle.answer.proofs.Lent.{lent-refused, lent-short, lent-done}
use Rattle.answer.proofs.Handing.{handed}
use Rattle.forms.specs.Form.{table_in}
use Rattle.dvb_descriptor.specs.Subtitles.{subtitles_of}
use Rattle.dvb_descriptor.specs.Calls.{write_rules, descriptor_of}
use Rattle.dvb_descriptor.proofs.Packing.{length-packed, packed-stored}
use Rattle.dvb_descriptor.proofs.Judging.{accepted}
use Rattle.dvb_descriptor.proofs.write_descriptor.Goals as goal

pub overflow_mul-need : goal.overflow_mul-need
overflow_mul-need c =
    let p = accepted c.args.table.now c.judge.ensures c.in_ok-n.was in
    omega (arith, p.2)

pub overflow_add-need : goal.overflow_add-need
overflow_add-need c =
    let p = accepted c.args.table.now c.judge.ensures c.in_ok-n.was in
    omega (arith, p.2)

pub returns-then-out-need : goal.returns-then-out-need
returns-then-out-need c =
    let p = accepted c.args.table.now c.judge.ensures c.in_ok-n.was in
    let a = c.args in
    let f : List ℕ = a.table.now in
    let s = lent-short (write_rules f) (descriptor_of (table_in f)) a.out.now _ c.judge.ensures c.in_ok-n.was (omega (arith, p.0, length-packed (subtitles_of (table_in f)), c.if-out-need.true)) in
    record {
      answer = c.refuse.ensures ∙ s.0;
      output = s.1;
    }

pub overflow_cast-head-2 : goal.overflow_cast-head-2
overflow_cast-head-2 c =
    let p = accepted c.args.table.now c.judge.ensures c.in_ok-n.was in
    omega (arith, p.2)

pub put_descriptors-requires : goal.put_descriptors-requires
put_descriptors-requires c =
    let p = accepted c.args.table.now c.judge.ensures c.in_ok-n.was in
    p.1

pub returns-in_err-n : goal.returns-in_err-n
returns-in_err-n c =
    let a = c.args in
    let f : List ℕ = a.table.now in
    let it = lent-refused (write_rules f) (descriptor_of (table_in f)) a.out.now _ c.judge.ensures c.in_err-n.was in
    record { answer = handed c.from_residual.ensures ∙ it.0; output = it.1 }

pub returns : goal.returns
returns c =
    let p = accepted c.args.table.now c.judge.ensures c.in_ok-n.was in
    let a = c.args in
    let f : List ℕ = a.table.now in
    let n : 2 + 5 * c.in_ok-n.n ≡ length (descriptor_of (table_in f)) =
    ap (λ (x : ℕ). 2 + 5 * x) p.0 ∙ sym (length-packed (subtitles_of (table_in f))) in
    let room = c.if-out-need.false in
    let d = lent-done (write_rules f) (descriptor_of (table_in f)) a.out.now _ c.judge.ensures c.in_ok-n.was (omega (arith, n, room)) in
    let stored =
    packed-stored a.out.now _ _ (subtitles_of (table_in f)) c.in_ok-n.n p.0 c.copy.ensures
    c.put_descriptors.ensures in
    record {
      answer = ap Ok n ∙ d.0;
      output = stored ∙ d.1;
    }
