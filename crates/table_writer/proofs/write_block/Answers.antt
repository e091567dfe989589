-- `table_writer::write_block` meets its contract: `judge` says which rule refuses or how many bits the table takes, then the room
-- decides. Assumes nothing.
use mathlib.Core.Path.{◌≡◌, ◌∙◌, sym, ap}
use mathlib.Core.List.{List}
use Prim.Native.Nat.{ℕ, ◌+◌, ◌*◌, ◌/◌}
use native.Mathlib.Omega.{arith}
use lib.ListN.{length}
use Rattle.std.specs.declared.result.Result.TheVariants.{Ok}
use Rattle.answer.proofs.Handing.{handed}
use Rattle.answer.proofs.Lent.{lent-refused, lent-short, lent-done}
use Rattle.forms.specs.Form.{table_in}
use Rattle.forms.specs.Writing.{write_rules}
use Rattle.forms.specs.Block.{record_of}
use Rattle.table_writer.proofs.Sealing.{accepted, length_record}
use Rattle.table_writer.proofs.write_block.Goals as goal

pub overflow_add-need : goal.overflow_add-need
overflow_add-need c =
    omega (arith, accepted c.args.application c.args.table.now c.judge.ensures c.in_ok-bits.was)

pub write_record-requires : goal.write_record-requires
write_record-requires c =
    let w = accepted c.args.application c.args.table.now c.judge.ensures c.in_ok-bits.was in
    (w.0, w.1, w.2, omega (arith, w.2))

pub returns-in_err-bits : goal.returns-in_err-bits
returns-in_err-bits c =
    let a = c.args in
    let f : List ℕ = a.table.now in
    let it = lent-refused (write_rules a.application f) (record_of a.application (table_in f)) a.out.now _ c.judge.ensures c.in_err-bits.was in
    record { answer = handed c.from_residual.ensures ∙ it.0; output = it.1 }

pub returns-then-out-need : goal.returns-then-out-need
returns-then-out-need c =
    let a = c.args in
    let f : List ℕ = a.table.now in
    let j = c.judge.ensures in
    let k = c.in_ok-bits.was in
    let w = accepted a.application f j k in
    let it = lent-short (write_rules a.application f) (record_of a.application (table_in f)) a.out.now _ j k (omega (arith, w.2, length_record a.application (table_in f))) in
    record { answer = c.refuse.ensures ∙ it.0; output = it.1 }

pub returns : goal.returns
returns c =
    let a = c.args in
    let f : List ℕ = a.table.now in
    let j = c.judge.ensures in
    let k = c.in_ok-bits.was in
    let w = accepted a.application f j k in
    let n : 4 + 2 * ((c.in_ok-bits.bits + 7) / 8) ≡ length (record_of a.application (table_in f)) =
    ap (λ (b : ℕ). 4 + 2 * ((b + 7) / 8)) w.2 ∙ sym (length_record a.application (table_in f)) in
    let p = lent-done (write_rules a.application f) (record_of a.application (table_in f)) a.out.now _ j k (omega (arith, n)) in
    record {
      answer = ap Ok n ∙ p.0;
      output = c.write_record.ensures ∙ p.1;
    }
