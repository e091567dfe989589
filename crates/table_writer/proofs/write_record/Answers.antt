-- `table_writer::write_record` meets its contract: head, fields, checksum. Assumes nothing.
use mathlib.Core.Path.{◌≡◌, ◌∙◌, ap}
use Prim.Native.Nat.{ℕ, ◌+◌, ◌*◌, ◌/◌}
use native.Mathlib.Omega.{arith}
use Rattle.fields.specs.Fields.{laid}
use Rattle.blocks.specs.Block.{header}
use Rattle.blocks.specs.Sealing.{sealed}
use Rattle.blocks.proofs.Sealing.{head_of}
use Rattle.forms.specs.Tables.{size}
use Rattle.forms.specs.Form.{table_in}
use Rattle.forms.proofs.Sendable.{sendable}
use Rattle.table_writer.proofs.Sealing.{record_stored}
use Rattle.table_writer.proofs.write_record.Goals as goal

pub overflow_add-size : goal.overflow_add-size
overflow_add-size c =
    omega (arith, c.requires.2, (sendable (table_in c.args.table.now) c.requires.1).control_fits)

pub overflow_mul-head : goal.overflow_mul-head
overflow_mul-head c =
    omega (arith, c.requires.2, (sendable (table_in c.args.table.now) c.requires.1).control_fits)

pub overflow_add-head : goal.overflow_add-head
overflow_add-head c =
    omega (arith, c.requires.0, c.requires.2, (sendable (table_in c.args.table.now) c.requires.1).control_fits)

pub returns : goal.returns
returns c =
    let t = table_in c.args.table.now in
    let b : 2 * ((c.args.bits + 7) / 8) ≡ size t = ap (λ (n : ℕ). 2 * ((n + 7) / 8)) c.requires.2 in
    let head = c.args.application + 32 * (2 * ((c.args.bits + 7) / 8)) in
    let k = head_of c.args.application (2 * ((c.args.bits + 7) / 8)) c.requires.0 (omega (arith, b, (sendable t c.requires.1).control_fits)) in
    record_stored c.args.application head t c.args.out.now (k.0 ∙ ap (λ (n : ℕ). laid (header c.args.application n) 0) b) k.1 c.requires.3 c.put_head.ensures
    c.write_fields.ensures (c.seal.ensures ∙ ap (λ (n : ℕ). sealed head n c.write_fields.new.out) b)
