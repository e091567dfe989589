-- `table_writer::write_fields` meets its contract: two fields, the descriptors and the fill, laid one after the other. Assumes
-- nothing.
use mathlib.Core.Path.{◌≡◌, ◌∙◌, ap}
use mathlib.Core.List.{[], ◌∷◌}
use Prim.Native.Nat.{ℕ, ◌+◌, ◌-◌, ◌*◌, ◌/◌, min}
use native.Mathlib.Omega.{arith}
use Rattle.fields.specs.Fields.{laid}
use Rattle.fields.specs.Pens.{inked}
use Rattle.forms.specs.Tables.{control}
use Rattle.forms.specs.Form.{table_in}
use Rattle.forms.proofs.Sendable.{sendable}
use Rattle.table_writer.specs.Internal.{first_fields}
use Rattle.table_writer.proofs.Whole.{fine-2, all-stored}
use Rattle.table_writer.proofs.write_fields.Goals as goal

pub overflow_add-control : goal.overflow_add-control
overflow_add-control c =
    omega (arith, c.requires.1, (sendable (table_in c.args.table.now) c.requires.0).control_fits)

pub first_fields-first-requires : goal.first_fields-first-requires
first_fields-first-requires c =
    (c.requires.0, omega (arith, c.requires.1, (sendable (table_in c.args.table.now) c.requires.0).control_fits))

pub put_descriptors-c-requires : goal.put_descriptors-c-requires
put_descriptors-c-requires c =
    let t = table_in c.args.table.now in
    let x = c.first_fields-first in
    let y = c.second_fields-second in
    let a = c.lay-a in
    let b = c.lay-b in
    let ex : x.result ≡ laid (first_fields (control t) t) 0 = x.ensures.0 ∙ ap (λ (b : ℕ). laid (first_fields ((b + 7) / 8) t) 0) c.requires.1 in
    (fine-2 t x.result ex a.ensures.0 y.result y.ensures.0 b.ensures.0, (sendable t c.requires.0).loops_fit)

pub overflow_mul-control : goal.overflow_mul-control
overflow_mul-control c =
    omega (arith, c.requires.1, (sendable (table_in c.args.table.now) c.requires.0).control_fits)

pub returns : goal.returns
returns c =
    let t = table_in c.args.table.now in
    let x = c.first_fields-first in
    let y = c.second_fields-second in
    let a = c.lay-a in
    let b = c.lay-b in
    let d = c.put_descriptors-c in
    let e = c.lay in
    let ex : x.result ≡ laid (first_fields (control t) t) 0 = x.ensures.0 ∙ ap (λ (b : ℕ). laid (first_fields ((b + 7) / 8) t) 0) c.requires.1 in
    let few : min (8 * ((c.args.bits + 7) / 8) - c.args.bits) 32 ≡ 8 * ((c.args.bits + 7) / 8) - c.args.bits = omega arith in
    all-stored t x.result ex a.ensures.0 y.result y.ensures.0 b.ensures.0 c.args.out.now (omega (arith, c.well_formed.1.1.0.0)) d.ensures.0
    a.ensures.1 b.ensures.1 d.ensures.1
    (e.ensures.1 ∙ ap (λ (n : ℕ). inked d.result ((n, 0) ∷ []) d.new.out) few
    ∙ ap (λ (n : ℕ). inked d.result ((8 * ((n + 7) / 8) - n, 0) ∷ []) d.new.out) c.requires.1)
