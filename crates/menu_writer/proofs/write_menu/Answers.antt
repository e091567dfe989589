-- `menu_writer::write_menu` meets its contract: judged first, then written. Assumes nothing.
use mathlib.Core.Path.{◌∙◌, sym, ap}
use mathlib.Core.List.{List}
use Prim.Native.Nat.{ℕ}
use native.Mathlib.Omega.{arith}
use Rattle.std.specs.declared.result.Result.TheVariants.{Ok}
use Rattle.answer.proofs.Handing.{handed}
use Rattle.answer.proofs.Lent.{lent-value, lent-refused, lent-short, lent-done}
use Rattle.menu_forms.specs.Form.{menu_in}
use Rattle.menu_forms.specs.Block.{record_of}
use Rattle.menu_forms.specs.Writing.{write_rules}
use Rattle.menu_writer.proofs.Records.{writable, sizes, long-is, size_is}
use Rattle.menu_writer.proofs.write_menu.Goals as goal

pub returns-then-out-need : goal.returns-then-out-need
returns-then-out-need c =
    let a = c.args in
    let f : List ℕ = a.form.now in
    let j = c.judge.ensures in
    let k = c.in_ok-need.was in
    let e = lent-value (write_rules a.application f) (record_of a.application (menu_in f)) a.out.now _ j k in
    let s = lent-short (write_rules a.application f) (record_of a.application (menu_in f)) a.out.now _ j k (omega (arith, e, c.if-out-need.true)) in
    record {
      answer = c.refuse.ensures ∙ s.0;
      output = s.1;
    }

pub write_record-requires : goal.write_record-requires
write_record-requires c =
    let a = c.args in
    let f : List ℕ = a.form.now in
    let j = c.judge.ensures in
    let k = c.in_ok-need.was in
    let e = lent-value (write_rules a.application f) (record_of a.application (menu_in f)) a.out.now _ j k in
    let w = writable a.application f _ _ (sym j ∙ k) in
    let m = c.measure-whole in
    (w.0, m.ensures.0, sizes (menu_in f) w.1, omega (arith, e, c.if-out-need.false, long-is m.result f m.ensures.0 a.application, size_is m.result f m.ensures.0))

pub returns-in_err-need : goal.returns-in_err-need
returns-in_err-need c =
    let a = c.args in
    let f : List ℕ = a.form.now in
    let it = lent-refused (write_rules a.application f) (record_of a.application (menu_in f)) a.out.now _ c.judge.ensures c.in_err-need.was in
    record { answer = handed c.from_residual.ensures ∙ it.0; output = it.1 }

pub returns : goal.returns
returns c =
    let a = c.args in
    let f : List ℕ = a.form.now in
    let j = c.judge.ensures in
    let k = c.in_ok-need.was in
    let e = lent-value (write_rules a.application f) (record_of a.application (menu_in f)) a.out.now _ j k in
    let p = lent-done (write_rules a.application f) (record_of a.application (menu_in f)) a.out.now _ j k (omega (arith, e, c.if-out-need.false)) in
    record {
      answer = ap Ok e ∙ p.0;
      output = c.write_record.ensures ∙ p.1;
    }
