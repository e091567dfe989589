-- `information_writer::write_information` meets its contract: judged first, then written. Assumes nothing.
use mathlib.Core.Path.{◌∙◌, sym, ap}
use mathlib.Core.List.{List}
use Prim.Native.Nat.{ℕ}
use native.Mathlib.Omega.{arith}
use Rattle.std.specs.declared.result.Result.TheVariants.{Ok}
use Rattle.answer.proofs.Handing.{handed}
use Rattle.answer.proofs.Lent.{lent-value, lent-refused, lent-short, lent-done}
use Rattle.information_forms.specs.Form.{information_in}
use Rattle.information_forms.specs.Kind.{record_of}
use Rattle.information_forms.specs.Writing.{write_rules}
use Rattle.information_writer.proofs.Fits.{writable, record_long}
use Rattle.information_writer.proofs.write_information.Goals as goal

pub returns-then-out-need : goal.returns-then-out-need
returns-then-out-need c =
    let a = c.args in
    let f : List ℕ = a.form.now in
    let j = c.judge.ensures in
    let k = c.in_ok-need.was in
    let e = lent-value (write_rules a.application f) (record_of a.application (information_in f)) a.out.now _ j k in
    let s = lent-short (write_rules a.application f) (record_of a.application (information_in f)) a.out.now _ j k (omega (arith, e, c.if-out-need.true)) in
    record {
      answer = c.refuse.ensures ∙ s.0;
      output = s.1;
    }

pub write_record-requires : goal.write_record-requires
write_record-requires c =
    let a = c.args in
    let f : List ℕ = a.form.now in
    let j = c.judge.ensures in
    let k = c.in_ok-need.was in
    let e = lent-value (write_rules a.application f) (record_of a.application (information_in f)) a.out.now _ j k in
    let w = writable a.application f _ _ (sym j ∙ k) in
    let m = c.measure-whole in
    (w.0, m.ensures.0.coded, w.1, omega (arith, e, c.if-out-need.false, record_long a.application (information_in f)), w.2)

pub returns-in_err-need : goal.returns-in_err-need
returns-in_err-need c =
    let a = c.args in
    let f : List ℕ = a.form.now in
    let it = lent-refused (write_rules a.application f) (record_of a.application (information_in f)) a.out.now _ c.judge.ensures c.in_err-need.was in
    record { answer = handed c.from_residual.ensures ∙ it.0; output = it.1 }

pub returns : goal.returns
returns c =
    let a = c.args in
    let f : List ℕ = a.form.now in
    let j = c.judge.ensures in
    let k = c.in_ok-need.was in
    let e = lent-value (write_rules a.application f) (record_of a.application (information_in f)) a.out.now _ j k in
    let p = lent-done (write_rules a.application f) (record_of a.application (information_in f)) a.out.now _ j k (omega (arith, e, c.if-out-need.false)) in
    record {
      answer = ap Ok e ∙ p.0;
      output = c.write_record.ensures ∙ p.1;
    }
