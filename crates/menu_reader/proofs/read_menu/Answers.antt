-- `menu_reader::read_menu` meets its contract: the answer of `read_form`, with the count beside it. Assumes nothing.
use mathlib.Core.Path.{◌∙◌, sym, ap}
use mathlib.Core.List.{List}
use Prim.Native.Nat.{ℕ}
use native.Mathlib.Omega.{arith}
use lib.ListN.{drop}
use Rattle.answer.proofs.Handing.{handed}
use Rattle.std.specs.declared.result.Result.TheVariants.{Ok}
use Rattle.answer.proofs.Lent.{lent-all}
use Rattle.blocks.specs.Taking.{taken}
use Rattle.blocks.specs.Values.{counted}
use Rattle.menu_forms.specs.Form.{form}
use Rattle.menu_reader.specs.Reading.{read_rules, menu_read, mended_control}
use Rattle.menu_reader.proofs.Exact.{mended_most_lem}
use Rattle.menu_reader.proofs.read_menu.Goals as goal

pub overflow_cast-mended : goal.overflow_cast-mended
overflow_cast-mended c =
    let a = c.args in
    let r : List ℕ = a.rec.now in
    let d = sym c.read_form.ensures.answer ∙ c.in_ok-written.was in
    let all = lent-all (read_rules a.application r) (form (menu_read (drop 4 r))) a.out.now _ d in
    omega (arith, c.mended_in-mended.ensures, mended_most_lem a.application r all.0)

pub returns-in_err-written : goal.returns-in_err-written
returns-in_err-written c =
    record {
      answer = handed c.from_residual.ensures
          ∙ sym (ap (counted (mended_control _)) (sym c.read_form.ensures.answer ∙ c.in_err-written.was));
      output = c.read_form.ensures.output;
    }

pub returns : goal.returns
returns c =
    record {
      answer = ap (λ (x : ℕ). Ok (taken c.in_ok-written.written x)) c.mended_in-mended.ensures
          ∙ sym (ap (counted (mended_control _)) (sym c.read_form.ensures.answer ∙ c.in_ok-written.was));
      output = c.read_form.ensures.output;
    }
