-- `table::read_block` meets its contract: the answer of `read_form`, with the count beside it. Assumes nothing.
use mathlib.Core.Path.{◌∙◌, sym}
use mathlib.Core.List.{List}
use Prim.Native.Nat.{ℕ}
use native.Mathlib.Omega.{arith}
use Rattle.answer.proofs.Lent.{lent-all}
use Rattle.forms.specs.Form.{form}
use Rattle.table.specs.Reading.{read_rules, table_read}
use Rattle.table.proofs.Exact.{mended_most_lem}
use Rattle.table.proofs.read_block.Goals as goal

pub overflow_cast-mended : goal.overflow_cast-mended
overflow_cast-mended c =
    let a = c.args in
    let r : List ℕ = a.rec.now in
    let d = sym c.read_form.ensures.answer ∙ c.in_ok-written.was in
    let all = lent-all (read_rules a.application r) (form (table_read r)) a.out.now _ d in
    omega (arith, c.mended_in-mended.ensures, mended_most_lem a.application r all.0)
