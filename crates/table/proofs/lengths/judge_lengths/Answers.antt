-- `table::lengths::judge_lengths` meets its contract: each `return` is the first test that fails, and the last is all passed, with the
-- form's bytes by the table's bits. Assumes nothing.
use mathlib.Core.Path.{◌∙◌, sym, ap}
use Rattle.std.specs.declared.result.Result.TheVariants.{Ok}
use Rattle.fields.specs.Compound.{compound}
use Rattle.forms.specs.Tables.{sent_in}
use Rattle.table.specs.Control.{table_of}
use Rattle.table.proofs.Fitting.{lengths-22, lengths-14, lengths-14', lengths-done}
use Rattle.table.proofs.Loops.{measured, form-need}
use Rattle.table.proofs.lengths.judge_lengths.Goals as goal
use Rattle.table.proofs.lengths.judge_lengths.Goals.{then-opening-control-via-then-opening-control, then-opening-control-via-else-opening-control+then-size-control}

pub returns-then-not-is_numbered : goal.returns-then-not-is_numbered
returns-then-not-is_numbered c =
    let a = c.args in
    let opens = c.requires in
    let k = sym c.is_numbered.ensures ∙ c.if-not-is_numbered.true in
    c.refuse.ensures ∙ sym (lengths-22 _ a.opening (sent_in (compound a.body.now)) opens _ k)

pub returns-then-opening-control : goal.returns-then-opening-control
returns-then-opening-control c =
    let a = c.args in
    let opens = c.requires in
    let n = compound a.body.now in
    let k = sym c.is_numbered.ensures ∙ c.if-not-is_numbered.false in
    let e = measured a.opening n _ opens c.measure-bits.ensures.0 in
    c.refuse-then-opening-control.ensures
    ∙ elim c.then-opening-control.branch [
      | then-opening-control-via-then-opening-control w ↦
          sym (lengths-14 _ a.opening (sent_in n) opens _ k (rw e at w.if-opening-control.true))
      | then-opening-control-via-else-opening-control+then-size-control w ↦
          sym (lengths-14' _ a.opening (sent_in n) opens _ k (rw e at w.if-opening-control.false) (rw e at w.if-size-control.true))
    ]

pub returns : goal.returns
unfolding table_of
returns c =
    let a = c.args in
    let opens = c.requires in
    let n = compound a.body.now in
    let k = sym c.is_numbered.ensures ∙ c.if-not-is_numbered.false in
    let e = measured a.opening n _ opens c.measure-bits.ensures.0 in
    ap Ok (form-need a.opening n _ opens e)
    ∙ sym (lengths-done _ a.opening (sent_in n) opens _ k (rw e at c.if-opening-control.false) (rw e at c.if-size-control.false))
