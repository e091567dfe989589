-- `information::judge_lengths` meets its contract: each `return` is the rule with one of its parts that doesn't hold, and the last is both.
-- Assumes nothing.
use mathlib.Core.Path.{◌∙◌, sym, ap}
use Rattle.std.specs.declared.result.Result.TheVariants.{Ok}
use Rattle.information.proofs.Lengths.{control_said, control-held, size-held, form-held, lengths-control, lengths-size, lengths-done}
use Rattle.information.proofs.judge_lengths.Goals as goal

pub returns-then-field_of-size : goal.returns-then-field_of-size
returns-then-field_of-size c =
    let a = c.args in
    let x = c.field_of-networks in
    let y = c.field_of in
    c.refuse.ensures
    ∙ sym (lengths-control _ _ _ (λ (e : _). c.if-field_of-size.true (y.ensures.0 ∙ sym (control_said a.control.now a.strings.now) ∙ e ∙ control-held a.control.now a.strings.now x.result x.ensures.0)))

pub returns-then-control-strings : goal.returns-then-control-strings
returns-then-control-strings c =
    let a = c.args in
    let s = c.spell-names in
    let x = c.field_of-networks in
    let y = c.field_of in
    let same = control_said a.control.now a.strings.now ∙ sym y.ensures.0 ∙ c.if-field_of-size.false ∙ sym (control-held a.control.now a.strings.now x.result x.ensures.0) in
    c.refuse-then-control-strings.ensures
    ∙ sym (lengths-size _ _ _ same (λ (e : _). c.if-control-strings.true (e ∙ size-held a.control.now a.strings.now x.result x.ensures.0 s.result s.ensures.0)))

pub returns : goal.returns
returns c =
    let a = c.args in
    let s = c.spell-names in
    let x = c.field_of-networks in
    let y = c.field_of in
    let same = control_said a.control.now a.strings.now ∙ sym y.ensures.0 ∙ c.if-field_of-size.false ∙ sym (control-held a.control.now a.strings.now x.result x.ensures.0) in
    ap Ok (form-held a.control.now a.strings.now x.result x.ensures.0 s.result s.ensures.0)
    ∙ sym (lengths-done _ _ _ same (c.if-control-strings.false ∙ sym (size-held a.control.now a.strings.now x.result x.ensures.0 s.result s.ensures.0)))
