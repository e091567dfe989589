-- `table::judge_body` meets its contract: the three parts are judged one after the other. Assumes nothing.
use mathlib.Core.Path.{◌∙◌}
use mathlib.Core.List.{map, ◌++◌}
use Prim.Native.Nat.{◌/◌}
use Rattle.answer.proofs.Handing.{handed}
use Rattle.answer.proofs.Steps.{ends, goes_on}
use Rattle.octet.specs.Decoding.{nib}
use Rattle.fields.specs.Fields.{whole}
use Rattle.forms.specs.Tables.{sent_in}
use Rattle.table.specs.Internal.{front_rules, whole_rules}
use Rattle.table.specs.Lengths.{length_rules}
use Rattle.table.proofs.judge_body.Goals as goal

pub returns-in_err-judge_front : goal.returns-in_err-judge_front
returns-in_err-judge_front c =
    let a = c.args in
    let ns = map nib a.body.now in
    let s = sent_in (whole 4 ns) in
    let lengths = length_rules (a.head / 32) s in
    handed c.from_residual.ensures
    ∙ ends (front_rules (a.head / 32) ns s) (whole_rules a.head ns s ++ lengths) 0 c.judge_front.ensures _ c.in_err-judge_front.was

pub returns-in_err-judge_whole : goal.returns-in_err-judge_whole
returns-in_err-judge_whole c =
    let a = c.args in
    let ns = map nib a.body.now in
    let s = sent_in (whole 4 ns) in
    let lengths = length_rules (a.head / 32) s in
    let front = c.judge_front.ensures in
    handed c.from_residual-in_err-judge_whole.ensures
    ∙ ends (whole_rules a.head ns s) lengths 0 c.judge_whole.ensures _ c.in_err-judge_whole.was
    ∙ goes_on (front_rules (a.head / 32) ns s) (whole_rules a.head ns s ++ lengths) 0 front _ c.in_ok-judge_front.was

pub returns : goal.returns
returns c =
    let a = c.args in
    let ns = map nib a.body.now in
    let s = sent_in (whole 4 ns) in
    let lengths = length_rules (a.head / 32) s in
    let front = c.judge_front.ensures in
    c.judge_lengths.ensures
    ∙ goes_on (whole_rules a.head ns s) lengths 0 c.judge_whole.ensures _ c.in_ok-judge_whole.was
    ∙ goes_on (front_rules (a.head / 32) ns s) (whole_rules a.head ns s ++ lengths) 0 front _ c.in_ok-judge_front.was
