-- `kinds::Asked::judge_parts` meets its contract: the two parts are judged one after the other, by fields of the first 24 bits. Assumes nothing.
use mathlib.Core.Path.{◌∙◌}
use mathlib.Core.List.{List, map}
use Prim.Native.Nat.{ℕ, ◌/◌}
use Rattle.answer.proofs.Handing.{handed}
use Rattle.answer.proofs.Steps.{ends, goes_on}
use Rattle.octet.specs.Decoding.{nib}
use Rattle.kinds.specs.Reading.{one_of, front_rules, whole_rules}
use Rattle.kinds.proofs.Counting.{sum-held, kind-held}
use Rattle.kinds.proofs.Asked.judge_parts.Goals as goal

pub judge_front-requires : goal.judge_front-requires
judge_front-requires c =
    (c.requires.0, kind-held (map nib c.args.control.now) _ c.field_of-opening.ensures.0 c.field_of-opening.ensures.1)

pub judge_whole-requires : goal.judge_whole-requires
judge_whole-requires c =
    (c.requires.1, sum-held (map nib c.args.control.now) _ c.field_of-opening.ensures.0)

pub returns-in_err-judge_front : goal.returns-in_err-judge_front
returns-in_err-judge_front c =
    let a = c.args in
    let ns : List ℕ = map nib a.control.now in
    let front = front_rules (one_of a.self.first a.self.second) a.self.spoken (a.head / 32) ns in
    handed c.from_residual.ensures ∙ ends front (whole_rules a.head ns a.strings.now) 0 c.judge_front.ensures _ c.in_err-judge_front.was

pub returns : goal.returns
returns c =
    let a = c.args in
    let ns : List ℕ = map nib a.control.now in
    let front = front_rules (one_of a.self.first a.self.second) a.self.spoken (a.head / 32) ns in
    c.judge_whole.ensures
    ∙ goes_on front (whole_rules a.head ns a.strings.now) 0 c.judge_front.ensures _ c.in_ok-judge_front.was
