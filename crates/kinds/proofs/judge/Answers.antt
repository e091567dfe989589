-- `kinds::judge` meets its contract: the frame is judged first, and where it is taken the block behind the head is there. Assumes nothing.
use mathlib.Core.Path.{◌∙◌, ap₂}
use mathlib.Core.List.{List}
use Prim.Native.Nat.{ℕ}
use native.Mathlib.Omega.{arith}
use lib.ListN.{length, drop, length-drop}
use Rattle.std.specs.declared.result.Result.TheVariants.{Ok}
use Rattle.laws.proofs.Lists.{part-rest}
use Rattle.answer.proofs.Handing.{handed}
use Rattle.answer.specs.Rules.{judged}
use Rattle.answer.specs.Values.{refused}
use Rattle.answer.proofs.Steps.{ends, goes_on}
use Rattle.blocks.specs.Block.{head_of}
use Rattle.blocks.specs.Framing.{framing}
use Rattle.blocks.proofs.Judging.{frame-sizes, head-value}
use Rattle.kinds.specs.Reading.{one_of, control_part, body_rules}
use Rattle.kinds.proofs.judge.Goals as goal

pub slice_bounds-judge_body-count : goal.slice_bounds-judge_body-count
slice_bounds-judge_body-count c =
    let taken = frame-sizes c.args.application c.args.rec.now _ c.judge.ensures c.in_ok-head.was in
    omega (arith, taken)

pub judge_body-requires : goal.judge_body-requires
judge_body-requires c =
    let taken = frame-sizes c.args.application c.args.rec.now _ c.judge.ensures c.in_ok-head.was in
    rw (part-rest 4 c.args.rec.now, length-drop) (omega (arith, taken))

pub returns-in_err-head : goal.returns-in_err-head
returns-in_err-head c =
    let a = c.args in
    let r : List ℕ = a.rec.now in
    let rules = framing a.application r in
    handed c.from_residual.ensures
    ∙ ends rules (body_rules (one_of a.first a.second) a.spoken (head_of r) (drop 4 r)) (head_of r) c.judge.ensures _ c.in_err-head.was

pub returns : goal.returns
returns c =
    let a = c.args in
    let r : List ℕ = a.rec.now in
    let rules = framing a.application r in
    let j = c.judge.ensures in
    let d = c.in_ok-head.was in
    let asks = one_of a.first a.second in
    c.judge_body.ensures
    ∙ ap₂ (λ (h : ℕ) (l : List ℕ). judged refused (body_rules asks a.spoken h l) (Ok (length (control_part a.spoken l))))
    (head-value rules (head_of r) j d) (part-rest 4 r)
    ∙ goes_on rules (body_rules asks a.spoken (head_of r) (drop 4 r)) (head_of r) j _ d

pub slice_bounds-judge_body-start : goal.slice_bounds-judge_body-start
slice_bounds-judge_body-start c =
    let taken = frame-sizes c.args.application c.args.rec.now _ c.judge.ensures c.in_ok-head.was in
    omega (arith, taken)
