-- `dvb_descriptor::read_descriptor` meets its contract: `judge_bytes` says whether tag and length fit, then the room decides. Assumes
-- nothing.
use mathlib.Core.Path.{◌∙◌, sym, ap}
use mathlib.Core.List.{List}
use Prim.Native.Nat.{ℕ}
use native.Mathlib.Omega.{arith}
use Rattle.std.specs.declared.result.Result.TheVariants.{Ok}
use Rattle.answer.proofs.Lent.{lent-refused, lent-short, lent-done}
use Rattle.answer.proofs.Handing.{handed}
use Rattle.dvb_descriptor.specs.Calls.{read_rules, read_of}
use Rattle.dvb_descriptor.proofs.Packing.{length-read, handed-stored}
use Rattle.dvb_descriptor.proofs.Judging.{passed}
use Rattle.dvb_descriptor.proofs.read_descriptor.Goals as goal

pub measure-need-requires : goal.measure-need-requires
measure-need-requires c =
    let p = passed c.args.bytes.now c.judge_bytes.ensures c.in_ok-k.was in
    p.1

pub returns-then-out-need : goal.returns-then-out-need
returns-then-out-need c =
    let p = passed c.args.bytes.now c.judge_bytes.ensures c.in_ok-k.was in
    let a = c.args in
    let b : List ℕ = a.bytes.now in
    let m = c.measure-need.ensures in
    let s = lent-short (read_rules b) (read_of b) a.out.now _ c.judge_bytes.ensures.0 c.in_ok-k.was (omega (arith, m.0, length-read b _ p.0, c.if-out-need.true)) in
    record {
      answer = c.refuse.ensures ∙ s.0;
      output = s.1;
    }

pub overflow_cast-head : goal.overflow_cast-head
overflow_cast-head c =
    let p = passed c.args.bytes.now c.judge_bytes.ensures c.in_ok-k.was in
    omega (arith, p.1, c.measure-need.ensures.1)

pub overflow_cast-head-2 : goal.overflow_cast-head-2
overflow_cast-head-2 c =
    let p = passed c.args.bytes.now c.judge_bytes.ensures c.in_ok-k.was in
    omega (arith, p.1)

pub put_subtitles-requires : goal.put_subtitles-requires
put_subtitles-requires c =
    let p = passed c.args.bytes.now c.judge_bytes.ensures c.in_ok-k.was in
    p.1

pub returns-in_err-k : goal.returns-in_err-k
returns-in_err-k c =
    let a = c.args in
    let b : List ℕ = a.bytes.now in
    let it = lent-refused (read_rules b) (read_of b) a.out.now _ c.judge_bytes.ensures.0 c.in_err-k.was in
    record { answer = handed c.from_residual.ensures ∙ it.0; output = it.1 }

pub returns : goal.returns
returns c =
    let p = passed c.args.bytes.now c.judge_bytes.ensures c.in_ok-k.was in
    let a = c.args in
    let b : List ℕ = a.bytes.now in
    let m = c.measure-need in
    let n = m.ensures.0 ∙ sym (length-read b _ p.0) in
    let room = c.if-out-need.false in
    let d = lent-done (read_rules b) (read_of b) a.out.now _ c.judge_bytes.ensures.0 c.in_ok-k.was (omega (arith, n, room)) in
    let stored =
    handed-stored a.out.now _ _ b c.in_ok-k.k m.result p.0 m.ensures.0 c.copy.ensures
    c.put_subtitles.ensures.1 in
    record {
      answer = ap Ok n ∙ d.0;
      output = stored ∙ d.1;
    }
