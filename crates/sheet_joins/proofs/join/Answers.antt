-- `sheet_joins::join` meets its contract: `judge_join` says which rule refuses, then the room decides. Assumes nothing.
use mathlib.Core.Path.{◌∙◌, sym, ap}
use mathlib.Core.List.{List}
use Prim.Native.Nat.{ℕ}
use native.Mathlib.Omega.{arith}
use Rattle.answer.proofs.Handing.{handed}
use Rattle.std.specs.declared.result.Result.TheVariants.{Ok}
use Rattle.answer.proofs.Lent.{lent-value, lent-refused, lent-short, lent-done}
use Rattle.day_sheet.specs.Entries.{sheet_text}
use Rattle.sheet_joins.specs.Calls.{join_rules, join_result}
use Rattle.sheet_joins.proofs.Judged.{judged-halves}
use Rattle.sheet_joins.proofs.join.Goals as goal

pub returns-then-out-n : goal.returns-then-out-n
returns-then-out-n c =
    let f : List ℕ = c.args.first.now in
    let g : List ℕ = c.args.second.now in
    let j = c.judge_join.ensures in
    let v = lent-value (join_rules c.args.form f g) (sheet_text c.args.form (join_result c.args.form f g)) c.args.out.now _ j c.in_ok-n.was in
    let p =
    lent-short (join_rules c.args.form f g) (sheet_text c.args.form (join_result c.args.form f g)) c.args.out.now _ j c.in_ok-n.was (omega (arith, v, c.if-out-n.true)) in
    record {
      answer = c.refuse.ensures ∙ p.0;
      output = p.1;
    }

pub put_joined-requires : goal.put_joined-requires
put_joined-requires c =
    let f : List ℕ = c.args.first.now in
    let g : List ℕ = c.args.second.now in
    let j = c.judge_join.ensures in
    judged-halves c.args.form f g _ _ (sym j ∙ c.in_ok-n.was)

pub returns-in_err-n : goal.returns-in_err-n
returns-in_err-n c =
    let f : List ℕ = c.args.first.now in
    let g : List ℕ = c.args.second.now in
    let j = c.judge_join.ensures in
    let it = lent-refused (join_rules c.args.form f g) (sheet_text c.args.form (join_result c.args.form f g)) c.args.out.now _ j c.in_err-n.was in
    record { answer = handed c.from_residual.ensures ∙ it.0; output = it.1 }

pub returns : goal.returns
returns c =
    let if1 = c.if-out-n in
    let put-joined = c.put_joined in
    let f : List ℕ = c.args.first.now in
    let g : List ℕ = c.args.second.now in
    let j = c.judge_join.ensures in
    let v = lent-value (join_rules c.args.form f g) (sheet_text c.args.form (join_result c.args.form f g)) c.args.out.now _ j c.in_ok-n.was in
    let p =
    lent-done (join_rules c.args.form f g) (sheet_text c.args.form (join_result c.args.form f g)) c.args.out.now _ j c.in_ok-n.was (omega (arith, v, if1.false)) in
    record {
      answer = ap Ok v ∙ p.0;
      output = put-joined.ensures.0 ∙ p.1;
    }
