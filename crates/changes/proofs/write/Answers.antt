-- `changes::write` meets its contract: only the room decides. Assumes nothing.
use mathlib.Core.Path.{◌∙◌, refl, ap}
use mathlib.Core.List.{List, []}
use Prim.Native.Nat.{ℕ}
use native.Mathlib.Omega.{arith}
use Rattle.std.specs.declared.result.Result.TheVariants.{Ok}
use Rattle.answer.proofs.Lent.{lent-short, lent-done}
use Rattle.changes.specs.Calls.{compare_text}
use Rattle.changes.proofs.write.Goals as goal

pub returns-then-out-n : goal.returns-then-out-n
returns-then-out-n c =
    let text : List ℕ = compare_text c.args.form c.args.first.now c.args.second.now in
    let m = c.measure-n.ensures in
    let p = lent-short [] text c.args.out.now 0 refl refl (omega (arith, m, c.if-out-n.true)) in
    record {
      answer = c.refuse.ensures ∙ p.0;
      output = p.1;
    }

pub returns : goal.returns
returns c =
    let text : List ℕ = compare_text c.args.form c.args.first.now c.args.second.now in
    let m = c.measure-n.ensures in
    let p = lent-done [] text c.args.out.now 0 refl refl (omega (arith, m, c.if-out-n.false)) in
    record {
      answer = ap Ok m ∙ p.0;
      output = c.put_changes.ensures.stored ∙ p.1;
    }
