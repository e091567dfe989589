-- `changes::compare` meets its contract: the first sheet is judged, then the second, then the room decides. Assumes nothing.
use mathlib.Core.Path.{◌∙◌, sym}
use mathlib.Core.List.{List}
use Prim.Native.Nat.{ℕ}
use Rattle.changes.proofs.Judging.{sheet-halfway, sound, first-fault, second-fault, neither}
use Rattle.changes.proofs.compare.Goals as goal

pub write-answer-requires : goal.write-answer-requires
write-answer-requires c =
    let f : List ℕ = c.args.first.now in
    let g : List ℕ = c.args.second.now in (
      sheet-halfway c.args.form f (sound c.args.form f c.judge.ensures c.in-Ok.is),
      sheet-halfway c.args.form g (sound c.args.form g c.judge-in-Ok.ensures c.in-Ok-judge.is),
    )

pub returns-in-Err : goal.returns-in-Err
returns-in-Err c =
    let a = c.args in
    let p = first-fault c.args.form a.first.now a.second.now a.out.now (sym c.judge.ensures ∙ c.in-Err.is) in
    record {
      answer = p.0;
      sheet = p.1;
      output = p.2;
    }

pub returns-in-Err-judge : goal.returns-in-Err-judge
returns-in-Err-judge c =
    let a = c.args in
    let f : List ℕ = a.first.now in
    let p =
    second-fault c.args.form f a.second.now a.out.now (sound c.args.form f c.judge.ensures c.in-Ok.is)
    (sym c.judge-in-Ok.ensures ∙ c.in-Err-judge.is) in
    record {
      answer = p.0;
      sheet = p.1;
      output = p.2;
    }

pub returns-in-Ok-judge : goal.returns-in-Ok-judge
returns-in-Ok-judge c =
    let a = c.args in
    let f : List ℕ = a.first.now in
    let g : List ℕ = a.second.now in
    let w = c.write-answer.ensures in
    let p =
    neither c.args.form f g a.out.now (sound c.args.form f c.judge.ensures c.in-Ok.is)
    (sound c.args.form g c.judge-in-Ok.ensures c.in-Ok-judge.is) w.answer w.output in
    record {
      answer = p.0;
      sheet = p.1;
      output = p.2;
    }
