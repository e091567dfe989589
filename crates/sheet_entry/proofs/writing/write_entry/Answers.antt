-- `sheet_entry::writing::write_entry` meets its contract: the rules first. Assumes nothing.
use mathlib.Core.Path.{◌∙◌, sym}
use Rattle.answer.proofs.Handing.{handed}
use Rattle.answer.proofs.Lent.{lent-refused}
use Rattle.answer.proofs.Steps.{done_every}
use Rattle.sheet_entry.specs.Entries.{entry_text}
use Rattle.sheet_entry.specs.Writing.{stamped, entry_rules}
use Rattle.sheet_entry.proofs.Spelling.{entry-judged, rules-go_on}
use Rattle.sheet_entry.proofs.writing.write_entry.Goals as goal

pub write_judged-requires : goal.write_judged-requires
write_judged-requires c =
    let a = c.args in
    entry-judged a.form a.mended a.table.now
    (done_every (entry_rules a.form a.mended a.table.now) _ _ (sym c.judge_entry.ensures ∙ c.in_ok-judge_entry.was))

pub returns-in_err-judge_entry : goal.returns-in_err-judge_entry
returns-in_err-judge_entry c =
    let a = c.args in
    let it = lent-refused (entry_rules a.form a.mended a.table.now) (entry_text a.form (stamped a.stamp a.mended a.table.now)) a.out.now _
    c.judge_entry.ensures c.in_err-judge_entry.was in
    record { answer = handed c.from_residual.ensures ∙ it.0; output = it.1 }

pub returns : goal.returns
returns c =
    let a = c.args in
    let p =
    rules-go_on (entry_rules a.form a.mended a.table.now) (entry_text a.form (stamped a.stamp a.mended a.table.now)) a.out.now _
    c.judge_entry.ensures c.in_ok-judge_entry.was in
    let e = c.write_judged.ensures in
    record {
      answer = e.answer ∙ p.0;
      output = e.output ∙ p.1;
    }
