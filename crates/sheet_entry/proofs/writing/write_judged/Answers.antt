-- `sheet_entry::writing::write_judged` meets its contract: what is held is the entry's text. Assumes nothing.
use borrow.Author.Rules.{rules}
use mathlib.Core.Path.{◌∙◌}
use Rattle.sheet_entry.specs.Entries.{entry_text}
use Rattle.sheet_entry.specs.Writing.{stamped}
use Rattle.sheet_entry.proofs.Spelling.{held-short, held-done}
use Rattle.sheet_entry.proofs.writing.write_judged.Goals as goal

pub returns-then-out-n : goal.returns-then-out-n
returns-then-out-n c =
    let p = c.put_entry-n.ensures in
    let d = held-short (entry_text c.args.form (stamped c.args.stamp c.args.mended c.args.table.now)) c.args.out.now p.0 p.1 c.if-out-n.true in
    record {
      answer = c.refuse.ensures ∙ d.0;
      output = d.1;
    }

pub returns : goal.returns
returns c =
    let p = c.put_entry-n.ensures in
    let it = held-done (entry_text c.args.form (stamped c.args.stamp c.args.mended c.args.table.now)) c.args.out.now p.0 p.1 (search rules) c.copy.ensures in
    record { answer = it.0; output = it.1 }
