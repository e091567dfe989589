-- `shelf::put_entry` meets its contract: the head's three bytes, and on the shelf the link and the form one after the other. Assumes nothing.
use mathlib.Core.Path.{◌∙◌}
use Rattle.shelf.proofs.Puts.{head-stored, entry-stored}
use Rattle.shelf.proofs.put_entry.Goals as goal

pub returns : goal.returns
returns c =
    let a = c.args in
    let e = c.number_at.ensures in record {
      heads = c.put_three.ensures ∙ head-stored a.form.now a.heads.now c.number_at.result e a.used;
      shelf = entry-stored a.form.now a.heads.now c.number_at.result e a.shelf.now c.put_three-2.new.list c.copy.new.dst a.used c.three-last.result
          c.three-last.ensures.0 c.put_three-2.ensures c.copy.ensures;
    }
