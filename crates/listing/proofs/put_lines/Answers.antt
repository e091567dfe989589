-- `listing::put_lines` meets its contract: the head where it is asked for, then the descriptors. Assumes nothing.
use mathlib.Core.Path.{sym, ap}
use Rattle.std.specs.Prelude.{Option}
use Rattle.forms.specs.Form.{table_in}
use Rattle.listing.specs.declared.Head.{Head}
use Rattle.listing.specs.Lines.{lines_of}
use Rattle.listing.specs.Internal.{lines_from}
use Rattle.text_lines.proofs.Printed.{then, put_as}
use Rattle.listing.proofs.put_lines.Goals as goal

pub returns-in-Some : goal.returns-in-Some
unfolding lines_of
returns-in-Some c =
    put_as (ap (λ (h : Option Head). lines_from h (table_in c.args.table.now)) (sym c.in-Some.is))
    (then c.put_head-at.ensures.0 c.put_descriptors.ensures)

pub returns-in-None : goal.returns-in-None
returns-in-None c =
    put_as (ap (λ (h : Option Head). lines_from h (table_in c.args.table.now)) (sym c.in-None.is)) c.put_descriptors-in-None.ensures
