-- `listing_reader::lines::kind_at` meets its contract: by the test. Assumes nothing.
use mathlib.Core.Path.{◌∙◌, sym}
use Rattle.listing_reader.proofs.Matching.{kind_ti_lem, kind_li_lem}
use Rattle.listing_reader.proofs.lines.kind_at.Goals as goal

pub returns-then-starts_at : goal.returns-then-starts_at
returns-then-starts_at c = kind_ti_lem _ (sym c.starts_at.ensures ∙ c.if-starts_at.true)

pub returns : goal.returns
returns c = c.line_of.ensures ∙ kind_li_lem _ (sym c.starts_at.ensures ∙ c.if-starts_at.false)
