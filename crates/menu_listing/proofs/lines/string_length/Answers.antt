-- `menu_listing::lines::string_length` meets its contract: by its two counts. Assumes nothing.
use borrow.Author.Rules.{rules}
use Rattle.menu_listing.proofs.Bytes.{string_at}
use Rattle.menu_listing.proofs.lines.string_length.Goals as goal

pub returns : goal.returns
returns c = (string_at c.args.at _ _ c.args.form.now c.byte_at.ensures.0 c.byte_at-2.ensures.0, search rules)
