-- `menu_listing::lines::events_place` meets its contract: the header's place, and behind it. Assumes nothing.
use borrow.Author.Rules.{rules}
use Rattle.menu_listing.proofs.Bytes.{events_at_lem}
use Rattle.menu_listing.proofs.lines.events_place.Goals as goal

pub returns : goal.returns
returns c = (events_at_lem _ _ _ c.header_place-at.ensures.0 c.string_length.ensures.0, search rules)
