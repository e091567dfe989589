-- `menu_listing::lines::next_event` meets its contract: the place of its string, and behind it. Assumes nothing.
use borrow.Author.Rules.{rules}
use Rattle.menu_listing.proofs.Bytes.{event_next}
use Rattle.menu_listing.proofs.lines.next_event.Goals as goal

pub returns : goal.returns
returns c =
    let s = c.args in
    (event_next s.i _ _ s.form.now c.text_place-at.ensures.0 c.string_length.ensures.0, search rules)
