-- `sheet_joins::put_turn` meets its contract: what is copied is the text of the turn. Assumes nothing.
use mathlib.Core.Path.{◌∙◌, sym}
use Rattle.sheet_joins.specs.Internal.{turn_text}
use Rattle.sheet_joins.proofs.put_turn.Goals as goal

pub returns-in-First : goal.returns-in-First
unfolding turn_text
returns-in-First c = rw c.in-First.is c.put_found.ensures

pub returns-in-Second : goal.returns-in-Second
unfolding turn_text
returns-in-Second c = rw c.in-Second.is c.put_found-in-Second.ensures

pub returns-then-second_stays : goal.returns-then-second_stays
unfolding turn_text
returns-then-second_stays c = rw (c.in-Both.is, sym c.second_stays.ensures ∙ c.if-second_stays.true) c.put_found-then-second_stays.ensures

pub returns-else-second_stays : goal.returns-else-second_stays
unfolding turn_text
returns-else-second_stays c = rw (c.in-Both.is, sym c.second_stays.ensures ∙ c.if-second_stays.false) c.put_found-else-second_stays.ensures
