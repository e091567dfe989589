-- `stripped::loss::blank` meets its contract. Assumes nothing.
use borrow.Author.Rules.{rules}
use mathlib.Core.Path.{sym}
use Rattle.stripped.proofs.Blanking.{front-filled, blank-no_room}
use Rattle.stripped.proofs.loss.blank.Goals as goal

pub returns-then-packets-ge-PACKET : goal.returns-then-packets-ge-PACKET
returns-then-packets-ge-PACKET c = front-filled c.args.packets.now c.if-packets-ge-PACKET.true (c.fill.ensures.after (search rules))

pub returns-else-packets-ge-PACKET : goal.returns-else-packets-ge-PACKET
returns-else-packets-ge-PACKET c = sym (blank-no_room c.args.packets.now c.if-packets-ge-PACKET.false)
