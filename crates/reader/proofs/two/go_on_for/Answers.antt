-- `reader::two::go_on_for` meets its contract: the one stream's store is lent, or the other's. Assumes nothing.
use Rattle.reader.proofs.MarksTwo.{started_for, gone_for}
use Rattle.reader.proofs.two.go_on_for.Goals as goal

pub go_on-requires : goal.go_on-requires
go_on-requires c =
    let a = c.args in
    let it = started_for a.packets.now a.at a.limit a.hold.now c.chosen-half.ensures c.start-from.ensures (rw c.in-First.is c.requires.kept) c.requires.at_in_bounds c.requires.limit_in_bounds in
    record { kept = it.0; startable = it.1 }

pub go_on-requires-in-Second : goal.go_on-requires-in-Second
go_on-requires-in-Second c =
    let a = c.args in
    let it = started_for a.packets.now a.at a.limit a.hold.now c.chosen-half.ensures c.start-from.ensures (rw c.in-Second.is c.requires.kept_2) c.requires.at_in_bounds c.requires.limit_in_bounds in
    record { kept = it.0; startable = it.1 }

pub returns-in-First : goal.returns-in-First
returns-in-First c =
    let a = c.args in
    gone_for a.whose a.setting a.packets.now a.limit a.at a.page a.first a.second a.store1.now a.store2.now a.hold.now _ _
    c.page_of-own.ensures c.chosen-half.ensures c.start-from.ensures c.setting_of-mine.ensures
    (rw c.in-First.is c.go_on.ensures) (rw c.in-First.is)

pub returns-in-Second : goal.returns-in-Second
returns-in-Second c =
    let a = c.args in
    gone_for a.whose a.setting a.packets.now a.limit a.at a.page a.first a.second a.store1.now a.store2.now a.hold.now _ _
    c.page_of-own.ensures c.chosen-half.ensures c.start-from.ensures c.setting_of-mine.ensures
    (rw c.in-Second.is c.go_on-in-Second.ensures) (rw c.in-Second.is)
