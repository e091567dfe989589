-- A reader of two streams takes packets: each stream's block is held, and what they have come to is heard, held and laid. Assumes nothing.
use mathlib.Core.Path.{◌≡◌, refl}
use lib.ListN.{length}
use borrow.Author.Rules.{rules}
use Rattle.walk.specs.Store.{store_length}
use Rattle.reader.proofs.AnsweringTwo.{both-fits, both-kept, taken-two}
use Rattle.reader.proofs.two.ReadersReads.take.Goals as goal

pub take_all-t-requires-clause-setting_value : goal.take_all-t-requires-clause-setting_value
take_all-t-requires-clause-setting_value c = both-fits c.args.setting c.args.self.now refl c.requires.ready

pub take_all-t-requires-clause-kept : goal.take_all-t-requires-clause-kept
take_all-t-requires-clause-kept c =
    let r = c.args.self.now in
    let one : length r.store1 ≡ store_length = search rules in
    let two : length r.store2 ≡ store_length = search rules in
    rw c.start-from.ensures (both-kept c.args.setting r refl c.requires.ready c.requires.typed one two).0

pub take_all-t-requires-clause-kept_2 : goal.take_all-t-requires-clause-kept_2
take_all-t-requires-clause-kept_2 c =
    let r = c.args.self.now in
    let one : length r.store1 ≡ store_length = search rules in
    let two : length r.store2 ≡ store_length = search rules in
    rw c.start-from.ensures (both-kept c.args.setting r refl c.requires.ready c.requires.typed one two).1

pub returns : goal.returns
returns c =
    let a = c.args in
    let t = c.take_all-t.ensures in
    let it = taken-two a.setting a.self.now a.packets.now a.out.now c.start-from.ensures t.written_in_bounds t.ran_of_two_to in
    record { took = it.0; left = it.1.0; out_after = it.1.1 }
