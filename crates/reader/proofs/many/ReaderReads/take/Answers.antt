-- A reader of one stream takes packets: it is held, and what they have come to is heard, held and laid. Assumes nothing.
use mathlib.Core.Path.{◌≡◌, refl}
use lib.ListN.{length}
use borrow.Author.Rules.{rules}
use Rattle.walk.specs.Store.{store_length}
use Rattle.state.proofs.Holding.{ready-kept}
use Rattle.reader.proofs.AnsweringMany.{taken-all}
use Rattle.reader.proofs.many.ReaderReads.take.Goals as goal

pub take_all-t-requires-clause-kept : goal.take_all-t-requires-clause-kept
take_all-t-requires-clause-kept c =
    let long : length c.args.self.now.store ≡ store_length = search rules in
    rw c.start-from.ensures (ready-kept c.args.setting c.args.self.now refl c.requires.ready c.requires.typed long)

pub returns : goal.returns
returns c =
    let a = c.args in
    let t = c.take_all-t.ensures in
    let it = taken-all a.setting a.self.now a.packets.now a.out.now c.start-from.ensures t.written_in_bounds t.ran_to in
    record { took = it.0; left = it.1.0; out_after = it.1.1 }
