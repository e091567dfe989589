-- `reader::two::turn_for` meets its contract. Assumes nothing.
use Rattle.reader.proofs.HeedingTwo.{turned_alone}
use Rattle.reader.proofs.two.turn_for.Goals as goal

pub turn-a-requires : goal.turn-a-requires
turn-a-requires c =
    record { kept = rw c.start-from.ensures c.requires.kept; reads_value = c.requires.reads_value }

pub returns : goal.returns
returns c =
    turned_alone c.args.v c.args.half c.args.store.now c.requires.reads_value c.start-from.ensures c.turn-a.ensures
