-- `reader::many::take_all` meets its contract: a reader that is alone goes on to the end, or while there is room. Assumes nothing.
use Rattle.reader.proofs.Marks.{went_all}
use Rattle.reader.proofs.many.take_all.Goals as goal

pub returns : goal.returns
returns c =
    let a = c.args in
    let w = c.go_on-at.ensures in
    record {
      ran_to = went_all a.setting a.packets.now a.from a.store.now a.out.now c.requires.kept c.requires.blocks_value w;
      written_in_bounds = w.went.start.fits;
    }
