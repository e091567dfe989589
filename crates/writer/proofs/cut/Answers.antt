-- `writer::cut` meets its contract: it cuts pages of the usual length. Assumes nothing.

use Rattle.writer.proofs.cut.Goals as goal

pub returns : goal.returns
returns c =
    let it = c.cut_pages.ensures in
    record { answer = it.answer; bytes = it.bytes }
