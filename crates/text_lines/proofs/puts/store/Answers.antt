-- `text_lines::puts::store` meets its contract: the part holds the text. Assumes nothing.
use Rattle.std.proofs.Common.{arith}
use Rattle.text_lines.proofs.Putting.{stored}
use Rattle.text_lines.proofs.puts.store.Goals as goal

pub returns : goal.returns
returns c = stored c.args.out.now c.args.q (omega arith) (omega arith) c.copy_from_slice.ensures.after
