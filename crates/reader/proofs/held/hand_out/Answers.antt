-- `reader::held::hand_out` meets its contract: the record is of the bytes held, which are cleared then. Assumes nothing.
use mathlib.Core.Path.{◌∙◌}
use native.Mathlib.Omega.{arith}
use Rattle.walk.proofs.Keeping.{body-fits, body-size, body-store, body-clear}
use Rattle.reader.proofs.Holding.{byte_picked}
use Rattle.reader.proofs.held.hand_out.Goals as goal

pub emit-requires : goal.emit-requires
emit-requires c =
    let k = c.requires.kept in
    (omega (arith, body-fits k, body-size k, body-store k), omega arith)

pub returns : goal.returns
returns c =
    let k = c.requires.kept in
    record {
      store_after = c.clear.ensures ∙ body-clear k;
      out_after = rw (c.from.ensures, byte_picked c.args.joined) at c.emit.ensures;
    }
