-- `octet::quick::decode` meets its contract: the mark without its 32. Assumes nothing.
use Rattle.octet.proofs.Hearing.{mark-nib}
use Rattle.octet.proofs.quick.decode.Goals as goal

pub returns : goal.returns
returns c = mark-nib c.mark.result c.args.b c.mark.ensures
