-- `words::rows::from` meets its contract: its test, and the part from there on. Assumes nothing.
use mathlib.Core.Path.{sym}
use lib.ListN.{drop_of_length-le}
use Rattle.laws.proofs.Lists.{part-rest}
use Rattle.words.proofs.rows.from.Goals as goal

pub returns-then-text-i : goal.returns-then-text-i
returns-then-text-i c = sym (drop_of_length-le c.args.text.now c.if-text-i.true)

pub returns : goal.returns
returns c = part-rest c.args.i c.args.text.now
