-- `octet::half` meets its contract: the lower pair turned goes above the upper pair turned. Assumes nothing.
use borrow.Author.Rules.{rules}
use mathlib.Core.Path.{sym}
use Rattle.octet.proofs.Halves.{halves}
use Rattle.octet.proofs.half.Goals as goal

pub returns : goal.returns
returns c = record {
  value = rw (c.pair.ensures.value, c.pair-2.ensures.value) (sym (halves 2 c.args.b));
  upper_bound = search rules;
}
