-- `text_lines::puts::put_byte` meets its contract: a store past the end changes nothing. Assumes nothing.
use borrow.Author.Rules.{rules}
use mathlib.Core.Path.{refl}
use Rattle.text_lines.proofs.Putting.{put_out}
use Rattle.text_lines.proofs.puts.put_byte.Goals as goal
use Rattle.text_lines.proofs.puts.put_byte.Goals.{then-q-out, else-q-out}

pub returns : goal.returns
returns c = elim c.if-q-out.branch [
  | then-q-out w ↦ (record { stored = w.out-is; moved = refl }, search rules)
  | else-q-out w ↦ (rw w.out-is (put_out c.args.out.now c.args.q c.args.b w.if-q-out.false), search rules)
]
