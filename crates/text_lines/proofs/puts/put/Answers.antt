-- `text_lines::puts::put` meets its contract: all is stored where there is room for it. Assumes nothing.
use mathlib.Core.Path.{refl}
use borrow.Author.Rules.{rules}
use Rattle.text_lines.proofs.Putting.{put-placed, put-beyond}
use Rattle.text_lines.proofs.puts.put.Goals as goal

pub returns-then-text-q : goal.returns-then-text-q
returns-then-text-q c =
    let a = c.args in
    (put-beyond a.out.now a.q a.text.now (search rules), search rules)

pub returns-then-q-text : goal.returns-then-q-text
returns-then-q-text c =
    let t = c.args.text.now in
    (put-placed {xs = t} (search rules) (record { stored = c.store.ensures; moved = refl }), search rules)

pub returns : goal.returns
returns c =
    let e = c.put_cut.ensures in
    (put-placed (search rules) e.0, e.1)
