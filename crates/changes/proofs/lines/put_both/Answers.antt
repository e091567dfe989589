-- `changes::lines::put_both` meets its contract: nothing, or a line and the lines of both. Assumes nothing.
use mathlib.Core.Path.{◌∙◌, sym}
use lib.ListN.{drop}
use Rattle.text_lines.proofs.Printed.{then, put-none, put_as}
use Rattle.changes.proofs.Putting.{both-same, both-other}
use Rattle.changes.proofs.lines.put_both.Goals as goal

pub returns-then-same_lines : goal.returns-then-same_lines
returns-then-same_lines c =
    let a = c.args in
    let e = both-same (drop a.i a.first.now) a.a (drop a.j a.second.now) a.b (sym c.same_lines.ensures ∙ c.if-same_lines.true) in
    put_as e (put-none a.out.now a.q)

pub returns : goal.returns
returns c =
    let a = c.args in
    let e =
    both-other (drop a.i a.first.now) a.a (drop a.j a.second.now) a.b
    (sym c.same_lines.ensures ∙ c.if-same_lines.false) in
    let k = c.put_key-at.ensures in
    let l = c.put_lines-end.ensures in
    let m = c.put_lines.ensures in
    put_as e (then k.0 (then l.0 m.0))
