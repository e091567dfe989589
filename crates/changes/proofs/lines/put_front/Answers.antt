-- `changes::lines::put_front` meets its contract: name, kind and network, whose line ends with a comma. Assumes nothing.
use borrow.Author.Rules.{rules}
use mathlib.Core.List.{[]}
use Prim.Native.Nat.{◌/◌}
use native.Mathlib.Omega.{arith}
use Rattle.text_lines.specs.Lines.{number_line}
use Rattle.text_lines.proofs.Printed.{put-there}
use Rattle.text_lines.proofs.Putting.{put-at}
use Rattle.listing_reader.proofs.Rowed.{number_some}
use Rattle.changes.proofs.Putting.{front-put}
use Rattle.changes.proofs.lines.put_front.Goals as goal

pub overflow_sub-c : goal.overflow_sub-c
overflow_sub-c c =
    let w = c.put_number-c in
    let key = c.args.key in
    let a = put-there {xs = number_line [] (key / 65536 / 2)} (search rules) w.ensures.0 in
    omega (arith, a.moved, number_some [] (key / 65536 / 2))

pub returns : goal.returns
returns c =
    let p = c.put-a.ensures in
    let o = c.put_word-b.ensures in
    let n = c.put_number-c.ensures in
    let e = c.put.ensures in
    let line = put-there {xs = number_line [] (c.args.key / 65536 / 2)} (search rules) n.0 in
    let some = number_some [] (c.args.key / 65536 / 2) in (
      front-put c.args.name.now c.args.key (put-at (search rules) p.0) o.0 line (put-at (search rules) e.0),
      omega (arith, c.requires, p.1, o.1, n.1, e.1, line.moved, some),
    )
