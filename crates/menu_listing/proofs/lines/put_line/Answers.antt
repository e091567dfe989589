use borrow.Author.Rules.{rules}
use mathlib.Core.List.{List}
use Prim.Native.Nat.{ℕ, ◌≤◌}
use native.Mathlib.Omega.{arith}
use mathlib.Core.Path.{◌≡◌, sym}
use lib.ListN.{length, replicate}
use lib.Seq.{length-take-le}
use Rattle.text_lines.specs.Lines.{number_line}
use Rattle.text_lines.proofs.Printed.{put-there}
use Rattle.menu_listing.proofs.Prints.{line-put}
use Rattle.menu_listing.proofs.lines.put_line.Goals as goal

pub slice_bounds-put-end : goal.slice_bounds-put-end
slice_bounds-put-end c =
    let w = c.put_number-end in
    let k : length w.new.out ≡ 60 = w.auto.out in
    sym (length-take-le w.result w.new.out (omega (arith, k, w.ensures.1, c.requires.0)))

pub returns : goal.returns
returns c =
    let p = c.put in
    let w = c.put_number-end in
    let xs : List ℕ = number_line c.args.name.now c.args.n in
    let a = put-there (search rules) w.ensures.0 in
    let h : length xs ≤ 60 = omega (arith, a.moved, w.ensures.1, c.requires.0) in
    let b = line-put {line = replicate 60 0} {xs = xs} h a (omega (arith, a.moved, w.ensures.1, c.requires.0, c.requires.1)) p.ensures.0 in
    (b, omega (arith, b.moved, a.moved, w.ensures.1))
