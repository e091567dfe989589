-- `menu_listing::lines::put_link` meets its contract: the type's line, its end a comma, is the name of the number's line. Assumes nothing.
use borrow.Author.Rules.{rules}
use mathlib.Core.Path.{◌≡◌, sym, ap}
use mathlib.Core.List.{List, [], ◌∷◌, ◌++◌}
use Prim.Native.Nat.{ℕ, ◌-◌, ◌≤◌}
use native.Mathlib.Omega.{arith}
use lib.ListN.{length, set, replicate, length-set}
use lib.Seq.{length-take-le}
use Rattle.text_lines.specs.Lines.{decimal, number_line}
use Rattle.text_lines.proofs.Printed.{put-there, put_as}
use Rattle.menu_listing.specs.Lines.{link_name, link_line}
use Rattle.menu_listing.proofs.Prints.{number_some, ends-otherwise}
use Rattle.menu_listing.proofs.lines.put_link.Goals as goal

pub overflow_sub-name : goal.overflow_sub-name
overflow_sub-name c =
    let w = c.put_number-end in
    let a = put-there {xs = number_line link_name c.args.kind} (search rules) w.ensures.0 in
    omega (arith, a.moved, number_some link_name c.args.kind)

pub slice_bounds-name-end : goal.slice_bounds-name-end
slice_bounds-name-end c =
    let w = c.put_number-end in
    let k : length w.new.out ≡ 60 = w.auto.out in
    rw length-set (omega (arith, k, w.ensures.1))

pub slice_bounds-put_line-end : goal.slice_bounds-put_line-end
slice_bounds-put_line-end c =
    let w = c.put_number-end in
    let l : List ℕ = w.new.out in
    let k : length l ≡ 60 = w.auto.out in
    sym (length-take-le w.result (set l (w.result - 1) 44) (rw length-set (omega (arith, k, w.ensures.1))))

pub put_line-requires : goal.put_line-requires
put_line-requires c =
    let w = c.put_number-end in
    let l : List ℕ = w.new.out in
    let k : length l ≡ 60 = w.auto.out in
    let e = length-take-le w.result (set l (w.result - 1) 44) (rw length-set (omega (arith, k, w.ensures.1))) in
    (omega (arith, e, w.ensures.1), omega (arith, c.requires))

pub returns : goal.returns
unfolding number_line link_line
returns c =
    let p = c.put_line in
    let w = c.put_number-end in
    let xs : List ℕ = link_name ++ decimal c.args.kind in
    let a = put-there {xs = xs ++ 10 ∷ []} (search rules) w.ensures.0 in
    let h : length (xs ++ 10 ∷ []) ≤ 60 = omega (arith, a.moved, w.ensures.1) in
    let e = ends-otherwise {line = replicate 60 0} xs 10 44 h a in
    let l : List ℕ = w.new.out in
    let k : length l ≡ 60 = w.auto.out in
    let n = length-take-le w.result (set l (w.result - 1) 44) (rw length-set (omega (arith, k, w.ensures.1))) in
    (put_as (ap (λ (name : List ℕ). number_line name c.args.link) e) p.ensures.0, omega (arith, p.ensures.1, n, w.ensures.1))
