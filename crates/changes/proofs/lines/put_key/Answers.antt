-- `changes::lines::put_key` meets its contract: what is put into spare bytes is the name of the block's line. Assumes nothing.
use borrow.Author.Rules.{rules}
use mathlib.Core.Path.{◌≡◌, sym}
use mathlib.Core.List.{List}
use native.Mathlib.Omega.{arith}
use lib.ListN.{length}
use lib.Seq.{length-take-le}
use Rattle.text_lines.proofs.Printed.{put-there, put-within}
use Rattle.listing_reader.proofs.Matching.{spelled_in}
use Rattle.changes.specs.Internal.{front_of}
use Rattle.changes.proofs.Putting.{key_put}
use Rattle.changes.proofs.lines.put_key.Goals as goal

pub slice_bounds-put_number-end : goal.slice_bounds-put_number-end
slice_bounds-put_number-end c =
    let w = c.put_front-end in
    let l : List _ = w.new.line in
    let k : length l ≡ 60 = w.auto.line in
    sym (length-take-le w.result l (omega (arith, k, w.ensures.1)))

pub returns : goal.returns
returns c =
    let w = c.put_front-end in
    let p = c.put_number.ensures in
    let f = spelled_in 60 {xs = front_of c.args.name.now c.args.key} (put-within (omega arith) w.ensures.0) (omega (arith, w.ensures.1)) in
    (key_put c.args.name.now _ c.args.key f.0 (put-there (search rules) p.0), omega (arith, f.1, w.ensures.1, p.1))
