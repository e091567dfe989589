-- `listing::put_descriptor` meets its contract: its own line, then those of its entries. Assumes nothing.
use borrow.Author.Rules.{rules}
use native.Mathlib.Omega.{arith}
use Rattle.listing.specs.Lines.{descriptor_line}
use Rattle.text_lines.proofs.Printed.{then, put_as, put-there}
use Rattle.listing.proofs.put_descriptor.Goals as goal

pub returns : goal.returns
unfolding descriptor_line
returns c =
    let d = c.byte_at-id in
    let x = c.put_number-at in
    let y = c.put_entries in
    (put_as (rw d.ensures.0) (then (put-there (search rules) x.ensures.0) y.ensures.0), omega (arith, x.ensures.1, y.ensures.1))
