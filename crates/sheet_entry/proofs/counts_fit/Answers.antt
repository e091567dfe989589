-- `sheet_entry::counts_fit` meets its contract: by the tests. Assumes nothing.
use Rattle.std.proofs.Common.{arith}
use Rattle.std.proofs.lemmas.Bool.Decides.{nat_tests}
use Rattle.forms.specs.Tables.{per}
use Rattle.sheet_entry.proofs.Counting.{entries_over}
use Rattle.sheet_entry.proofs.counts_fit.Goals as goal
use Rattle.sheet_entry.proofs.counts_fit.Goals.{then-kind-eq-TI, else-kind-eq-TI}

pub returns-then-table-le-BITS : goal.returns-then-table-le-BITS
unfolding per
returns-then-table-le-BITS c =
    let n = c.numbered.ensures in
    elim c.if-kind-eq-TI.branch [ then-kind-eq-TI w ↦ grind (arith, nat_tests, n) | else-kind-eq-TI w ↦ grind (arith, nat_tests, n) ]

pub returns-else-table-le-BITS : goal.returns-else-table-le-BITS
returns-else-table-le-BITS c =
    let n = c.numbered.ensures in
    let o = entries_over c.args.kind c.args.table.count c.args.table.entries in
    grind (arith, nat_tests, n, o)
