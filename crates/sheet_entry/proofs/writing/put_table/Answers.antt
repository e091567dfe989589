-- `sheet_entry::writing::put_table` meets its contract: the form was judged and there is room, so the lines are listed. Assumes nothing.
use mathlib.Core.List.{List}
use Prim.Native.Nat.{ℕ}
use native.Mathlib.Omega.{arith}
use Rattle.sheet_entry.proofs.Spelling.{lines_most_lem, table-long, table-put, table_taken}
use Rattle.sheet_entry.proofs.writing.put_table.Goals as goal

pub overflow_add-result : goal.overflow_add-result
overflow_add-result c =
    let f : List ℕ = c.args.table.now in
    let d = c.list_descriptors in
    let n = table-long f c.args.out.now c.args.at c.requires.0 c.requires.1 c.requires.2 d.ensures.answer c.in-Ok.is in
    omega (arith, n, lines_most_lem f c.requires.0, c.requires.2)

pub returns-in-Ok : goal.returns-in-Ok
returns-in-Ok c =
    let f : List ℕ = c.args.table.now in
    let d = c.list_descriptors in
    table-put f c.args.out.now c.args.at c.requires.0 c.requires.1 c.requires.2 d.ensures.answer c.in-Ok.is d.ensures.output

pub returns-in-Err : goal.returns-in-Err
returns-in-Err c =
    let f : List ℕ = c.args.table.now in
    let d = c.list_descriptors in
    absurd (table_taken f c.args.out.now c.args.at c.requires.0 c.requires.1 c.requires.2 d.ensures.answer c.in-Err.is)
