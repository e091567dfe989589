-- `sheet_moves::put_entry` meets its contract: what stands before the mark, the mark, what stands behind it. Assumes nothing.
use native.Mathlib.Omega.{arith}
use Rattle.sheet_moves.proofs.Carried.{cut_fits, put-cut}
use Rattle.sheet_moves.proofs.put_entry.Goals as goal

pub overflow_add-begin : goal.overflow_add-begin
overflow_add-begin c =
    let a = c.args in
    let f = cut_fits a.from a.to a.sheet.now a.at a.long c.requires.0 c.number_at-stamp.ensures in
    omega (arith, f.0, f.1, c.requires.1, c.marks.ensures.0)

pub overflow_sub-rest : goal.overflow_sub-rest
overflow_sub-rest c =
    let a = c.args in
    let f = cut_fits a.from a.to a.sheet.now a.at a.long c.requires.0 c.number_at-stamp.ensures in
    omega (arith, f.0, f.1, c.requires.1, c.marks.ensures.0)

pub overflow_add-q : goal.overflow_add-q
overflow_add-q c =
    let a = c.args in
    let f = cut_fits a.from a.to a.sheet.now a.at a.long c.requires.0 c.number_at-stamp.ensures in
    omega (arith, f.0, f.1, c.requires.1, c.marks.ensures.0)

pub put_mark-p-requires : goal.put_mark-p-requires
put_mark-p-requires c =
    let a = c.args in
    let f = cut_fits a.from a.to a.sheet.now a.at a.long c.requires.0 c.number_at-stamp.ensures in
    omega (arith, f.0, f.1, c.requires.1, c.marks.ensures.0)

pub overflow_add-at : goal.overflow_add-at
overflow_add-at c =
    let a = c.args in
    let f = cut_fits a.from a.to a.sheet.now a.at a.long c.requires.0 c.number_at-stamp.ensures in
    omega (arith, f.0, f.1, c.requires.1, c.marks.ensures.0)

pub overflow_add-result : goal.overflow_add-result
overflow_add-result c =
    let a = c.args in
    let f = cut_fits a.from a.to a.sheet.now a.at a.long c.requires.0 c.number_at-stamp.ensures in
    omega (arith, f.0, f.1, c.requires.1, c.marks.ensures.0, c.put_mark-p.ensures.1)

pub returns : goal.returns
returns c =
    let a = c.args in
    let n = c.number_at-stamp in
    let m = c.marks in
    let p = c.put_mark-p in
    let f = cut_fits a.from a.to a.sheet.now a.at a.long c.requires.0 n.ensures in (
      put-cut a.from a.to a.sheet.now a.at a.long c.requires.0 n.ensures m.ensures.0 c.copy.ensures p.ensures.0 c.copy-2.ensures,
      omega (arith, f.0, m.ensures.0, p.ensures.1),
    )
