-- The answers that `blocks::sums::checksum` wants beside its invariants. Assumes nothing.
use borrow.Author.Rules.{rules}
use mathlib.Core.Path.{◌∙◌, ap}
use mathlib.Core.List.{List, map}
use Prim.Native.Nat.{ℕ, ◌+◌, ◌%◌}
use native.Mathlib.Omega.{arith}
use lib.ListN.{drop, get_or}
use Rattle.laws.proofs.Maps.{map-drop}
use Rattle.octet.specs.Decoding.{nib}
use Rattle.octet.proofs.Laws.{nib_le, entry_at}
use Rattle.blocks.specs.Sums.{total}
use Rattle.blocks.proofs.Summing.{sum_step, sum-end}
use Rattle.blocks.proofs.sums.checksum.Goals as goal

pub loop-i-init : goal.loop-i-init
loop-i-init c =
    let s : List ℕ = c.args.body.now in
    (search rules, ap (λ (x : ℕ). (x + total (map nib (drop 2 s))) % 256) c.head_total-total.ensures.0 ∙ rw map-drop)

pub overflow_cast-total : goal.overflow_cast-total
overflow_cast-total c = omega (arith, c.type_inv.body c.loop-i.i)

pub bounds-table-body : goal.bounds-table-body
bounds-table-body c = omega (arith, c.type_inv.body c.loop-i.i)

pub overflow_add-total : goal.overflow_add-total
overflow_add-total c =
    let l = c.loop-i in
    let s : List ℕ = c.args.body.now in
    let t = c.decodings-table in
    let e = entry_at t.result t.ensures (get_or s l.i 0) (c.type_inv.body l.i).fits in
    omega (arith, e, nib_le (get_or s l.i 0), l.invariant.0)

pub loop-i-preserved : goal.loop-i-preserved
loop-i-preserved c =
    let l = c.loop-i in
    let s : List ℕ = c.args.body.now in
    let t = c.decodings-table in
    let e = entry_at t.result t.ensures (get_or s l.i 0) (c.type_inv.body l.i).fits in (
      search rules,
      ap (λ (x : ℕ). ((l.total + x) % 256 + total (map nib (drop (l.i + 1) s))) % 256) e
          ∙ sum_step s l.i l.total (search rules)
          ∙ l.invariant.1,
    )

pub returns : goal.returns
returns c =
    let l = c.loop-i in
    let a = c.args in
    sum-end a.head a.body.now l.i l.total (search rules) l.invariant.0 l.invariant.1
