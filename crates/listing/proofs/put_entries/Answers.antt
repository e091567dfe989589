-- The answers that `listing::put_entries` wants beside its invariants. Assumes nothing.
use borrow.Author.Rules.{rules}
use mathlib.Core.List.{List}
use mathlib.Core.Path.{◌∙◌, refl}
use Prim.Native.Nat.{ℕ, ◌-◌}
use native.Mathlib.Nat.{sub-zero}
use native.Mathlib.Omega.{arith}
use Rattle.text_lines.proofs.Printed.{left-start, left-on, left_end}
use Rattle.listing.proofs.Walk.{entries-on, entries-end}
use Rattle.listing.proofs.put_entries.Goals as goal

pub loop-init : goal.loop-init
loop-init c = (refl, search rules, search rules, rw sub-zero (left-start _ _ _))

pub loop-preserved : goal.loop-preserved
loop-preserved c =
    let l = c.loop in
    let f : List ℕ = c.args.table.now in
    let w = c.words_of-step in
    let p = c.put_entry-p in (
      p.auto.out ∙ l.invariant.0,
      omega (arith, l.invariant.1, w.ensures.1),
      omega (arith, l.invariant.2, p.ensures.1),
      left-on (entries-on c.args.kind _ _ l.i w.result f (omega arith) w.ensures.0) p.ensures.0 l.invariant.3,
    )

pub returns : goal.returns
returns c =
    let l = c.loop in
    let f : List ℕ = c.args.table.now in
    (left_end (entries-end c.args.kind (c.args.k - l.counter) l.i f (search rules)) l.invariant.3, omega (arith, l.invariant.2))
