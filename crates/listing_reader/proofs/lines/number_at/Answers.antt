-- `listing_reader::lines::number_at` meets its contract: the name stands there, and behind it the value's spelling. Assumes nothing.
use borrow.Author.Rules.{rules}
use mathlib.Core.Path.{◌∙◌, sym, ap}
use Prim.Native.Nat.{ℕ, ◌+◌}
use native.Mathlib.Omega.{arith}
use lib.ListN.{length}
use Rattle.listing_reader.proofs.Matching.{spelled_in, number-nowhere, number_past, number-unnamed, number-unspelled, number_spelled}
use Rattle.listing_reader.proofs.lines.number_at.Goals as goal
use Rattle.listing_reader.proofs.lines.number_at.Goals.{then-most-n-via-then-most-n, then-most-n-via-else-most-n+then-not-starts_at}

pub returns-then-sheet-at : goal.returns-then-sheet-at
returns-then-sheet-at c = let a = c.args in number-nowhere a.sheet.now a.name.now a.at a.most (search rules)

pub returns-then-most-n : goal.returns-then-most-n
returns-then-most-n c =
    let a = c.args in
    elim c.then-most-n.branch [
      | then-most-n-via-then-most-n w ↦ number_past a.sheet.now a.name.now a.at a.most _ c.number_from-n.ensures w.if-most-n.true
      | then-most-n-via-else-most-n+then-not-starts_at w ↦
          number-unnamed a.sheet.now a.name.now a.at a.most _ c.number_from-n.ensures (search rules)
          (sym w.starts_at.ensures ∙ w.if-not-starts_at.true)
    ]

pub slice_bounds-starts_at-end : goal.slice_bounds-starts_at-end
slice_bounds-starts_at-end c = let p = c.put_number-long.ensures in (spelled_in 32 p.0 (omega (arith, p.1))).1

pub returns-then-not-starts_at-2 : goal.returns-then-not-starts_at-2
returns-then-not-starts_at-2 c =
    let a = c.args in
    let p = c.put_number-long.ensures in
    let s = spelled_in 32 p.0 (omega (arith, p.1)) in
    number-unspelled a.sheet.now a.name.now a.at a.most _ c.number_from-n.ensures (search rules)
    (sym c.starts_at.ensures ∙ c.if-not-starts_at.false) s.0
    (sym c.starts_at-2.ensures ∙ c.if-not-starts_at-2.true)

pub returns : goal.returns
returns c =
    let a = c.args in
    let p = c.put_number-long.ensures in
    let s = spelled_in 32 p.0 (omega (arith, p.1)) in
    let w = c.number_from-n.result in
    ap (λ (n : ℕ). record { value = w; long = length a.name.now + n }) s.1
    ∙ number_spelled a.sheet.now a.name.now a.at a.most w c.number_from-n.ensures (search rules)
    (sym c.starts_at.ensures ∙ c.if-not-starts_at.false) s.0
    (sym c.starts_at-2.ensures ∙ c.if-not-starts_at-2.false)
