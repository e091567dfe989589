-- The answers that `lawful::kept::is_there` wants beside its invariants. Assumes nothing.
use borrow.Author.Rules.{rules}
use Prim.Native.Nat.{◌≤◌, ◌<◌}
use native.Mathlib.Omega.{arith}
use lib.ListN.{length}
use Rattle.blocks.proofs.Placing.{after-within}
use Rattle.lawful.proofs.kept.is_there.Goals as goal

pub slice_bounds-same-count : goal.slice_bounds-same-count
slice_bounds-same-count c =
    let goes_on-c : ((c.loop-at.at < c.after-next.result) × (c.after-next.result ≤ length c.args.records.now)) = (let a = c.args in
    let w = after-within a.records.now c.loop-at.at (search rules) in
    (omega (arith, w.0, c.after-next.ensures), omega (arith, w.1, c.after-next.ensures))) in
    omega (arith, goes_on-c)

pub loop-at-smaller : goal.loop-at-smaller
loop-at-smaller c =
    let goes_on-c : ((c.loop-at.at < c.after-next.result) × (c.after-next.result ≤ length c.args.records.now)) = (let a = c.args in
    let w = after-within a.records.now c.loop-at.at (search rules) in
    (omega (arith, w.0, c.after-next.ensures), omega (arith, w.1, c.after-next.ensures))) in
    omega (arith, goes_on-c)

pub loop-at-preserved : goal.loop-at-preserved
loop-at-preserved c =
    let goes_on-c : ((c.loop-at.at < c.after-next.result) × (c.after-next.result ≤ length c.args.records.now)) = (let a = c.args in
    let w = after-within a.records.now c.loop-at.at (search rules) in
    (omega (arith, w.0, c.after-next.ensures), omega (arith, w.1, c.after-next.ensures))) in
    omega (arith, goes_on-c)

pub slice_bounds-same-start : goal.slice_bounds-same-start
slice_bounds-same-start c =
    let goes_on-c : ((c.loop-at.at < c.after-next.result) × (c.after-next.result ≤ length c.args.records.now)) = (let a = c.args in
    let w = after-within a.records.now c.loop-at.at (search rules) in
    (omega (arith, w.0, c.after-next.ensures), omega (arith, w.1, c.after-next.ensures))) in
    omega (arith, goes_on-c)

pub slice_bounds-same-end : goal.slice_bounds-same-end
slice_bounds-same-end c =
    let goes_on-c : ((c.loop-at.at < c.after-next.result) × (c.after-next.result ≤ length c.args.records.now)) = (let a = c.args in
    let w = after-within a.records.now c.loop-at.at (search rules) in
    (omega (arith, w.0, c.after-next.ensures), omega (arith, w.1, c.after-next.ensures))) in
    omega (arith, goes_on-c)
