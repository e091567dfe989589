-- The answers that `writer::write_pages` wants beside its invariants. Assumes nothing.
use mathlib.Core.Path.{◌≡◌}
use Prim.Native.Nat.{◌+◌, ◌-◌}
use native.Mathlib.Omega.{arith}
use borrow.Author.Rules.{rules}
use Rattle.writer.proofs.Paging.{paged_none, page-room, paged_more, paged_all}
use Rattle.writer.proofs.write_pages.Goals as goal

pub loop-page-init : goal.loop-page-init
loop-page-init c =
    let z : c.args.count - 0 ≡ c.args.count = omega arith in
    rw z (paged_none _ _ _ _ _ _ (search rules) (search rules))

pub write_page-at-requires : goal.write_page-at-requires
write_page-at-requires c =
    let p = c.loop-page.invariant in
    (search rules, page-room p (omega arith), p.stands)

pub loop-page-preserved : goal.loop-page-preserved
loop-page-preserved c =
    let w = c.write_page-at in
    let l = c.loop-page in
    let e : c.args.count - l._page - 1 ≡ c.args.count - (l._page + 1) = omega arith in
    rw e at (paged_more l.invariant (omega arith) w.new.out w.result w.ensures.out_after w.ensures.goes)

pub returns : goal.returns
returns c = paged_all c.loop-page.invariant (omega arith)
