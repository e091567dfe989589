-- `walk::starts::find` meets its contract: filler leads to the place, and what stands there decides. Assumes nothing.
use mathlib.Core.Path.{◌∙◌}
use Prim.Native.Nat.{◌+◌, ◌-◌}
use native.Mathlib.Omega.{arith}
use lib.ListN.{get_or}
use Rattle.octet.proofs.Hearing.{mark-nib, mark-harm}
use Rattle.walk.proofs.Stepping.{found_at, not-filler, found_none, found_stray, found-start, next_later}
use Rattle.walk.proofs.starts.find.Goals as goal

pub returns-then-at-s-clause-s_value : goal.returns-then-at-s-clause-s_value
returns-then-at-s-clause-s_value c =
    let a = c.args in
    let at = c.skip-at.result in
    found_at a.s.now a.from at c.skip-at.ensures ∙ found_none a.s.now at c.if-at-s.true

pub returns-then-mark-ne-START-clause-s_value : goal.returns-then-mark-ne-START-clause-s_value
returns-then-mark-ne-START-clause-s_value c =
    let a = c.args in
    let at = c.skip-at.result in
    let e = c.skip-at.ensures in
    let d = mark-nib c.mark-mark.result (get_or a.s.now at 0) c.mark-mark.ensures in
    found_at a.s.now a.from at e
    ∙ found_stray a.s.now at (omega arith) (not-filler a.s.now a.from at e (omega arith) (omega arith)) (λ q. c.if-mark-ne-START.true (d ∙ q))

pub returns : goal.returns
returns c =
    let a = c.args in
    let at = c.skip-at.result in
    let e = c.skip-at.ensures in
    let m = c.mark-mark in
    let b = get_or a.s.now at 0 in
    let h = c.head_on.ensures in record {
      s_value = found_at a.s.now a.from at e ∙ found-start a.s.now at (omega arith) (omega (arith, mark-nib m.result b m.ensures))
          ∙ rw (← mark-harm m.result b m.ensures) h.s_value;
      from_bound = next_later c.head_on.result (at + 1 + (4 - 0)) (a.from + 5) h.got_value (omega arith);
      result_in_bounds = h.result_in_bounds (omega arith);
    }
