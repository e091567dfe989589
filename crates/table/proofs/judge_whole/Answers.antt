-- `table::judge_whole` meets its contract: each `return` is the first rule that doesn't hold, and the last is both passed.
-- Assumes nothing.
use mathlib.Core.Path.{◌∙◌, sym, ap}
use mathlib.Core.List.{List, map}
use Prim.Native.Nat.{ℕ}
use native.Mathlib.Omega.{arith}
use lib.ListN.{length-map}
use Rattle.octet.specs.Decoding.{nib}
use Rattle.fields.specs.declared.Opening.{Opening}
use Rattle.table.proofs.Judging.{whole-10, whole-11, whole-done}
use Rattle.table.proofs.judge_whole.Goals as goal

pub returns-then-sum-gt255 : goal.returns-then-sum-gt255
returns-then-sum-gt255 c =
    let s : List ℕ = c.args.body.now in
    rw c.sound.ensures at c.refuse.ensures
    ∙ sym (whole-10 _ (map nib s) _ _ (λ e. absurd (omega (arith, c.sum_of-sum.ensures.broken c.if-sum-gt255.true, e, length-map s nib))))

pub returns-then-opening-sum : goal.returns-then-opening-sum
returns-then-opening-sum c =
    let s : List ℕ = c.args.body.now in
    let w = c.sum_of-sum.ensures.whole (omega (arith, c.if-sum-gt255.false)) in
    let p = ap (λ (o : Opening). o.checksum) c.requires in
    c.refuse-then-opening-sum.ensures ∙ sym (whole-11 _ (map nib s) _ _ (w.0 ∙ sym (length-map s nib)) (rw (p, w.1) at c.if-opening-sum.true))

pub returns : goal.returns
returns c =
    let s : List ℕ = c.args.body.now in
    let w = c.sum_of-sum.ensures.whole (omega (arith, c.if-sum-gt255.false)) in
    let p = ap (λ (o : Opening). o.checksum) c.requires in
    sym (whole-done _ (map nib s) _ _ (w.0 ∙ sym (length-map s nib)) (rw (p, w.1) at c.if-opening-sum.false))
