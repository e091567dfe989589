-- The answers that `fields::word_at` wants beside its invariants. Assumes nothing.
use borrow.Author.Rules.{rules}
use mathlib.Core.Path.{◌≡◌, ◌∙◌, sym}
use Prim.Native.Nat.{◌-◌, ◌*◌, ◌/◌, ◌%◌, ◌^◌, ◌<◌}
use native.Mathlib.Omega.{arith}
use Rattle.fields.specs.Fields.{field}
use Rattle.fields.specs.Compound.{compound}
use Rattle.fields.proofs.Laid.{field_lt}
use Rattle.fields.proofs.Bits.{nibble_of_lem, none_yet, one_more, cut_out, small}
use Rattle.fields.proofs.word_at.Goals as goal

pub loop-i-init : goal.loop-i-init
loop-i-init c = (search rules, search rules, sym (none_yet _ _))

pub overflow_mul-n : goal.overflow_mul-n
overflow_mul-n c =
    let l = c.loop-i in
    let h : l.n < 2 ^ 28 = rw l.invariant.2 (small _ _ 28 _ (omega arith)) in
    record { fits = omega arith }

pub overflow_add-n : goal.overflow_add-n
overflow_add-n c =
    let l = c.loop-i in
    let h : l.n < 2 ^ 28 = rw l.invariant.2 (small _ _ 28 _ (omega arith)) in
    record { fits = omega arith }

pub loop-i-preserved : goal.loop-i-preserved
loop-i-preserved c =
    let l = c.loop-i in
    let s = c.args.s.now in
    let e : c.nibble_in.result ≡ field ((l.i - 1) * 4) 4 (compound s) = c.nibble_in.ensures ∙ sym (nibble_of_lem s (l.i - 1)) in
    (search rules, search rules, rw e (one_more l.i _ (compound s) l.n (omega arith) (omega arith) l.invariant.2))

pub returns : goal.returns
returns c =
    let l = c.loop-i in
    let a = c.args in
    let e : l.n / 2 ^ (a.at % 4) % 2 ^ 24 ≡ field a.at 24 (compound a.s.now) =
    cut_out a.at 24 _ l.i (compound a.s.now) l.n (omega arith) (omega arith) (omega arith) l.invariant.2 in
    (e, rw e (field_lt a.at 24 (compound a.s.now)))
