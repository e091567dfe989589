-- The answers that `fields::some_at` wants beside its invariants. Assumes nothing.
use borrow.Author.Rules.{rules}
use mathlib.Core.Path.{◌≡◌, ◌∙◌, sym}
use Prim.Native.Nat.{◌-◌, ◌*◌, ◌/◌, ◌%◌, ◌^◌, ◌≤◌, ◌<◌}
use native.Mathlib.Omega.{arith}
use lib.Pow.{pow_pos}
use Rattle.fields.specs.Fields.{field}
use Rattle.fields.specs.Compound.{compound}
use Rattle.fields.proofs.Laid.{field_lt}
use Rattle.fields.proofs.Bits.{nibble_of_lem, none_yet, one_more, cut_out, small, power}
use Rattle.fields.proofs.some_at.Goals as goal

pub loop-i-init : goal.loop-i-init
loop-i-init c = (search rules, search rules, search rules, sym (none_yet _ _))

pub overflow_mul-n : goal.overflow_mul-n
overflow_mul-n c =
    let l = c.loop-i in
    let a = c.args in
    let h : l.n < 2 ^ 28 = rw l.invariant.3 (small _ _ 28 _ (omega arith)) in
    record { fits = omega arith }

pub overflow_add-n : goal.overflow_add-n
overflow_add-n c =
    let l = c.loop-i in
    let h : l.n < 2 ^ 28 = rw l.invariant.3 (small _ _ 28 _ (omega arith)) in
    record { fits = omega arith }

pub loop-i-preserved : goal.loop-i-preserved
loop-i-preserved c =
    let l = c.loop-i in
    let a = c.args in
    let e : c.nibble_at.result ≡ field ((l.i - 1) * 4) 4 (compound a.s.now) = c.nibble_at.ensures ∙ sym (nibble_of_lem a.s.now (l.i - 1)) in
    (search rules, search rules, search rules, rw e (one_more l.i _ (compound a.s.now) l.n (omega arith) (omega arith) l.invariant.3))

pub nonzero_rem-result-2 : goal.nonzero_rem-result-2
nonzero_rem-result-2 c =
    let h : c.min-wide.result ≤ 24 = omega arith in
    rw power (pow_pos _)

pub returns : goal.returns
returns c =
    let l = c.loop-i in
    let a = c.args in
    let w = c.min-wide.result in
    let e : l.n / 2 ^ (a.at % 4) % (1 * 2 ^ w % 2 ^ 64) ≡ field a.at w (compound a.s.now) =
    cut_out a.at w _ l.i (compound a.s.now) l.n (omega arith) (omega arith) (omega arith) l.invariant.3 in
    rw (← c.min-wide.ensures) (e, rw e (field_lt a.at w (compound a.s.now)))
