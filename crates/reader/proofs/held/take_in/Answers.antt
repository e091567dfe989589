-- `reader::held::take_in` meets its contract: a header is read on, and then the block takes its bytes. Assumes nothing.
use mathlib.Core.Logic.{inl, inr}
use Prim.Native.Nat.{◌≤◌}
use native.Mathlib.Omega.{arith}
use Rattle.walk.proofs.Staying.{continues_off}
use Rattle.walk.proofs.Keeping.{kept-idle, kept-head, kept-body, begun_body, idle_took, head-lost, head-bits, head-cut, head-part, head-whole}
use Rattle.reader.proofs.held.take_in.Goals as goal

-- the part that a cut header has counted, and a whole one, is small
pub overflow_cast-result : goal.overflow_cast-result
overflow_cast-result c =
    let bits = head-bits c.args.s.now c.head_on.result c.requires c.in-Head.is c.head_on.ensures.s_value c.in-Cut.is in
    omega (arith, bits.counted, bits.got)

pub overflow_cast-p : goal.overflow_cast-p
overflow_cast-p c =
    let part-few-c : (c.in-Whole.p ≤ 5) = (head-part c.args.s.now c.head_on.result c.requires c.in-Head.is c.head_on.ensures.s_value c.in-Whole.is) in
    omega (arith, part-few-c)

pub body_in-requires : goal.body_in-requires
body_in-requires c =
    let part-few-c : (c.in-Whole.p ≤ 5) = (head-part c.args.s.now c.head_on.result c.requires c.in-Head.is c.head_on.ensures.s_value c.in-Whole.is) in
    let k = c.requires in
    let e = c.in-Head.is in
    let b = c.head_on.ensures.result_in_bounds (omega arith) in
    let y = c.in-Whole.is in
    record {
      kept = begun_body (omega arith) part-few-c (kept-head k e);
      from_in_bounds = (rw y at b);
    }

pub body_in-requires-in-Body : goal.body_in-requires-in-Body
body_in-requires-in-Body c = record {
  kept = kept-body c.requires c.in-Body.is;
  from_in_bounds = omega arith;
}

pub returns-in-Idle : goal.returns-in-Idle
returns-in-Idle c =
    let a = c.args in
    let e = c.in-Idle.is in
    idle_took a.s.now a.s.now
    (λ p. rw e (continues_off p a.s.now))
    (kept-idle c.requires e)

pub returns-in-Nothing : goal.returns-in-Nothing
returns-in-Nothing c =
    let lost = head-lost c.args.s.now c.head_on.result c.requires c.in-Head.is c.head_on.ensures.s_value in
    elim c.in-Nothing.is [ inl e ↦ lost (λ p. rw e) | inr e ↦ lost (λ p. rw e) ]

pub returns-in-Cut : goal.returns-in-Cut
returns-in-Cut c =
    head-cut c.args.s.now c.head_on.result c.requires c.in-Head.is c.head_on.ensures.s_value c.in-Cut.is

pub returns-in-Whole : goal.returns-in-Whole
returns-in-Whole c =
    head-whole c.args.s.now c.head_on.result c.requires c.in-Head.is c.head_on.ensures.s_value c.in-Whole.is
    c.body_in.ensures

pub returns-in-Body : goal.returns-in-Body
returns-in-Body c =
    let e = c.in-Body.is in
    rw e c.body_in-in-Body.ensures
