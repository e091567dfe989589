-- `broadcast::lawful` meets its contract: its rules, the walk, the verdict. Assumes nothing.
use mathlib.Core.List.{List}
use mathlib.Core.Path.{◌∙◌, refl, sym, ap, ap₂}
use Prim.Native.Nat.{ℕ}
use lib.Dec.{eqb}
use lib.ListN.{get_or, replicate}
use Rattle.blocks.specs.Block.{whole}
use Rattle.broadcast.specs.Lawful.{minimum, verdict}
use Rattle.broadcast.specs.Internal.{places, counts_by, name_by}
use Rattle.broadcast.proofs.Judged.{walked-none, walked-some, lawful-16, lawful-13, lawful-24, lawful-said}
use Rattle.broadcast.proofs.lawful.Goals as goal

pub returns-then-application-ge32 : goal.returns-then-application-ge32
returns-then-application-ge32 c =
    let s = c.args in
    let p = lawful-16 s.application s.records.now s.out.now c.if-application-ge32.true in
    record {
      answer = c.refuse.ensures ∙ p.0;
      output = p.1;
    }

pub returns-in_default : goal.returns-in_default
returns-in_default c =
    let s = c.args in
    let broken = walked-none (whole s.records.now) _ c.walk.ensures.answer c.in_default.not-Some in
    let p = lawful-13 s.application s.records.now s.out.now c.if-application-ge32.false broken in
    record {
      answer = c.refuse-in_default.ensures ∙ p.0;
      output = p.1;
    }

pub returns-then-is_none : goal.returns-then-is_none
returns-then-is_none c =
    let s = c.args in
    let l : List ℕ = s.records.now in
    let found = walked-some (whole l) _ c.walk.ensures.answer c.in-Some.is in
    let none = sym (ap (λ (t : List ℕ). eqb (get_or t 1 0) 0) c.walk.ensures.output) ∙ sym c.is_none.ensures ∙ c.if-is_none.true in
    let p = lawful-24 s.application l s.out.now c.if-application-ge32.false found.0 _ refl none in
    record {
      answer = c.refuse-then-is_none.ensures ∙ p.0;
      output = p.1;
    }

pub returns : goal.returns
returns c =
    let s = c.args in
    let l : List ℕ = s.records.now in
    let found = walked-some (whole l) _ c.walk.ensures.answer c.in-Some.is in
    let some = sym (ap (λ (t : List ℕ). eqb (get_or t 1 0) 0) c.walk.ensures.output) ∙ sym c.is_none.ensures ∙ c.if-is_none.false in
    let name = c.judge.ensures ∙ ap₂ (λ (t : List ℕ) (channel : ℕ). verdict (counts_by t channel) minimum) c.walk.ensures.output found.1 in
    let p = lawful-said s.application l s.out.now c.if-application-ge32.false found.0 (replicate places 0) refl (name_by c.judge.result) name some in
    record {
      answer = c.say.ensures.answer ∙ p.0;
      output = c.say.ensures.output ∙ p.1;
    }
