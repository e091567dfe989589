-- The answers that `dvb_descriptor::put_subtitles` wants beside its invariants. Assumes nothing.
use borrow.Author.Rules.{rules}
use mathlib.Core.Path.{◌≡◌, ◌∙◌, sym, ap}
use mathlib.Core.List.{List, ◌++◌}
use Prim.Native.Nat.{ℕ, ◌+◌, ◌-◌, ◌*◌}
use native.Mathlib.Omega.{arith}
use lib.ListN.{length, drop, length-append}
use lib.Seq.{sets}
use Rattle.laws.proofs.Countdown.{at_none}
use Rattle.laws.proofs.Stores.{sets_next}
use Rattle.dvb_descriptor.specs.declared.Subtitle.{Subtitle}
use Rattle.dvb_descriptor.specs.Entries.{fives, kept_in}
use Rattle.dvb_descriptor.proofs.Packing.{length-fives, fives-append}
use Rattle.dvb_descriptor.proofs.Walking.{kept_on}
use Rattle.dvb_descriptor.proofs.put_subtitles.Goals as goal

pub loop-preserved : goal.loop-preserved
loop-preserved c =
    let l = c.loop in
    let a = c.args in
    let b : List ℕ = a.bytes.now in
    let p = c.put_subtitle-to in
    let new : List ℕ = p.new.out in
    let one : List Subtitle = kept_in 1 (drop l.i b) in
    let rest : List Subtitle = kept_in (a.k - (l.counter + 1)) (drop (l.i + 5) b) in
    let all : List Subtitle = kept_in (a.k - l.counter) (drop l.i b) in
    let on : all ≡ one ++ rest = kept_on (a.k - l.counter) (a.k - (l.counter + 1)) l.i b (omega arith) in
    let long : length all ≡ length one + length rest = ap length on ∙ length-append one rest in (
      p.auto.out ∙ l.invariant.0,
      omega (arith, l.invariant.1),
      omega (arith, l.invariant.2, p.ensures.1),
      omega (arith, l.invariant.3, p.ensures.0, long),
      ap (λ (q : ℕ). sets new q (fives 0 rest)) p.ensures.0
          ∙ sets_next l.out new l.to (5 * length one) (fives 0 one) (fives 0 rest) (fives 0 all)
          (ap (fives 0) on ∙ fives-append 0 one rest) (length-fives 0 one) p.ensures.2
          ∙ l.invariant.4,
    )

pub returns : goal.returns
unfolding fives kept_in
returns c =
    let l = c.loop in
    let b : List ℕ = c.args.bytes.now in
    let e = at_none (λ (n : ℕ). kept_in n (drop l.i b)) (c.args.k - l.counter) (search rules) in
    (omega (arith, l.invariant.3, ap length e), sym (ap (λ (ss : List Subtitle). sets l.out l.to (fives 0 ss)) e) ∙ l.invariant.4)
