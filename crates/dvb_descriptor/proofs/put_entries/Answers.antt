-- The answers that `dvb_descriptor::put_entries` wants beside its invariants. Assumes nothing.
use borrow.Author.Rules.{rules}
use mathlib.Core.Path.{◌≡◌, ◌∙◌, sym, ap}
use mathlib.Core.List.{List, ◌++◌}
use Prim.Native.Nat.{ℕ, ◌+◌, ◌-◌, ◌*◌}
use native.Mathlib.Omega.{arith}
use lib.ListN.{drop}
use lib.Seq.{sets}
use Rattle.laws.proofs.Countdown.{at_none}
use Rattle.laws.proofs.Stores.{sets_next}
use Rattle.forms.specs.Form.{words_in}
use Rattle.dvb_descriptor.specs.Subtitles.{paired}
use Rattle.dvb_descriptor.specs.Entries.{five, fives}
use Rattle.dvb_descriptor.proofs.Packing.{length-five}
use Rattle.dvb_descriptor.proofs.Walking.{pair-on}
use Rattle.dvb_descriptor.proofs.put_entries.Goals as goal

pub loop-preserved : goal.loop-preserved
unfolding fives
loop-preserved c =
    let p = c.put_five in
    let s = c.subtitle_of-s in
    let w = c.word_at-in-loop in
    let v = c.word_at in
    let l = c.loop in
    let a = c.args in
    let f : List ℕ = a.table.now in
    let all : List ℕ = fives 2 (paired (words_in (2 * (a.k - l.counter)) (drop l.i f))) in
    let rest : List ℕ = fives 2 (paired (words_in (2 * (a.k - (l.counter + 1))) (drop (l.i + 6) f))) in
    let on : all ≡ five 2 s.result ++ rest =
    rw s.ensures.0 (ap (fives 2) (pair-on (a.k - l.counter) (a.k - (l.counter + 1)) l.i v.result w.result f (omega arith) v.ensures.0 w.ensures.0)) in (
      p.auto.out ∙ l.invariant.0,
      omega (arith, l.invariant.1),
      omega (arith, l.invariant.2),
      sets_next l.out _ l.q 5 (five 2 s.result) rest all on (length-five 2 s.result) p.ensures ∙ l.invariant.3,
    )

pub returns : goal.returns
unfolding fives paired words_in
returns c =
    let l = c.loop in
    let f : List ℕ = c.args.table.now in
    let e = at_none (λ (n : ℕ). fives 2 (paired (words_in (2 * n) (drop l.i f)))) (c.args.k - l.counter) (search rules) in
    sym (ap (sets l.out l.q) e) ∙ l.invariant.3
