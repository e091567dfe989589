-- The answers that `table_writer::put_words` wants beside its invariants. Assumes nothing.
use borrow.Author.Rules.{rules}
use mathlib.Core.Path.{◌∙◌, sym, ap}
use mathlib.Core.List.{List, [], ◌∷◌}
use Prim.Native.Nat.{ℕ, ◌+◌, ◌-◌}
use native.Mathlib.Omega.{arith}
use lib.ListN.{drop}
use Rattle.laws.proofs.Countdown.{at_none}
use Rattle.fields.specs.Fields.{Field, alike}
use Rattle.fields.specs.Pens.{inked, moved}
use Rattle.fields.proofs.Inking.{on-moved, on-inked, on_fine, none_left, none-inked}
use Rattle.forms.specs.Form.{words_in}
use Rattle.table_writer.proofs.Looped.{alike-on}
use Rattle.table_writer.proofs.put_words.Goals as goal

pub loop-preserved : goal.loop-preserved
loop-preserved c =
    let l = c.loop in
    let f : List ℕ = c.args.table.now in
    let w = c.word_at in
    let d = c.lay-p in
    let rest : List Field = alike 24 (words_in (c.args.k - (l.counter + 1)) (drop (l.i + 3) f)) in
    let now-left : List Field = alike 24 (words_in (c.args.k - l.counter) (drop l.i f)) in
    let e = alike-on (c.args.k - l.counter) (c.args.k - (l.counter + 1)) l.i w.result f (omega arith) w.ensures.0 in (
      on_fine l.p ((24, w.result) ∷ []) rest now-left e d.ensures.0,
      d.auto.out ∙ l.invariant.1,
      search rules,
      on-moved l.p ((24, w.result) ∷ []) rest now-left e d.ensures.0 ∙ l.invariant.3,
      on-inked l.p ((24, w.result) ∷ []) rest now-left e d.ensures.0 l.out (omega (arith, l.invariant.1, c.well_formed.1.1.1.1.0.0)) d.ensures.1 ∙ l.invariant.4,
    )

pub returns : goal.returns
unfolding alike words_in
returns c =
    let l = c.loop in
    let f : List ℕ = c.args.table.now in
    let e = at_none (λ (n : ℕ). alike 24 (words_in n (drop l.i f))) (c.args.k - l.counter) (search rules) in (
      sym (none_left l.p l.invariant.0) ∙ sym (ap (moved l.p) e) ∙ l.invariant.3,
      sym (none-inked l.p l.invariant.0 l.out) ∙ sym (ap (λ (x : List Field). inked l.p x l.out) e) ∙ l.invariant.4,
    )
