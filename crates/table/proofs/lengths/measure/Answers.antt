-- The answers that `table::lengths::measure` wants beside its invariants. Assumes nothing.
use borrow.Author.Rules.{rules}
use mathlib.Core.Path.{refl}
use native.Mathlib.Omega.{arith}
use Rattle.fields.specs.Compound.{compound}
use Rattle.forms.proofs.Measures.{words_counted}
use Rattle.table.proofs.Loops.{walk-on, walk_end}
use Rattle.table.proofs.lengths.measure.Goals as goal

pub loop-preserved : goal.loop-preserved
loop-preserved c =
    let l = c.loop in
    let a = c.args in
    let n = compound a.body.now in (
      omega (arith, c.words_of-words.ensures.1, c.field_of.ensures.1),
      walk-on a.kind _ _ n l.at c.field_of.result c.words_of-words.result _ (search rules)
          c.field_of.ensures.0
          (words_counted _ _ _ _ c.words_of-words.ensures.0 (omega (arith, c.field_of.ensures.1)) refl) l.invariant.1,
    )

pub returns : goal.returns
returns c =
    let l = c.loop in
    let a = c.args in (
      walk_end a.kind _ (compound a.body.now) l.at _ (search rules) l.invariant.1,
      search rules,
    )
