-- The answers that `table::spelling::write_words` wants beside its invariants. Assumes nothing.
use borrow.Author.Rules.{rules}
use mathlib.Core.Path.{◌∙◌}
use Rattle.fields.specs.Compound.{compound}
use Rattle.table.proofs.Written.{word_on, words_end}
use Rattle.table.proofs.spelling.write_words.Goals as goal

pub loop-preserved : goal.loop-preserved
loop-preserved c =
    let l = c.loop in
    let k = c.write_word.auto.out in
    let a = c.args in
    let f = c.field_of-w in (
      k ∙ l.invariant.0,
      search rules,
      search rules,
      word_on _ _ (compound a.body.now) l.at l.p f.result l.out c.write_word.new.out _ (search rules)
          f.ensures.0 c.write_word.ensures l.invariant.3,
    )

pub returns : goal.returns
returns c =
    let l = c.loop in
    words_end _ (compound c.args.body.now) l.at l.p l.out _ (search rules) l.invariant.3
