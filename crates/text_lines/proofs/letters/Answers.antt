-- `text_lines::letters` meets its contract: the first byte that is no letter decides. Assumes nothing.
use mathlib.Core.Path.{◌∙◌, sym}
use Rattle.text_lines.proofs.Spelling.{letters-1, letters-2, letters-3}
use Rattle.text_lines.proofs.letters.Goals as goal

pub returns-then-not-letter : goal.returns-then-not-letter
returns-then-not-letter c = sym (letters-1 c.args.w (sym c.letter.ensures ∙ c.if-not-letter.true))

pub returns-then-not-letter-2 : goal.returns-then-not-letter-2
returns-then-not-letter-2 c =
    let w = c.args.w in
    sym (letters-2 w (sym c.letter.ensures ∙ c.if-not-letter.false) (sym c.letter-2.ensures ∙ c.if-not-letter-2.true))

pub returns : goal.returns
returns c =
    let w = c.args.w in
    let first = sym c.letter.ensures ∙ c.if-not-letter.false in
    let second = sym c.letter-2.ensures ∙ c.if-not-letter-2.false in
    c.letter-3.ensures ∙ sym (letters-3 w first second)
