-- `words::options::say` meets its contract: its tests in order. Assumes nothing.
use mathlib.Core.Path.{◌∙◌, ap}
use Rattle.words.specs.Numbers.{decimal_of}
use Rattle.words.proofs.Setting.{said-hex, said-decimal, said-one, said-two}
use Rattle.words.proofs.options.say.Goals as goal

pub returns-then-form-eq-HEX_PAIR : goal.returns-then-form-eq-HEX_PAIR
returns-then-form-eq-HEX_PAIR c = said-hex _ c.args.said _ _ c.form_of-form.ensures c.if-form-eq-HEX_PAIR.true c.hex_pair.ensures c.put_one.ensures

pub returns-then-form-ne-PAIR : goal.returns-then-form-ne-PAIR
returns-then-form-ne-PAIR c = said-decimal _ c.args.said _ _ c.form_of-form.ensures c.if-form-eq-HEX_PAIR.false c.if-form-ne-PAIR.true c.decimal.ensures c.put_one-then-form-ne-PAIR.ensures

pub returns-then-before-word : goal.returns-then-before-word
returns-then-before-word c = said-one _ c.args.said _ _ c.form_of-form.ensures c.if-form-eq-HEX_PAIR.false c.if-form-ne-PAIR.false c.before-2.ensures.0 c.if-before-word.true c.decimal-then-before-word.ensures c.put_one-then-before-word.ensures

pub returns : goal.returns
returns c = said-two _ c.args.said _ _ c.form_of-form.ensures c.if-form-eq-HEX_PAIR.false c.if-form-ne-PAIR.false c.before-2.ensures.0 c.if-before-word.false (c.decimal-first.ensures ∙ ap decimal_of c.up_to.ensures) (c.decimal-second.ensures ∙ ap decimal_of c.behind.ensures) c.put_two.ensures
