-- `information_writer::laying::lay_fill` meets its contract: at an odd number four zeros, else nothing. Assumes nothing.
use mathlib.Core.Path.{◌∙◌, sym, ap}
use mathlib.Core.List.{List}
use Rattle.fields.specs.Fields.{Field}
use Rattle.fields.specs.Pens.{inked}
use Rattle.fields.proofs.Inking.{none-inked}
use Rattle.information_writer.proofs.Penned.{fill-odd, fill_even}
use Rattle.information_writer.proofs.laying.lay_fill.Goals as goal

pub returns-then-networks-eq1 : goal.returns-then-networks-eq1
returns-then-networks-eq1 c =
    c.lay.ensures.1
    ∙ ap (λ (fs : List Field). inked c.args.from fs c.args.out.now) (sym (fill-odd c.args.networks c.if-networks-eq1.true))

pub returns-else-networks-eq1 : goal.returns-else-networks-eq1
returns-else-networks-eq1 c =
    sym (none-inked c.args.from c.requires c.args.out.now)
    ∙ ap (λ (fs : List Field). inked c.args.from fs c.args.out.now) (sym (fill_even c.args.networks c.if-networks-eq1.false))
