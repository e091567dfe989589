-- `table::spelling::write_form` meets its contract: the opening and then the descriptors are the form. Assumes nothing.
use Rattle.fields.specs.Compound.{compound}
use Rattle.table.specs.Control.{table_of}
use Rattle.table.proofs.Written.{form_at_lem}
use Rattle.table.proofs.spelling.write_form.Goals as goal

pub returns : goal.returns
unfolding table_of
returns c =
    form_at_lem c.args.opening (compound c.args.body.now) c.requires c.args.out.now _ _
    c.write_opening.ensures
    c.write_descriptors.ensures
