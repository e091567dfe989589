-- `table_writer::first_fields` meets its contract: each value fits its field. Assumes nothing.
use Rattle.table_writer.proofs.Whole.{first_of}
use Rattle.table_writer.proofs.first_fields.Goals as goal

pub returns : goal.returns
returns c =
    first_of c.args.table.now c.args.control c.byte_at-kind.result c.byte_at-copyright.result c.byte_at-kind.ensures.0
    c.byte_at-copyright.ensures.0 c.requires.0 c.requires.1
