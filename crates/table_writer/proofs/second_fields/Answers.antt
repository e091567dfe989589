-- `table_writer::second_fields` meets its contract: each value fits its field. Assumes nothing.
use Rattle.table_writer.proofs.Whole.{second_of_lem}
use Rattle.table_writer.proofs.second_fields.Goals as goal

pub returns : goal.returns
returns c =
    let b₀ = c.byte_at in
    let b₁ = c.byte_at-2 in
    second_of_lem c.args.table.now b₀.result b₁.result c.byte_at-network.result c.byte_at-count.result b₀.ensures.0
    b₁.ensures.0 c.byte_at-network.ensures.0 c.byte_at-count.ensures.0 b₀.ensures.1 b₁.ensures.1 c.requires
