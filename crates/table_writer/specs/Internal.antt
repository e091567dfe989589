-- What only private calls cite; nothing here needs to be believed. The opening is laid in two fields.
use Rattle.std.specs.Prelude.{List, ℕ, take, drop}
use Rattle.fields.specs.Fields.{Field}
use Rattle.forms.specs.Tables.{Table, fields}

-- checksum, which is 0 until it is known, control_block_size, datatype_id, CA_mode, copyright, reserved
abbrev pub first_fields : ℕ → Table → List Field
first_fields c t = take 6 (fields 0 c 0 t)

-- block_no, netwop_no, the number of descriptors
abbrev pub second_fields : Table → List Field
second_fields t = take 3 (drop 6 (fields 0 0 0 t))
