-- What control data holds, by the format of tables 15 and 17 (SCOPE 12.2, 12.3).
use Rattle.std.specs.Prelude.{List, [], ℕ}
use Rattle.codecs.specs.Codec.{row_read}
use Rattle.kinds.specs.Kind.{content_of}
use Rattle.forms.specs.Tables.{Descriptor, Table, descriptor, table_sent, sent_in}

-- the table in control data n: no strings follow it
unfoldable pub table_of : ℕ → Table
table_of n = table_sent (content_of (sent_in n))

-- the k descriptors at the front of the bits n, whose entries have `each` words
unfoldable pub descriptors_of : ℕ → ℕ → ℕ → List Descriptor
descriptors_of each k n = row_read (descriptor each) k n []
