-- What only private calls cite; nothing here needs to be believed.
use Rattle.std.specs.Prelude.{Option, Some, None, List, ℕ, ◌+◌, ◌*◌}
use Rattle.forms.specs.Tables.{Table}
use Rattle.listing.specs.declared.Head.{Head}
use Rattle.listing.specs.Lines.{descriptor_lines_of, lines_of}

-- the lines of a table with those of its head, or without
abbrev pub lines_from : Option Head → Table → List ℕ
lines_from (Some head) t = lines_of head.mended head.second t
lines_from None t = descriptor_lines_of t

-- ---- how long lines can be

-- that of a second byte of 1
abbrev pub joined_most : ℕ
joined_most = 28

-- those of a head
abbrev pub head_most : ℕ
head_most = 128

-- an entry's: a language and a page
abbrev pub entry_most : ℕ
entry_most = 28

-- a descriptor's: its own line, and 255 entries
abbrev pub descriptor_lines_most : ℕ
descriptor_lines_most = 100 + 255 * entry_most

-- a table's: those of its head and of 255 descriptors
abbrev pub lines_most : ℕ
lines_most = head_most + 255 * descriptor_lines_most
