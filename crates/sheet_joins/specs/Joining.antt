-- Two sheets joined (SCOPE 20.8, 30.2).
use Rattle.std.specs.Prelude.{Bool, List, map, leb}
use Rattle.laws.specs.Orders.{before, in_turn, greater}
use Rattle.sheet_entry.specs.Entries.{Entry, table_lines}
use Rattle.sheet_joins.specs.Along.{Stands, in_first, in_second, in_both, along}

-- by the stamp
abbrev pub by_stamp : Entry → Entry → Bool
by_stamp a b = leb a.stamp b.stamp

-- by the table's lines, byte by byte, a prefix first
abbrev pub by_lines : Entry → Entry → Bool
by_lines a b = before (table_lines a) (table_lines b)

-- by what was mended: the smaller number stands above
abbrev pub by_mended : Entry → Entry → Bool
by_mended a b = leb b.mended a.mended

-- the order on the entries of a key: the stamp, then the lines, then what was mended, which never decides in the old form
abbrev pub at_most : Entry → Entry → Bool
at_most = in_turn by_stamp (in_turn by_lines by_mended)

-- what stays at a key: of two entries the greater
abbrev pub staying : Stands → Entry
staying (in_first x) = x
staying (in_second y) = y
staying (in_both x y) = greater at_most x y

-- for each key what stays, in the order of keys
unfoldable pub joined : List Entry → List Entry → List Entry
joined xs ys = map staying (along xs ys)
