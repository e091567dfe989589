-- What only private calls cite; nothing here needs to be believed.
use Rattle.std.specs.Prelude.{Bool, not, List, ℕ, eqb, leb, length, get_or}
use Rattle.laws.specs.Pick.{both}
use Rattle.forms.specs.Tables.{TI, numbered}
use Rattle.forms.specs.Form.{opening, table_in}

-- a form whose first rule that doesn't hold is that of its kind
abbrev pub is_other : List ℕ → Bool
is_other f = both (leb opening (length f)) (both (numbered (table_in f).block) (not (eqb (get_or f 0 0) TI)))
