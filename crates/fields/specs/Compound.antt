-- Control data as it is received.
use Rattle.std.specs.Prelude.{List, map, ℕ}
use Rattle.octet.specs.Decoding.{nib}
use Rattle.fields.specs.Fields.{whole}

-- the one number that protected bytes hold, a nibble each and the lowest first (A.3; SCOPE 12.1)
abbrev pub compound : List ℕ → ℕ
compound bytes = whole 4 (map nib bytes)
