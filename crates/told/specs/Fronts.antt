-- The front of some bytes.
use Rattle.std.specs.Prelude.{List, [], ℕ, leb, length, take}
use Rattle.laws.specs.Pick.{pick}

-- the first n bytes; none where there are fewer
abbrev pub front_of : ℕ → List ℕ → List ℕ
front_of n s = pick (leb n (length s)) (take n s) []
