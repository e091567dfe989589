-- The output that a program lends to the call it tries: filled with A5 before, so that what the call leaves can be told.
use Rattle.std.specs.Prelude.{ℕ}

-- what the lent output is filled with
abbrev pub filler : ℕ
filler = 165
