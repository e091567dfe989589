-- Bytes put into lent bytes at a place, as far as there is room, and the place after them. The place goes on where there is no
-- room, so that one walk both measures and writes.
use Rattle.std.specs.Prelude.{◌≡◌, List, [], ℕ, ◌+◌, leb, length}
use Rattle.std.proofs.lemmas.List.Edits.{sets}
use Rattle.laws.specs.Pick.{pick}

-- xs, put into `out` at q, makes it `out'`, and q' is the place after them
pub record Put (out : List ℕ) (q : ℕ) (xs out' : List ℕ) (q' : ℕ) : Type 0 where
  pub stored : out' ≡ sets out q xs
  pub moved : q' ≡ q + length xs

-- the last place of all: the greatest number of 64 bits
abbrev pub last : ℕ
last = 18446744073709551615

-- what is put at q: nothing, where the place after it would be past the last one
abbrev pub placed : ℕ → List ℕ → List ℕ
placed q xs = pick (leb (q + length xs) last) xs []
