-- Where a PES packet begins among bytes that may be anything (SCOPE 6.13).
use Rattle.std.specs.Prelude.{◌≡◌, Bool, true, false, List, [], ◌∷◌, ℕ, suc, ◌<◌, ◌≤◌, leb, length, drop}
use Rattle.std.specs.declared.option.Option.{Option}
use Rattle.std.specs.declared.option.Option.TheVariants.{None, Some}
use Rattle.laws.specs.Pick.{pick, both}
use Rattle.pes.specs.Header.{starts_right, pes_length, length_fits}

-- bytes begin as a packet does: "00 00 01 BD", then a PES_packet_length that reading takes
abbrev pub begins_packet : List ℕ → Bool
begins_packet bytes = both (leb 6 (length bytes)) (both (starts_right bytes) (length_fits (pes_length bytes)))

-- the first place where a packet begins, of bytes whose first stands at the place `at`
unfoldable pub first_in : List ℕ → ℕ → Option ℕ
first_in [] at = None
first_in (b ∷ bs) at = pick (begins_packet (b ∷ bs)) (Some at) (first_in bs (suc at))

-- a packet begins at `at`, and at no place before it from `from` on
pub record First (s : List ℕ) (from at : ℕ) : Type 0 where
  pub ahead : from ≤ at
  pub here : begins_packet (drop at s) ≡ true
  pub none : (k : ℕ) → from ≤ k → k < at → begins_packet (drop k s) ≡ false

-- what the search answers tells this
abbrev pub Tells : List ℕ → ℕ → Option ℕ → Type 0
Tells s from (Some at) = First s from at
Tells s from None = (k : ℕ) → from ≤ k → begins_packet (drop k s) ≡ false
