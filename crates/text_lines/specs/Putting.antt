-- Lines are put as `put` puts bytes, up to a place that no list passes.
use Rattle.std.specs.Prelude.{List, [], ℕ, leb}
use Rattle.laws.specs.Pick.{pick}
pub use Rattle.text_lines.specs.Put.{Put}

-- no place that a list's lines take is further on: 255 descriptors of 255 entries take less
abbrev pub reach : ℕ
reach = 4000000

-- what is put at q: past `reach`, nothing
abbrev pub within : ℕ → List ℕ → List ℕ
within q xs = pick (leb q reach) xs []
