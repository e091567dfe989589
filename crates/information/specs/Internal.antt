-- What only private calls cite; nothing here needs to be believed. The walk that spells information: what stands at its places.
use Rattle.std.specs.Prelude.{List, map, ℕ, ◌+◌, ◌*◌, ◌/◌, ◌%◌, ◌^◌, length, drop}
use Rattle.fields.specs.Fields.{field}
use Rattle.fields.specs.Compound.{compound}
use Rattle.codecs.specs.Codec.{row_read}
use Rattle.codecs.specs.Rows.{each, values_in}
use Rattle.information_forms.specs.Rows.{cut, row_form}
use Rattle.information_forms.specs.Information.{Network, Information, network_format, behind, among}

-- the row of these widths that a number begins with, as a form has it
abbrev pub row_at : List ℕ → ℕ → List ℕ
row_at ws n = row_form (cut ws) (values_in (cut ws) n)

-- the codes of string bytes
abbrev pub spoken : List ℕ → List ℕ
spoken strings = map (λ (b : ℕ). b % 128) strings

-- the k networks that stand behind j others, and the codes behind so many
abbrev pub networks_from : ℕ → ℕ → ℕ → List ℕ → List ℕ → List Network
networks_from k j from control strings = row_read network_format k (compound control / 2 ^ (160 + 100 * j)) (drop from (spoken strings))

-- the first of them
abbrev pub network_from : ℕ → ℕ → List ℕ → List ℕ → Network
network_from j from control strings = network_format.read (compound control / 2 ^ (160 + 100 * j)) (drop from (spoken strings))

-- how many codes their names have
abbrev pub named : List Network → ℕ
named ns = length (each (λ (n : Network). n.name) ns)

-- what control bytes and string bytes hold
unfoldable pub held : List ℕ → List ℕ → Information
held control strings = among (field 26 1 (compound control)) (behind.read (compound control / 2 ^ 28) (spoken strings))
