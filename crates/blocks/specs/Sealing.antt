-- A record that is written: its head first, and last the checksum, which is 0 until then.
use Rattle.std.specs.Prelude.{List, [], ◌∷◌, map, ℕ, ◌/◌, ◌%◌, take, drop}
use Rattle.std.proofs.lemmas.List.Edits.{sets}
use Rattle.octet.specs.Decoding.{nib}
use Rattle.octet.specs.Image.{image}
use Rattle.fields.specs.Fields.{parts}
use Rattle.blocks.specs.Block.{head_length}
use Rattle.blocks.specs.Sums.{checksum}

-- the bytes before the raw bytes, of a block with these 16 bits: what is written was not mended and spans no pages, so its part and its second
-- byte are 0 (SCOPE 10.3, 19.3, 26.1)
abbrev pub head_bytes : ℕ → List ℕ
head_bytes head = head % 256 ∷ head / 256 % 256 ∷ 0 ∷ 0 ∷ []

-- the checksum over so many raw bytes of a record, the control data's
abbrev pub sum_in : ℕ → ℕ → List ℕ → ℕ
sum_in head control r = checksum head (map nib (take control (drop head_length r)))

-- its two nibbles in their places, which are a block's first two bytes (11.1.2; SCOPE 12.5)
unfoldable pub sealed : ℕ → ℕ → List ℕ → List ℕ
sealed head control r = sets r head_length (map image (parts 4 2 (sum_in head control r)))
