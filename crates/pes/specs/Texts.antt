-- The data_identifier, and the bytes of a text unit as they stand turned: EN 300 472, 4.3 and 4.4.
use Rattle.std.specs.Prelude.{Bool, List, map, ℕ, ◌+◌, leb, length, take, drop}
use Rattle.std.proofs.lemmas.List.Edits.{sets}
use Rattle.laws.specs.Pick.{pick, both}
use Rattle.octet.specs.Turning.{turned}

-- table 3: 0x10 to 0x1F is EBU data (SCOPE 6.3)
abbrev pub ebu_data : ℕ → Bool
ebu_data d = both (leb 0x10 d) (leb d 0x1F)

-- the bytes of a text unit after its framing byte
abbrev pub text_bytes : ℕ
text_bytes = 42

-- the bytes of a record: a unit's id, its line byte, its text
abbrev pub record_size : ℕ
record_size = 44

-- 42 bytes from a place on, each turned (SCOPE 6.6)
abbrev pub text_of : List ℕ → ℕ → List ℕ
text_of src from = map turned (take text_bytes (drop from src))

-- they stand in out from a place on; out is as it was where either has no 42 bytes from its place on
unfoldable pub with_text : List ℕ → ℕ → List ℕ → ℕ → List ℕ
with_text src from out to =
    pick (both (leb (from + text_bytes) (length src)) (leb (to + text_bytes) (length out))) (sets out to (text_of src from)) out
