-- What a block's nibbles sum up to, and how many of them there are before one that can't be decoded.
use Rattle.std.specs.Prelude.{List, [], ◌∷◌, ℕ, suc, ◌+◌, ◌-◌, ◌%◌, ltb, drop}
use Rattle.laws.specs.Pick.{pick}
use Rattle.fields.specs.Fields.{parts}

unfoldable pub total : List ℕ → ℕ
total [] = 0
total (n ∷ ns) = n + total ns

-- what is missing to a multiple of 256 when all nibbles are added up, those of application_id and block_size and those of the control data
-- but for the checksum itself, which are a block's first two (11.1.2; SCOPE 12.5)
unfoldable pub checksum : ℕ → List ℕ → ℕ
checksum head nibbles = (256 - (total (parts 4 4 head) + total (drop 2 nibbles)) % 256) % 256

-- how many of these come before the first that can't be decoded
unfoldable pub sound : List ℕ → ℕ
sound [] = 0
sound (n ∷ ns) = pick (ltb n 16) (suc (sound ns)) 0
