-- What a loop over bytes gives when all that it does with each is to be seen in one byte.
use Rattle.std.specs.Prelude.{List, [], ◌∷◌, ℕ}
use Rattle.std.specs.Int.Bits.{bit_xor}

-- the exclusive or of what f gives for each byte, and of mix
unfoldable pub mixed : (ℕ → ℕ) → List ℕ → ℕ → ℕ
mixed f [] mix = mix
mixed f (b ∷ bs) mix = mixed f bs (bit_xor mix (f b))
