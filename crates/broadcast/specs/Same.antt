-- Whether two records are one block, sent twice (SCOPE 31).
use Rattle.std.specs.Prelude.{Bool, true, false, List, [], ◌∷◌, ℕ, eqb, ltb, length, drop}
use Rattle.laws.specs.Pick.{both, either}
use Rattle.octet.specs.Decoding.{nib, undecodable}
use Rattle.blocks.specs.Block.{head_length, head_of}

-- two raw bytes are equal, or both decode to one nibble
unfoldable pub alike : ℕ → ℕ → Bool
alike a b = either (eqb a b) (both (ltb (nib a) undecodable) (eqb (nib a) (nib b)))

-- byte by byte
unfoldable pub alikes : List ℕ → List ℕ → Bool
alikes [] [] = true
alikes [] (b ∷ q) = false
alikes (a ∷ r) [] = false
alikes (a ∷ r) (b ∷ q) = both (alike a b) (alikes r q)

-- as long, with equal 16 bits and raw bytes that are alike; their parts and second bytes aren't compared
unfoldable pub same_block : List ℕ → List ℕ → Bool
same_block r q =
    both (eqb (length r) (length q))
    (both (eqb (head_of r) (head_of q)) (alikes (drop head_length r) (drop head_length q)))
