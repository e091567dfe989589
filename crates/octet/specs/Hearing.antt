-- How a byte was heard (SCOPE 19.2): as the image of a nibble, as a byte that is mended to a nibble, or as neither; and how many bytes
-- of a list differ from the image of their nibble.
use Rattle.std.specs.Prelude.{List, [], ◌∷◌, ℕ, ◌+◌, ◌*◌, eqb}
use Rattle.laws.specs.Pick.{pick}
use Rattle.octet.specs.declared.Heard.{Heard}
use Rattle.octet.specs.declared.Heard.TheVariants.{Image, Mended, Neither}
use Rattle.octet.specs.Image.{image}
use Rattle.octet.specs.Decoding.{nib, undecodable}

-- 0 where b is the image of its nibble, 1 where it differs from it (a byte that decodes to nothing has no nibble and differs from all)
unfoldable pub harm : ℕ → ℕ
harm b = pick (eqb b (image (nib b))) 0 1

-- how many bytes of a list do
unfoldable pub harms : List ℕ → ℕ
harms [] = 0
harms (b ∷ bs) = harm b + harms bs

-- a byte's nibble, or 16, and its harm in one number
unfoldable pub mark : ℕ → ℕ
mark b = nib b + 32 * harm b

-- a byte that decodes to nothing is neither; another is an image or is mended, with the nibble that it decodes to
unfoldable pub hearing : ℕ → Heard
hearing b =
    pick (eqb (nib b) undecodable) Neither
    (pick (eqb (harm b) 0) (Image (nib b)) (Mended (nib b)))

-- the number of each case: its nibble, 0 to 15, or 16
abbrev pub number_of : Heard → ℕ
number_of (Image n) = n
number_of (Mended n) = n
number_of Neither = undecodable

-- whether it was mended: 1, else 0
abbrev pub mended_of : Heard → ℕ
mended_of (Image n) = 0
mended_of (Mended n) = 1
mended_of Neither = 0
