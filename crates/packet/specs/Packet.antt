-- A packet of the guide page, 42 bytes.
use Rattle.std.specs.Prelude.{List, [], ◌∷◌, ◌++◌, ℕ, ◌+◌, ◌*◌, ◌/◌, ◌%◌, replicate}
use Rattle.octet.specs.Image.{image}
use Rattle.packet.specs.declared.Setting.{Setting}

abbrev pub packet_length : ℕ
packet_length = 42

-- the address: the image of the magazine, 8 as 0, with the lowest bit of Y on top; then that of Y's other bits (SCOPE 7.1)
abbrev pub address : ℕ → ℕ → List ℕ
address magazine y = image (magazine % 8 + 8 * (y % 2)) ∷ image (y / 2) ∷ []

-- packet 0 (SCOPE 7.3): after the address the page's units and tens, the index in S1, the low three bits of n in S2, the stream in S3, the
-- two bits above them in S4 (SCOPE 7.4), then two bytes and 32 characters; all control bits are 0 and each character is 20 (SCOPE 7.5)
unfoldable pub packet_zero : Setting → ℕ → ℕ → List ℕ
packet_zero s index n =
    address s.magazine 0
    ++ (image (s.page % 16) ∷ image (s.page / 16) ∷ image index ∷ image (n % 8) ∷ image s.stream ∷ image (n / 8) ∷ [])
    ++ (image 0 ∷ image 0 ∷ [])
    ++ replicate 32 0x20

-- packet Y: its address, its pointer, and the bytes that follow
unfoldable pub packet_of : Setting → ℕ → ℕ → List ℕ → List ℕ
packet_of s y pointer bytes = address s.magazine y ++ image pointer ∷ bytes
