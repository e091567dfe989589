-- Cases A to E of SCOPE 14.1, from the definitions: they join the one list of all cases in crate `claims`. Assumes nothing.
use mathlib.Core.Path.{◌≡◌, refl}
use mathlib.Core.List.{[], ◌∷◌}
use Rattle.laws.specs.Range.{tabulate}
use Rattle.octet.specs.Bits.{bits, number, differing}
use Rattle.octet.specs.Image.{image, with_parity}
use Rattle.octet.specs.Decoding.{nib, nibble_from, undecodable}
use Rattle.octet.specs.Hearing.{hearing, harm}
use Rattle.octet.specs.declared.Heard.TheVariants.{Mended}
use Rattle.octet.specs.Turning.{turned}

-- A to D: bytes that are decoded, mended (A: and heard so) or refused; E: a byte turned
abbrev pub CasesAtoE : Type 0
CasesAtoE =
    (nib 0x14 ≡ 0) × (hearing 0x14 ≡ Mended 0) × (nib 0x16 ≡ undecodable) × (nib 0x00 ≡ 1) × (nib 0xFF ≡ 14) × (turned 0x15 ≡ 0xA8)

pub cases_a_to_e : CasesAtoE
unfolding nib nibble_from image with_parity differing number turned bits hearing harm
cases_a_to_e = (refl, refl, refl, refl, refl, refl)

-- the images of the sixteen nibbles (SCOPE 5.2)
abbrev pub TheImages : Type 0
TheImages =
    tabulate image 0 16
    ≡ 0x15 ∷ 0x02 ∷ 0x49 ∷ 0x5E ∷ 0x64 ∷ 0x73 ∷ 0x38 ∷ 0x2F ∷ 0xD0 ∷ 0xC7 ∷ 0x8C ∷ 0x9B ∷ 0xA1 ∷ 0xB6 ∷ 0xFD ∷ 0xEA ∷ []

pub the_images : TheImages
unfolding image with_parity number
the_images = refl
