-- A case computed: information without networks and names, every value 0. Assumes nothing.
use mathlib.Core.Path.{◌≡◌, refl}
use mathlib.Core.List.{◌∷◌}
use lib.ListN.{replicate}
use Rattle.octet.specs.Bits.{number}
use Rattle.octet.specs.Image.{image, with_parity}
use Rattle.fields.specs.Fields.{width, laid, parts, whole}
use Rattle.codecs.specs.Rows.{codes_in, in_row, rowed}
use Rattle.blocks.specs.Sums.{total, checksum}
use Rattle.kinds.specs.Block.{nibbles, checksum_of, block_with}
use Rattle.information_forms.specs.Rows.{row_bytes, row_in}
use Rattle.information_forms.specs.Information.{fill_up}
use Rattle.information_forms.specs.Form.{information_in}
use Rattle.information_forms.specs.Kind.{record_of}

-- application 1: the form of 01 and nineteen 00
pub case_empty :
    record_of 1 (information_in (1 ∷ replicate 19 0)) ≡ 1 ∷ 5 ∷ 0 ∷ 0 ∷ 2 ∷ 234 ∷ 100 ∷ 2 ∷ 100 ∷ replicate 35 21
unfolding block_with checksum_of nibbles checksum total image with_parity number width laid parts whole codes_in in_row rowed row_bytes row_in fill_up information_in
case_empty = refl
