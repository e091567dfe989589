-- `blocks::sums::checks` meets its contract: antt computes, over all bytes, that it is 0 exactly where the byte has no harm. Assumes nothing.
use borrow.Author.Rules.{rules}
use Prim.Native.Nat.{ℕ, ◌+◌, ◌*◌, ◌/◌, ◌%◌}
use lib.Bits.{bit_and, bit_xor}
use lib.Dec.{eqb, eqb→eq}
use Rattle.laws.specs.Pick.{pick}
use Rattle.laws.proofs.Whole.{all-at}
use Rattle.octet.specs.Bits.{number, differing}
use Rattle.octet.specs.Image.{image, with_parity}
use Rattle.octet.specs.Decoding.{nib, nibble_from}
use Rattle.octet.specs.Hearing.{harm}
use Rattle.blocks.proofs.sums.checks.Goals as goal

-- what the code computes
abbrev checked : ℕ → ℕ
checked b = bit_xor (bit_and (bit_xor (bit_xor (bit_xor b (b / 2)) (b / 32 + b % 32 * 8)) (b / 128 + b % 128 * 2)) 0x55) 0x15

pub returns : goal.returns
unfolding harm nib nibble_from image with_parity differing number
returns c = eqb→eq _ _ (all-at (λ (b : ℕ). eqb (harm b) (pick (eqb (checked b) 0) 0 1)) 256 tt c.args.b (search rules))
