-- The nibbles of a content's control data: how many there are, that they decode, and that its checksum leaves itself out. Assumes nothing.
use mathlib.Core.Path.{◌≡◌, ◌∙◌, sym, ap}
use mathlib.Core.List.{List, map}
use Prim.Native.Nat.{ℕ, suc, ◌+◌, ◌-◌, ◌*◌, ◌%◌}
use native.Mathlib.Omega.{arith}
use lib.ListN.{length, drop}
use Rattle.octet.specs.Image.{image}
use Rattle.octet.specs.Decoding.{nib}
use Rattle.fields.specs.Fields.{laid, parts}
use Rattle.fields.proofs.Laid.{laid_next, length-parts}
use Rattle.blocks.specs.Sums.{total, checksum, sound}
use Rattle.blocks.proofs.Nibbles.{parts-sound, drop-parts, nibbles-back}
use Rattle.kinds.specs.Kind.{Kind, Content, fields, control}
use Rattle.kinds.specs.Block.{nibbles}
use Rattle.kinds.proofs.Fronts.{four}

module _ {B : Type 0} (k : Kind B) (sum filling : ℕ) (c : Content B) where
  pub nibbles-long : length (nibbles k sum filling c) ≡ 2 * control k c
  unfolding nibbles
  nibbles-long = length-parts 4 (2 * control k c) _

  pub nibbles-sound : sound (nibbles k sum filling c) ≡ length (nibbles k sum filling c)
  unfolding nibbles
  nibbles-sound = parts-sound (2 * control k c) _ ∙ sym (length-parts 4 (2 * control k c) _)

  -- images of them decode to them
  pub nibbles-again : map nib (map image (nibbles k sum filling c)) ≡ nibbles k sum filling c
  unfolding nibbles
  nibbles-again = nibbles-back (2 * control k c) _

  -- those behind the checksum's two are those of the other fields
  pub behind_sum : drop 2 (nibbles k sum filling c) ≡ parts 4 (2 * control k c - 2) (laid (drop 1 (fields k 0 (control k c) c)) filling)
  unfolding nibbles
  behind_sum =
      let two : 2 * control k c ≡ suc (suc (2 * control k c - 2)) = omega (arith, four k c) in
      let n = laid (fields k sum (control k c) c) filling in
      ap (λ (x : ℕ). drop 2 (parts 4 x n)) two ∙ drop-parts (2 * control k c - 2) n
      ∙ ap (parts 4 (2 * control k c - 2)) (laid_next (8, sum) (drop 1 (fields k 0 (control k c) c)) filling)

-- so it is the same whatever stands in its place
pub sum-apart :
    {B : Type 0} (k : Kind B) (head s₁ s₂ filling : ℕ) (c : Content B)
    → checksum head (nibbles k s₁ filling c) ≡ checksum head (nibbles k s₂ filling c)
unfolding checksum
sum-apart k head s₁ s₂ filling c =
    ap (λ (ns : List ℕ). (256 - (total (parts 4 4 head) + total ns) % 256) % 256) (behind_sum k s₁ filling c ∙ sym (behind_sum k s₂ filling c))
