-- The record that is written for a content says it, none of its bytes is mended, and it reads back, for any kind. Assumes nothing.
use mathlib.Core.Path.{◌≡◌, ◌∙◌, refl, sym, ap}
use mathlib.Core.Bool.{true}
use mathlib.Core.List.{List, ◌++◌, map}
use Prim.Native.Nat.{ℕ, ◌*◌, ◌^◌, ◌<◌}
use native.Mathlib.Nat.{zero-add}
use native.Mathlib.Omega.{arith}
use lib.ListN.{length, take, drop, length-map}
use lib.Seq.{take-append_seam, drop-append_seam}
use Rattle.octet.specs.Image.{image}
use Rattle.octet.specs.Decoding.{nib}
use Rattle.octet.specs.Hearing.{harms}
use Rattle.octet.proofs.Hearing.{harms_images}
use Rattle.parity.specs.Parity.{letter}
use Rattle.blocks.specs.Outcome.{accepted}
use Rattle.kinds.specs.Kind.{Kind, Content, control, fill, strings, fits}
use Rattle.kinds.specs.Block.{nibbles, checksum_of, block_with, record_with, Says, Means}
use Rattle.kinds.specs.Reading.{mended_of, read_as}
use Rattle.kinds.proofs.Fronts.{Owed}
use Rattle.kinds.proofs.Laying.{nibbles-long, nibbles-again}
use Rattle.kinds.proofs.Exact.{said-parts, means-accepted}

module _ {B : Type 0} (k : Kind B) (application filling : ℕ) (c : Content B) where
  abbrev sum : ℕ
  sum = checksum_of k application filling c

  -- its protected bytes and its string bytes
  abbrev xs : List ℕ
  xs = map image (nibbles k sum filling c)

  abbrev ys : List ℕ
  ys = map letter (strings k c)

  pub images-long : 2 * control k c ≡ length xs
  images-long = sym (length-map (nibbles k sum filling c) image ∙ nibbles-long k sum filling c)

  taken-images : take (2 * control k c) (xs ++ ys) ≡ xs
  taken-images = ap (λ (n : ℕ). take n (xs ++ ys)) images-long ∙ take-append_seam xs ys

  -- a content that can be sent, with anything above its fields, is said by its record
  pub record-says :
      application < 32 → fits k c ≡ true → filling < 2 ^ fill k c → Says k application (record_with k application filling c) c filling
  unfolding block_with
  record-says a f h =
      record {
        within = a;
        sendable = f;
        filled = h;
        ranged = refl;
        head = omega arith;
        body = ap (map nib) taken-images ∙ nibbles-again k sum filling c;
        codes = ap (λ (n : ℕ). drop n (xs ++ ys)) images-long ∙ drop-append_seam xs ys;
      }

  module _ (o : Owed k) (a : application < 32) (f : fits k c ≡ true) (h : filling < 2 ^ fill k c) where
    abbrev r : List ℕ
    r = record_with k application filling c

    -- none of its bytes is mended
    pub with_none : mended_of k.spoken r ≡ 0
    unfolding mended_of block_with
    with_none =
        zero-add _ ∙ ap harms ((said-parts k o application r c filling (record-says a f h)).first ∙ taken-images) ∙ harms_images (nibbles k sum filling c)

    module _ {A : Type 0} (value : Content B → A) where
      pub record-means : Means k value application r (value c)
      record-means = record { content = c; filling = filling; says = record-says a f h; meant = refl }

      -- whatever stands above its fields, the same value is read, and no byte was mended (SCOPE 12.10, 23.3)
      pub reads-any : read_as k value application r ≡ accepted (value c) 0
      reads-any = means-accepted k o value application r (value c) record-means ∙ ap (accepted (value c)) with_none
