-- What damage to a record's bytes can do, for any kind. Control bytes that are mended change nothing but the count; a control byte that
-- can't be decoded, or a string byte of wrong parity, is never passed over. Assumes nothing.
use mathlib.Core.Path.{◌≡◌, ◌∙◌, sym}
use mathlib.Core.Bool.{false, true≢false}
use mathlib.Core.List.{List, map}
use Prim.Native.Nat.{ℕ, ◌*◌, ◌≤◌, ◌<◌}
use native.Mathlib.Omega.{arith}
use lib.ListN.{length, get_or, take, drop}
use Rattle.answer.specs.Rules.{Every}
use Rattle.octet.specs.Decoding.{nib}
use Rattle.parity.specs.Parity.{is_odd}
use Rattle.parity.proofs.Letters.{odds-at}
use Rattle.blocks.specs.Block.{head_of}
use Rattle.blocks.specs.Parts.{InRange}
use Rattle.blocks.proofs.Nibbles.{sound-at}
use Rattle.blocks.specs.Outcome.{accepted}
use Rattle.blocks.proofs.Framed.{accepts}
use Rattle.kinds.specs.Kind.{Kind, Content, control}
use Rattle.kinds.specs.Block.{Says}
use Rattle.kinds.specs.Reading.{control_part, string_part, mended_of, content_in, read_rules, read_as}
use Rattle.kinds.proofs.Fronts.{Owed}
use Rattle.kinds.proofs.Exact.{decodes-all, odd-all}

module _ {B : Type 0} (k : Kind B) where
  -- a record with the same 16 bits as one that says a content, whose control bytes decode alike and whose string bytes are the same, says it
  pub says-alike :
      (application : ℕ) (r r' : List ℕ) (c : Content B) (filling : ℕ) → InRange r → head_of r ≡ head_of r'
      → map nib (take (2 * control k c) (drop 4 r)) ≡ map nib (take (2 * control k c) (drop 4 r'))
      → drop (2 * control k c) (drop 4 r) ≡ drop (2 * control k c) (drop 4 r')
      → Says k application r' c filling
      → Says k application r c filling
  says-alike application r r' c filling i h n l s =
      record {
        within = s.within;
        sendable = s.sendable;
        filled = s.filled;
        ranged = i;
        head = h ∙ s.head;
        body = n ∙ s.body;
        codes = l ∙ s.codes;
      }

  module _
      (o : Owed k) {A : Type 0} (value : Content B → A) (application at : ℕ) (r : List ℕ) (v : A) (m : ℕ)
      (e : read_as k value application r ≡ accepted v m)
    where
      every : Every (read_rules k application r)
      unfolding read_as
      every = (accepts (read_rules k application r) (value (content_in k (drop 4 r))) v (mended_of k.spoken r) m e).0

      -- a record with a control byte that can't be decoded is never accepted
      pub broken-refused :
          at < length (map nib (control_part k.spoken (drop 4 r))) → 16 ≤ get_or (map nib (control_part k.spoken (drop 4 r))) at 0 → ⊥
      broken-refused h b =
          let small = sound-at (map nib (control_part k.spoken (drop 4 r))) at (decodes-all k o application r every) h in omega arith

      -- nor one with a string byte of wrong parity
      pub parity_refused :
          at < length (string_part k.spoken (drop 4 r)) → is_odd (get_or (string_part k.spoken (drop 4 r)) at 0) ≡ false → ⊥
      parity_refused h b = true≢false (sym (odds-at (string_part k.spoken (drop 4 r)) at (odd-all k o application r every) h) ∙ b)
