-- What damage to a record's bytes can do. Control bytes that are mended change nothing but the count. A string byte with one flip is always
-- refused; with two it may be another letter of right parity, and then a menu is read that was not sent: demand 3 can't be had for menus.
-- Assumes nothing.
use mathlib.Core.Path.{◌≡◌, ◌∙◌, refl, sym, ap, subst}
use mathlib.Core.Bool.{Bool, true, false}
use mathlib.Core.List.{List, [], ◌∷◌, map}
use Prim.Native.Nat.{ℕ, zero, suc, ◌+◌, ◌*◌, ◌/◌, ◌%◌, ◌<◌}
use native.Mathlib.Omega.{arith}
use lib.Dec.{eqb}
use lib.ListN.{length, get_or, take, drop, set}
use borrow.Author.Tests.{eqb-true, eqb-false, ne_eqb}
use Rattle.laws.specs.Pick.{pick}
use Rattle.blocks.specs.Block.{head_of}
use Rattle.octet.specs.Decoding.{nib}
use Rattle.octet.specs.Bits.{flips, differing, number}
use Rattle.octet.specs.Image.{image, with_parity}
use Rattle.fields.specs.Fields.{width, laid, fitting, parts}
use Rattle.blocks.specs.Parts.{InRange}
use Rattle.blocks.specs.Sums.{total, checksum}
use Rattle.blocks.specs.Outcome.{accepted}
use Rattle.parity.specs.Parity.{is_odd, ones, letter}
use Rattle.kinds.specs.Kind.{control as kind_control, fits as kind_fits}
use Rattle.kinds.specs.Block.{nibbles, checksum_of, block_with}
use Rattle.kinds.proofs.Noise as Kinds
use Rattle.menu_forms.specs.Menus.{Menu, navigation, menu_sent, control, sevens, fits, fill_up, text_format, event_format}
use Rattle.menu_forms.specs.Block.{record_of, Says}
use Rattle.menu_forms.proofs.Formats.{owed, control-sent}
use Rattle.menu_reader.specs.Reading.{string_part, mended_control, read_menu}
use Rattle.menu_reader.proofs.Exact.{says-accepted}
use Rattle.menu_reader.proofs.Written.{writes-back}

-- a record with the same 16 bits as one that says a menu, whose control bytes decode alike and whose string bytes are the same: the same
-- menu, with its own count
pub reads-alike :
    (application : ℕ) (r r' : List ℕ) (m : Menu) → InRange r → head_of r ≡ head_of r'
    → map nib (take (2 * control m) (drop 4 r)) ≡ map nib (take (2 * control m) (drop 4 r'))
    → drop (2 * control m) (drop 4 r) ≡ drop (2 * control m) (drop 4 r')
    → Says application r' m
    → read_menu application r ≡ accepted m (mended_control r)
reads-alike application r r' m i h n l s =
    let e : kind_control navigation s.content ≡ control m = control-sent s.content ∙ ap control s.meant in
    let at = sym (ap (λ (x : ℕ). 2 * x) e) in
    says-accepted application r m
    (record {
      content = s.content;
      filling = s.filling;
      says =
          Kinds.says-alike navigation application r r' s.content s.filling i h
          (subst (λ (x : ℕ). map nib (take x (drop 4 r)) ≡ map nib (take x (drop 4 r'))) at n)
          (subst (λ (x : ℕ). drop x (drop 4 r) ≡ drop x (drop 4 r')) at l) s.says;
      meant = s.meant;
    })

-- a record with a string byte of wrong parity is never accepted
pub parity_refused :
    (application k : ℕ) (r : List ℕ) (m : Menu) (c : ℕ) → k < length (string_part (drop 4 r)) → is_odd (get_or (string_part (drop 4 r)) k 0) ≡ false
    → read_menu application r ≡ accepted m c
    → ⊥
parity_refused application k r m c h b e = Kinds.parity_refused navigation owed menu_sent application k r m c e h b

-- the ones of two numbers, and the bits in which they differ, are an even number
even_in_all : (k a b : ℕ) → (ones k a + ones k b + differing k a b) % 2 ≡ 0
unfolding ones differing
even_in_all zero a b = refl
even_in_all (suc k) a b = go (eqb (a % 2) (b % 2)) refl (even_in_all k (a / 2) (b / 2))
  where
    go :
        (t : Bool) → eqb (a % 2) (b % 2) ≡ t → (ones k (a / 2) + ones k (b / 2) + differing k (a / 2) (b / 2)) % 2 ≡ 0
        → (a % 2 + ones k (a / 2) + (b % 2 + ones k (b / 2)) + (pick t 0 1 + differing k (a / 2) (b / 2))) % 2 ≡ 0
    go true e rest = omega (arith, eqb-true (a % 2) (b % 2) e)
    go false e rest = omega (arith, eqb-false (a % 2) (b % 2) e)

-- a string byte with one flip has wrong parity, and is refused by it
pub one_flip : (a b : ℕ) → is_odd a ≡ true → flips a b ≡ 1 → is_odd b ≡ false
unfolding is_odd
one_flip a b h f = ne_eqb (ones 8 b % 2) 1 (λ e. omega (arith, even_in_all 8 a b, eqb-true (ones 8 a % 2) 1 h))

-- a menu of one string
abbrev titled : List ℕ → Menu
titled codes =
    record {
      copyright = 0;
      block = 0;
      header_size = 1;
      message_size = 0;
      message = 0;
      descriptors = [];
      header = record { escapes = []; codes = codes };
      events = [];
    }

-- "Golf" and "Gold"
abbrev pub golf : Menu
golf = titled (0x47 ∷ 0x6F ∷ 0x6C ∷ 0x66 ∷ [])

abbrev pub gold : Menu
gold = titled (0x47 ∷ 0x6F ∷ 0x6C ∷ 0x64 ∷ [])

-- the record of "Golf" with its last byte changed
abbrev pub damaged : List ℕ
damaged = set (record_of 1 golf) 29 0x64

pub record Misread : Type 0 where
  -- "Golf" is sent and can be read
  pub sent : read_menu 1 (record_of 1 golf) ≡ accepted golf 0
  -- two bits of one byte arrive wrong
  pub flipped : flips (get_or (record_of 1 golf) 29 0) 0x64 ≡ 2
  -- and "Gold" is read, with nothing mended
  pub heard : read_menu 1 damaged ≡ accepted gold 0
  pub differs : golf ≡ gold → ⊥

gold_made : damaged ≡ record_of 1 gold
unfolding block_with checksum_of checksum total nibbles text_format fill_up width laid parts letter ones image with_parity number
gold_made = refl

pub misread : Misread
misread =
    record {
      sent = writes-back 1 golf (omega arith) (unfold fits kind_fits fitting text_format event_format fill_up sevens width in refl);
      flipped =
          unfold block_with checksum_of checksum total nibbles text_format fill_up width laid parts letter ones differing in refl;
      heard =
          ap (read_menu 1) gold_made
          ∙ writes-back 1 gold (omega arith) (unfold fits kind_fits fitting text_format event_format fill_up sevens width in refl);
      differs = λ (e : golf ≡ gold). let n = ap (λ (m : Menu). get_or m.header.codes 3 0) e in omega arith;
    }
