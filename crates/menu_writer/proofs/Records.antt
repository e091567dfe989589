-- A menu's record, part by part, and when a form is refused. Assumes nothing.
use mathlib.Core.Path.{◌≡◌, ◌∙◌, sym, ap, ap₂}
use mathlib.Core.Bool.{Bool, true, false}
use mathlib.Core.List.{List, ◌∷◌, ◌++◌, map}
use Prim.Native.Nat.{ℕ, ◌+◌, ◌*◌, ◌/◌, ◌%◌, ◌<◌, ◌≤◌}
use native.Mathlib.Omega.{arith}
use borrow.Author.Tests.{lt-ltb, le-ltb, le-leb, lt-leb, eq-eqb, ne_eqb, ltb-true}
use lib.Dec.{ltb}
use lib.ListN.{length, get_or, drop, length-append, length-map}
use lib.Seq.{sets}
use Rattle.std.specs.declared.result.Result.TheVariants.{Ok}
use Rattle.laws.specs.Pick.{both}
use Rattle.laws.proofs.Tests.{both-second}
use Rattle.answer.specs.Answer.{Answer}
use Rattle.answer.specs.Rules.{judged}
use Rattle.answer.specs.Values.{refused}
use Rattle.answer.proofs.Steps.{done_every, first_holds, others_hold}
use Rattle.octet.specs.Image.{image}
use Rattle.octet.specs.Decoding.{nib}
use Rattle.fields.specs.Fields.{width, fitting, parts}
use Rattle.blocks.specs.Sums.{checksum}
use Rattle.blocks.specs.Sealing.{head_bytes, sealed}
use Rattle.blocks.proofs.Sealing.{head_of, record-sealed}
use Rattle.kinds.specs.Block.{checksum_of as kind_checksum_of, block_with as kind_block_with}
use Rattle.kinds.proofs.Laying.{nibbles-again}
use Rattle.parity.specs.Parity.{letter}
use Rattle.menu_forms.specs.Menus.{Menu, zeros, navigation, content, fields, strings, control, size, fits, sevens}
use Rattle.menu_forms.specs.Form.{form, menu_in}
use Rattle.menu_forms.specs.Writing.{form_rules, write_rules}
use Rattle.menu_forms.specs.Block.{in_nibbles, nibbles, checksum_of, record_of}
use Rattle.menu_forms.proofs.Formats.{fits_by}
use Rattle.menu_forms.proofs.Saying.{nibbles-long as spelled-long, sum_first}
use Rattle.menu_writer.specs.declared.Tally.{Tally}
use Rattle.menu_writer.specs.Internal.{Whole}

-- control data ends on a whole byte
module _ (m : Menu) (c : ℕ) (whole : 8 * c ≡ width (fields 0 0 zeros m)) where
  pub control-is : c ≡ control m
  control-is = omega (arith, whole)

  pub nibbles-long : (s : ℕ) → length (map image (nibbles s zeros m)) ≡ 2 * c
  nibbles-long s = length-map (nibbles s zeros m) image ∙ spelled-long s zeros m ∙ ap (λ (x : ℕ). 2 * x) (sym control-is)

  pub record_long : (application : ℕ) → length (record_of application m) ≡ 4 + (2 * c + length (strings m))
  unfolding kind_block_with strings
  record_long application =
      let s = checksum_of application zeros m in
      let l = length-append (map image (nibbles s zeros m)) (map letter (strings m)) in
      omega (arith, l, nibbles-long s, length-map (strings m) letter)

-- fields behind the checksum
rest : Menu → List ℕ
rest m = in_nibbles (drop 1 (fields 0 (control m) zeros m))

split : (s : ℕ) (m : Menu) → nibbles s zeros m ≡ s % 16 ∷ s / 16 % 16 ∷ rest m
unfolding rest parts
split s m = sum_first s zeros m

module _ (application c : ℕ) (m : Menu) (la : application < 32) (ls : size m < 2048) (whole : 8 * c ≡ width (fields 0 0 zeros m)) (out : List ℕ)
    (room : 4 + size m ≤ length out) where
  back : map nib (map image (nibbles 0 zeros m)) ≡ nibbles 0 zeros m
  back = nibbles-again navigation 0 0 (content zeros m)

  pub record-sent :
      (o1 o2 o3 o4 : List ℕ) (k head : ℕ) → k ≡ 2 * c → head ≡ application + 32 * size m → o1 ≡ sets out 0 (head_bytes head)
      → o2 ≡ sets o1 4 (map image (nibbles 0 zeros m))
      → o3 ≡ sets o2 (4 + k) (map letter (strings m))
      → o4 ≡ sealed head k o3
      → o4 ≡ sets out 0 (record_of application m)
  unfolding kind_block_with kind_checksum_of strings fields
  record-sent o1 o2 o3 o4 k head hk hh e1 e2 e3 e4 =
      let ys = map letter (strings m) in
      let xs = nibbles 0 zeros m in
      let h = head_of application (size m) la ls in
      let long : k ≡ length xs = hk ∙ sym (nibbles-long m c whole 0) ∙ length-map xs image in
      let fits : length (head % 256 ∷ head / 256 ∷ 0 ∷ 0 ∷ (map image xs ++ ys)) ≤ length out =
      omega (arith, length-append (map image xs) ys, nibbles-long m c whole 0, length-map (strings m) letter, control-is m c whole, room) in
      record-sealed head (λ (s : ℕ). nibbles s zeros m) ys out (rest m) (λ s l. split s m) (rw hh h.1) back fits k long e1 e2 e3 e4
      ∙ ap (λ (x : ℕ). sets out 0 (x % 256 ∷ x / 256 ∷ 0 ∷ 0 ∷ (map image (nibbles (checksum x xs) zeros m) ++ ys))) (hh ∙ h.0)

-- ---- when a form is refused

module _ (application : ℕ) (f : List ℕ) (a : Answer) where
  pub by-16 : 32 ≤ application → judged refused (write_rules application f) a ≡ refused 16 0
  by-16 h = rw (le-ltb application 32 h)

  module _ (h₀ : application < 32) where
    pub by-13 : length f < 9 → judged refused (write_rules application f) a ≡ refused 13 0
    unfolding form_rules
    by-13 h = rw (lt-ltb application 32 h₀, lt-leb 9 (length f) h)

    module _ (h₁ : 9 ≤ length f) where
      pub by-15 : (get_or f 0 0 ≡ 3 → ⊥) → judged refused (write_rules application f) a ≡ refused 15 0
      unfolding form_rules
      by-15 h = rw (lt-ltb application 32 h₀, le-leb 9 (length f) h₁, ne_eqb (get_or f 0 0) 3 h)

      module _ (h₂ : get_or f 0 0 ≡ 3) where
        pub by-13' : (length f ≡ length (form (menu_in f)) → ⊥) → judged refused (write_rules application f) a ≡ refused 13 0
        unfolding form_rules
        by-13' h = rw (lt-ltb application 32 h₀, le-leb 9 (length f) h₁, eq-eqb (get_or f 0 0) 3 h₂, ne_eqb (length f) (length (form (menu_in f))) h)

        module _ (h₃ : length f ≡ length (form (menu_in f))) where
          pub by-15' : fits (menu_in f) ≡ false → judged refused (write_rules application f) a ≡ refused 15 0
          unfolding form_rules
          by-15' h = rw (lt-ltb application 32 h₀, le-leb 9 (length f) h₁, eq-eqb (get_or f 0 0) 3 h₂, eq-eqb (length f) (length (form (menu_in f))) h₃, h)

          pub by-none : fits (menu_in f) ≡ true → judged refused (write_rules application f) a ≡ a
          unfolding form_rules
          by-none h = rw (lt-ltb application 32 h₀, le-leb 9 (length f) h₁, eq-eqb (get_or f 0 0) 3 h₂, eq-eqb (length f) (length (form (menu_in f))) h₃, h)

-- a form that is taken is of an application below 32, and its menu can be sent
pub writable : (application : ℕ) (f : List ℕ) (n m : ℕ) → judged refused (write_rules application f) (Ok n) ≡ Ok m → (application < 32) × (fits (menu_in f) ≡ true)
unfolding form_rules
writable application f n m e =
    let all = done_every (write_rules application f) n m e in
    (ltb-true application 32 (first_holds all), first_holds (others_hold (others_hold (others_hold (others_hold all)))))

-- whose block fits its size
pub sizes : (m : Menu) → fits m ≡ true → size m < 2048
sizes m e = ltb-true (size m) 2048 (both-second (both (fitting (fields 0 0 zeros m)) (both (ltb m.header_size 3) (sevens (strings m)))) (ltb (size m) 2048) (sym (fits_by m) ∙ e))

-- by what was measured
module _ (r : Tally) (f : List ℕ) (w : Whole r f) where
  pub size_is : 2 * r.control + r.strings ≡ size (menu_in f)
  size_is = omega (arith, control-is (menu_in f) r.control w.takes, w.sends)

  pub fits-is : both r.fine (ltb (2 * r.control + r.strings) 2048) ≡ fits (menu_in f)
  fits-is = ap₂ (λ (x : Bool) (n : ℕ). both x (ltb n 2048)) w.fine size_is ∙ sym (fits_by (menu_in f))

  pub long-is : (application : ℕ) → 4 + (2 * r.control + r.strings) ≡ length (record_of application (menu_in f))
  long-is application = sym (record_long (menu_in f) r.control w.takes application ∙ ap (λ (x : ℕ). 4 + (2 * r.control + x)) (sym w.sends))
