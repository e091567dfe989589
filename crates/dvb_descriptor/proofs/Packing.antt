-- Subtitles in five bytes each: how long they are, and those of two lists in a row. Assumes nothing.
use mathlib.Core.Path.{◌≡◌, ◌∙◌, refl}
use mathlib.Core.List.{List, [], ◌∷◌, ◌++◌}
use Prim.Native.Nat.{ℕ, ◌+◌, ◌-◌, ◌*◌, ◌/◌, ◌%◌}
use native.Mathlib.Nat.{div-one}
use native.Mathlib.Omega.{arith}
use lib.ListN.{length, drop}
use lib.Seq.{sets}
use Rattle.fields.specs.Fields.{field}
use Rattle.forms.specs.Form.{spelled}
use Rattle.dvb_descriptor.specs.declared.Subtitle.{Subtitle}
use Rattle.dvb_descriptor.specs.Subtitles.{subtitle_of}
use Rattle.dvb_descriptor.specs.Entries.{five, fives, kept_in, count_in}
use Rattle.dvb_descriptor.specs.Calls.{packed, handed, read_of}

-- a page value taken apart as the code does it
pub placed :
    (language w : ℕ)
    → ◌≡◌ {A = Subtitle}
    (record {
      language = language;
      magazine = 4 * (w / 0x800000 % 2) + 2 * (w / 0x400000 % 2) + w / 0x8000 % 2;
      page = 16 * (w / 16 % 16) + w % 16;
    })
    (subtitle_of language w)
unfolding subtitle_of field
placed language w = rw div-one

pub length-five : (type : ℕ) (s : Subtitle) → length (five type s) ≡ 5
unfolding five spelled
length-five type s = refl

pub length-fives : (type : ℕ) (ss : List Subtitle) → length (fives type ss) ≡ 5 * length ss
unfolding fives five spelled
length-fives type [] = refl
length-fives type (s ∷ ss) = omega (arith, length-fives type ss)

pub fives-append : (type : ℕ) (ss us : List Subtitle) → fives type (ss ++ us) ≡ fives type ss ++ fives type us
unfolding fives five spelled
fives-append type [] us = refl
fives-append type (s ∷ ss) us = rw (fives-append type ss us)

-- what the calls write is two bytes longer
pub length-packed : (ss : List Subtitle) → length (packed ss) ≡ 2 + 5 * length ss
unfolding packed
length-packed ss = omega (arith, length-fives 2 ss)

pub length-handed : (passed : ℕ) (ss : List Subtitle) → length (handed passed ss) ≡ 2 + 5 * length ss
unfolding handed
length-handed passed ss = omega (arith, length-fives 0 ss)

-- ---- the two bytes before, and then the subtitles

pub packed-stored :
    (out mid new : List ℕ) (ss : List Subtitle) (n : ℕ) → n ≡ length ss → mid ≡ sets out 0 (0x56 ∷ 5 * n ∷ [])
    → new ≡ sets mid 2 (fives 2 ss) → new ≡ sets out 0 (packed ss)
unfolding packed
packed-stored out mid new ss n e₀ e₁ e₂ = e₂ ∙ (rw (e₁, e₀))

pub handed-stored :
    (out mid new b : List ℕ) (k need : ℕ) → k ≡ count_in b → need ≡ 2 + 5 * length (kept_in k (drop 2 b))
    → mid ≡ sets out 0 ((need - 2) / 5 ∷ (k - (need - 2) / 5) ∷ []) → new ≡ sets mid 2 (fives 0 (kept_in k (drop 2 b)))
    → new ≡ sets out 0 (read_of b)
unfolding read_of handed
handed-stored out mid new b k need e₀ e₁ e₂ e₃ =
    let n : (need - 2) / 5 ≡ length (kept_in k (drop 2 b)) = omega arith in
    e₃ ∙ (rw (e₂, n, e₀))

pub length-read : (b : List ℕ) (k : ℕ) → k ≡ count_in b → length (read_of b) ≡ 2 + 5 * length (kept_in k (drop 2 b))
unfolding read_of
length-read b k e = length-handed _ _ ∙ (rw e)
