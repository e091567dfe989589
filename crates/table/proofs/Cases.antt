-- Cases G (its block), H and I of SCOPE 14.1, computed from the definitions. Assumes nothing.
use mathlib.Core.Path.{◌≡◌, refl}
use mathlib.Core.List.{[], ◌∷◌}
use Prim.Native.Nat.{ℕ}
use lib.ListN.{replicate}
use Rattle.std.specs.declared.result.Result.TheVariants.{Ok}
use Rattle.answer.specs.Rules.{judged}
use Rattle.answer.specs.Values.{refused}
use Rattle.fields.specs.Fields.{alike, width, laid, fitting, whole}
use Rattle.kinds.specs.Kind.{sevens, fits as kind_fits}
use Rattle.forms.specs.Tables.{Table, TI, per, loops, fields, bits, fill, size, entire, fits}
use Rattle.forms.specs.Form.{spelled, listed, opening_of, form, words_in, descriptors_in, table_in}
use Rattle.forms.specs.Writing.{form_rules, write_rules}

-- G's table: a TI with one subtitle, in Dutch (SCOPE 13.6)
abbrev pub G : Table
G =
    record {
      kind = TI;
      copyright = 0;
      block = 0;
      network = 2;
      descriptors = record { id = 5; words = 0x647574 ∷ 0x000888 ∷ [] } ∷ [];
    }

-- no descriptors
abbrev pub H : Table
H = record { kind = TI; copyright = 0; block = 0; network = 2; descriptors = [] }

-- so many descriptors of 15 subtitles
abbrev pub I : ℕ → Table
I n =
    record {
      kind = TI;
      copyright = 0;
      block = 0;
      network = 2;
      descriptors = replicate n (record { id = 5; words = replicate 30 0x647574 });
    }

-- G: bits, fill and size of the block
pub case_G : (bits G ≡ 116) × (fill G ≡ 4) × (size G ≡ 30)
unfolding alike width fields loops per
case_G = (refl, refl, refl)

-- H: the same of a table without descriptors
pub case_H : (bits H ≡ 58) × (fill H ≡ 6) × (size H ≡ 16)
unfolding alike width fields loops per
case_H = (refl, refl, refl)

-- I: descriptors of 15 subtitles: bits and size of eleven, and that twelve are refused with 15
pub case_I :
    (bits (I 11) ≡ 8088)
    × (size (I 11) ≡ 2022)
    × (judged refused (write_rules 1 (form (I 11))) (Ok 0) ≡ Ok 0)
    × (judged refused (write_rules 1 (form (I 12))) (Ok 0) ≡ refused 15 0)
unfolding alike width laid fields loops per fits entire fitting form opening_of listed spelled table_in descriptors_in words_in whole form_rules kind_fits sevens
case_I = (refl, refl, refl, refl)
