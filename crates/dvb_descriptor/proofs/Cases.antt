-- The marked cases of SCOPE 29.8, computed from the definitions. Assumes nothing.
use mathlib.Core.Path.{◌≡◌, refl}
use mathlib.Core.List.{List, [], ◌∷◌}
use Prim.Native.Nat.{ℕ}
use Rattle.fields.specs.Fields.{field, whole}
use Rattle.forms.specs.Tables.{per}
use Rattle.forms.specs.Form.{spelled, words_in, descriptors_in, table_in}
use Rattle.dvb_descriptor.specs.Subtitles.{subtitle_of, paired, subtitles_in}
use Rattle.dvb_descriptor.specs.Entries.{five, fives, kept, kept_in}
use Rattle.dvb_descriptor.specs.Calls.{packed, descriptor_of, handed, read_of}

-- the form of a TI table with block_no 0, network 2 and descriptor 5, in which "dut" has this page value
abbrev dutch : ℕ → ℕ → ℕ → List ℕ
dutch high middle low = 8 ∷ 0 ∷ 0 ∷ 0 ∷ 2 ∷ 1 ∷ 5 ∷ 1 ∷ 0x64 ∷ 0x75 ∷ 0x74 ∷ high ∷ middle ∷ low ∷ []

pub record Written : Type 0 where
  -- case G's table, page value 000888, is page 888
  pub case_g : descriptor_of (table_in (dutch 0x00 0x08 0x88)) ≡ 0x56 ∷ 0x05 ∷ 0x64 ∷ 0x75 ∷ 0x74 ∷ 0x10 ∷ 0x88 ∷ []
  -- the magazine's three bits, one by one
  pub first : descriptor_of (table_in (dutch 0x00 0x81 0x23)) ≡ 0x56 ∷ 0x05 ∷ 0x64 ∷ 0x75 ∷ 0x74 ∷ 0x11 ∷ 0x23 ∷ []
  pub second : descriptor_of (table_in (dutch 0x40 0x01 0x23)) ≡ 0x56 ∷ 0x05 ∷ 0x64 ∷ 0x75 ∷ 0x74 ∷ 0x12 ∷ 0x23 ∷ []
  pub third : descriptor_of (table_in (dutch 0x80 0x01 0x23)) ≡ 0x56 ∷ 0x05 ∷ 0x64 ∷ 0x75 ∷ 0x74 ∷ 0x14 ∷ 0x23 ∷ []
  -- no subtitles
  pub none : descriptor_of (table_in (8 ∷ 0 ∷ 0 ∷ 0 ∷ 2 ∷ 0 ∷ [])) ≡ 0x56 ∷ 0x00 ∷ []

pub written : Written
unfolding packed fives five spelled subtitles_in paired subtitle_of table_in descriptors_in words_in per whole field
written = record { case_g = refl; first = refl; second = refl; third = refl; none = refl }

pub record Back : Type 0 where
  -- case G's: magazine 8 is handed out as 0
  pub case_g : read_of (0x56 ∷ 0x05 ∷ 0x64 ∷ 0x75 ∷ 0x74 ∷ 0x10 ∷ 0x88 ∷ []) ≡ 1 ∷ 0 ∷ 0x64 ∷ 0x75 ∷ 0x74 ∷ 0 ∷ 0x88 ∷ []
  -- type 05, subtitles for the hard of hearing, is passed over
  pub hearing : read_of (0x56 ∷ 0x05 ∷ 0x64 ∷ 0x75 ∷ 0x74 ∷ 0x29 ∷ 0x88 ∷ []) ≡ 0 ∷ 1 ∷ []
  pub none : read_of (0x56 ∷ 0x00 ∷ []) ≡ 0 ∷ 0 ∷ []

pub back : Back
unfolding read_of handed fives five spelled kept_in kept whole
back = record { case_g = refl; hearing = refl; none = refl }
