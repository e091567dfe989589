-- The subtitles of a table, one after the other over all its descriptors (SCOPE 29.2): of each its language, its magazine and its page.
use Rattle.std.specs.Prelude.{List, [], ◌∷◌, ◌++◌, ℕ, ◌+◌, ◌*◌}
use Rattle.fields.specs.Fields.{field}
use Rattle.forms.specs.Tables.{Descriptor, Table}
use Rattle.dvb_descriptor.specs.declared.Subtitle.{Subtitle}

-- where magazine and page stand in a page value, the page_reference of 11.3.2, as packet X/27 of EN 300 706 has it (SCOPE 29.3): units bits
-- 0 to 3, tens 4 to 7, S1 8 to 11, S2 12 to 14, M0 15, S3 16 to 19, S4 20 to 21, M1 22, M2 23. The magazine is absolute; 0 is magazine 8
unfoldable pub subtitle_of : ℕ → ℕ → Subtitle
subtitle_of language reference =
    record {
      language = language;
      magazine = 4 * field 23 1 reference + 2 * field 22 1 reference + field 15 1 reference;
      page = 16 * field 4 4 reference + field 0 4 reference;
    }

-- the words of a descriptor are a language and a page value each (SCOPE 12.2)
unfoldable pub paired : List ℕ → List Subtitle
paired [] = []
paired (language ∷ []) = []
paired (language ∷ reference ∷ ws) = subtitle_of language reference ∷ paired ws

unfoldable pub subtitles_in : List Descriptor → List Subtitle
subtitles_in [] = []
subtitles_in (d ∷ ds) = paired d.words ++ subtitles_in ds

abbrev pub subtitles_of : Table → List Subtitle
subtitles_of t = subtitles_in t.descriptors
