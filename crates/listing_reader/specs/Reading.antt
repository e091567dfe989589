-- The lines of a table's descriptors, read at the front of some bytes (SCOPE 13.2, 20.6).
use Rattle.std.specs.Prelude.{Bool, true, false, List, [], ◌∷◌, ◌++◌, ℕ, ◌+◌, eqb, ltb, length, drop}
use Rattle.laws.specs.Pick.{pick, either}
use Rattle.forms.specs.Tables.{Descriptor, TI, entries}
use Rattle.listing.specs.Lines.{descriptor_name}
use Rattle.listing_reader.specs.declared.lines.Line.{Line}
use Rattle.listing_reader.specs.declared.Summary.{Summary}
use Rattle.listing_reader.specs.Lines.{number_at, language_at, page_at}
use Rattle.listing_reader.specs.Many.{Step, item, stop, Many, many}

-- the kind stays the same from one to the next
abbrev pub same : {A : Type 0} → ℕ → A → ℕ
same kind a = kind

-- ---- the entries of a descriptor: a language, and in TI its page

unfoldable pub with_page : Line → Line → Step (List ℕ)
with_page l p = pick (eqb p.long 0) (stop false l.long) (item (l.value ∷ p.value ∷ []) (l.long + p.long))

unfoldable pub with_language : ℕ → List ℕ → Line → Step (List ℕ)
with_language kind bytes l =
    pick (eqb l.long 0) (stop true 0)
    (pick (eqb kind TI) (with_page l (page_at (drop l.long bytes))) (item (l.value ∷ []) l.long))

abbrev pub words_at : ℕ → List ℕ → Step (List ℕ)
words_at kind bytes = with_language kind bytes (language_at bytes)

unfoldable pub words_of : ℕ → List ℕ → Many (List ℕ)
words_of kind bytes = many same words_at (length bytes) kind bytes

-- ---- descriptors

unfoldable pub flat : List (List ℕ) → List ℕ
flat [] = []
flat (ws ∷ rest) = ws ++ flat rest

unfoldable pub with_words : Line → Many (List ℕ) → Step Descriptor
with_words d ws =
    pick ws.fine (item (record { id = d.value; words = flat ws.items }) (d.long + ws.long))
    (stop false (d.long + ws.long))

unfoldable pub with_number : ℕ → List ℕ → Line → Step Descriptor
with_number kind bytes d = pick (eqb d.long 0) (stop true 0) (with_words d (words_of kind (drop d.long bytes)))

abbrev pub descriptor_at : ℕ → List ℕ → Step Descriptor
descriptor_at kind bytes = with_number kind bytes (number_at descriptor_name 63 bytes)

unfoldable pub descriptors_of : ℕ → List ℕ → Many Descriptor
descriptors_of kind bytes = many same descriptor_at (length bytes) kind bytes

-- ---- what is told of a table

-- how many entries descriptors have, and whether one has more than its field can count
unfoldable pub entries_in : ℕ → List Descriptor → ℕ
entries_in kind [] = 0
entries_in kind (d ∷ ds) = entries kind d.words + entries_in kind ds

unfoldable pub over_in : ℕ → List Descriptor → Bool
over_in kind [] = false
over_in kind (d ∷ ds) = either (ltb 15 (entries kind d.words)) (over_in kind ds)

abbrev pub summary_of : ℕ → Many Descriptor → Summary
summary_of kind m =
    record { count = length m.items; entries = entries_in kind m.items; over = over_in kind m.items; fine = m.fine; long = m.long }
