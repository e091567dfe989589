-- A table in lent bytes, the table form (SCOPE 12.12): kind, copyright, block_no low, high, network, number of descriptors; of each
-- descriptor its id, its number of entries, then its words, high byte first ("dut" is 64 75 74).
use Rattle.std.specs.Prelude.{List, [], ◌∷◌, ◌++◌, ℕ, zero, suc, ◌+◌, ◌*◌, ◌/◌, ◌%◌, length, get_or, drop}
use Rattle.fields.specs.Fields.{whole}
use Rattle.forms.specs.Tables.{Descriptor, Table, per, entries}
pub use Rattle.forms.specs.Words.{word_at}

-- a word, high byte first
unfoldable pub spelled : List ℕ → List ℕ
spelled [] = []
spelled (w ∷ ws) = w / 256 / 256 % 256 ∷ w / 256 % 256 ∷ w % 256 ∷ spelled ws

unfoldable pub listed : ℕ → List Descriptor → List ℕ
listed kind [] = []
listed kind (d ∷ ds) = d.id ∷ entries kind d.words ∷ spelled d.words ++ listed kind ds

-- the six bytes before the descriptors
abbrev pub opening : ℕ
opening = 6

unfoldable pub opening_of : Table → List ℕ
opening_of t =
    t.kind ∷ t.copyright ∷ t.block % 256 ∷ t.block / 256 ∷ t.network ∷ length t.descriptors ∷ []

-- the table form
unfoldable pub form : Table → List ℕ
form t = opening_of t ++ listed t.kind t.descriptors

-- ---- back: the table that a form stands for. Past its end a form reads as zeros

unfoldable pub words_in : ℕ → List ℕ → List ℕ
words_in zero f = []
words_in (suc k) f = word_at f 0 ∷ words_in k (drop 3 f)

-- the k descriptors at the front of f, whose entries have `each` words
unfoldable pub descriptors_in : ℕ → ℕ → List ℕ → List Descriptor
descriptors_in each zero f = []
descriptors_in each (suc k) f =
    let words = each * get_or f 1 0 in
    record { id = get_or f 0 0; words = words_in words (drop 2 f) } ∷ descriptors_in each k (drop (2 + 3 * words) f)

unfoldable pub table_in : List ℕ → Table
table_in f =
    record {
      kind = get_or f 0 0;
      copyright = get_or f 1 0;
      block = whole 8 (get_or f 2 0 ∷ get_or f 3 0 ∷ []);
      network = get_or f 4 0;
      descriptors = descriptors_in (per (get_or f 0 0)) (get_or f 5 0) (drop opening f);
    }
