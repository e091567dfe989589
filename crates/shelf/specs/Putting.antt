-- A form put on the shelf, behind the bytes in use, at the head of its row (SCOPE 23.9).
use Rattle.std.specs.declared.result.Result.TheVariants.{Ok, Err}
use Rattle.std.specs.Prelude.{List, [], ◌∷◌, ◌++◌, ℕ, ◌+◌, ◌*◌, eqb, leb, length, take, drop}
use Rattle.std.proofs.lemmas.List.Edits.{sets}
use Rattle.laws.specs.Pick.{both}
use Rattle.answer.specs.Answer.{Answer}
use Rattle.answer.specs.Rules.{Rule, rule}
use Rattle.answer.specs.Writing.{answered, left}
use Rattle.shelf.specs.Shelf.{three_of, number_in, row_of, head_of}

-- three bytes for each of 256 rows
abbrev pub heads_length : ℕ
heads_length = 768

-- the longest shelf: three bytes name each place of it
abbrev pub shelf_most : ℕ
shelf_most = 16777215

-- 16 for heads or a shelf of another length and for more bytes in use than there are, 13 for a form without a number
unfoldable pub put_rules : List ℕ → ℕ → List ℕ → List ℕ → List Rule
put_rules form used heads shelf =
    rule (both (eqb (length heads) heads_length) (both (leb used (length shelf)) (leb (length shelf) shelf_most))) 16 0
    ∷ rule (leb 4 (length form)) 13 0
    ∷ []

-- the row of a form, and its entry: the one that was last in the row, and the form
abbrev pub row_in : List ℕ → ℕ
row_in form = row_of (number_in form)

abbrev pub entry_of : List ℕ → List ℕ → List ℕ
entry_of form heads = three_of (head_of (row_in form) heads) ++ form

-- the answer: 16, 13, and 1 where the entry has no room behind the bytes in use; else how many bytes it takes
unfoldable pub put_answer : List ℕ → ℕ → List ℕ → List ℕ → Answer
put_answer form used heads shelf = answered (put_rules form used heads shelf) (entry_of form heads) (drop used shelf)

-- the shelf afterwards: the bytes in use, and behind them the entry
unfoldable pub shelf_after : List ℕ → ℕ → List ℕ → List ℕ → List ℕ
shelf_after form used heads shelf = take used shelf ++ left (put_rules form used heads shelf) (entry_of form heads) (drop used shelf)

-- the heads afterwards: the form's row names the new entry
abbrev pub headed : Answer → List ℕ → ℕ → List ℕ → List ℕ
headed (Ok n) form used heads = sets heads (3 * row_in form) (three_of (used + 1))
headed (Err r) form used heads = heads

unfoldable pub heads_after : List ℕ → ℕ → List ℕ → List ℕ → List ℕ
heads_after form used heads shelf = headed (put_answer form used heads shelf) form used heads
