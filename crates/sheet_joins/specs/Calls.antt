-- What `add` and `join` judge, in their order (SCOPE 20.9, 30.3), and what they write, in a form.
use Rattle.std.specs.Prelude.{List, [], ◌∷◌, ◌++◌, ℕ}
use Rattle.answer.specs.Rules.{Rule}
use Rattle.sheet_entry.specs.declared.Form.{Form}
use Rattle.sheet_entry.specs.Entries.{Entry}
use Rattle.sheet_entry.specs.Writing.{stamped, entry_rules}
use Rattle.day_sheet.specs.Calls.{short, formed, limited, entries_of}
use Rattle.sheet_joins.specs.Joining.{joined}

module _ (form : Form) where
  -- ---- add

  unfoldable pub add_result : ℕ → ℕ → List ℕ → List ℕ → List Entry
  add_result at mended sheet table = joined (entries_of form sheet) (stamped at mended table ∷ [])

  unfoldable pub add_rules : ℕ → ℕ → List ℕ → List ℕ → List Rule
  add_rules at mended sheet table =
      entry_rules form mended table ++ short form sheet ∷ formed form sheet ∷ limited form (add_result at mended sheet table)

  -- ---- join

  unfoldable pub join_result : List ℕ → List ℕ → List Entry
  join_result first second = joined (entries_of form first) (entries_of form second)

  unfoldable pub join_rules : List ℕ → List ℕ → List Rule
  join_rules first second =
      short form first ∷ short form second ∷ formed form first ∷ formed form second ∷ limited form (join_result first second)
