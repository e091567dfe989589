-- The entry that a call writes, and what it judges (SCOPE 20.8, 30.3).
use Rattle.std.specs.Prelude.{List, [], ◌∷◌, ◌++◌, ℕ, leb}
use Rattle.answer.specs.Rules.{Rule, rule}
use Rattle.forms.specs.Form.{table_in}
use Rattle.forms.specs.Writing.{form_rules}
use Rattle.sheet_entry.specs.declared.Form.{Form}
use Rattle.sheet_entry.specs.Entries.{Entry, mended_most}

-- the entry of a table form, whose copyright bit is dropped
unfoldable pub stamped : ℕ → ℕ → List ℕ → Entry
stamped at mended table =
    let t = table_in table in
    record {
      stamp = at;
      mended = mended;
      table =
          record { kind = t.kind; copyright = 0; block = t.block; network = t.network; descriptors = t.descriptors };
    }

-- 22, 13, 15 for the table form; then 15 for a number that the sheet's form can't say
abbrev pub entry_rules : Form → ℕ → List ℕ → List Rule
entry_rules form mended table = form_rules table ++ (rule (leb mended (mended_most form)) 15 0 ∷ [])
