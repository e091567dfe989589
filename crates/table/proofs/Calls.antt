-- The reading call and the outcome that is exact: given room, the call is accepted as a table, with a count, exactly when the record says
-- it and has that count. Assumes nothing.
use mathlib.Core.Path.{◌≡◌}
use mathlib.Core.List.{List, ◌++◌}
use Prim.Native.Nat.{ℕ, ◌≤◌}
use lib.ListN.{length, drop}
use Rattle.std.specs.declared.result.Result.TheVariants.{Ok}
use Rattle.answer.specs.Writing.{answered, left}
use Rattle.blocks.specs.Block.{nibbles_of}
use Rattle.blocks.specs.Parts.{mended_in}
use Rattle.blocks.specs.Taking.{Read}
use Rattle.blocks.specs.Taking.{taken}
use Rattle.blocks.specs.Values.{counted}
use Rattle.kinds.specs.Reading.{sent_in, mended_of}
use Rattle.kinds.proofs.Calls as Kinds
use Rattle.forms.specs.Tables.{Table, tables, table_sent}
use Rattle.forms.specs.Form.{form}
use Rattle.forms.specs.Block.{Says}
use Rattle.forms.proofs.Formats.{owed}
use Rattle.table.specs.Control.{table_of}
use Rattle.table.specs.Reading.{read_rules, table_read}
use Rattle.table.proofs.Exact.{unspoken}

module _ (application : ℕ) (r : List ℕ) (old : List ℕ) where
  -- what the call answers
  abbrev pub call_reads : Read
  call_reads = counted (mended_in r) (answered (read_rules application r) (form (table_read r)) old)

  -- a record that says t, with room: t's form stands at the front of the output, and the count is its own
  pub call-takes :
      (t : Table) → Says application r t → length (form t) ≤ length old
      → (call_reads ≡ Ok (taken (length (form t)) (mended_in r)))
      × (left (read_rules application r) (form (table_read r)) old ≡ form t ++ drop (length (form t)) old)
  unfolding sent_in table_of nibbles_of mended_in mended_of
  call-takes = Kinds.call-takes tables owed table_sent form application r old

  -- a record that the call accepts says the table whose form it hands out, and the count is its own
  pub call_says :
      (n m : ℕ) → call_reads ≡ Ok (taken n m)
      → Says application r (table_read r)
      × (n ≡ length (form (table_read r)))
      × (m ≡ mended_in r)
      × (left (read_rules application r) (form (table_read r)) old ≡ form (table_read r) ++ drop (length (form (table_read r))) old)
  unfolding sent_in table_of nibbles_of mended_in mended_of
  call_says n m = Kinds.call_says tables owed table_sent form application r old n m (unspoken r)
