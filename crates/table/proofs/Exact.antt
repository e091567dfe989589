-- Block reading is exact: a record is accepted as a table, with a count of mended bytes, exactly when it says that table and has that count.
-- Tables are a kind whose format is lawful, and reading is exact for any of them. Assumes nothing.
use mathlib.Core.Path.{◌≡◌, refl, sym}
use mathlib.Core.Bool.{true, false, true≢false}
use mathlib.Core.Logic.{◌↔◌}
use mathlib.Core.List.{List}
use Prim.Native.Nat.{ℕ, ◌≤◌}
use lib.ListN.{length, drop}
use Rattle.laws.specs.Bytes.{Bytes}
use Rattle.answer.specs.Rules.{judged, Every}
use Rattle.blocks.specs.Block.{nibbles_of}
use Rattle.blocks.specs.Parts.{mended_in}
use Rattle.blocks.specs.Sums.{sound}
use Rattle.blocks.proofs.Framed.{accepts}
use Rattle.kinds.specs.Reading.{mended_of, sent_in, content_in, read_as}
use Rattle.kinds.proofs.Exact as Kinds
use Rattle.forms.specs.Tables.{Table, tables, table_sent}
use Rattle.forms.specs.Block.{Says}
use Rattle.forms.proofs.Formats.{owed}
use Rattle.table.specs.Control.{table_of}
use Rattle.table.specs.Reading.{accepted, refused, read_rules, table_read, read_block}

-- what reading makes of a record, by the table and the count that the call has
pub read_as_lem : (application : ℕ) (r : List ℕ) → read_block application r ≡ judged refused (read_rules application r) (accepted (table_read r) (mended_in r))
unfolding read_as sent_in table_of nibbles_of mended_in mended_of
read_as_lem application r = refl

-- no strings follow
pub unspoken : (r : List ℕ) → false ≡ true → Bytes r
unspoken r e = absurd (true≢false (sym e))

module _ (application : ℕ) (r : List ℕ) (t : Table) where
  -- what is accepted says the table, and the count is its own
  pub accepted-says : (c : ℕ) → read_block application r ≡ accepted t c → Says application r t × (c ≡ mended_in r)
  unfolding mended_in mended_of
  accepted-says c = Kinds.accepted-means tables owed table_sent application r t c (unspoken r)

  -- and what says a table is accepted as it
  pub says-accepted : Says application r t → read_block application r ≡ accepted t (mended_in r)
  unfolding mended_in mended_of
  says-accepted = Kinds.means-accepted tables owed table_sent application r t

  pub reads_exactly : (c : ℕ) → (read_block application r ≡ accepted t c) ↔ (Says application r t × (c ≡ mended_in r))
  unfolding mended_in mended_of
  reads_exactly c = Kinds.reads_exactly tables owed table_sent application r t c (unspoken r)

  -- in particular each of its bytes decodes
  pub decodes-all : (c : ℕ) → read_block application r ≡ accepted t c → sound (nibbles_of r) ≡ length (nibbles_of r)
  unfolding read_as nibbles_of
  decodes-all c e =
      Kinds.decodes-all tables owed application r (accepts (read_rules application r) (table_sent (content_in tables (drop 4 r))) t (mended_of false r) c e).0

-- a count is at most 5 and the greatest size that a table can have
pub mended_most_lem : (application : ℕ) (r : List ℕ) → Every (read_rules application r) → mended_in r ≤ 2051
unfolding mended_in mended_of
mended_most_lem = Kinds.mended_most_lem tables owed
