-- What a call of `join` or `add` does to the entries of a key (SCOPE 25.1).
use Rattle.std.specs.Prelude.{◌≡◌, List, ◌⊎◌, ℕ, ◌≤◌, ◌<◌}
use Rattle.std.proofs.Math.Option.{Option, some}
use Rattle.laws.specs.Keyed.{lookup}
use Rattle.sheet_entry.specs.Entries.{Entry, key_of}
use Rattle.day_sheet.specs.Calls.{entries_of}
use Rattle.day_sheet.specs.Reading.{InForm}
use Rattle.sheet_entry.specs.declared.Form.{Form}

-- e stood at a key of the one sheet, and this at that of the other: z stands there afterwards
pub record Stays (e : Entry) (other : Option Entry) (z : Entry) : Type 0 where
  -- its stamp is at least e's
  pub not_older : e.stamp ≤ z.stamp
  -- where the other sheet has no entry of that key, or one with a smaller stamp, it is e, its stamp and its lines
  pub newest : ((o : Entry) → other ≡ some o → o.stamp < e.stamp) → z ≡ e

module _ (form : Form) where
  -- what stands at a key of a sheet
  abbrev pub stands_at : ℕ → List ℕ → Option Entry
  stands_at k sheet = lookup key_of k (entries_of form sheet)

  -- of two sheets a third was written: read again, it has each key of either, none that was set back, and none that is made up
  pub record NeverBack (first second sheet : List ℕ) : Type 0 where
    pub in_form : InForm form sheet
    pub of_first :
        (k : ℕ) (e : Entry) → stands_at k first ≡ some e → (z : Entry) × (stands_at k sheet ≡ some z) × Stays e (stands_at k second) z
    pub of_second :
        (k : ℕ) (e : Entry) → stands_at k second ≡ some e → (z : Entry) × (stands_at k sheet ≡ some z) × Stays e (stands_at k first) z
    pub theirs : (k : ℕ) (z : Entry) → stands_at k sheet ≡ some z → (stands_at k first ≡ some z) ⊎ (stands_at k second ≡ some z)

  -- at e's key a sheet has an entry that isn't older than e
  pub record Kept (k : ℕ) (e : Entry) (sheet : List ℕ) : Type 0 where
    pub entry : Entry
    pub stands : stands_at k sheet ≡ some entry
    pub not_older : e.stamp ≤ entry.stamp
