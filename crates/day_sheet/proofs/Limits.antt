-- The limits of the forms, as far as the calls need them. Assumes nothing.
use mathlib.Core.Path.{◌≡◌}
use mathlib.Core.Bool.{true}
use mathlib.Core.List.{List}
use Prim.Native.Nat.{ℕ, ◌≤◌}
use native.Mathlib.Omega.{arith}
use lib.ListN.{length}
use borrow.Author.Tests.{leb-true}
use Rattle.answer.specs.Rules.{Every}
use Rattle.answer.proofs.Steps.{first_holds, others_hold}
use Rattle.sheet_entry.specs.declared.Form.{Form}
use Rattle.sheet_entry.specs.declared.Form.TheVariants.{Old, New}
use Rattle.sheet_entry.specs.Internal.{entry_most, entry_room}
use Rattle.sheet_entry.specs.Entries.{Entry}
use Rattle.day_sheet.specs.Entries.{sheet_text, entry_limit, byte_limit}
use Rattle.day_sheet.specs.Reading.{sheet_of}
use Rattle.day_sheet.specs.Calls.{limited}
use Rattle.day_sheet.specs.Internal.{Halfway}

pub limit-small : (form : Form) → byte_limit form ≤ 17152
limit-small Old = omega arith
limit-small New = omega arith

-- one entry is a sheet within the limit, and is held
pub entry-within : (form : Form) → entry_most form ≤ byte_limit form
entry-within Old = omega arith
entry-within New = omega arith

pub entry-held : (form : Form) → entry_most form ≤ entry_room
entry-held Old = omega arith
entry-held New = omega arith

module _ (form : Form) where
  -- what is within the limits fits it
  pub within-limit : (es : List Entry) → Every (limited form es) → (length es ≤ entry_limit) × (length (sheet_text form es) ≤ byte_limit form)
  within-limit es e = (leb-true (length es) entry_limit (first_holds e), leb-true (length (sheet_text form es)) (byte_limit form) (first_holds (others_hold e)))

  -- what was judged can be walked
  pub halfway : (sheet : List ℕ) → length sheet ≤ byte_limit form → (sheet_of form sheet).fine ≡ true → Halfway form sheet 0
  halfway sheet h f = record { within = record { inside = omega arith; short = omega (arith, limit-small form) }; fine = f }
