-- What follows where the entries of a sheet were counted, and where that was refused. Assumes nothing.
use mathlib.Core.Path.{◌≡◌, ◌∙◌, sym}
use mathlib.Core.List.{List, ◌∷◌}
use Prim.Native.Nat.{ℕ, ◌≤◌}
use lib.ListN.{length}
use borrow.Author.Tests.{leb-true}
use Rattle.std.specs.declared.result.Result.TheVariants.{Ok, Err}
use Rattle.answer.specs.declared.Refusal.{Refusal}
use Rattle.answer.specs.Answer.{Answer}
use Rattle.answer.specs.Rules.{Rule, Every, judged}
use Rattle.answer.specs.Values.{refused}
use Rattle.answer.proofs.Steps.{ends, done_every, done-value, first_holds, others_hold}
use Rattle.sheet_entry.specs.declared.Form.{Form}
use Rattle.day_sheet.specs.Entries.{byte_limit}
use Rattle.day_sheet.specs.Reading.{InForm}
use Rattle.day_sheet.specs.Calls.{short, formed, entries_of, count_rules}
use Rattle.day_sheet.specs.Internal.{Halfway}
use Rattle.day_sheet.proofs.Limits.{halfway}

module _
    (form : Form)
    (sheet : List ℕ)
    {r : Answer}
    (counts : r ≡ judged refused (count_rules form sheet) (Ok (length (entries_of form sheet))))
  where
    -- a call that judges more behind refuses as it does
    pub counted-bad : {w : Refusal} → r ≡ Err w → (rest : List Rule) (a : Answer) → Err w ≡ judged refused (short form sheet ∷ formed form sheet ∷ rest) a
    counted-bad e rest a = ends (count_rules form sheet) rest (length (entries_of form sheet)) counts a e

    module _ {m : ℕ} (done : r ≡ Ok m) where
      every : Every (count_rules form sheet)
      every = done_every (count_rules form sheet) (length (entries_of form sheet)) m (sym counts ∙ done)

      pub counted-short : length sheet ≤ byte_limit form
      counted-short = leb-true (length sheet) (byte_limit form) (first_holds every)

      pub counted-fine : InForm form sheet
      counted-fine = first_holds (others_hold every)

      pub counted-as : m ≡ length (entries_of form sheet)
      counted-as = done-value (count_rules form sheet) (length (entries_of form sheet)) m (sym counts ∙ done)

      pub counted-halfway : Halfway form sheet 0
      counted-halfway = halfway form sheet counted-short counted-fine
