-- The moves between the forms, by the calls' rules: what was moved there and back is what it was. Assumes nothing.
use mathlib.Core.Path.{◌≡◌, ◌∙◌, refl, sym, ap}
use mathlib.Core.Bool.{true}
use mathlib.Core.List.{List, [], ◌∷◌}
use Prim.Native.Nat.{ℕ, ◌+◌, ◌*◌, ◌≤◌}
use native.Mathlib.Omega.{arith}
use lib.Dec.{eqb, leb}
use lib.ListN.{length}
use borrow.Author.Tests.{eqb-true, le-leb, leb-true}
use Rattle.laws.proofs.Tests.{both_true, both-holds}
use Rattle.answer.specs.Rules.{Every, none as all_hold, more}
use Rattle.answer.proofs.Steps.{first_holds, others_hold}
use Rattle.forms.specs.Tables.{fits}
use Rattle.sheet_entry.specs.declared.Form.{Form}
use Rattle.sheet_entry.specs.declared.Form.TheVariants.{Old, New}
use Rattle.sheet_entry.specs.Entries.{Entry, stamp_most, mended_most, written}
use Rattle.sheet_entry.proofs.Entered.{written-parts}
use Rattle.day_sheet.specs.Entries.{sheet_text, all_written, entry_limit, byte_limit}
use Rattle.day_sheet.specs.Reading.{InForm}
use Rattle.day_sheet.specs.Calls.{entries_of}
use Rattle.sheet_moves.specs.Moving.{unmended, up_rules, up_text, down_rules, down_text}
use Rattle.day_sheet.proofs.Exact.{read-written, reads_exactly}
use Rattle.sheet_moves.proofs.Carried.{text-marks, old_unmended}

-- ---- what can be written in the one form

written-other :
    (from to : Form) (e : Entry) → written from e ≡ true → e.mended ≤ mended_most to → written to e ≡ true
unfolding written
written-other from to e w m =
    let p = written-parts from e w in
    both-holds (leb e.stamp stamp_most) _ p.stamp_fits
    (both-holds (leb e.mended (mended_most to)) _ (le-leb e.mended (mended_most to) m)
    (both-holds (eqb e.table.copyright 0) (fits e.table) (eqb-holds e.table.copyright p.uncopied) p.fit))
  where
    eqb-holds : (n : ℕ) → n ≡ 0 → eqb n 0 ≡ true
    eqb-holds n z = rw z

-- can be written in the other, where no number but 0 stands
pub all-other : (from to : Form) (es : List Entry) → all_written from es ≡ true → unmended es ≡ true → all_written to es ≡ true
unfolding all_written unmended
all-other from to [] w u = refl
all-other from to (e ∷ es) w u =
    let p = both_true (written from e) (all_written from es) w in
    let q = both_true (eqb e.mended 0) (unmended es) u in
    let z = eqb-true e.mended 0 q.0 in
    both-holds (written to e) (all_written to es) (written-other from to e p.0 (omega arith)) (all-other from to es p.1 q.1)

-- so a sheet in form of the one, moved, is a sheet in form of the other, of the same entries
module _ (from to : Form) (sheet : List ℕ) (f : InForm from sheet) (u : unmended (entries_of from sheet) ≡ true) where
  pub moved-read : InForm to (sheet_text to (entries_of from sheet)) × (entries_of to (sheet_text to (entries_of from sheet)) ≡ entries_of from sheet)
  moved-read =
      let r = read-written from sheet 0 f in
      let es = entries_of from sheet in
      (reads_exactly to (sheet_text to es) es).1 (refl, r.1, all-other from to es r.2 u)

  pub moved_back : sheet_text from (entries_of to (sheet_text to (entries_of from sheet))) ≡ sheet
  moved_back = ap (sheet_text from) moved-read.1 ∙ sym (read-written from sheet 0 f).0

-- ---- up, then down

module _ (old : List ℕ) (every : Every (up_rules old)) where
  pub up-in-form : InForm Old old
  unfolding up_rules
  up-in-form = first_holds (others_hold every)

  up-short : length old ≤ byte_limit Old
  unfolding up_rules
  up-short = leb-true (length old) (byte_limit Old) (first_holds every)

  up-few : length (entries_of Old old) ≤ entry_limit
  unfolding up_rules
  up-few = leb-true (length (entries_of Old old)) entry_limit (first_holds (others_hold (others_hold every)))

  pub up-zeros : unmended (entries_of Old old) ≡ true
  up-zeros = old_unmended (entries_of Old old) (read-written Old old 0 up-in-form).2

  -- at most 9 bytes more for each entry, 16,960 in all
  pub up-long : (length (up_text old) ≡ length old + 9 * length (entries_of Old old)) × (length (up_text old) ≤ 16960)
  unfolding up_text
  up-long =
      let t = ap length (read-written Old old 0 up-in-form).0 in
      let m = text-marks New (entries_of Old old) up-zeros in
      let s = up-short in
      let n = up-few in
      (omega arith, omega arith)

  pub up-read : InForm New (up_text old) × (entries_of New (up_text old) ≡ entries_of Old old)
  unfolding up_text
  up-read = moved-read Old New old up-in-form up-zeros

  pub up-down : Every (down_rules (up_text old)) × (down_text (up_text old) ≡ old)
  unfolding down_rules down_text
  up-down =
      let r = up-read in
      let l = up-long.1 in
      let same : sheet_text Old (entries_of New (up_text old)) ≡ old = ap (sheet_text Old) r.1 ∙ sym (read-written Old old 0 up-in-form).0 in
      let n = ap length same in
      let k = ap length r.1 in
      let s = up-short in
      let m = up-few in (
        more (le-leb (length (up_text old)) (byte_limit New) (omega arith))
            (more r.0
            (more (ap unmended r.1 ∙ up-zeros)
            (more (le-leb (length (entries_of New (up_text old))) entry_limit (omega arith))
            (more (le-leb (length (sheet_text Old (entries_of New (up_text old)))) (byte_limit Old) (omega arith)) all_hold)))),
        same,
      )

-- ---- down, then up

module _ (new : List ℕ) (every : Every (down_rules new)) where
  pub down-up : Every (up_rules (down_text new)) × (up_text (down_text new) ≡ new)
  unfolding down_rules down_text up_rules up_text
  down-up =
      let b = others_hold every in
      let c = others_hold b in
      let d = others_hold c in
      let f = first_holds b in
      let r = moved-read New Old new f (first_holds c) in
      let k = ap length r.1 in
      let n = leb-true (length (entries_of New new)) entry_limit (first_holds d) in (
        more (first_holds (others_hold d)) (more r.0 (more (le-leb (length (entries_of Old (sheet_text Old (entries_of New new)))) entry_limit (omega arith)) all_hold)),
        moved_back New Old new f (first_holds c),
      )
