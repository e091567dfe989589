-- The walk along a sheet by places: the entries left from a place on, with those that were counted so far, tell of the whole. Assumes nothing.
use mathlib.Core.Path.{◌≡◌, ◌∙◌, sym, ap}
use mathlib.Core.Bool.{true, false}
use mathlib.Core.List.{List}
use Prim.Native.Nat.{ℕ, suc, ◌+◌, ◌≤◌}
use native.Mathlib.Omega.{arith}
use lib.ListN.{length, drop}
use lib.Seq.{drop-drop}
use Rattle.sheet_entry.specs.declared.Found.{Found}
use Rattle.std.specs.declared.result.Result.{Result}
use Rattle.std.specs.declared.result.Result.TheVariants.{Ok, Err}
use Rattle.sheet_entry.specs.declared.NoEntry.TheVariants.{End, Fault}
use Rattle.laws.specs.Pick.{pick}
use Rattle.sheet_entry.specs.Entries.{Entry, key_of}
use Rattle.listing_reader.specs.Many.{Many, item, behind, many}
use Rattle.sheet_entry.specs.Reading.{entry_at, above, found_of}
use Rattle.day_sheet.specs.Reading.{sheet_from}
use Rattle.listing_reader.proofs.Rows.{whole_item, whole-stop, seen-item}
use Rattle.sheet_entry.proofs.Entered.{Standing, text_of, entry_seen, entry_stepping}
use Rattle.sheet_entry.proofs.Finding.{found_item, found-end, found-fault, key_small}
use Rattle.sheet_entry.specs.declared.Form.{Form}

abbrev pub sheet_after : ℕ → ℕ → Many Entry → Result ℕ ℕ
sheet_after count passed m = pick m.fine (Ok (count + length m.items)) (Err (passed + m.long))

module _ (form : Form) where
  module _ (sheet : List ℕ) (at least count : ℕ) where
    pub sheet-on :
        {f : Found} → Ok f ≡ found_of form (entry_at form least (drop at sheet))
        → (1 ≤ f.long) × (f.long ≤ length (drop at sheet)) × (f.key ≤ 33554431)
        × (sheet_after (count + 1) (at + f.long) (sheet_from form (f.key + 1) (drop (at + f.long) sheet)) ≡ sheet_after count at (sheet_from form least (drop at sheet)))
    unfolding sheet_from
    sheet-on {f} reads =
        let i = found_item form (entry_at form least (drop at sheet)) reads in
        let e = i.0 in
        let n : entry_at form least (drop at sheet) ≡ item e f.long = i.1 in
        let k : f.key ≡ key_of e = i.2 in
        let b = (entry_stepping form).moves_on least (drop at sheet) e f.long n in
        let s = seen-item above (entry_at form) (Standing form) (text_of form) (entry_seen form) least (drop at sheet) e f.long n in
        let w = whole_item above (entry_at form) (entry_stepping form) least (drop at sheet) e f.long n in
        let k' : f.key + 1 ≡ suc (key_of e) = omega (arith, k) in
        let m' = many above (entry_at form) (length (drop f.long (drop at sheet))) (suc (key_of e)) (drop f.long (drop at sheet)) in
        let c' : count + 1 + length m'.items ≡ count + suc (length m'.items) = omega arith in
        let l' : at + f.long + m'.long ≡ at + (f.long + m'.long) = omega arith in
        let step : sheet_after (count + 1) (at + f.long) m' ≡ sheet_after count at (behind e f.long m') = rw (c', l') in (
          b.0,
          b.1,
          rw k (key_small form e s.2.can),
          ap (λ (x : ℕ). sheet_after (count + 1) (at + f.long) (many above (entry_at form) (length (drop (at + f.long) sheet)) x (drop (at + f.long) sheet))) k'
              ∙ ap (λ (l : List ℕ). sheet_after (count + 1) (at + f.long) (many above (entry_at form) (length l) (suc (key_of e)) l)) (sym (drop-drop f.long at sheet))
              ∙ step ∙ sym (ap (sheet_after count at) w),
        )

    pub sheet-end :
        Err End ≡ found_of form (entry_at form least (drop at sheet)) → Ok count ≡ sheet_after count at (sheet_from form least (drop at sheet))
    unfolding sheet_from
    sheet-end reads =
        let e = found-end form (entry_at form least (drop at sheet)) reads in
        let w = whole-stop above (entry_at form) (entry_stepping form) least (drop at sheet) true e.0 e.1 in
        let c' : count ≡ count + 0 = omega arith in
        ap Ok c' ∙ sym (ap (sheet_after count at) w)

    pub sheet-fault :
        {n : ℕ} → Err (Fault n) ≡ found_of form (entry_at form least (drop at sheet))
        → (n ≤ length (drop at sheet)) × (Err (at + n) ≡ sheet_after count at (sheet_from form least (drop at sheet)))
    unfolding sheet_from
    sheet-fault {n} reads =
        let e = found-fault form (entry_at form least (drop at sheet)) reads in
        let b = (entry_stepping form).stays least (drop at sheet) false n e in
        let w = whole-stop above (entry_at form) (entry_stepping form) least (drop at sheet) false n e in
        (b, sym (ap (sheet_after count at) w))
