-- What a sheet in form has at its front: the entry that is found there is its first, and what is left is a sheet in form again. Assumes nothing.
use mathlib.Core.Path.{◌≡◌, ◌∙◌, refl, sym, ap, subst}
use mathlib.Core.Bool.{true}
use mathlib.Core.List.{List, [], ◌∷◌, ◌++◌}
use Prim.Native.Nat.{ℕ, suc, ◌+◌, ◌≤◌}
use native.Mathlib.Omega.{arith}
use lib.ListN.{length, drop, length-append}
use lib.Seq.{drop-append_seam}
use Rattle.laws.specs.Keyed.{rising}
use Rattle.laws.proofs.Tests.{both_true}
use Rattle.laws.proofs.Merging.{rising-rest, rising-lower}
use Rattle.sheet_entry.specs.declared.Form.{Form}
use Rattle.std.specs.declared.result.Result.TheVariants.{Ok, Err}
use Rattle.sheet_entry.specs.declared.NoEntry.TheVariants.{End}
use Rattle.sheet_entry.specs.declared.Found.{Found}
use Rattle.sheet_entry.specs.Entries.{Entry, key_of, head_lines, table_lines, empty_line, entry_text, written}
use Rattle.sheet_entry.specs.Reading.{entry_at, found_of}
use Rattle.sheet_entry.proofs.Entered.{entry-back}
use Rattle.day_sheet.specs.Entries.{sheet_text, all_written}
use Rattle.day_sheet.specs.Reading.{InForm}
use Rattle.day_sheet.specs.Calls.{entries_of}
use Rattle.day_sheet.proofs.Exact.{read-written, reads_exactly}

module _ (form : Form) where
  -- an entry that can stand in a sheet
  abbrev pub Fit : Entry → Type 0
  Fit e = written form e ≡ true

  -- what is found of it
  abbrev pub found : Entry → Found
  found x =
      record {
        long = length (entry_text form x);
        key = key_of x;
        stamp = x.stamp;
        mended = x.mended;
        head = length (head_lines form x);
      }

  pub found-text : (x : Entry) (rest : List ℕ) → Fit x → found_of form (entry_at form 0 (entry_text form x ++ rest)) ≡ Ok (found x)
  unfolding found_of
  found-text x rest w = ap (found_of form) (entry-back form 0 x rest (record { rises = omega arith; can = w }))

  -- head, table lines, and the LF of the empty line
  pub spans : (x : Entry) → length (entry_text form x) ≡ length (head_lines form x) + (length (table_lines x) + 1)
  unfolding entry_text
  spans x = length-append (head_lines form x) (table_lines x ++ empty_line) ∙ ap (λ (n : ℕ). length (head_lines form x) + n) (length-append (table_lines x) empty_line)

  pub front_fits : (x : Entry) (rest : List ℕ) → length (entry_text form x) ≤ length (entry_text form x ++ rest)
  front_fits x rest = let e = length-append (entry_text form x) rest in omega arith

  pub data Front (a : List ℕ) : Type 0 where
    empty : found_of form (entry_at form 0 a) ≡ Err End → entries_of form a ≡ [] → Front a
    entry :
        (x : Entry) → found_of form (entry_at form 0 a) ≡ Ok (found x) → entries_of form a ≡ x ∷ entries_of form (drop (length (entry_text form x)) a)
        → InForm form (drop (length (entry_text form x)) a) → 1 ≤ length (entry_text form x) → length (entry_text form x) ≤ length a
        → Front a

  front-texts : (es : List Entry) → rising key_of es ≡ true → all_written form es ≡ true → Front (sheet_text form es)
  unfolding sheet_text entry_at found_of all_written
  front-texts [] r w = empty refl ((reads_exactly form [] []).1 (refl, r, w)).1
  front-texts (x ∷ xs) r w =
      let p = both_true (written form x) (all_written form xs) w in
      let rest = rising-lower key_of (suc (key_of x)) 0 xs (omega arith) (rising-rest key_of 0 x xs r) in
      let t = (reads_exactly form (sheet_text form xs) xs).1 (refl, rest, p.1) in
      let u = (reads_exactly form (sheet_text form (x ∷ xs)) (x ∷ xs)).1 (refl, r, w) in
      let s = spans x in
      entry x (found-text x (sheet_text form xs) p.0) (u.1 ∙ (rw (drop-append_seam (entry_text form x) (sheet_text form xs), t.1)))
      (rw (drop-append_seam (entry_text form x) (sheet_text form xs)) t.0) (omega arith) (front_fits x (sheet_text form xs))

  pub front : (a : List ℕ) → InForm form a → Front a
  front a f = let e = read-written form a 0 f in subst Front (sym e.0) (front-texts (entries_of form a) e.1 e.2)
