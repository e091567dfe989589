-- A reader of one form meets a sheet of the other that has an entry: the line behind the first `stamp=` is at fault, since in the one form it is
-- `mended=` and in the other `kind=`. Assumes nothing.
use mathlib.Core.Path.{◌≡◌, ◌∙◌, refl, sym, ap}
use mathlib.Core.Bool.{Bool, true, false}
use mathlib.Core.List.{List, [], ◌∷◌, ◌++◌, append_assoc}
use Prim.Native.Nat.{ℕ, zero, suc, ◌+◌, ◌≤◌, ◌<◌}
use native.Mathlib.Omega.{arith}
use borrow.Author.Tests.{le-leb, lt-leb, leb-true, le-ltb}
use lib.Dec.{eqb}
use lib.ListN.{length, length-append}
use lib.Seq.{drop-append_seam}
use Rattle.std.specs.declared.result.Result.TheVariants.{Ok}
use Rattle.laws.specs.Pick.{pick}
use Rattle.laws.proofs.Tests.{both_true, both_false}
use Rattle.answer.specs.Answer.{Answer}
use Rattle.answer.specs.Rules.{Every}
use Rattle.answer.proofs.Judging.{passes}
use Rattle.answer.proofs.Steps.{first_holds, others_hold}
use Rattle.answer.specs.Values.{refused}
use Rattle.texts.specs.Texts.{begins_with}
use Rattle.forms.specs.Tables.{TI}
use Rattle.text_lines.specs.Lines.{number_line}
use Rattle.listing.specs.Lines.{mended_name, kind_ti, kind_li, kind_line}
use Rattle.listing_reader.specs.Lines.{number_at, kind_at}
use Rattle.listing_reader.specs.Many.{stop, Many, none as row-none, behind, further, many}
use Rattle.listing_reader.proofs.Spells.{number-back}
use Rattle.listing_reader.proofs.Rowed.{number_some}
use Rattle.sheet_entry.specs.declared.Form.{Form}
use Rattle.sheet_entry.specs.declared.Form.TheVariants.{Old, New}
use Rattle.sheet_entry.specs.Entries.{Entry, stamp_name, stamp_most, mended_most, mended_head, key_lines, heading, spelled_by, head_lines, entry_text, written}
use Rattle.sheet_entry.specs.Writing.{entry_rules}
use Rattle.sheet_entry.specs.Reading.{lines_at, with_head, entry_at, above}
use Rattle.sheet_entry.proofs.Entered.{entry-begins, written-parts}
use Rattle.day_sheet.specs.Entries.{sheet_text, all_written, byte_limit}
use Rattle.day_sheet.specs.Reading.{sheet_from, sheet_of, InForm}
use Rattle.day_sheet.specs.Calls.{entries_of, rewrite_rules}
use Rattle.sheet_joins.specs.Calls.{join_rules}
use Rattle.day_sheet.proofs.Exact.{read-written}
use Rattle.sheet_joins.proofs.Added.{add-goes-on}
use Rattle.changes.specs.declared.Compared.{Compared}
use Rattle.changes.specs.Calls.{compare_rules}
use Rattle.claims.specs.Sheets.{Rewrites, JoinsSheets, AddsTable, ComparesSheets, other, behind_stamp}
use Rattle.claims.proofs.Sheets.{rewrites, joins_sheets, adds-table}
use Rattle.claims.proofs.Changes.{compares}

-- ---- the line behind the stamp

no_kind : (m : ℕ) (rest : List ℕ) → (kind_at (number_line mended_name m ++ rest)).long ≡ 0
unfolding kind_at kind_line number_line begins_with
no_kind m rest = refl

no_mended : (k : ℕ) (rest : List ℕ) → (number_at mended_name (mended_most New) (kind_line k ++ rest)).long ≡ 0
unfolding kind_line number_at number_line begins_with
no_mended k rest = go (eqb k TI)
  where
    go : (z : Bool) → (number_at mended_name (mended_most New) (pick z kind_ti kind_li ++ rest)).long ≡ 0
    go true = rw both_false
    go false = rw both_false

-- what opens the head of the other form isn't that of this one
opened : (form : Form) (m k : ℕ) (rest : List ℕ) → (lines_at (mended_head form ∷ key_lines) ((mended_head (other form)).text m ++ (kind_line k ++ rest))).fine ≡ false
unfolding lines_at
opened Old m k rest = rw (no_kind m (kind_line k ++ rest))
opened New m k rest = rw (no_mended k rest)

opened-at : (form : Form) (m k : ℕ) (rest : List ℕ) → (lines_at (mended_head form ∷ key_lines) ((mended_head (other form)).text m ++ (kind_line k ++ rest))).long ≡ 0
unfolding lines_at
opened-at Old m k rest = rw (no_kind m (kind_line k ++ rest))
opened-at New m k rest = rw (no_mended k rest)

-- ---- the first entry

module _ (form : Form) (stamp m k : ℕ) (rest : List ℕ) (fits : stamp ≤ stamp_most) where
  abbrev line : List ℕ
  line = number_line stamp_name stamp

  abbrev tail : List ℕ
  tail = (mended_head (other form)).text m ++ (kind_line k ++ rest)

  behind-stamp : lines_at (heading form) (line ++ tail) ≡ behind stamp (length line) (lines_at (mended_head form ∷ key_lines) tail)
  unfolding lines_at
  behind-stamp =
      rw (number-back stamp_name stamp_most stamp tail fits (omega arith), le-ltb (length line) 1 (number_some stamp_name stamp), drop-append_seam line tail)

  head-fault : ((lines_at (heading form) (line ++ tail)).fine ≡ false) × ((lines_at (heading form) (line ++ tail)).long ≡ length line)
  head-fault =
      let l = opened-at form m k rest in
      let n : length line + (lines_at (mended_head form ∷ key_lines) tail).long ≡ length line = omega arith in
      (ap (λ (h : Many ℕ). h.fine) behind-stamp ∙ opened form m k rest, ap (λ (h : Many ℕ). h.long) behind-stamp ∙ n)

  entry-fault : entry_at form 0 (line ++ tail) ≡ stop false (length line)
  unfolding with_head
  entry-fault =
      let some : 1 ≤ length (line ++ tail) = rw length-append (omega (arith, number_some stamp_name stamp)) in
      entry-begins form 0 (line ++ tail) some ∙ rw (head-fault.0, head-fault.1)

-- one after the other
in_a_row : (s m k n t rest : List ℕ) → ((s ++ (m ++ (k ++ n))) ++ t) ++ rest ≡ s ++ (m ++ (k ++ (n ++ (t ++ rest))))
in_a_row s m k n t rest =
    append_assoc (s ++ (m ++ (k ++ n))) t rest
    ∙ append_assoc s (m ++ (k ++ n)) (t ++ rest)
    ∙ ap (λ (x : List ℕ). s ++ x) (append_assoc m (k ++ n) (t ++ rest) ∙ ap (λ (x : List ℕ). m ++ x) (append_assoc k n (t ++ rest)))

text_fault :
    (form : Form) (e : Entry) (rest : List ℕ) → e.stamp ≤ stamp_most
    → entry_at form 0 (entry_text (other form) e ++ rest) ≡ stop false (length (number_line stamp_name e.stamp))
unfolding entry_text head_lines spelled_by
text_fault form e rest h =
    ap (entry_at form 0)
    (in_a_row (number_line stamp_name e.stamp) ((mended_head (other form)).text e.mended) (kind_line e.table.kind) _ _ rest)
    ∙ entry-fault form e.stamp e.mended e.table.kind _ h

row_fault :
    (form : Form) (n k at : ℕ) (bytes : List ℕ) → n ≡ k → 1 ≤ k → entry_at form 0 bytes ≡ stop false at
    → many above (entry_at form) n 0 bytes ≡ row-none false at
unfolding many further
row_fault form n zero at bytes l h e = absurd (omega arith)
row_fault form n (suc k) at bytes l h e = rw (l, e)

not_none : (form : Form) {at : ℕ} (bytes : List ℕ) → entry_at form 0 bytes ≡ stop false at → 1 ≤ length bytes
unfolding entry_at
not_none form [] z = let y : ◌≡◌ {A = ℕ} 0 1 = cc in absurd (omega arith)
not_none form (b ∷ bytes) z = omega arith

-- ---- the sheet

module _ (form : Form) (sheet : List ℕ) (e : Entry) (es : List Entry) (f : InForm (other form) sheet) (has : entries_of (other form) sheet ≡ e ∷ es) where
  -- read in this form, it is at fault behind its first stamp
  pub read-fault : sheet_of form sheet ≡ row-none false (behind_stamp e)
  unfolding sheet_from sheet_text all_written
  read-fault =
      let r = read-written (other form) sheet 0 f in
      let text : sheet ≡ entry_text (other form) e ++ sheet_text (other form) es = r.0 ∙ ap (sheet_text (other form)) has in
      let can = (both_true (written (other form) e) _ (sym (ap (all_written (other form)) has) ∙ r.2)).0 in
      let fits = leb-true e.stamp stamp_most (written-parts (other form) e can).stamp_fits in
      let at : entry_at form 0 sheet ≡ stop false (behind_stamp e) = ap (entry_at form 0) text ∙ text_fault form e (sheet_text (other form) es) fits in
      let some : 1 ≤ length sheet = not_none form sheet at in
      row_fault form (length sheet) (length sheet) (behind_stamp e) sheet refl some at

  -- by the rules: 21 where it is too long, otherwise 20 at the line behind its first stamp
  pub rewrite-other :
      {old out : List ℕ} {x : Answer} → Rewrites form sheet old x out
      → (byte_limit form < length sheet → x ≡ refused 21 0) × (length sheet ≤ byte_limit form → x ≡ refused 20 (behind_stamp e))
  unfolding rewrite_rules
  rewrite-other call = (
    λ h. (rewrites call).0 ∙ rw (lt-leb (length sheet) (byte_limit form) h),
    λ h. (rewrites call).0 ∙ rw (le-leb (length sheet) (byte_limit form) h, read-fault),
  )

  -- as the first of two that are joined, where neither is too long
  pub join-other-first :
      {second old out : List ℕ} {x : Answer} → JoinsSheets form sheet second old x out
      → (byte_limit form < length sheet → x ≡ refused 21 0)
      × (length sheet ≤ byte_limit form → length second ≤ byte_limit form → x ≡ refused 20 (behind_stamp e))
  unfolding join_rules
  join-other-first {second} call = (
    λ h. (joins_sheets call).0 ∙ rw (lt-leb (length sheet) (byte_limit form) h),
    λ h l. (joins_sheets call).0 ∙ rw (le-leb (length sheet) (byte_limit form) h, le-leb (length second) (byte_limit form) l, read-fault),
  )

  -- as the second, where the first is in form
  pub join-other-second :
      {first old out : List ℕ} {x : Answer} → JoinsSheets form first sheet old x out → length first ≤ byte_limit form
      → (byte_limit form < length sheet → x ≡ refused 21 0) × (length sheet ≤ byte_limit form → InForm form first → x ≡ refused 20 (behind_stamp e))
  unfolding join_rules
  join-other-second {first} call l = (
    λ h. (joins_sheets call).0 ∙ rw (le-leb (length first) (byte_limit form) l, lt-leb (length sheet) (byte_limit form) h),
    λ h g. (joins_sheets call).0 ∙ rw (le-leb (length first) (byte_limit form) l, le-leb (length sheet) (byte_limit form) h, g, read-fault),
  )

  -- under a table that is added, where the table and its count are taken
  pub add-other :
      {stamp mended : ℕ} {table old out : List ℕ} {x : Answer} → AddsTable form stamp mended sheet table old x out → Every (entry_rules form mended table)
      → (byte_limit form < length sheet → x ≡ refused 21 0) × (length sheet ≤ byte_limit form → x ≡ refused 20 (behind_stamp e))
  add-other {stamp} {mended} {table} {old} call every =
      let p = sym (passes refused (Ok 0) every) in
      let a = (adds-table call).0 ∙ sym (add-goes-on form stamp mended sheet table old 0 p refl).0 in (
        λ h. a ∙ rw (lt-leb (length sheet) (byte_limit form) h),
        λ h. a ∙ rw (le-leb (length sheet) (byte_limit form) h, read-fault),
      )

  -- as the first of two that are compared
  pub compare-other-first :
      {second old out : List ℕ} {x : Compared} → ComparesSheets form sheet second old x out
      → (byte_limit form < length sheet → x.answer ≡ refused 21 0) × (length sheet ≤ byte_limit form → x.answer ≡ refused 20 (behind_stamp e))
  unfolding compare_rules rewrite_rules
  compare-other-first call = (
    λ h. (compares call).0 ∙ rw (lt-leb (length sheet) (byte_limit form) h),
    λ h. (compares call).0 ∙ rw (le-leb (length sheet) (byte_limit form) h, read-fault),
  )

  -- as the second, where the first is accepted
  pub compare-other-second :
      {first old out : List ℕ} {x : Compared} → ComparesSheets form first sheet old x out → Every (rewrite_rules form first)
      → (byte_limit form < length sheet → x.answer ≡ refused 21 0) × (length sheet ≤ byte_limit form → x.answer ≡ refused 20 (behind_stamp e))
  unfolding compare_rules rewrite_rules
  compare-other-second call every =
      let b = others_hold every in
      let c = others_hold b in
      let d = others_hold c in (
        λ h. (compares call).0 ∙ rw (first_holds every, first_holds b, first_holds c, first_holds d, lt-leb (length sheet) (byte_limit form) h),
        λ h. (compares call).0 ∙ rw (first_holds every, first_holds b, first_holds c, first_holds d, le-leb (length sheet) (byte_limit form) h, read-fault),
      )
