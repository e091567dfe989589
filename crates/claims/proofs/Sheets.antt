-- The day sheet's promises of the calls themselves, from the contracts alone: what `rewrite` accepts it writes again byte for byte; neither
-- `join` nor `add` sets an entry back; and wherever all calls are accepted, the same sheets and tables give the same bytes, in any order and
-- grouping. Assumes nothing.
use mathlib.Core.Path.{◌≡◌, ◌∙◌, refl, sym, ap, ap₂, subst}
use mathlib.Core.Logic.{◌⊎◌}
use mathlib.Core.List.{List, [], ◌∷◌, ◌++◌}
use Prim.Native.Nat.{ℕ, ◌≤◌}
use native.Mathlib.Omega.{arith}
use lib.ListN.{length, drop, replicate, length-replicate}
use lib.Seq.{take-append_seam}
use Rattle.std.specs.declared.result.Result.TheVariants.{Ok}
use Rattle.laws.specs.Each.{Each, nil, and}
use Rattle.laws.specs.Together.{Reordered}
use Rattle.laws.proofs.Eaches.{each_first, each_left, each_right, each_append}
use Rattle.answer.specs.Answer.{Answer}
use Rattle.answer.specs.Values.{refused}
use Rattle.answer.specs.Writing.{answered, left}
use Rattle.texts.specs.Texts.{empty_lines}
use Rattle.sheet_entry.specs.Entries.{Entry, stamp_most}
use Rattle.day_sheet.specs.Entries.{sheet_text, byte_limit}
use Rattle.day_sheet.specs.Calls.{entries_of, drop_rules, drop_result}
use Rattle.sheet_joins.specs.Calls.{add_rules, add_result}
use Rattle.sheet_joins.specs.AnyOrder.{join_answer, join_left, Joins, Captured, sheet_of_one, Adds}
use Rattle.day_sheet.specs.Reading.{InForm}
use Rattle.day_sheet.specs.Saying.{Says, rewrite_answer, rewrite_left}
use Rattle.day_sheet.specs.Faults.{FirstFault}
use Rattle.sheet_joins.specs.Late.{NeverBack}
use Rattle.sheet_joins.specs.Work.{Work, sheets_of, Wrote, stood, joined, added, Ready, in_form, each, takes, Same, AllTogether}
use Rattle.day_sheet.proofs.Calls.{call-takes, call_says}
use Rattle.day_sheet.proofs.Emptied.{counts-entries}
use Rattle.day_sheet.proofs.Telling.{rewrite-told, drop-told}
use Rattle.sheet_joins.proofs.Telling.{join-told, add-told}
use Rattle.sheet_joins.proofs.Accepting.{accepted-joins, accepted-adds}
use Rattle.sheet_joins.proofs.Staying.{join-never-back, add-never-back}
use Rattle.sheet_joins.proofs.Mixed.{same-sheet}
use Rattle.sheet_joins.proofs.Premise.{late-files}
use Rattle.claims.specs.Calls.{reported}
use Rattle.claims.specs.Sheets.{Rewrites, rewrite-sheet, JoinsSheets, join-sheets, AddsTable, add-table, DropsEntry, drop-entry, Counts, count_entries, Accepted, Called, none, joins, adds}
use Rattle.claims.proofs.Happening.{lend, lend_out}
use Rattle.sheet_entry.specs.declared.Form.{Form}

-- ---- what each call says

pub rewrites :
    {form : Form} {sheet old out : List ℕ} {x : Answer} → Rewrites form sheet old x out → (x ≡ rewrite_answer form sheet old) × (out ≡ rewrite_left form sheet old)
rewrites (rewrite-sheet κs a x t post) = post

pub joins_sheets :
    {form : Form} {first second old out : List ℕ} {x : Answer} → JoinsSheets form first second old x out
    → (x ≡ join_answer form first second old) × (out ≡ join_left form first second old)
joins_sheets (join-sheets κs a x t post) = post

pub adds-table :
    {form : Form} {stamp mended : ℕ} {sheet table old out : List ℕ} {x : Answer} → AddsTable form stamp mended sheet table old x out
    → (x ≡ answered (add_rules form stamp mended sheet table) (sheet_text form (add_result form stamp mended sheet table)) old)
    × (out ≡ left (add_rules form stamp mended sheet table) (sheet_text form (add_result form stamp mended sheet table)) old)
adds-table (add-table κs a x t post) = post

drops_entry :
    {form : Form} {network kind block : ℕ} {sheet old out : List ℕ} {x : Answer} → DropsEntry form network kind block sheet old x out
    → x ≡ answered (drop_rules form network kind block sheet) (sheet_text form (drop_result form network kind block sheet)) old
drops_entry (drop-entry κs a x t post) = post.0

module _ (form : Form) where
  counts : {text : List ℕ} {n : ℕ} → Counts text n → n ≡ empty_lines text
  counts (count_entries κs a x t post) = post

  -- what an answer reports, of an output with these bytes at its front
  reports : {x : Answer} {out : List ℕ} (bytes old : List ℕ) → x ≡ Ok (length bytes) → out ≡ bytes ++ drop (length bytes) old → reported x out ≡ bytes
  reports bytes old e f = ap₂ reported e f ∙ take-append_seam bytes (drop (length bytes) old)

  -- ---- rewrite

  -- bytes that say entries within the limits, with room: accepted, and the same bytes
  pub rewrite-takes :
      (sheet : List ℕ) (es : List Entry) {old out : List ℕ} {x : Answer} → Rewrites form sheet old x out → Says form sheet es → length sheet ≤ length old
      → (x ≡ Ok (length sheet)) × (reported x out ≡ sheet)
  rewrite-takes sheet es {old} call s h =
      let c = rewrites call in
      let t = call-takes form sheet old es s h in
      let e = c.0 ∙ t.0 in
      (e, reports sheet old e (c.1 ∙ t.1))

  -- what is accepted says its entries, and is written again byte for byte
  pub rewrite-says :
      (sheet : List ℕ) {old out : List ℕ} {x : Answer} → Rewrites form sheet old x out → Accepted x
      → Says form sheet (entries_of form sheet) × (reported x out ≡ sheet)
  rewrite-says sheet {old} call (n, d) =
      let c = rewrites call in
      let s = call_says form sheet old n (sym c.0 ∙ d) in
      (s.0, reports sheet old (d ∙ ap Ok s.1) (c.1 ∙ s.2))

  -- ---- the line at fault

  -- where a call answers 20, its offset names the first line at fault
  pub rewrite-fault :
      {sheet old out : List ℕ} {x : Answer} → Rewrites form sheet old x out → (n : ℕ) → x ≡ refused 20 n → FirstFault form sheet n
  rewrite-fault {sheet} {old} call n e = rewrite-told form sheet old n (sym (rewrites call).0 ∙ e)

  pub add-fault :
      {stamp mended : ℕ} {sheet table old out : List ℕ} {x : Answer} → AddsTable form stamp mended sheet table old x out → (n : ℕ) → x ≡ refused 20 n
      → FirstFault form sheet n
  add-fault {stamp} {mended} {sheet} {table} {old} call n e = add-told form stamp mended sheet table old n (sym (adds-table call).0 ∙ e)

  pub join-fault :
      {first second old out : List ℕ} {x : Answer} → JoinsSheets form first second old x out → (n : ℕ) → x ≡ refused 20 n
      → FirstFault form first n ⊎ (InForm form first × FirstFault form second n)
  join-fault {first} {second} {old} call n e = join-told form first second old n (sym (joins_sheets call).0 ∙ e)

  pub drop-fault :
      {network kind block : ℕ} {sheet old out : List ℕ} {x : Answer} → DropsEntry form network kind block sheet old x out → (n : ℕ) → x ≡ refused 20 n
      → FirstFault form sheet n
  drop-fault {network} {kind} {block} {sheet} {old} call n e = drop-told form network kind block sheet old n (sym (drops_entry call) ∙ e)

  -- ---- entries

  -- of a sheet in form `texts::entries` says how many entries it has
  pub counts-sheet : (sheet : List ℕ) {n : ℕ} → Counts sheet n → InForm form sheet → n ≡ length (entries_of form sheet)
  counts-sheet sheet call f = counts call ∙ counts-entries form sheet f

  -- ---- join and add

  -- what `join` is said to write into every output as long as the limit, a call of it writes
  pub joins-done :
      {first second sheet old out : List ℕ} {x : Answer} → Joins form first second sheet → JoinsSheets form first second old x out
      → byte_limit form ≤ length old → (x ≡ Ok (length sheet)) × (reported x out ≡ sheet)
  joins-done {sheet = sheet} {old = old} j call big =
      let c = joins_sheets call in
      let e = c.0 ∙ j.answers old big in
      (e, reports sheet old e (c.1 ∙ j.writes old big))

  -- and what an accepted call reports, with whatever output, `join` is said to write
  pub done-joins :
      {first second old out : List ℕ} {x : Answer} → JoinsSheets form first second old x out → Accepted x → Joins form first second (reported x out)
  done-joins {first} {second} {old} call (n, d) =
      let c = joins_sheets call in
      let j = accepted-joins form first second old n (sym c.0 ∙ d) in
      subst (Joins form first second) (sym (ap₂ reported d c.1)) j

  -- the same of `add`
  pub adds-done :
      {sheet result old out : List ℕ} {x : Answer} (c : Captured) → Adds form sheet c result → AddsTable form c.stamp c.mended sheet c.table old x out
      → byte_limit form ≤ length old → (x ≡ Ok (length result)) × (reported x out ≡ result)
  adds-done {result = result} {old = old} c a call big =
      let s = adds-table call in
      let e = s.0 ∙ a.answers old big in
      (e, reports result old e (s.1 ∙ a.writes old big))

  pub done-adds :
      {sheet old out : List ℕ} {x : Answer} (c : Captured) → AddsTable form c.stamp c.mended sheet c.table old x out → Accepted x
      → Adds form sheet c (reported x out)
  done-adds {sheet} {old} c call (n, d) =
      let s = adds-table call in
      let a = accepted-adds form sheet c old n (sym s.0 ∙ d) in
      subst (Adds form sheet c) (sym (ap₂ reported d s.1)) a

  -- no call sets an entry back
  pub joined-never-back :
      {first second old out : List ℕ} {x : Answer} → JoinsSheets form first second old x out → Accepted x → NeverBack form first second (reported x out)
  joined-never-back call d = join-never-back form (done-joins call d)

  pub added-never-back :
      {sheet old out : List ℕ} {x : Answer} (c : Captured) → c.stamp ≤ stamp_most → AddsTable form c.stamp c.mended sheet c.table old x out → Accepted x
      → NeverBack form sheet (sheet_of_one form c) (reported x out)
  added-never-back c h call d = add-never-back form c h (done-adds c call d)

  -- ---- any order

  called-wrote : {least : ℕ} {w : Work} {xs : List Answer} {sheet : List ℕ} → Called form least w xs sheet → Each Accepted xs → Wrote form w sheet
  called-wrote (none sheet) e = stood sheet
  called-wrote (joins {xs = xs} {ys = ys} {x = x} p q h call) e =
      let f = each_right xs (ys ++ (x ∷ [])) e in
      joined (called-wrote p (each_left xs (ys ++ (x ∷ [])) e)) (called-wrote q (each_left ys (x ∷ []) f))
      (done-joins call (each_first (each_right ys (x ∷ []) f)))
  called-wrote (adds {c = c} {xs = xs} {x = x} p s h call) e =
      added (called-wrote p (each_left xs (x ∷ []) e)) s (done-adds c call (each_first (each_right xs (x ∷ []) e)))

  -- wherever all calls are accepted, with whatever outputs, the same sheets and tables give the same bytes
  pub calls-same-sheet :
      {k l : ℕ} {v w : Work} {xs ys : List Answer} {a b : List ℕ} → Called form k v xs a → Called form l w ys b → Each Accepted xs → Each Accepted ys
      → Same (sheets_of form v) (sheets_of form w) → a ≡ b
  calls-same-sheet p q e f s = same-sheet form (called-wrote p e) (called-wrote q f) s

  -- what is written where nothing stands in the way, the calls write
  wrote-called :
      {w : Work} {xs : List Answer} {sheet made : List ℕ} → Wrote form w sheet → Called form (byte_limit form) w xs made → Each Accepted xs × (made ≡ sheet)
  wrote-called (stood sheet) (none s) = (nil, refl)
  wrote-called (joined {sheet = sheet} v w j) (joins p q big call) =
      let m = wrote-called v p in
      let n = wrote-called w q in
      let d = joins-done j (rw (m.1, n.1) at call) big in
      (each_append m.0 (each_append n.0 (and (length sheet, d.0) nil)), d.1)
  wrote-called (added {c = c} {sheet = sheet} w h a) (adds p s big call) =
      let m = wrote-called w p in
      let d = adds-done c a (rw m.1 at call) big in
      (each_append m.0 (and (length sheet, d.0) nil), d.1)

  -- in the customer's words: sheets in form and tables that block writing takes, together of at most 64 keys and as many bytes as the form's limit: in any two orders
  -- and groupings every call with an output as long as the limit is accepted, and the last ones report the same bytes
  pub calls-late-files :
      {v w : Work} {xs ys : List Answer} {a b : List ℕ} → Ready form v → Ready form w → Reordered (sheets_of form v) (sheets_of form w) → AllTogether form (sheets_of form v)
      → Called form (byte_limit form) v xs a → Called form (byte_limit form) w ys b → Each Accepted xs × Each Accepted ys × (a ≡ b)
  calls-late-files {v} {w} r q o t p n =
      let s = late-files form v w r q o t in
      let x = wrote-called s.1 p in
      let y = wrote-called s.2 n in
      (x.0, y.0, x.1 ∙ sym y.1)

  -- ---- not empty

  can-join : (first second old : List ℕ) → JoinsSheets form first second old (join_answer form first second old) (join_left form first second old)
  can-join first second old =
      join-sheets ([], ([], ([], tt))) (form, (lend first, (lend second, (lend_out old, tt)))) _ (form, (lend first, (lend second, (lend_out _, tt)))) (refl, refl)

  can-add :
      (stamp mended : ℕ) (sheet table old : List ℕ)
      → AddsTable form stamp mended sheet table old (answered (add_rules form stamp mended sheet table) (sheet_text form (add_result form stamp mended sheet table)) old)
      (left (add_rules form stamp mended sheet table) (sheet_text form (add_result form stamp mended sheet table)) old)
  can-add stamp mended sheet table old =
      add-table ([], ([], ([], tt))) (form, (stamp, (mended, (lend sheet, (lend table, (lend_out old, tt)))))) _ (form, (stamp, (mended, (lend sheet, (lend table, (lend_out _, tt))))))
      (refl, refl)

  as_long : (least : ℕ) → least ≤ length (replicate {A = ℕ} least 0)
  as_long least = let l = length-replicate {A = ℕ} least 0 in omega arith

  -- for all sheets and tables that are ready there are such calls, with outputs of whatever length
  pub works-happen : (least : ℕ) {w : Work} → Ready form w → (xs : List Answer) × (sheet : List ℕ) × Called form least w xs sheet
  works-happen least (in_form {sheet} f) = ([], sheet, none sheet)
  works-happen least (each r q) =
      let p = works-happen least r in
      let o = works-happen least q in
      (_, _, joins p.2 o.2 (as_long least) (can-join p.1 o.1 (replicate least 0)))
  works-happen least (takes {c = c} r t) =
      let p = works-happen least r in
      (_, _, adds p.2 t.stamp_fits (as_long least) (can-add c.stamp c.mended p.1 c.table (replicate least 0)))
