-- Sheets joined and tables added in any order and grouping. Each call that is accepted joins entries, and a table is the sheet of its one entry,
-- so what comes out are the entries of all the sheets, joined in a row: order and grouping decide whether a call is refused, never what is
-- written. Assumes nothing.
use mathlib.Core.Path.{◌≡◌, ◌∙◌, refl, sym, ap}
use mathlib.Core.Logic.{◌⊎◌, inl, inr}
use mathlib.Core.List.{List, [], ◌∷◌, ◌++◌, map, map-append, append-nil, append_assoc}
use Prim.Native.Nat.{ℕ, ◌≤◌}
use Rattle.laws.specs.Each.{Each, nil, and}
use Rattle.laws.specs.Orders.{greater}
use Rattle.laws.specs.Together.{Tree, one, two, leaves, merge_all}
use Rattle.laws.proofs.Eaches.{each_first, each_append}
use Rattle.laws.proofs.Merging.{merge-right}
use Rattle.laws.proofs.Trees.{all_append}
use Rattle.sheet_entry.specs.Entries.{Entry, key_of, stamp_most}
use Rattle.day_sheet.specs.Entries.{sheet_text}
use Rattle.sheet_joins.specs.Joining.{at_most, joined}
use Rattle.day_sheet.specs.Calls.{entries_of}
use Rattle.sheet_joins.specs.Calls.{add_result, join_result}
use Rattle.sheet_entry.specs.Writing.{stamped}
use Rattle.day_sheet.specs.Reading.{InForm}
use Rattle.sheet_joins.specs.AnyOrder.{Run, lent, call, Captured, sheet_of_one, Added, all as no_more, next, Takes}
use Rattle.sheet_joins.specs.Work.{Work, stands, join, add, sheets_of, Wrote, stood, joined as work_joined, added, Same}
use Rattle.day_sheet.proofs.Exact.{read-written}
use Rattle.day_sheet.proofs.Fronts.{Fit}
use Rattle.sheet_joins.proofs.AnyOrder.{decides, sheet-of, text_of, sheet-joined, sheets-of, one-read}
use Rattle.sheet_entry.proofs.Spelling.{stamped-written, entry-judged}
use Rattle.sheet_joins.proofs.Accepting.{joins-said, adds-said}
use Rattle.sheet_joins.proofs.Members.{each_in, in_one_lem, same_map, same-behind, same-all}
use Rattle.sheet_joins.proofs.Merged.{joined_merged}
use Rattle.sheet_entry.specs.declared.Form.{Form}

abbrev row : List (List Entry) → List Entry
row = merge_all key_of (greater at_most)

module _ (form : Form) where
  -- a sheet in form that has the entries of these sheets, joined in a row
  record Made (sheets : List (List ℕ)) (sheet : List ℕ) : Type 0 where
    sound : InForm form sheet
    of : Each (InForm form) sheets
    holds : entries_of form sheet ≡ row (map (entries_of form) sheets)

  made_one : (sheet : List ℕ) → InForm form sheet → Made (sheet ∷ []) sheet
  unfolding merge_all
  made_one sheet f = record { sound = f; of = and f nil; holds = sym (merge-right key_of (greater at_most) (entries_of form sheet)) }

  made-two :
      {xs ys : List (List ℕ)} {a b sheet : List ℕ} → Made xs a → Made ys b → sheet ≡ sheet_text form (joined (entries_of form a) (entries_of form b))
      → Made (xs ++ ys) sheet
  made-two {xs} {ys} {a} {b} m n e =
      let t = text_of form (sheet-joined form (sheet-of form a m.sound) (sheet-of form b n.sound)) in
      let h : entries_of form (sheet_text form (joined (entries_of form a) (entries_of form b))) ≡ row (map (entries_of form) (xs ++ ys)) =
      t.1
      ∙ joined_merged (entries_of form a) (entries_of form b)
      ∙ rw (m.holds, n.holds)
      (sym (all_append key_of (Fit form) at_most (decides form) (map (entries_of form) xs) (map (entries_of form) ys) (sheets-of form m.of) (sheets-of form n.of)))
      ∙ ap row (sym (map-append (entries_of form) xs ys)) in
      record { sound = rw e t.0; of = each_append m.of n.of; holds = rw e h }

  -- the sheet of a table's one entry
  pub one_table : (c : Captured) → Takes form c → InForm form (sheet_of_one form c) × (entries_of form (sheet_of_one form c) ≡ stamped c.stamp c.mended c.table ∷ [])
  one_table c t =
      let j = entry-judged form c.mended c.table t.form_holds in
      one-read form (stamped c.stamp c.mended c.table) (stamped-written form c.stamp c.mended c.table t.stamp_fits j.1 j.0)

  -- a sheet that is in form was made of its sheets, and one that just stands there is alone
  settled : {xs : List (List ℕ)} {sheet : List ℕ} → Made xs sheet ⊎ (xs ≡ sheet ∷ []) → InForm form sheet → Made xs sheet
  settled (inl m) f = m
  settled {sheet = sheet} (inr e) f = rw e (made_one sheet f)

  made-or-alone : {w : Work} {sheet : List ℕ} → Wrote form w sheet → Made (sheets_of form w) sheet ⊎ (sheets_of form w ≡ sheet ∷ [])
  unfolding sheets_of join_result add_result
  made-or-alone (stood sheet) = inr refl
  made-or-alone (work_joined {a = a} {b = b} v w j) =
      let s = joins-said form a b j in inl (made-two (settled (made-or-alone v) s.0) (settled (made-or-alone w) s.1) s.2)
  made-or-alone (added {c = c} {a = a} w h d) =
      let s = adds-said form a c d in
      let t = one_table c (record { form_holds = s.0; stamp_fits = h }) in
      inl
      (made-two (settled (made-or-alone w) s.1) (made_one (sheet_of_one form c) t.0)
      (s.2 ∙ ap (λ (es : List Entry). sheet_text form (joined (entries_of form a) es)) (sym t.1)))

  made-same : {xs ys : List (List ℕ)} {a b : List ℕ} → Same xs ys → Made xs a → Made ys b → a ≡ b
  made-same {a = a} {b = b} s m n =
      (read-written form a 0 m.sound).0
      ∙ ap (sheet_text form) (m.holds ∙ same-all key_of (Fit form) at_most (decides form) (sheets-of form m.of) (sheets-of form n.of) (same_map (entries_of form) s) ∙ sym n.holds)
      ∙ sym (read-written form b 0 n.sound).0

  -- order and grouping never decide what is written: wherever all calls are accepted, the same sheets and tables give the same bytes
  pub same-sheet : {v w : Work} {a b : List ℕ} → Wrote form v a → Wrote form w b → Same (sheets_of form v) (sheets_of form w) → a ≡ b
  same-sheet {v} {w} {a} {b} p q s = go (made-or-alone p) (made-or-alone q)
    where
      go : Made (sheets_of form v) a ⊎ (sheets_of form v ≡ a ∷ []) → Made (sheets_of form w) b ⊎ (sheets_of form w ≡ b ∷ []) → a ≡ b
      go (inl m) (inl n) = made-same s m n
      go (inl m) (inr g) = made-same s m (settled (inr g) (each_in m.of (each_first (rw g at s.second))))
      go (inr f) (inl n) = made-same s (settled (inr f) (each_in n.of (each_first (rw f at s.first)))) n
      go (inr f) (inr g) = in_one_lem (rw g at (each_first (rw f at s.first)))

  -- ---- trees of joins, and tables added one by one

  as_work : Tree (List ℕ) → Work
  as_work (one sheet) = stands sheet
  as_work (two s t) = join (as_work s) (as_work t)

  as-sheets : (t : Tree (List ℕ)) → sheets_of form (as_work t) ≡ leaves t
  unfolding as_work sheets_of leaves
  as-sheets (one sheet) = refl
  as-sheets (two s t) = rw (as-sheets s, as-sheets t)

  run-wrote : {t : Tree (List ℕ)} {sheet : List ℕ} → Run form t sheet → Wrote form (as_work t) sheet
  unfolding as_work
  run-wrote (lent sheet) = stood sheet
  run-wrote (call r q j) = work_joined (run-wrote r) (run-wrote q) j

  -- of trees of joins
  pub same-tree : {s t : Tree (List ℕ)} {a b : List ℕ} → Run form s a → Run form t b → Same (leaves s) (leaves t) → a ≡ b
  same-tree {s} {t} r q m = same-sheet (run-wrote r) (run-wrote q) (rw (as-sheets s, as-sheets t) m)

  chain : Work → List Captured → Work
  chain w [] = w
  chain w (c ∷ cs) = chain (add w c) cs

  chain-sheets : (w : Work) (cs : List Captured) → sheets_of form (chain w cs) ≡ sheets_of form w ++ map (sheet_of_one form) cs
  unfolding chain sheets_of
  chain-sheets w [] = sym (append-nil (sheets_of form w))
  chain-sheets w (c ∷ cs) = chain-sheets (add w c) cs ∙ append_assoc (sheets_of form w) (sheet_of_one form c ∷ []) (map (sheet_of_one form) cs)

  added-wrote :
      {w : Work} {sheet result : List ℕ} {cs : List Captured} → Wrote form w sheet → Each (λ (c : Captured). c.stamp ≤ stamp_most) cs
      → Added form sheet cs result → Wrote form (chain w cs) result
  unfolding chain
  added-wrote p nil (no_more sheet) = p
  added-wrote p (and h e) (next a d) = added-wrote (added p h a) e d

  -- of tables added to one sheet, one after the other
  pub same-added :
      {sheet a b : List ℕ} {cs ds : List Captured} → Each (λ (c : Captured). c.stamp ≤ stamp_most) cs
      → Each (λ (c : Captured). c.stamp ≤ stamp_most) ds → Added form sheet cs a → Added form sheet ds b → Same cs ds → a ≡ b
  unfolding sheets_of
  same-added {sheet} {cs = cs} {ds = ds} e f p q s =
      let m = same_map (sheet_of_one form) s in
      same-sheet (added-wrote (stood sheet) e p) (added-wrote (stood sheet) f q)
      (rw (chain-sheets (stands sheet) cs, chain-sheets (stands sheet) ds) (same-behind sheet m))
