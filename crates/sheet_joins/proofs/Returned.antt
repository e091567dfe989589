-- An entry that was dropped, added again, makes the same sheet. Assumes nothing.
use mathlib.Core.Path.{◌≡◌, ◌∙◌, refl, sym, ap, subst}
use mathlib.Core.Bool.{Bool, true, false}
use mathlib.Core.Option.{Option, none, some}
use mathlib.Core.List.{List, [], ◌∷◌, append-nil}
use Prim.Native.Nat.{ℕ, ◌≤◌}
use native.Mathlib.Omega.{arith}
use lib.Dec.{eqb}
use lib.ListN.{length}
use borrow.Author.Tests.{le-leb, leb-true}
use Rattle.laws.specs.Pick.{pick}
use Rattle.laws.specs.Each.{Each, nil, and}
use Rattle.laws.specs.Keyed.{rising_from, lookup, chosen}
use Rattle.laws.specs.Orders.{greater}
use Rattle.laws.specs.Together.{total}
use Rattle.laws.proofs.Eaches.{each_first, each-rest}
use Rattle.laws.proofs.Merging.{lookup-here, lookup-past, at_key, rising-only}
use Rattle.laws.proofs.Joined.{join-rises, join-lookup}
use Rattle.forms.specs.Tables.{Table}
use Rattle.forms.specs.Form.{form as table_form}
use Rattle.forms.proofs.Forms.{form_in}
use Rattle.sheet_entry.specs.Entries.{Entry, key_of, entry_text, stamp_most, mended_most}
use Rattle.sheet_entry.specs.Writing.{stamped}
use Rattle.sheet_entry.specs.Internal.{Judged}
use Rattle.sheet_entry.proofs.Spelling.{entry_every, entry_most_lem}
use Rattle.sheet_entry.proofs.Entered.{written-parts}
use Rattle.day_sheet.specs.Entries.{sheet_text, entry_limit, byte_limit}
use Rattle.sheet_joins.specs.Joining.{at_most, joined}
use Rattle.day_sheet.specs.Dropping.{without}
use Rattle.day_sheet.specs.Calls.{entries_of}
use Rattle.day_sheet.specs.Reading.{InForm}
use Rattle.sheet_joins.specs.AnyOrder.{Joins, Captured, sheet_of_one, Adds, Takes, size_of}
use Rattle.day_sheet.specs.Dropped.{Drops}
use Rattle.day_sheet.proofs.Fronts.{Fit}
use Rattle.sheet_joins.proofs.AnyOrder.{decides, sheet-of, text-length, joins}
use Rattle.sheet_joins.proofs.Meeting.{Sheet}
use Rattle.day_sheet.proofs.Choosing.{written-sendable}
use Rattle.day_sheet.proofs.Exact.{read-written}
use Rattle.day_sheet.proofs.Dropped.{others-stay, none_left, fewer, still, drops}
use Rattle.sheet_joins.proofs.OneByOne.{joins-adds}
use Rattle.sheet_joins.proofs.Merged.{joined_merged}
use Rattle.day_sheet.proofs.Limits.{entry-within}
use Rattle.sheet_entry.specs.declared.Form.{Form}

module _ (form : Form) where
  module _ (network kind block : ℕ) where
    pub sheet-without : {es : List Entry} → Sheet form es → Sheet form (without network kind block es)
    sheet-without {es} g = let s = still form network kind block 0 es g.rises g.fit in record { rises = s.0; fit = s.1 }

-- ---- added again

-- an entry's stamp, what was mended of it, and its table's form
abbrev pub captured : Entry → Captured
captured e = record { stamp = e.stamp; mended = e.mended; table = table_form e.table }

module _ (form : Form) where
  stamped-again : (e : Entry) → Fit form e → stamped e.stamp e.mended (table_form e.table) ≡ e
  unfolding stamped
  stamped-again e w =
      let t = e.table in
      rw (form_in t (written-sendable form e w))
      (ap
      (λ (c : ℕ). record {
        stamp = e.stamp;
        mended = e.mended;
        table = record { kind = t.kind; copyright = c; block = t.block; network = t.network; descriptors = t.descriptors };
      })
      (sym (written-parts form e w).uncopied))

  module _ (sheet : List ℕ) (e : Entry) (f : InForm form sheet) (there : lookup key_of (key_of e) (entries_of form sheet) ≡ some e) where
    abbrev rest : List Entry
    rest = without e.table.network e.table.kind e.table.block (entries_of form sheet)

    -- what is looked up is an entry of the list
    looked : (es : List Entry) → Each (Fit form) es → lookup key_of (key_of e) es ≡ some e → Fit form e
    unfolding lookup
    looked [] g h = let z : ◌≡◌ {A = ℕ} 0 1 = cc in absurd (omega arith)
    looked (x ∷ es) g h = go (eqb (key_of x) (key_of e)) h (looked es (each-rest g))
      where
        go : (z : Bool) → pick z (some x) (lookup key_of (key_of e) es) ≡ some e → (lookup key_of (key_of e) es ≡ some e → Fit form e) → Fit form e
        go true h ih = let q : x ≡ e = cc in subst (Fit form) q (each_first g)
        go false h ih = ih h

    can : Fit form e
    can = looked (entries_of form sheet) (sheet-of form sheet f).fit there

    one : Sheet form (e ∷ [])
    unfolding rising_from
    one = record { rises = rw (le-leb 0 (key_of e) (omega arith)); fit = and can nil }

    only-first : (o : Option Entry) → chosen (greater at_most) o none ≡ o
    unfolding chosen
    only-first none = refl
    only-first (some x) = refl

    one-text : sheet_text form (e ∷ []) ≡ entry_text form e
    unfolding sheet_text
    one-text = append-nil (entry_text form e)

    nothing : (k : ℕ) → lookup key_of k [] ≡ none
    unfolding lookup
    nothing k = refl

    joined-again : joined rest (e ∷ []) ≡ entries_of form sheet
    unfolding chosen
    joined-again =
        let g = sheet-of form sheet f in
        let s = sheet-without form e.table.network e.table.kind e.table.block g in
        joined_merged rest (e ∷ [])
        ∙ rising-only key_of 0 _ (entries_of form sheet) (join-rises key_of (Fit form) at_most (decides form) 0 rest (e ∷ []) s.rises one.rises) g.rises
        (λ k. join-lookup key_of (Fit form) at_most (decides form) 0 k rest (e ∷ []) s.rises one.rises ∙ at_key key_of e k (here k) (other k))
      where
        here : (k : ℕ) → key_of e ≡ k → chosen (greater at_most) (lookup key_of k rest) (lookup key_of k (e ∷ [])) ≡ lookup key_of k (entries_of form sheet)
        here k h =
            let s = written-sendable form e can in
            let b = s.block_fits in
            let gone : lookup key_of k rest ≡ none =
            subst (λ (x : ℕ). lookup key_of x rest ≡ none) h
            (unfold key_of in none_left form e.table.network e.table.kind e.table.block (omega arith) s.kind_known (entries_of form sheet) (read-written form sheet 0 f).2) in
            rw (gone, lookup-here key_of k e [] h) (sym (subst (λ (x : ℕ). lookup key_of x (entries_of form sheet) ≡ some e) h there))

        other : (k : ℕ) → (key_of e ≡ k → ⊥) → chosen (greater at_most) (lookup key_of k rest) (lookup key_of k (e ∷ [])) ≡ lookup key_of k (entries_of form sheet)
        other k n =
            rw (lookup-past key_of k e [] n ∙ nothing k)
            (only-first (lookup key_of k rest)
            ∙ others-stay form e.table.network e.table.kind e.table.block k (λ z. n (unfold key_of in sym z)) (entries_of form sheet))

    judged : Judged (table_form e.table)
    judged =
        let i = form_in e.table (written-sendable form e can) in
        record { whole = ap (λ (t : Table). length (table_form t)) (sym i); fit = rw i (written-parts form e can).fit }

    stamp-in : e.stamp ≤ stamp_most
    stamp-in = leb-true e.stamp stamp_most (written-parts form e can).stamp_fits

    mended-in : e.mended ≤ mended_most form
    mended-in = leb-true e.mended (mended_most form) (written-parts form e can).mended_fits

    one-fits : total (size_of form) (e ∷ []) ≤ byte_limit form
    unfolding total
    one-fits =
        let m = entry_most_lem form e.stamp e.mended (table_form e.table) stamp-in mended-in judged in
        let n = ap (λ (x : Entry). length (entry_text form x)) (stamped-again e can) in
        omega (arith, entry-within form)

    takes : Takes form (captured e)
    takes = record { form_holds = entry_every form e.mended (table_form e.table) judged mended-in; stamp_fits = stamp-in }

    -- dropped, and then added with its stamp and its table: the same sheet, with room in both calls
    pub drop-and-add :
        length sheet ≤ byte_limit form → length (entries_of form sheet) ≤ entry_limit
        → Drops form e.table.network e.table.kind e.table.block sheet (sheet_text form rest) × Adds form (sheet_text form rest) (captured e) sheet
    drop-and-add b n =
        let g = sheet-of form sheet f in
        let same = (read-written form sheet 0 f).0 in
        let t = ap length same in
        let s = sheet-without form e.table.network e.table.kind e.table.block g in
        let w = fewer form e.table.network e.table.kind e.table.block (entries_of form sheet) in
        let u = text-length form rest in
        let v = text-length form (entries_of form sheet) in
        let j : Joins form (sheet_text form rest) (sheet_text form (e ∷ [])) (sheet_text form (joined rest (e ∷ []))) =
        joins form s one (omega arith) one-fits (rw joined-again (record { entries = n; length_in_all = omega arith })) in
        let c : sheet_text form (e ∷ []) ≡ sheet_of_one form (captured e) = one-text ∙ ap (entry_text form) (sym (stamped-again e can)) in
        let k : Joins form (sheet_text form rest) (sheet_of_one form (captured e)) sheet =
        subst (λ (x : List ℕ). Joins form (sheet_text form rest) (sheet_of_one form (captured e)) x) (ap (sheet_text form) joined-again ∙ sym same)
        (subst (λ (x : List ℕ). Joins form (sheet_text form rest) x (sheet_text form (joined rest (e ∷ [])))) c j) in
        (drops form e.table.network e.table.kind e.table.block sheet f b n, joins-adds form (sheet_text form rest) (captured e) sheet takes k)
