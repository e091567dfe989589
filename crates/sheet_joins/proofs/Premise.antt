-- The premise in the customer's words: where all the sheets together have at most 64 keys and 16,384 bytes, no call is refused, whatever the
-- order and the grouping, and the same sheet comes out. What is joined of them has no more bytes than they have, and rises, so it has at most
-- as many entries as there are keys. Assumes nothing.
use mathlib.Core.Path.{◌≡◌, ◌∙◌, refl, sym, ap}
use mathlib.Core.Bool.{Bool, true}
use mathlib.Core.List.{List, [], ◌∷◌, ◌++◌}
use Prim.Native.Nat.{ℕ, suc, ◌+◌, ◌≤◌, ◌<◌}
use native.Mathlib.Omega.{arith}
use lib.ListN.{length}
use Rattle.laws.specs.Each.{Each, nil, and}
use Rattle.laws.specs.Keyed.{rising_from, merge}
use Rattle.laws.specs.Orders.{greater, Ordered}
use Rattle.laws.specs.Together.{Reordered, none, keep, swap, then, total}
use Rattle.laws.proofs.Eaches.{each_first, each_left, each_right}
use Rattle.laws.proofs.Ordering.{greater-one}
use Rattle.laws.proofs.Merging.{merge-right, merge_less, merge-same, merge-more, along, rising-first, rising-rest}
use Rattle.laws.proofs.Joined.{join-each}
use Rattle.laws.proofs.Trees.{Good, each-reordered}
use Rattle.sheet_entry.specs.Entries.{Entry, key_of}
use Rattle.day_sheet.specs.Entries.{sheet_text, entry_limit, byte_limit}
use Rattle.sheet_joins.specs.Joining.{at_most, joined}
use Rattle.day_sheet.specs.Calls.{entries_of}
use Rattle.day_sheet.specs.Reading.{InForm}
use Rattle.sheet_joins.specs.AnyOrder.{Joins, size_of, sheet_of_one}
use Rattle.sheet_joins.specs.Work.{Work, sheets_of, Wrote, stood, joined as work_joined, added, Ready, in_form, each, takes, In, here, there, bytes_of, AllTogether}
use Rattle.day_sheet.proofs.Exact.{read-written}
use Rattle.day_sheet.proofs.Fronts.{Fit}
use Rattle.sheet_joins.proofs.AnyOrder.{decides, sheet-of, sheet-joined, text-length, joins}
use Rattle.sheet_joins.proofs.OneByOne.{joins-adds}
use Rattle.sheet_joins.proofs.Members.{reordered-same}
use Rattle.sheet_joins.proofs.Mixed.{one_table, same-sheet}
use Rattle.sheet_joins.proofs.Merged.{joined_merged}
use Rattle.sheet_entry.specs.declared.Form.{Form}

-- ---- as many as there are keys

-- all but this one
but : {k : ℕ} {ks : List ℕ} → In k ks → List ℕ
but (here {xs = ks}) = ks
but (there {y = y} i) = y ∷ but i

but-one : {k : ℕ} {ks : List ℕ} (i : In k ks) → suc (length (but i)) ≡ length ks
unfolding but
but-one here = refl
but-one (there i) = ap suc (but-one i)

still_in : {k n : ℕ} {ks : List ℕ} → In n ks → (i : In k ks) → (n ≡ k → ⊥) → In n (but i)
unfolding but
still_in here here n = absurd (n refl)
still_in (there j) here n = j
still_in here (there i) n = here
still_in (there j) (there i) n = there (still_in j i n)

module _ {A : Type 0} (key : A → ℕ) where
  abbrev Among : List ℕ → List A → Type 0
  Among ks xs = Each (λ (x : A). In (key x) ks) xs

  above_in : {ks : List ℕ} (l : ℕ) {k : ℕ} {xs : List A} → rising_from key l xs ≡ true → Among ks xs → (i : In k ks) → k < l → Among (but i) xs
  above_in l r nil i h = nil
  above_in l r (and {a = x} {l = xs} j e) i h =
      let f = rising-first key l x xs r in
      and (still_in j i (λ z. omega arith)) (above_in (suc (key x)) (rising-rest key l x xs r) e i (omega arith))

  as_many : (l : ℕ) (ks : List ℕ) (xs : List A) → rising_from key l xs ≡ true → Among ks xs → length xs ≤ length ks
  as_many l ks [] r e = omega arith
  as_many l ks (x ∷ xs) r (and i e) =
      let q = rising-rest key l x xs r in
      let m = as_many (suc (key x)) (but i) xs q (above_in (suc (key x)) q e i (omega arith)) in
      let b = but-one i in
      omega arith

-- ---- no more bytes than they have

module _ {A : Type 0} (key size : A → ℕ) {leq : A → A → Bool} (o : Ordered leq) where
  abbrev both : List A → List A → List A
  both = merge key (greater leq)

  NoMore : List A → List A → Type 0
  NoMore xs ys = total size (both xs ys) ≤ total size xs + total size ys

  no_more : (xs ys : List A) → NoMore xs ys
  unfolding NoMore merge total
  no_more =
      along key (greater leq) NoMore (λ ys. omega arith) (λ xs. rw (merge-right key (greater leq) xs) (omega arith))
      (λ x xs y ys h ih. rw (merge_less key (greater leq) x xs y ys h) (omega arith))
      (λ x xs y ys h ih.
      let g : size (greater leq x y) ≤ size x + size y = greater-one o (λ (w : A). size w ≤ size x + size y) (omega arith) (omega arith) in
      rw (merge-same key (greater leq) x xs y ys h) (omega arith))
      λ x xs y ys h ih. rw (merge-more key (greater leq) x xs y ys h) (omega arith)

bytes_append : (xs ys : List (List ℕ)) → bytes_of (xs ++ ys) ≡ bytes_of xs + bytes_of ys
unfolding bytes_of
bytes_append [] ys = omega arith
bytes_append (x ∷ xs) ys = rw (bytes_append xs ys) (omega arith)

bytes_reordered : {xs ys : List (List ℕ)} → Reordered xs ys → bytes_of xs ≡ bytes_of ys
unfolding bytes_of
bytes_reordered none = refl
bytes_reordered (keep {x} r) = ap (λ (n : ℕ). length x + n) (bytes_reordered r)
bytes_reordered swap = omega arith
bytes_reordered (then r s) = bytes_reordered r ∙ bytes_reordered s

-- ---- every call is accepted

module _ (form : Form) where
  module _ (ks : List ℕ) (few : length ks ≤ entry_limit) where
    abbrev Keyed : List Entry → Type 0
    Keyed es = Each (λ (e : Entry). In (key_of e) ks) es

    -- entries that can stand in a sheet, of these keys, with no more bytes than the sheets
    record Small (sheets : List (List ℕ)) (es : List Entry) : Type 0 where
      good : Good key_of (Fit form) at_most (decides form) es
      keyed : Keyed es
      long : total (size_of form) es ≤ bytes_of sheets

    small_one : (sheet : List ℕ) → InForm form sheet → Keyed (entries_of form sheet) → Small (sheet ∷ []) (entries_of form sheet)
    unfolding bytes_of
    small_one sheet f k =
        let l = ap length (read-written form sheet 0 f).0 in
        let t = text-length form (entries_of form sheet) in
        record { good = sheet-of form sheet f; keyed = k; long = omega arith }

    small-two : {xs ys : List (List ℕ)} {es fs : List Entry} → Small xs es → Small ys fs → Small (xs ++ ys) (joined es fs)
    unfolding NoMore
    small-two {xs} {ys} {es} {fs} s t =
        let b = bytes_append xs ys in
        let n = no_more key_of (size_of form) (decides form).ordered es fs in
        record {
          good = sheet-joined form s.good t.good;
          keyed = rw (joined_merged es fs) (join-each key_of (Fit form) at_most (decides form) (λ (e : Entry). In (key_of e) ks) es fs s.keyed t.keyed);
          long = let p = s.long in let q = t.long in rw (joined_merged es fs) (omega arith);
        }

    small-joins :
        {xs ys : List (List ℕ)} {es fs : List Entry} → Small xs es → Small ys fs → bytes_of (xs ++ ys) ≤ byte_limit form
        → Joins form (sheet_text form es) (sheet_text form fs) (sheet_text form (joined es fs))
    small-joins {xs} {ys} s t h =
        let b = bytes_append xs ys in
        let p = s.long in
        let q = t.long in
        let u = small-two s t in
        let r = u.long in
        let n = as_many key_of 0 ks _ u.good.rises u.keyed in
        joins form s.good t.good (omega arith) (omega arith) (record { entries = omega arith; length_in_all = omega arith })

    accept :
        {w : Work} → Ready form w → Each (λ (sheet : List ℕ). Keyed (entries_of form sheet)) (sheets_of form w) → bytes_of (sheets_of form w) ≤ byte_limit form
        → (es : List Entry) × Wrote form w (sheet_text form es) × Small (sheets_of form w) es
    unfolding sheets_of
    accept (in_form {sheet} f) k h =
        (entries_of form sheet, rw (sym (read-written form sheet 0 f).0) (stood sheet), small_one sheet f (each_first k))
    accept (each {v} {w} r q) k h =
        let b = bytes_append (sheets_of form v) (sheets_of form w) in
        let x = accept r (each_left (sheets_of form v) (sheets_of form w) k) (omega arith) in
        let y = accept q (each_right (sheets_of form v) (sheets_of form w) k) (omega arith) in
        (joined x.0 y.0, work_joined x.1 y.1 (small-joins x.2 y.2 h), small-two x.2 y.2)
    accept (takes {w} {c} r t) k h =
        let o = one_table form c t in
        let b = bytes_append (sheets_of form w) (sheet_of_one form c ∷ []) in
        let x = accept r (each_left (sheets_of form w) (sheet_of_one form c ∷ []) k) (omega arith) in
        let y = small_one (sheet_of_one form c) o.0 (each_first (each_right (sheets_of form w) (sheet_of_one form c ∷ []) k)) in
        let es = joined x.0 (entries_of form (sheet_of_one form c)) in
        let j : Joins form (sheet_text form x.0) (sheet_of_one form c) (sheet_text form es) = rw (sym (read-written form (sheet_of_one form c) 0 o.0).0) at (small-joins x.2 y h) in
        (es, added x.1 t.stamp_fits (joins-adds form (sheet_text form x.0) c (sheet_text form es) t j), small-two x.2 y)

  -- in the customer's words: sheets in form and tables that block writing takes, which together have at most 64 keys and 16,384 bytes, are joined
  -- and added in any two orders and groupings: every call is accepted, and the same sheet is written
  pub late-files :
      (v w : Work) → Ready form v → Ready form w → Reordered (sheets_of form v) (sheets_of form w) → AllTogether form (sheets_of form v)
      → (sheet : List ℕ) × Wrote form v sheet × Wrote form w sheet
  late-files v w r q o t =
      let b = bytes_reordered o in
      let s = t.short in
      let x = accept t.keys t.few r t.have s in
      let y = accept t.keys t.few q (each-reordered o t.have) (omega arith) in
      let e : sheet_text form x.0 ≡ sheet_text form y.0 = same-sheet form x.1 y.1 (reordered-same o) in
      (sheet_text form x.0, x.1, rw e y.1)
