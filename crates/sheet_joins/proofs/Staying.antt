-- No call sets an entry back: at each key of what `join` or `add` wrote, read again, stands the greater of what stood there. Assumes nothing.
use mathlib.Core.Path.{◌≡◌, ◌∙◌, refl, sym, ap}
use mathlib.Core.List.{List, [], ◌∷◌, ◌++◌}
use mathlib.Core.Option.{Option, none, some}
use mathlib.Core.Logic.{◌⊎◌, inl, inr}
use Prim.Native.Nat.{ℕ, ◌≤◌}
use native.Mathlib.Omega.{arith}
use borrow.Author.Tests.{le-leb, lt-leb}
use Rattle.laws.specs.Keyed.{lookup, chosen, merge}
use Rattle.laws.specs.Orders.{greater}
use Rattle.laws.proofs.Ordering.{greater-first, greater-second}
use Rattle.laws.proofs.Joined.{join-lookup, join_one}
use Rattle.sheet_entry.specs.Entries.{Entry, key_of, stamp_most}
use Rattle.day_sheet.specs.Entries.{sheet_text}
use Rattle.sheet_joins.specs.Joining.{at_most, joined}
use Rattle.day_sheet.specs.Calls.{entries_of}
use Rattle.sheet_joins.specs.Calls.{join_result, add_result}
use Rattle.day_sheet.specs.Reading.{InForm}
use Rattle.sheet_joins.specs.AnyOrder.{Joins, Captured, sheet_of_one, Adds}
use Rattle.sheet_joins.specs.Work.{Work, sheets_of, Wrote, stood, joined as work_joined, added, In, here, there}
use Rattle.sheet_joins.specs.Late.{stands_at, Stays, NeverBack, Kept}
use Rattle.day_sheet.proofs.Exact.{read-written}
use Rattle.day_sheet.proofs.Fronts.{Fit}
use Rattle.sheet_joins.proofs.AnyOrder.{decides, sheet-of, text_of, sheet-joined}
use Rattle.sheet_joins.proofs.Late.{later_stamp}
use Rattle.sheet_joins.proofs.Accepting.{joins-said, adds-said}
use Rattle.sheet_joins.proofs.Members.{in_one_lem}
use Rattle.sheet_joins.proofs.Mixed.{one_table}
use Rattle.sheet_joins.proofs.Merged.{joined_merged}
use Rattle.sheet_entry.specs.declared.Form.{Form}

-- ---- the greater of two

module _ (form : Form) where
  first-stays : (e : Entry) (other : Option Entry) → (z : Entry) × (chosen (greater at_most) (some e) other ≡ some z) × Stays e other z
  unfolding chosen
  first-stays e none = (e, refl, record { not_older = omega arith; newest = λ h. refl })
  first-stays e (some o) = (
    greater at_most e o,
    refl,
    record {
      not_older = later_stamp e (greater at_most e o) (greater-first (decides form).ordered e o);
      newest = λ h. rw (lt-leb e.stamp o.stamp (h o refl));
    },
  )

  second-stays : (e : Entry) (other : Option Entry) → (z : Entry) × (chosen (greater at_most) other (some e) ≡ some z) × Stays e other z
  unfolding chosen
  second-stays e none = (e, refl, record { not_older = omega arith; newest = λ h. refl })
  second-stays e (some o) = (
    greater at_most o e,
    refl,
    record {
      not_older = later_stamp e (greater at_most o e) (greater-second (decides form).ordered o e);
      newest =
          λ h.
          let l = h o refl in rw (le-leb o.stamp e.stamp (omega arith), lt-leb e.stamp o.stamp l);
    },
  )

  -- ---- the calls

  joined-stays :
      {first second sheet : List ℕ} → InForm form first → InForm form second → sheet ≡ sheet_text form (joined (entries_of form first) (entries_of form second))
      → NeverBack form first second sheet
  joined-stays {first} {second} {sheet} f g e =
      let xs = entries_of form first in
      let ys = entries_of form second in
      let p = (read-written form first 0 f).1 in
      let q = (read-written form second 0 g).1 in
      let t = text_of form (sheet-joined form (sheet-of form first f) (sheet-of form second g)) in
      let r : entries_of form sheet ≡ merge key_of (greater at_most) xs ys = ap (entries_of form) e ∙ t.1 ∙ joined_merged xs ys in
      let at : (k : ℕ) → stands_at form k sheet ≡ chosen (greater at_most) (stands_at form k first) (stands_at form k second) =
      λ k. ap (lookup key_of k) r ∙ join-lookup key_of (Fit form) at_most (decides form) 0 k xs ys p q in
      record {
        in_form = rw e t.0;
        of_first = λ k x h. rw (at k, h) (first-stays x (stands_at form k second));
        of_second = λ k x h. rw (at k, h) (second-stays x (stands_at form k first));
        theirs = λ k z h. join_one key_of (Fit form) at_most (decides form) 0 k xs ys p q (sym (ap (lookup key_of k) r) ∙ h);
      }

  -- of what `join` writes
  pub join-never-back : {first second sheet : List ℕ} → Joins form first second sheet → NeverBack form first second sheet
  unfolding join_result
  join-never-back {first} {second} j = let s = joins-said form first second j in joined-stays s.0 s.1 s.2

  -- of what `add` writes: its table is the sheet of its one entry
  pub add-never-back :
      {sheet result : List ℕ} (c : Captured) → c.stamp ≤ stamp_most → Adds form sheet c result → NeverBack form sheet (sheet_of_one form c) result
  unfolding add_result
  add-never-back {sheet} c h a =
      let s = adds-said form sheet c a in
      let t = one_table form c (record { form_holds = s.0; stamp_fits = h }) in
      joined-stays s.1 t.0 (s.2 ∙ ap (λ (es : List Entry). sheet_text form (joined (entries_of form sheet) es)) (sym t.1))

  -- ---- of all that came together

  in_either : {B : Type 0} {x : B} (xs : List B) {ys : List B} → In x (xs ++ ys) → In x xs ⊎ In x ys
  in_either [] i = inr i
  in_either (y ∷ xs) here = inl here
  in_either (y ∷ xs) (there i) = further (in_either xs i)
    where
      further : {B : Type 0} {x y : B} {xs ys : List B} → In x xs ⊎ In x ys → In x (y ∷ xs) ⊎ In x ys
      further (inl j) = inl (there j)
      further (inr j) = inr j

  itself : {s sheet : List ℕ} → In s (sheet ∷ []) → (k : ℕ) (e : Entry) → stands_at form k s ≡ some e → Kept form k e sheet
  itself i k e h = record { entry = e; stands = rw (in_one_lem i) at h; not_older = omega arith }

  -- what stood in either of two, or in what they came from
  of-both :
      {k : ℕ} {e : Entry} {s a b sheet : List ℕ} {xs ys : List (List ℕ)} → NeverBack form a b sheet → (In s xs → Kept form k e a) → (In s ys → Kept form k e b)
      → In s xs ⊎ In s ys → Kept form k e sheet
  of-both {k} {e} {sheet = sheet} n f g (inl i) =
      let x = f i in
      let y = n.of_first k x.entry x.stands in
      record { entry = y.0; stands = y.1; not_older = let l = x.not_older in let m = y.2.not_older in omega arith }
  of-both {k} {e} {sheet = sheet} n f g (inr i) =
      let x = g i in
      let y = n.of_second k x.entry x.stands in
      record { entry = y.0; stands = y.1; not_older = let l = x.not_older in let m = y.2.not_older in omega arith }

  -- of each entry of each sheet and table, however they came together
  pub work-never-back :
      {w : Work} {sheet s : List ℕ} → Wrote form w sheet → In s (sheets_of form w) → (k : ℕ) (e : Entry) → stands_at form k s ≡ some e → Kept form k e sheet
  unfolding sheets_of
  work-never-back (stood sheet) i k e h = itself i k e h
  work-never-back (work_joined {v = v} {w = w} p q j) i k e h =
      of-both (join-never-back j) (λ i. work-never-back p i k e h) (λ i. work-never-back q i k e h) (in_either (sheets_of form v) i)
  work-never-back (added {w = w} {c = c} p l a) i k e h =
      of-both (add-never-back c l a) (λ i. work-never-back p i k e h) (λ i. itself i k e h) (in_either (sheets_of form w) i)

  in_first : {B : Type 0} {x : B} {xs : List B} (ys : List B) → In x xs → In x (xs ++ ys)
  in-first ys here = here
  in-first ys (there i) = there (in-first ys i)

  in_second : {B : Type 0} {x : B} (xs : List B) {ys : List B} → In x ys → In x (xs ++ ys)
  in-second [] i = i
  in-second (y ∷ xs) i = there (in-second xs i)

  -- and every entry of what they came to is one of theirs
  pub work-theirs :
      {w : Work} {sheet : List ℕ} → Wrote form w sheet → (k : ℕ) (z : Entry) → stands_at form k sheet ≡ some z
      → (s : List ℕ) × In s (sheets_of form w) × (stands_at form k s ≡ some z)
  unfolding sheets_of
  work-theirs (stood sheet) k z h = (sheet, here, h)
  work-theirs (work_joined {v = v} {w = w} p q j) k z h = go ((join-never-back j).theirs k z h) (work-theirs p k z) (work-theirs q k z)
    where
      go :
          {A B : Type 0} → A ⊎ B → (A → (s : List ℕ) × In s (sheets_of form v) × (stands_at form k s ≡ some z))
          → (B → (s : List ℕ) × In s (sheets_of form w) × (stands_at form k s ≡ some z))
          → (s : List ℕ) × In s (sheets_of form v ++ sheets_of form w) × (stands_at form k s ≡ some z)
      go (inl e) f g = let x = f e in (x.0, in-first (sheets_of form w) x.1, x.2)
      go (inr e) f g = let x = g e in (x.0, in-second (sheets_of form v) x.1, x.2)
  work-theirs (added {w = w} {c = c} p l a) k z h = go ((add-never-back c l a).theirs k z h) (work-theirs p k z)
    where
      go :
          {A : Type 0} → A ⊎ (stands_at form k (sheet_of_one form c) ≡ some z) → (A → (s : List ℕ) × In s (sheets_of form w) × (stands_at form k s ≡ some z))
          → (s : List ℕ) × In s (sheets_of form w ++ (sheet_of_one form c ∷ [])) × (stands_at form k s ≡ some z)
      go (inl e) f = let x = f e in (x.0, in-first (sheet_of_one form c ∷ []) x.1, x.2)
      go (inr e) f = (sheet_of_one form c, in-second (sheets_of form w) here, e)
