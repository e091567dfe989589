-- Tables added one by one: each call of `add` does what `join` does with the sheet of that one entry, so the order can't matter where it
-- doesn't to `join`. Assumes nothing.
use mathlib.Core.Path.{◌≡◌, ◌∙◌, refl, sym}
use mathlib.Core.List.{List, [], ◌∷◌, ◌++◌, map, append-nil, append_assoc}
use Prim.Native.Nat.{ℕ, ◌≤◌}
use native.Mathlib.Omega.{arith}
use lib.ListN.{length, replicate, length-replicate}
use borrow.Author.Tests.{leb-true}
use Rattle.std.specs.declared.result.Result.TheVariants.{Ok}
use Rattle.laws.specs.Each.{Each, nil, and}
use Rattle.laws.specs.Together.{Reordered, keep, Tree, one, two, leaves}
use Rattle.laws.proofs.Eaches.{each_map}
use Rattle.laws.proofs.Trees.{each-reordered, reordered_map}
use Rattle.answer.specs.Values.{refused}
use Rattle.answer.proofs.Judging.{passes}
use Rattle.answer.proofs.Lent.{lent-all}
use Rattle.answer.proofs.Steps.{first_holds, others_hold}
use Rattle.day_sheet.specs.Entries.{sheet_text, byte_limit}
use Rattle.sheet_entry.specs.Writing.{stamped}
use Rattle.sheet_joins.specs.Calls.{join_rules, join_result}
use Rattle.day_sheet.specs.Reading.{InForm}
use Rattle.sheet_joins.specs.AnyOrder.{Joins, Run, lent, call, Room, Captured, sheet_of_one, Adds, Added, all, next, Takes}
use Rattle.sheet_joins.proofs.AnyOrder.{any_order, one-read}
use Rattle.sheet_entry.proofs.Spelling.{entry-judged, stamped-written}
use Rattle.sheet_joins.proofs.Added.{add-answers, add-leaves, add-goes-on}
use Rattle.sheet_entry.specs.declared.Form.{Form}

module _ (form : Form) where
  -- an accepted joining has two sheets that aren't too long
  second_short : (first second sheet : List ℕ) → Joins form first second sheet → length second ≤ byte_limit form
  unfolding join_rules
  second_short first second sheet j =
      let l = length-replicate {A = ℕ} (byte_limit form) 0 in
      let a = j.answers (replicate (byte_limit form) 0) (omega arith) in
      let e = (lent-all (join_rules form first second) (sheet_text form (join_result form first second)) (replicate (byte_limit form) 0) (length sheet) a).0 in
      leb-true (length second) (byte_limit form) (first_holds (others_hold e))

  pub joins-adds : (sheet : List ℕ) (c : Captured) (result : List ℕ) → Takes form c → Joins form sheet (sheet_of_one form c) result → Adds form sheet c result
  joins-adds sheet c result t j =
      let f = c.table in
      let g = entry-judged form c.mended f t.form_holds in
      let l = second_short sheet (sheet_of_one form c) result j in
      let p = sym (passes refused (Ok 0) t.form_holds) in
      record {
        answers =
            λ out big.
            sym (add-goes-on form c.stamp c.mended sheet f out 0 p refl).0
            ∙ sym (add-answers form c.stamp c.mended sheet f t.stamp_fits g l out)
            ∙ j.answers out big;
        writes =
            λ out big.
            sym (add-goes-on form c.stamp c.mended sheet f out 0 p refl).1
            ∙ sym (add-leaves form c.stamp c.mended sheet f t.stamp_fits g l out)
            ∙ j.writes out big;
      }

  -- ---- a row of them as a tree

  spine : Tree (List ℕ) → List Captured → Tree (List ℕ)
  spine t [] = t
  spine t (c ∷ cs) = spine (two t (one (sheet_of_one form c))) cs

  spine-leaves : (t : Tree (List ℕ)) (cs : List Captured) → leaves (spine t cs) ≡ leaves t ++ map (sheet_of_one form) cs
  unfolding spine leaves
  spine-leaves t [] = sym (append-nil (leaves t))
  spine-leaves t (c ∷ cs) =
      spine-leaves (two t (one (sheet_of_one form c))) cs ∙ append_assoc (leaves t) (sheet_of_one form c ∷ []) (map (sheet_of_one form) cs)

  -- what a call of such a tree leaves behind
  spine-run :
      (t : Tree (List ℕ)) {cs : List Captured} {result : List ℕ} → Each (Takes form) cs → Run form (spine t cs) result
      → (sheet : List ℕ) × Run form t sheet × Added form sheet cs result
  unfolding spine
  spine-run t {result = result} nil r = (result, r, all result)
  spine-run t {result = result} (and {a = x} p e) r =
      let q = spine-run (two t (one (sheet_of_one form x))) e r in last-call p q.1 q.2
    where
      last-call :
          {c : Captured} {cs : List Captured} {middle : List ℕ} → Takes form c → Run form (two t (one (sheet_of_one form c))) middle → Added form middle cs result
          → (sheet : List ℕ) × Run form t sheet × Added form sheet (c ∷ cs) result
      last-call {c} {middle = middle} h (call {a = a} s (lent o) j) d = (a, s, next (joins-adds a c middle h j) d)

  one-run : {sheet result : List ℕ} → Run form (one sheet) result → result ≡ sheet
  one-run (lent s) = refl

  ones-in-form : {cs : List Captured} → Each (Takes form) cs → Each (InForm form) (map (sheet_of_one form) cs)
  ones-in-form e =
      each_map (sheet_of_one form)
      (λ x p.
      let j = entry-judged form x.mended x.table p.form_holds in
      (one-read form (stamped x.stamp x.mended x.table) (stamped-written form x.stamp x.mended x.table p.stamp_fits j.1 j.0)).0)
      e

  -- tables added one by one in any order give the same sheet, and no call is refused, where the premise holds of the sheet and of the sheets of
  -- the one entries
  pub added-in-any-order :
      (sheet : List ℕ) (cs ds : List Captured) → InForm form sheet → Each (Takes form) cs → Reordered cs ds → Room form (sheet ∷ map (sheet_of_one form) cs)
      → (result : List ℕ) × Added form sheet cs result × Added form sheet ds result
  unfolding leaves
  added-in-any-order sheet cs ds f t o r =
      let l = spine-leaves (one sheet) cs in
      let m = spine-leaves (one sheet) ds in
      let x =
      any_order form (spine (one sheet) cs) (spine (one sheet) ds) (rw l (and f (ones-in-form t))) (rw (l, m) (keep (reordered_map (sheet_of_one form) o))) (rw l r) in
      let a = spine-run (one sheet) t x.1 in
      let b = spine-run (one sheet) (each-reordered o t) x.2 in
      (x.0, rw (one-run a.1) at a.2, rw (one-run b.1) at b.2)
