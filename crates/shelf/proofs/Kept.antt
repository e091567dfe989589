-- What an accepted `put` makes of the shelf (SCOPE 23.9): the form is found under its number, every other number leads where it led before,
-- and so it goes on. Assumes nothing.
use mathlib.Core.Path.{◌≡◌, ◌∙◌, refl, sym, ap}
use mathlib.Core.Bool.{Bool, true, false}
use mathlib.Core.List.{List, [], ◌++◌, append_assoc}
use Prim.Native.Nat.{ℕ, ◌+◌, ◌-◌, ◌*◌, ◌≤◌, ◌<◌}
use native.Mathlib.Omega.{arith}
use borrow.Author.Tests.{eqb-true, eqb-false, leb-true, ltb-true, ltb-false}
use lib.Dec.{eqb, ltb}
use lib.ListN.{length, take, drop, replicate, length-append, length-drop, get_or-append}
use lib.Seq.{sets, sets-eq, length-sets, take_at, drop_at, length-take-le}
use Rattle.std.specs.declared.result.Result.TheVariants.{Ok}
use Rattle.answer.proofs.Steps.{first_holds, others_hold}
use Rattle.answer.proofs.Lent.{lent-all}
use Rattle.shelf.specs.Shelf.{three_of, number_in, row_of, head_of, standing, before, number_at, way_back, place_of, Named}
use Rattle.shelf.specs.Putting.{heads_length, put_rules, row_in, entry_of, put_answer, shelf_after, heads_after}
use Rattle.shelf.proofs.Ways.{stands, found_here, found-on, way_same}
use Rattle.shelf.proofs.Stored.{sets_left, three-stored, three-before, three-behind, three-zeros}
use Rattle.shelf.proofs.Puts.{Sized, sized-true, put-done}

-- a shelf begins with heads of zeros and no byte in use
pub named_none : Named (replicate heads_length 0) 0
named_none row h = rw three-zeros (omega arith)

-- ---- the lists as an accepted call leaves them

module _ (form : List ℕ) (used : ℕ) (heads shelf : List ℕ) (sized : Sized form used heads shelf) (least : 4 ≤ length form)
    (fits : used + (3 + length form) ≤ length shelf) (named : Named heads used) where
  abbrev row : ℕ
  row = row_in form

  -- the entry that was last in the row
  abbrev last : ℕ
  last = head_of row heads

  abbrev heads' : List ℕ
  heads' = sets heads (3 * row) (three_of (used + 1))

  abbrev shelf' : List ℕ
  shelf' = sets shelf used (entry_of form heads)

  last-low : last ≤ used - 6
  last-low = named row (omega arith)

  -- its row names the new entry, every other row what it named
  head-new : head_of row heads' ≡ used + 1
  unfolding three_of
  head-new = three-stored heads (3 * row) (used + 1) [] (omega (arith, sized.whole)) (omega (arith, sized.most))

  head-other : (r : ℕ) → r < 256 → (r ≡ row → ⊥) → head_of r heads' ≡ head_of r heads
  unfolding three_of
  head-other r h d = go (ltb r row) refl
    where
      go : (b : Bool) → ltb r row ≡ b → head_of r heads' ≡ head_of r heads
      go true e = let l = ltb-true r row e in three-before heads (3 * row) (three_of (used + 1)) (3 * r) (omega arith)
      go false e =
          let l = ltb-false r row e in
          let m : row < r = omega arith in
          three-behind heads (3 * row) (three_of (used + 1)) (3 * r) (omega arith)

  -- the shelf behind the link: the form, and what was there
  abbrev others : List ℕ
  others = drop (used + length (entry_of form heads)) shelf

  behind-link : drop (used + 3) shelf' ≡ form ++ others
  unfolding three_of
  behind-link =
      let link = three_of last in
      let e : shelf' ≡ (take used shelf ++ link) ++ (form ++ others) =
      sets-eq (entry_of form heads) shelf used (omega arith)
      ∙ ap (λ (l : List ℕ). l ++ others) (sym (append_assoc (take used shelf) link form))
      ∙ append_assoc (take used shelf ++ link) form others in
      rw e (drop_at (take used shelf ++ link) (form ++ others) (used + 3) (length-append (take used shelf) link ∙ rw (length-take-le used shelf sized.within)))

  new-stands : standing (used + 1) shelf' ≡ true
  new-stands = stands (used + 1) shelf' (omega arith) (rw length-sets (omega arith))

  new-number : number_at (used + 1) shelf' ≡ number_in form
  unfolding number_in
  new-number =
      let e : used + 1 + 2 ≡ used + 3 = omega arith in
      rw (e, behind-link, get_or-append form others 0 2 (omega arith), get_or-append form others 0 3 (omega arith))

  new-before : before (used + 1) shelf' ≡ last
  new-before =
      let e : used + 1 - 1 ≡ used = omega arith in
      rw e (three-stored shelf used last form fits (omega (arith, last-low, sized.within, sized.most)))

  -- a way that began before leads where it led
  led : (n number p : ℕ) → p ≤ used - 6 → way_back n number p shelf' ≡ way_back n number p shelf
  led = way_same shelf shelf' used (length-sets shelf used (entry_of form heads)) (λ i h. sets_left shelf used (entry_of form heads) i h)

  found-new : place_of (number_in form) heads' shelf' ≡ used + 3
  unfolding place_of
  found-new =
      let e : used + 1 + 2 ≡ used + 3 = omega arith in
      rw head-new (sym (found_here (number_in form) (used + 1) shelf' new-stands new-number) ∙ e)

  found-other : (number : ℕ) → (number ≡ number_in form → ⊥) → place_of number heads' shelf' ≡ place_of number heads shelf
  unfolding place_of
  found-other number d = go (eqb (row_of number) row) refl
    where
      go :
          (b : Bool) → eqb (row_of number) row ≡ b
          → way_back (head_of (row_of number) heads') number (head_of (row_of number) heads') shelf'
          ≡ way_back (head_of (row_of number) heads) number (head_of (row_of number) heads) shelf
      go true e =
          rw (eqb-true (row_of number) row e, head-new)
          (sym (found-on number (used + 1) shelf' new-stands (λ f. d (sym f ∙ new-number)) (omega (arith, new-before, last-low)))
          ∙ ap (λ (p : ℕ). way_back p number p shelf') new-before
          ∙ led last number last last-low)
      go false e =
          let r : row_of number < 256 = omega arith in
          rw (head-other (row_of number) r (eqb-false (row_of number) row e))
          (led (head_of (row_of number) heads) number (head_of (row_of number) heads) (named (row_of number) r))

  named-on : Named heads' (used + (3 + length form))
  named-on r h = go (eqb r row) refl
    where
      go : (b : Bool) → eqb r row ≡ b → head_of r heads' ≤ used + (3 + length form) - 6
      go true e = rw (eqb-true r row e, head-new) (omega arith)
      go false e = rw (head-other r h (eqb-false r row e)) (omega (arith, named r h))

-- ---- what is promised of an accepted call

pub record Keeps (form : List ℕ) (used : ℕ) (heads shelf : List ℕ) (n : ℕ) : Type 0 where
  -- the form is found, whole
  pub found : place_of (number_in form) (heads_after form used heads shelf) (shelf_after form used heads shelf) ≡ used + 3
  pub whole : take (length form) (drop (used + 3) (shelf_after form used heads shelf)) ≡ form
  -- every other number leads where it led, among bytes that are as they were
  pub others :
      (number : ℕ) → (number ≡ number_in form → ⊥)
      → place_of number (heads_after form used heads shelf) (shelf_after form used heads shelf) ≡ place_of number heads shelf
  pub first : take used (shelf_after form used heads shelf) ≡ take used shelf
  -- and the next call may rely on as much
  pub named : Named (heads_after form used heads shelf) (used + n)
  pub within : used + n ≤ length (shelf_after form used heads shelf)

pub keeps :
    (form : List ℕ) (used : ℕ) (heads shelf : List ℕ) (n : ℕ) → Named heads used → put_answer form used heads shelf ≡ Ok n
    → Keeps form used heads shelf n
unfolding put_answer put_rules three_of
keeps form used heads shelf n named e =
    let a = lent-all (put_rules form used heads shelf) (entry_of form heads) (drop used shelf) n e in
    let t = first_holds a.0 in
    let s = sized-true form used heads shelf t in
    let l : 4 ≤ length form = leb-true 4 (length form) (first_holds (others_hold a.0)) in
    let w = s.within in
    let f : used + (3 + length form) ≤ length shelf = omega (arith, a.1, length-drop used shelf) in
    let d = put-done form used heads shelf t l (omega arith) in
    let m : n ≡ 3 + length form = omega (arith, a.2) in
    let h = d.1.0 in
    let g = d.1.1 in
    record {
      found = rw (← h, ← g) (found-new form used heads shelf s l f named);
      whole = rw (← g) (rw (behind-link form used heads shelf s l f named) (take_at form (others form used heads shelf s l f named) (length form) refl));
      others = rw (← h, ← g) (found-other form used heads shelf s l f named);
      first = rw (← g) (rw (sets-eq (entry_of form heads) shelf used (omega arith), append_assoc) (take_at (take used shelf) _ used (length-take-le used shelf w)));
      named = rw (m, ← h) (named-on form used heads shelf s l f named);
      within = rw (m, ← g, length-sets) f;
    }
