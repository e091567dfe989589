-- A form put on the shelf, from the tests that led there. Assumes nothing.
use mathlib.Core.Path.{◌≡◌, ◌∙◌, refl, sym, ap}
use mathlib.Core.Bool.{Bool, true, false}
use mathlib.Core.List.{List, ◌++◌, append_assoc}
use Prim.Native.Nat.{ℕ, ◌+◌, ◌-◌, ◌*◌, ◌%◌, ◌≤◌, ◌<◌}
use native.Mathlib.Omega.{arith}
use borrow.Author.Tests.{leb-true, eqb-true, le-leb, lt-leb}
use lib.Dec.{eqb, leb}
use lib.ListN.{length, take, drop, length-drop, take-append-drop}
use lib.Seq.{sets, sets-eq, drop-drop, take-length}
use Rattle.std.specs.declared.result.Result.TheVariants.{Ok}
use Rattle.laws.specs.Pick.{both}
use Rattle.laws.proofs.Stores.{sets_next}
use Rattle.laws.proofs.Tests.{both_true}
use Rattle.answer.specs.Answer.{Answer}
use Rattle.answer.specs.Rules.{none, more}
use Rattle.answer.specs.Values.{refused}
use Rattle.answer.specs.Writing.{after}
use Rattle.answer.proofs.Lent.{lent-accepted}
use Rattle.shelf.specs.Shelf.{three, three_of, number_in}
use Rattle.shelf.specs.Putting.{heads_length, shelf_most, put_rules, row_in, entry_of, put_answer, shelf_after, headed, heads_after}

-- the new name stored at the head of the form's row, and link and form one after the other on the shelf
module _ (form heads : List ℕ) (n : ℕ) (e : n ≡ number_in form) where
  pub head-stored : (used : ℕ) → sets heads (3 * (n % 256)) (three_of (used + 1)) ≡ sets heads (3 * row_in form) (three_of (used + 1))
  head-stored used = rw e

  pub entry-stored :
      (shelf linked full : List ℕ) (used last : ℕ) → last ≡ three heads (3 * (n % 256)) → linked ≡ sets shelf used (three_of last)
      → full ≡ sets linked (used + 3) (take (length form) form)
      → full ≡ sets shelf used (entry_of form heads)
  unfolding three_of
  entry-stored shelf linked full used last h g f =
      f
      ∙ ap (sets linked (used + 3)) (take-length form)
      ∙ sets_next shelf linked used 3 (three_of last) form (entry_of form heads) (rw (h, e)) refl g

module _ (form : List ℕ) (used : ℕ) (heads shelf : List ℕ) where
  -- the test of the lengths
  abbrev pub sized : Bool
  sized = both (eqb (length heads) heads_length) (both (leb used (length shelf)) (leb (length shelf) shelf_most))

  -- what it says
  pub record Sized : Type 0 where
    pub whole : length heads ≡ heads_length
    pub within : used ≤ length shelf
    pub most : length shelf ≤ shelf_most

  pub sized-true : sized ≡ true → Sized
  sized-true e =
      let a = both_true (eqb (length heads) heads_length) (both (leb used (length shelf)) (leb (length shelf) shelf_most)) e in
      let b = both_true (leb used (length shelf)) (leb (length shelf) shelf_most) a.1 in
      record {
        whole = eqb-true (length heads) heads_length a.0;
        within = leb-true used (length shelf) b.0;
        most = leb-true (length shelf) shelf_most b.1;
      }

  -- the call's three promises
  abbrev pub Comes : Answer → List ℕ → List ℕ → Type 0
  Comes r heads' shelf' =
      (r ≡ put_answer form used heads shelf)
      × ((heads' ≡ heads_after form used heads shelf) × (shelf' ≡ shelf_after form used heads shelf))

  -- a refusal leaves both lists
  refusal : {r : Answer} (number : ℕ) → r ≡ refused number 0 → refused number 0 ≡ put_answer form used heads shelf → Comes r heads shelf
  unfolding put_answer heads_after shelf_after
  refusal number q e = (
    q ∙ e,
    (
      ap (λ (x : Answer). headed x form used heads) e,
      sym (take-append-drop used shelf) ∙ ap (λ (x : Answer). take used shelf ++ after x (entry_of form heads) (drop used shelf)) e,
    ),
  )

  pub put-unsized : {r : Answer} → sized ≡ false → r ≡ refused 16 0 → Comes r heads shelf
  unfolding put_answer put_rules
  put-unsized e q = refusal 16 q (rw e)

  pub put-short : {r : Answer} → sized ≡ true → length form < 4 → r ≡ refused 13 0 → Comes r heads shelf
  unfolding put_answer put_rules
  put-short e h q = refusal 13 q (rw (e, lt-leb 4 (length form) h))

  entry_length : length (entry_of form heads) ≡ 3 + length form
  unfolding three_of
  entry_length = omega arith

  pub put_full : {r : Answer} → sized ≡ true → 4 ≤ length form → length shelf - used < 3 + length form → r ≡ refused 1 0 → Comes r heads shelf
  unfolding put_answer put_rules
  put_full e h k q =
      let l : length (drop used shelf) < length (entry_of form heads) = omega (arith, length-drop used shelf, entry_length) in
      refusal 1 q (rw (e, le-leb 4 (length form) h, lt-leb (length (entry_of form heads)) (length (drop used shelf)) l))

  pub put-done :
      sized ≡ true → 4 ≤ length form → 3 + length form ≤ length shelf - used
      → Comes (Ok (3 + length form)) (sets heads (3 * row_in form) (three_of (used + 1))) (sets shelf used (entry_of form heads))
  unfolding put_answer put_rules heads_after shelf_after
  put-done e h k =
      let s = sized-true e in
      let n = entry_length in
      let l : length (entry_of form heads) ≤ length (drop used shelf) = omega (arith, length-drop used shelf) in
      let a = lent-accepted (put_rules form used heads shelf) (entry_of form heads) (drop used shelf) (more e (more (le-leb 4 (length form) h) none)) l in
      let d = ap Ok n in (
        sym (a.0 ∙ d),
        (
          sym (ap (λ (r : Answer). headed r form used heads) a.0),
          sets-eq (entry_of form heads) shelf used (omega arith)
              ∙ append_assoc (take used shelf) (entry_of form heads) (drop (used + length (entry_of form heads)) shelf)
              ∙ ap (λ (l : List ℕ). take used shelf ++ (entry_of form heads ++ l)) (sym (drop-drop (length (entry_of form heads)) used shelf))
              ∙ sym (ap (λ (l : List ℕ). take used shelf ++ l) a.1),
        ),
      )
