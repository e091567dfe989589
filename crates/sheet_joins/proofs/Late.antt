-- What joining and adding promise of a sheet: no entry is set back, none is made up, and the premise under which the order of files can't
-- matter, in the customer's own words too. Assumes nothing.
use mathlib.Core.Path.{◌≡◌, ◌∙◌, refl, sym, ap}
use mathlib.Core.Bool.{true}
use mathlib.Core.List.{List, [], ◌∷◌, map}
use mathlib.Core.Option.{some}
use mathlib.Core.Logic.{◌⊎◌, inl, inr}
use Prim.Native.Nat.{ℕ, ◌≤◌}
use native.Mathlib.Omega.{arith}
use lib.ListN.{length, take, drop}
use lib.Seq.{take-append-le}
use borrow.Author.Tests.{leb-true}
use Rattle.std.specs.declared.result.Result.TheVariants.{Ok, Err}
use Rattle.laws.specs.Each.{Each, nil, and}
use Rattle.laws.specs.Keyed.{lookup}
use Rattle.laws.specs.Together.{together, totals}
use Rattle.laws.proofs.Ordering.{in-turn}
use Rattle.laws.proofs.Joined.{never-back-first, never-back-second, join_one}
use Rattle.laws.proofs.Needs.{within-joined, within-sum, within-itself}
use Rattle.answer.specs.Answer.{Answer}
use Rattle.answer.specs.Values.{written_of}
use Rattle.answer.specs.Writing.{answered, after}
use Rattle.answer.proofs.Lent.{lent-all}
use Rattle.sheet_entry.specs.Entries.{Entry, key_of}
use Rattle.day_sheet.specs.Entries.{sheet_text, entry_limit, byte_limit}
use Rattle.sheet_joins.specs.Joining.{at_most}
use Rattle.day_sheet.specs.Calls.{entries_of}
use Rattle.sheet_joins.specs.Calls.{join_rules, join_result}
use Rattle.sheet_joins.specs.AnyOrder.{join_answer, join_left, size_of, Room}
use Rattle.day_sheet.specs.Reading.{InForm}
use Rattle.sheet_joins.specs.Work.{bytes_of}
use Rattle.day_sheet.proofs.Exact.{read-written}
use Rattle.sheet_joins.proofs.AnyOrder.{by_stamp_lem, by_rest, decides, join-either-order, sheet-of, sheets-of, text_of, text-length, sheet-joined}
use Rattle.day_sheet.proofs.Fronts.{Fit}
use Rattle.sheet_joins.proofs.Merged.{joined_merged}
use Rattle.sheet_entry.specs.declared.Form.{Form}

-- ---- never back

-- the stamp of an entry that stands at or above another is at least its stamp
pub later_stamp : (x z : Entry) → at_most x z ≡ true → x.stamp ≤ z.stamp
later_stamp x z h =
    leb-true x.stamp z.stamp (in-turn by_stamp_lem by_rest x z h).0

module _ (form : Form) where
  module _ (first second : List ℕ) (f : InForm form first) (g : InForm form second) (k : ℕ) where
    -- what stands at a key of either sheet stands there in the joined one, or an entry of that key with a stamp at least as great
    pub never_back :
        (e : Entry) → (lookup key_of k (entries_of form first) ≡ some e) ⊎ (lookup key_of k (entries_of form second) ≡ some e)
        → (z : Entry) × (lookup key_of k (join_result form first second) ≡ some z) × (e.stamp ≤ z.stamp)
    unfolding join_result
    never_back e (inl h) =
        let r = never-back-first key_of (Fit form) at_most (decides form) 0 k (entries_of form first) (entries_of form second) (read-written form first 0 f).1 (read-written form second 0 g).1 h in
        (r.0, ap (lookup key_of k) (joined_merged (entries_of form first) (entries_of form second)) ∙ r.1, later_stamp e r.0 r.2)
    never_back e (inr h) =
        let r = never-back-second key_of (Fit form) at_most (decides form) 0 k (entries_of form first) (entries_of form second) (read-written form first 0 f).1 (read-written form second 0 g).1 h in
        (r.0, ap (lookup key_of k) (joined_merged (entries_of form first) (entries_of form second)) ∙ r.1, later_stamp e r.0 r.2)

    -- every entry of the joined sheet is one of theirs
    pub one-of-theirs :
        (z : Entry) → lookup key_of k (join_result form first second) ≡ some z
        → (lookup key_of k (entries_of form first) ≡ some z) ⊎ (lookup key_of k (entries_of form second) ≡ some z)
    unfolding join_result
    one-of-theirs z h =
        join_one key_of (Fit form) at_most (decides form) 0 k (entries_of form first) (entries_of form second) (read-written form first 0 f).1 (read-written form second 0 g).1
        (sym (ap (lookup key_of k) (joined_merged (entries_of form first) (entries_of form second))) ∙ h)

  -- ---- either order, into outputs of one length

  -- what a call reports as written are its bytes
  reported :
      (a : Answer) (bytes old : List ℕ) → ((n : ℕ) → a ≡ Ok n → n ≤ length bytes)
      → take (written_of a) (after a bytes old) ≡ take (written_of a) bytes
  reported (Ok n) bytes old h = take-append-le n bytes (drop (length bytes) old) (h n refl)
  reported (Err r) bytes old h = refl

  -- for any two sheets in form, and outputs of one length, the two orders answer the same and write the same bytes, 21 and 1 included
  pub either-order-outputs :
      (first second out out' : List ℕ) → InForm form first → InForm form second → length out ≡ length out'
      → (join_answer form first second out ≡ join_answer form second first out')
      × (take (written_of (join_answer form first second out)) (join_left form first second out)
      ≡ take (written_of (join_answer form second first out')) (join_left form second first out'))
  either-order-outputs first second out out' f g l =
      let rules = join_rules form first second in
      let bytes = sheet_text form (join_result form first second) in
      let a : join_answer form first second out ≡ join_answer form first second out' = rw l in
      let e = join-either-order form first second out' f g in
      let p : (old : List ℕ) (n : ℕ) → answered rules bytes old ≡ Ok n → n ≤ length bytes =
      λ old n d. let w = lent-all rules bytes old n d in omega (arith, w.2) in (
        a ∙ e.0,
        reported (join_answer form first second out) bytes out (p out)
            ∙ ap (λ (x : Answer). take (written_of x) bytes) a
            ∙ sym (reported (join_answer form first second out') bytes out' (p out'))
            ∙ ap (λ (x : Answer). take (written_of x) (join_left form first second out')) e.0
            ∙ ap (take (written_of (join_answer form second first out'))) e.1,
      )

  -- ---- the premise

  -- it is closed under joining: where it holds of all the sheets, it holds with two of them joined
  pub room_joined :
      (first second : List ℕ) (others : List (List ℕ)) → InForm form first → InForm form second → Each (InForm form) others → Room form (first ∷ second ∷ others)
      → Room form (sheet_text form (join_result form first second) ∷ others)
  unfolding join_result
  room_joined first second others f g e r =
      let t = text_of form (sheet-joined form (sheet-of form first f) (sheet-of form second g)) in
      rw (t.1, joined_merged (entries_of form first) (entries_of form second)) (within-joined key_of (size_of form) (Fit form) at_most (decides form) (sheet-of form first f) (sheet-of form second g) (sheets-of form e) r)

  -- the sheets have at most 64 keys, and all their bytes are at most 16,384
  bytes-total : {sheets : List (List ℕ)} → Each (InForm form) sheets → totals (size_of form) (map (entries_of form) sheets) ≡ bytes_of sheets
  unfolding bytes_of totals
  bytes-total nil = refl
  bytes-total (and {a = x} h e) =
      let l = text-length form (entries_of form x) in
      let m = ap length (read-written form x 0 h).0 in
      let n = bytes-total e in
      omega arith

  pub room-sum :
      (sheets : List (List ℕ)) → Each (InForm form) sheets → length (together key_of (size_of form) (map (entries_of form) sheets)) ≤ entry_limit
      → bytes_of sheets ≤ byte_limit form → Room form sheets
  room-sum sheets e k l = let t = bytes-total e in within-sum key_of (size_of form) (map (entries_of form) sheets) k (omega arith)

  -- a sheet within the limits, with itself
  pub room-itself :
      (sheet : List ℕ) → InForm form sheet → length (entries_of form sheet) ≤ entry_limit → length sheet ≤ byte_limit form → Room form (sheet ∷ sheet ∷ [])
  room-itself sheet f k l =
      let t = text-length form (entries_of form sheet) in
      let m = ap length (read-written form sheet 0 f).0 in
      within-itself key_of (size_of form) (Fit form) at_most (decides form) (sheet-of form sheet f) (record { entries = k; length_in_all = omega arith })
