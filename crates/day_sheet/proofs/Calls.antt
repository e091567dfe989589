-- The call of `rewrite` and what it says: given room, it is accepted exactly when the bytes say entries within the limits, and what it writes
-- are those bytes. Assumes nothing.
use mathlib.Core.Path.{◌≡◌, ◌∙◌, sym, ap}
use mathlib.Core.List.{List, ◌++◌}
use Prim.Native.Nat.{ℕ, ◌≤◌}
use native.Mathlib.Omega.{arith}
use lib.ListN.{length, drop}
use borrow.Author.Tests.{le-leb, leb-true}
use Rattle.std.specs.declared.result.Result.TheVariants.{Ok}
use Rattle.answer.specs.Rules.{Every, none, more}
use Rattle.answer.proofs.Lent.{lent-accepted, lent-all}
use Rattle.answer.proofs.Steps.{first_holds, others_hold}
use Rattle.sheet_entry.specs.Entries.{Entry}
use Rattle.day_sheet.specs.Entries.{sheet_text, entry_limit, byte_limit}
use Rattle.day_sheet.specs.Calls.{entries_of, limited, rewrite_rules, rewritten}
use Rattle.day_sheet.specs.Saying.{Says, rewrite_answer, rewrite_left}
use Rattle.day_sheet.proofs.Exact.{read-written, reads_exactly}
use Rattle.day_sheet.proofs.Limits.{within-limit}
use Rattle.sheet_entry.specs.declared.Form.{Form}

module _ (form : Form) where
  says-rules : (sheet : List ℕ) (es : List Entry) → Says form sheet es → Every (rewrite_rules form sheet) × (rewritten form sheet ≡ sheet)
  unfolding rewrite_rules rewritten
  says-rules sheet es s =
      let r = (reads_exactly form sheet es).1 (s.text, s.rise, s.can) in
      let l = s.short in
      let t = ap length s.text in
      let k : Every (limited form es) = more (le-leb (length es) entry_limit s.few) (more (le-leb (length (sheet_text form es)) (byte_limit form) (omega arith)) none) in
      let m : Every (limited form (entries_of form sheet)) = rw r.1 k in (
        more (le-leb (length sheet) (byte_limit form) s.short) (more r.0 m),
        ap (sheet_text form) r.1 ∙ sym s.text,
      )

  module _ (sheet old : List ℕ) where
    -- bytes that say entries, with room: the same bytes stand at the front of the output
    pub call-takes :
        (es : List Entry) → Says form sheet es → length sheet ≤ length old
        → (rewrite_answer form sheet old ≡ Ok (length sheet)) × (rewrite_left form sheet old ≡ sheet ++ drop (length sheet) old)
    call-takes es s h =
        let r = says-rules sheet es s in
        let b = sym r.1 in
        let p : length (rewritten form sheet) ≤ length old = rw r.1 h in
        let a = lent-accepted (rewrite_rules form sheet) (rewritten form sheet) old r.0 p in
        (a.0 ∙ ap (λ (x : List ℕ). Ok (length x)) r.1, a.1 ∙ ap (λ (x : List ℕ). x ++ drop (length x) old) r.1)

    -- bytes that the call accepts say the entries that are read from them, and it writes the same bytes
    pub call_says :
        (n : ℕ) → rewrite_answer form sheet old ≡ Ok n
        → Says form sheet (entries_of form sheet) × (n ≡ length sheet) × (rewrite_left form sheet old ≡ sheet ++ drop (length sheet) old)
    unfolding rewrite_rules
    call_says n e =
        let w = lent-all (rewrite_rules form sheet) (rewritten form sheet) old n e in
        let f = first_holds (others_hold w.0) in
        let r = read-written form sheet 0 f in
        let l = within-limit form (entries_of form sheet) (others_hold (others_hold w.0)) in
        let s : Says form sheet (entries_of form sheet) =
        record {
          text = r.0;
          rise = r.1;
          can = r.2;
          few = l.0;
          short = leb-true (length sheet) (byte_limit form) (first_holds w.0);
        } in
        let b = (says-rules sheet (entries_of form sheet) s).1 in
        let p = w.1 in
        let q = ap length b in
        (s, w.2 ∙ q, (call-takes (entries_of form sheet) s (omega arith)).1)
