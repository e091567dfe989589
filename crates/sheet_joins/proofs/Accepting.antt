-- What an accepted call of `join` or `add` says of what it was lent and of what it writes. Once one output was long enough, every output
-- that is as long as the limit is. Assumes nothing.
use mathlib.Core.Path.{◌≡◌, ◌∙◌, sym, ap}
use mathlib.Core.List.{List, ◌∷◌, ◌++◌}
use Prim.Native.Nat.{ℕ, ◌≤◌}
use native.Mathlib.Omega.{arith}
use lib.ListN.{length, take, drop, replicate, length-replicate}
use lib.Seq.{take-append_seam}
use Rattle.std.specs.declared.result.Result.TheVariants.{Ok}
use Rattle.answer.specs.Rules.{Rule, Every}
use Rattle.answer.specs.Writing.{answered, left}
use Rattle.answer.proofs.Lent.{lent-accepted, lent-all, front-holds, back-holds}
use Rattle.answer.proofs.Steps.{first_holds, others_hold}
use Rattle.sheet_entry.specs.Writing.{entry_rules}
use Rattle.day_sheet.specs.Entries.{sheet_text, byte_limit}
use Rattle.day_sheet.specs.Calls.{short, formed, limited}
use Rattle.sheet_joins.specs.Calls.{add_result, add_rules, join_rules, join_result}
use Rattle.sheet_joins.specs.AnyOrder.{join_answer, join_left, Joins, Captured, Adds}
use Rattle.day_sheet.specs.Reading.{InForm}
use Rattle.sheet_entry.specs.declared.Form.{Form}
use Rattle.day_sheet.proofs.Limits.{within-limit}

-- ---- any call that writes bytes

same-front : (xs ys us vs : List ℕ) → xs ++ us ≡ ys ++ vs → length xs ≡ length ys → xs ≡ ys
same-front xs ys us vs e l =
    sym (take-append_seam xs us) ∙ ap (take (length xs)) e ∙ ap (λ (n : ℕ). take n (ys ++ vs)) l ∙ take-append_seam ys vs

module _ (rules : List Rule) (bytes : List ℕ) where
  -- what an accepted call reports are its bytes
  pub its_bytes : (old : List ℕ) (n : ℕ) → answered rules bytes old ≡ Ok n → take n (left rules bytes old) ≡ bytes
  its_bytes old n e =
      let w = lent-all rules bytes old n e in
      ap (take n) (lent-accepted rules bytes old w.0 w.1).1
      ∙ ap (λ (k : ℕ). take k (bytes ++ drop (length bytes) old)) w.2
      ∙ take-append_seam bytes (drop (length bytes) old)

  -- a sheet that it writes is its bytes
  pub wrote : (old sheet : List ℕ) → answered rules bytes old ≡ Ok (length sheet) → left rules bytes old ≡ sheet ++ drop (length sheet) old → Every rules × (sheet ≡ bytes)
  wrote old sheet a l =
      let w = lent-all rules bytes old (length sheet) a in
      let b = (lent-accepted rules bytes old w.0 w.1).1 in
      (w.0, same-front sheet bytes (drop (length sheet) old) (drop (length bytes) old) (sym l ∙ b) w.2)

module _ (form : Form) where
  -- an output that is as long as the limit
  pub long-enough : List ℕ
  long-enough = replicate (byte_limit form) 0

  pub is_long : byte_limit form ≤ length long-enough
  unfolding long-enough
  is_long = let l = length-replicate {A = ℕ} (byte_limit form) 0 in omega arith

  -- ---- join

  module _ (first second : List ℕ) where
    pub join-holds :
        Every (join_rules form first second)
        → InForm form first × InForm form second × Every (limited form (join_result form first second))
    unfolding join_rules
    join-holds every =
        let c = others_hold (others_hold every) in
        (first_holds c, first_holds (others_hold c), others_hold (others_hold c))

    -- both sheets are in form, and what is written are their entries, joined
    pub joins-said : {sheet : List ℕ} → Joins form first second sheet → InForm form first × InForm form second × (sheet ≡ sheet_text form (join_result form first second))
    joins-said {sheet} j =
        let w = wrote (join_rules form first second) (sheet_text form (join_result form first second)) long-enough sheet (j.answers long-enough is_long) (j.writes long-enough is_long) in
        let h = join-holds w.0 in
        (h.0, h.1, w.1)

    -- a call that was accepted with some output writes that sheet into every output as long as the limit
    pub accepted-joins : (out : List ℕ) (n : ℕ) → join_answer form first second out ≡ Ok n → Joins form first second (take n (join_left form first second out))
    accepted-joins out n e =
        let bytes = sheet_text form (join_result form first second) in
        let w = lent-all (join_rules form first second) bytes out n e in
        let l = (within-limit form (join_result form first second) (join-holds w.0).2).1 in
        let done : (old : List ℕ) → byte_limit form ≤ length old → _ =
        λ old big. lent-accepted (join_rules form first second) bytes old w.0 (omega arith) in
        rw (its_bytes (join_rules form first second) bytes out n e)
        (record { answers = λ old big. (done old big).0; writes = λ old big. (done old big).1 })

  -- ---- add

  module _ (sheet : List ℕ) (c : Captured) where
    abbrev rules : List Rule
    rules = add_rules form c.stamp c.mended sheet c.table

    abbrev bytes : List ℕ
    bytes = sheet_text form (add_result form c.stamp c.mended sheet c.table)

    abbrev rest : List Rule
    rest = short form sheet ∷ formed form sheet ∷ limited form (add_result form c.stamp c.mended sheet c.table)

    pub add_holds : Every rules → Every (entry_rules form c.mended c.table) × InForm form sheet × Every (limited form (add_result form c.stamp c.mended sheet c.table))
    unfolding add_rules
    add_holds every =
        let b = others_hold (back-holds (entry_rules form c.mended c.table) rest every) in
        (front-holds (entry_rules form c.mended c.table) rest every, first_holds b, others_hold b)

    pub adds-said : {result : List ℕ} → Adds form sheet c result → Every (entry_rules form c.mended c.table) × InForm form sheet × (result ≡ bytes)
    adds-said {result} a =
        let w = wrote rules bytes long-enough result (a.answers long-enough is_long) (a.writes long-enough is_long) in
        let h = add_holds w.0 in
        (h.0, h.1, w.1)

    pub accepted-adds : (out : List ℕ) (n : ℕ) → answered rules bytes out ≡ Ok n → Adds form sheet c (take n (left rules bytes out))
    accepted-adds out n e =
        let w = lent-all rules bytes out n e in
        let l = (within-limit form (add_result form c.stamp c.mended sheet c.table) (add_holds w.0).2).1 in
        let done : (old : List ℕ) → byte_limit form ≤ length old → _ = λ old big. lent-accepted rules bytes old w.0 (omega arith) in
        rw (its_bytes rules bytes out n e) (record { answers = λ old big. (done old big).0; writes = λ old big. (done old big).1 })
