-- A sheet joined with the entry of a table form. Assumes nothing.
use mathlib.Core.Path.{◌≡◌, ◌∙◌, refl, sym, ap}
use mathlib.Core.List.{List, [], ◌∷◌, ◌++◌, append_assoc}
use Prim.Native.Nat.{ℕ, ◌≤◌}
use native.Mathlib.Omega.{arith}
use lib.ListN.{length, take, drop, length-append}
use lib.Seq.{take-append_seam}
use borrow.Author.Tests.{le-leb}
use Rattle.std.specs.declared.result.Result.TheVariants.{Ok, Err}
use Rattle.answer.specs.Answer.{Answer}
use Rattle.answer.specs.declared.Refusal.{Refusal}
use Rattle.answer.proofs.Steps.{ends, goes_on}
use Rattle.answer.proofs.Lent.{lent-accepted, lent-all}
use Rattle.answer.specs.Rules.{Rule, judged}
use Rattle.answer.specs.Values.{refused}
use Rattle.answer.specs.Writing.{room, answered, after, left}
use Rattle.sheet_entry.specs.Entries.{Entry, mended_most, stamp_most, entry_text}
use Rattle.sheet_entry.specs.Writing.{stamped, entry_rules}
use Rattle.sheet_entry.specs.Internal.{Judged}
use Rattle.sheet_entry.proofs.Spelling.{entry-judged, stamped-written}
use Rattle.day_sheet.specs.Entries.{sheet_text, byte_limit}
use Rattle.sheet_joins.specs.Joining.{joined}
use Rattle.day_sheet.specs.Calls.{entries_of, short, formed, limited}
use Rattle.sheet_joins.specs.Calls.{add_result, add_rules, join_rules, join_result}
use Rattle.sheet_joins.proofs.AnyOrder.{one-read}
use Rattle.sheet_entry.specs.declared.Form.{Form}

-- ---- the entry's text, held

module _
    (form : Form)
    (mended : ℕ)
    (f xs : List ℕ)
    {r : Answer}
    {n : ℕ}
    {text : List ℕ}
    (old : List ℕ)
    (answers : r ≡ answered (entry_rules form mended f) xs old)
    (done : r ≡ Ok n)
    (writes : text ≡ left (entry_rules form mended f) xs old)
  where
    pub all_held : (Judged f × (mended ≤ mended_most form)) × (take n text ≡ xs) × (n ≡ length (take n text)) × (n ≤ length text)
    all_held =
        let a = lent-all (entry_rules form mended f) xs old n (sym answers ∙ done) in
        let l = (lent-accepted (entry_rules form mended f) xs old a.0 a.1).1 in
        let t : take n text ≡ xs = rw (a.2, writes, l) (take-append_seam xs (drop (length xs) old)) in
        (entry-judged form mended f a.0, t, a.2 ∙ ap length (sym t), rw (writes, l, length-append) (omega (arith, a.2)))

-- ---- joined with it

module _ (form : Form) (stamp mended : ℕ) (sheet f : List ℕ) where
  module _ (h : stamp ≤ stamp_most) (j : Judged f × (mended ≤ mended_most form)) (l : length (entry_text form (stamped stamp mended f)) ≤ byte_limit form) where
    abbrev text : List ℕ
    text = entry_text form (stamped stamp mended f)

    abbrev rules : List Rule
    rules = short form sheet ∷ formed form sheet ∷ limited form (add_result form stamp mended sheet f)

    add-joins : join_result form sheet text ≡ add_result form stamp mended sheet f
    unfolding join_result add_result
    add-joins = ap (joined (entries_of form sheet)) (one-read form (stamped stamp mended f) (stamped-written form stamp mended f h j.1 j.0)).1

    pub add-answers :
        (old : List ℕ)
        → answered (join_rules form sheet text) (sheet_text form (join_result form sheet text)) old
        ≡ answered rules (sheet_text form (add_result form stamp mended sheet f)) old
    unfolding join_rules
    add-answers old =
        rw (
          add-joins,
          (one-read form (stamped stamp mended f) (stamped-written form stamp mended f h j.1 j.0)).0,
          le-leb (length text) (byte_limit form) l,
        )
        refl

    pub add-leaves :
        (old : List ℕ)
        → left (join_rules form sheet text) (sheet_text form (join_result form sheet text)) old
        ≡ left rules (sheet_text form (add_result form stamp mended sheet f)) old
    add-leaves old =
        ap (λ (a : Answer). after a (sheet_text form (join_result form sheet text)) old) (add-answers old)
        ∙ ap (λ (es : List Entry). after (answered rules (sheet_text form (add_result form stamp mended sheet f)) old) (sheet_text form es) old) add-joins

  -- ---- the rules of the entry first

  module _ (old : List ℕ) (n : ℕ) {first : Answer} (judges : first ≡ judged refused (entry_rules form mended f) (Ok n)) where
    abbrev bytes : List ℕ
    bytes = sheet_text form (add_result form stamp mended sheet f)

    abbrev rest : List Rule
    rest = short form sheet ∷ formed form sheet ∷ limited form (add_result form stamp mended sheet f)

    in-turn : judged refused (entry_rules form mended f ++ (rest ++ room bytes old ∷ [])) (Ok (length bytes)) ≡ answered (add_rules form stamp mended sheet f) bytes old
    unfolding add_rules
    in-turn = ap (λ (rs : List Rule). judged refused rs (Ok (length bytes))) (sym (append_assoc (entry_rules form mended f) rest (room bytes old ∷ [])))

    pub add-refused :
        {w : Refusal} → first ≡ Err w
        → (Err w ≡ answered (add_rules form stamp mended sheet f) bytes old) × (old ≡ left (add_rules form stamp mended sheet f) bytes old)
    add-refused e =
        let a = ends (entry_rules form mended f) (rest ++ room bytes old ∷ []) n judges (Ok (length bytes)) e ∙ in-turn in
        (a, ap (λ (x : Answer). after x bytes old) a)

    pub add-goes-on :
        {m : ℕ} → first ≡ Ok m
        → (answered rest bytes old ≡ answered (add_rules form stamp mended sheet f) bytes old)
        × (left rest bytes old ≡ left (add_rules form stamp mended sheet f) bytes old)
    add-goes-on e =
        let a = goes_on (entry_rules form mended f) (rest ++ room bytes old ∷ []) n judges (Ok (length bytes)) e ∙ in-turn in
        (a, ap (λ (x : Answer). after x bytes old) a)
