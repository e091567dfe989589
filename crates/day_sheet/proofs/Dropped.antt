-- An entry dropped: the others stay as they are, and none of its key is left. Assumes nothing.
use mathlib.Core.Path.{◌≡◌, ◌∙◌, refl, sym, ap}
use mathlib.Core.Bool.{Bool, true, false}
use mathlib.Core.Option.{none}
use mathlib.Core.List.{List, [], ◌∷◌}
use Prim.Native.Nat.{ℕ, suc, ◌≤◌}
use native.Mathlib.Omega.{arith}
use lib.Dec.{eqb}
use lib.ListN.{length, length-append}
use borrow.Author.Tests.{eqb-true, le-leb}
use Rattle.laws.specs.Pick.{pick}
use Rattle.laws.specs.Each.{Each, and}
use Rattle.laws.specs.Keyed.{rising_from, lookup}
use Rattle.laws.proofs.Tests.{both_true}
use Rattle.laws.proofs.Eaches.{each_first, each-rest}
use Rattle.laws.proofs.Merging.{rising-first, rising-rest, rising-cons, rising-lower, lookup-here, lookup-past, at_key}
use Rattle.answer.specs.Rules.{Every, none as all_hold, more}
use Rattle.answer.proofs.Lent.{lent-accepted}
use Rattle.forms.specs.Tables.{known}
use Rattle.sheet_entry.specs.Entries.{Entry, key_in, key_of, entry_text, written}
use Rattle.day_sheet.specs.Entries.{sheet_text, all_written, entry_limit, byte_limit}
use Rattle.day_sheet.specs.Dropping.{named, without}
use Rattle.day_sheet.specs.Calls.{entries_of, drop_rules, drop_result}
use Rattle.day_sheet.specs.Reading.{InForm}
use Rattle.day_sheet.specs.Dropped.{Drops}
use Rattle.day_sheet.proofs.Fronts.{Fit}
use Rattle.day_sheet.proofs.Exact.{read-written}
use Rattle.day_sheet.proofs.Asked.{named-known}
use Rattle.sheet_entry.specs.declared.Form.{Form}

module _ (form : Form) where
  module _ (network kind block : ℕ) where
    -- an entry that is named has that key
    named-key : (e : Entry) → named network kind block e ≡ true → key_of e ≡ key_in network kind block
    unfolding key_of
    named-key e n =
        let a = both_true (eqb e.table.network network) _ n in
        let b = both_true (eqb e.table.kind kind) _ a.1 in
        rw (eqb-true e.table.network network a.0, eqb-true e.table.kind kind b.0, eqb-true e.table.block block b.1)

    -- every other entry stays as it is
    pub others-stay : (k : ℕ) → (k ≡ key_in network kind block → ⊥) → (es : List Entry) → lookup key_of k (without network kind block es) ≡ lookup key_of k es
    unfolding without
    others-stay k n [] = refl
    others-stay k n (e ∷ es) = go (named network kind block e) refl (others-stay k n es)
      where
        go :
            (z : Bool) → named network kind block e ≡ z → lookup key_of k (without network kind block es) ≡ lookup key_of k es
            → lookup key_of k (pick z (without network kind block es) (e ∷ without network kind block es)) ≡ lookup key_of k (e ∷ es)
        go true z ih = ih ∙ sym (lookup-past key_of k e es (λ f. n (sym f ∙ named-key e z)))
        go false z ih = at_key key_of e k (λ f. lookup-here key_of k e _ f ∙ sym (lookup-here key_of k e es f)) (λ f. lookup-past key_of k e _ f ∙ ih ∙ sym (lookup-past key_of k e es f))

    -- and none is left of that key
    pub none_left :
        block ≤ 65535 → known kind ≡ true → (es : List Entry) → all_written form es ≡ true
        → lookup key_of (key_in network kind block) (without network kind block es) ≡ none
    unfolding without all_written lookup
    none_left small k [] w = refl
    none_left small k (e ∷ es) w =
        let p = both_true (written form e) (all_written form es) w in
        let n = named-known form network kind block small k e p.0 in
        rw n (go (eqb (key_of e) (key_in network kind block)) refl (none_left small k es p.1))
      where
        go :
            (z : Bool) → eqb (key_of e) (key_in network kind block) ≡ z → lookup key_of (key_in network kind block) (without network kind block es) ≡ none
            → lookup key_of (key_in network kind block) (pick z (without network kind block es) (e ∷ without network kind block es)) ≡ none
        go true z ih = ih
        go false z ih = rw z ih

    -- no more entries, and no longer a text
    pub fewer :
        (es : List Entry)
        → (length (without network kind block es) ≤ length es) × (length (sheet_text form (without network kind block es)) ≤ length (sheet_text form es))
    unfolding without sheet_text
    fewer [] = (omega arith, omega arith)
    fewer (e ∷ es) = go (named network kind block e) (fewer es)
      where
        go :
            (z : Bool)
            → (length (without network kind block es) ≤ length es) × (length (sheet_text form (without network kind block es)) ≤ length (sheet_text form es))
            → (length (pick z (without network kind block es) (e ∷ without network kind block es)) ≤ length (e ∷ es))
            × (length (sheet_text form (pick z (without network kind block es) (e ∷ without network kind block es))) ≤ length (sheet_text form (e ∷ es)))
        go true ih = let l = length-append (entry_text form e) (sheet_text form es) in (omega arith, omega arith)
        go false ih =
            let l = length-append (entry_text form e) (sheet_text form es) in
            let m = length-append (entry_text form e) (sheet_text form (without network kind block es)) in
            (omega arith, omega arith)

    -- they still rise, and can be written
    pub still :
        (l : ℕ) (es : List Entry) → rising_from key_of l es ≡ true → Each (Fit form) es
        → (rising_from key_of l (without network kind block es) ≡ true) × Each (Fit form) (without network kind block es)
    unfolding without
    still l [] r f = (r, f)
    still l (e ∷ es) r f =
        go (named network kind block e) (still (suc (key_of e)) es (rising-rest key_of l e es r) (each-rest f))
      where
        go :
            (z : Bool) → (rising_from key_of (suc (key_of e)) (without network kind block es) ≡ true) × Each (Fit form) (without network kind block es)
            → (rising_from key_of l (pick z (without network kind block es) (e ∷ without network kind block es)) ≡ true)
            × Each (Fit form) (pick z (without network kind block es) (e ∷ without network kind block es))
        go true ih =
            let a = rising-first key_of l e es r in
            (rising-lower key_of (suc (key_of e)) l (without network kind block es) (omega arith) ih.0, ih.1)
        go false ih = (rising-cons key_of l e (without network kind block es) (rising-first key_of l e es r) ih.0, and (each_first f) ih.1)

    -- of a sheet within the limits the call writes what is left
    pub drops :
        (sheet : List ℕ) → InForm form sheet → length sheet ≤ byte_limit form → length (entries_of form sheet) ≤ entry_limit
        → Drops form network kind block sheet (sheet_text form (without network kind block (entries_of form sheet)))
    unfolding drop_rules drop_result
    drops sheet f b n =
        let s = fewer (entries_of form sheet) in
        let t = ap length (read-written form sheet 0 f).0 in
        let ws = without network kind block (entries_of form sheet) in
        let every : Every (drop_rules form network kind block sheet) =
        more (le-leb (length sheet) (byte_limit form) b)
        (more f (more (le-leb (length ws) entry_limit (omega arith)) (more (le-leb (length (sheet_text form ws)) (byte_limit form) (omega arith)) all_hold))) in
        record {
          answers = λ out big. (lent-accepted (drop_rules form network kind block sheet) (sheet_text form ws) out every (omega arith)).0;
          writes = λ out big. (lent-accepted (drop_rules form network kind block sheet) (sheet_text form ws) out every (omega arith)).1;
        }
