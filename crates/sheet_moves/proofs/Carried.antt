-- A sheet carried to a form, entry by entry: the line of the number 0 is all that the forms differ by. Assumes nothing.
use mathlib.Core.Path.{◌≡◌, ◌∙◌, refl, sym, ap}
use mathlib.Core.Bool.{Bool, true, false}
use mathlib.Core.List.{List, [], ◌∷◌, ◌++◌, append_assoc}
use Prim.Native.Nat.{ℕ, suc, ◌+◌, ◌-◌, ◌≤◌, ◌<◌}
use native.Mathlib.Omega.{arith}
use lib.Dec.{eqb, leb}
use lib.ListN.{length, take, drop, length-append, length-drop}
use lib.Seq.{sets, take-append_seam, drop-append_seam, drop-append-add, drop-drop, length-take-le}
use borrow.Author.Tests.{eqb-true, ne_eqb, eq-eqb, leb-true, le-leb, lt-leb}
use Rattle.std.specs.declared.result.Result.TheVariants.{Ok, Err}
use Rattle.laws.specs.Pick.{pick}
use Rattle.laws.proofs.Tests.{both_true}
use Rattle.answer.specs.declared.Refusal.{Refusal}
use Rattle.answer.specs.Answer.{Answer}
use Rattle.answer.specs.Rules.{Rule, rule, judged}
use Rattle.answer.specs.Values.{refused}
use Rattle.answer.specs.Writing.{room, answered, after, left}
use Rattle.answer.proofs.Lent.{lent-refused, lent-short, lent-done}
use Rattle.text_lines.specs.Lines.{number_line, digits_in}
use Rattle.text_lines.specs.Putting.{Put}
use Rattle.text_lines.proofs.Printed.{then, put_as}
use Rattle.listing_reader.specs.declared.lines.Line.{Line}
use Rattle.listing_reader.specs.Lines.{number_at}
use Rattle.listing_reader.proofs.Spells.{number-back}
use Rattle.sheet_entry.specs.declared.Form.{Form}
use Rattle.sheet_entry.specs.declared.Form.TheVariants.{Old, New}
use Rattle.sheet_entry.specs.declared.Found.{Found}
use Rattle.sheet_entry.specs.declared.NoEntry.{NoEntry}
use Rattle.sheet_entry.proofs.Heads.{value_of, came}
use Rattle.sheet_entry.specs.Entries.{Entry, stamp_name, stamp_most, key_lines, spelled_by, head_lines, table_lines, empty_line, entry_text, written}
use Rattle.sheet_entry.specs.Reading.{entry_at, found_of}
use Rattle.sheet_entry.proofs.Entered.{written-parts}
use Rattle.day_sheet.specs.Entries.{sheet_text, all_written, entry_limit, byte_limit}
use Rattle.day_sheet.specs.Reading.{sheet_of, InForm}
use Rattle.day_sheet.specs.Calls.{limited, entries_of, count_rules}
use Rattle.sheet_moves.specs.Moving.{unmended, up_rules, up_text, down_rules, down_text}
use Rattle.day_sheet.specs.Internal.{Halfway}
use Rattle.sheet_moves.specs.Internal.{move_rules, mark_text, marks_of, front_text, Plainly, Stood}
use Rattle.day_sheet.proofs.Exact.{read-written}
use Rattle.day_sheet.proofs.Counted.{counted-bad, counted-short, counted-fine, counted-halfway}
use Rattle.day_sheet.proofs.Fronts.{Front, empty, entry, front}

-- ---- an entry whose number is 0

-- before the line of what was mended, and behind it
abbrev stamp_text : Entry → List ℕ
stamp_text e = number_line stamp_name e.stamp

abbrev behind_text : Entry → List ℕ
behind_text e = spelled_by key_lines (e.table.kind ∷ e.table.network ∷ e.table.block ∷ []) ++ (table_lines e ++ empty_line)

pub entry-parts : (form : Form) (e : Entry) → e.mended ≡ 0 → entry_text form e ≡ stamp_text e ++ (mark_text form ++ behind_text e)
unfolding entry_text head_lines spelled_by
entry-parts form e z =
    let s = spelled_by key_lines (e.table.kind ∷ e.table.network ∷ e.table.block ∷ []) in
    let t = table_lines e ++ empty_line in
    rw z
    (append_assoc (stamp_text e) (mark_text form ++ s) t ∙ ap (λ (x : List ℕ). stamp_text e ++ x) (append_assoc (mark_text form) s t))

pub mark-long : (form : Form) → length (mark_text form) ≡ marks_of form 1
unfolding number_line digits_in
mark-long Old = refl
mark-long New = refl

-- its number and those behind it
zero_first : (e : Entry) (es : List Entry) → unmended (e ∷ es) ≡ true → (e.mended ≡ 0) × (unmended es ≡ true)
unfolding unmended
zero_first e es u = let p = both_true (eqb e.mended 0) (unmended es) u in (eqb-true e.mended 0 p.0, p.1)

-- the texts of two forms differ by as many lines as there are entries
one-mark : (n : ℕ) (form : Form) → marks_of form (suc n) ≡ marks_of form 1 + marks_of form n
one-mark n Old = refl
one-mark n New = omega arith

pub text-marks : (form : Form) (es : List Entry) → unmended es ≡ true → length (sheet_text form es) ≡ length (sheet_text Old es) + marks_of form (length es)
unfolding sheet_text
text-marks form [] u = none form
  where
    none : (form : Form) → 0 ≡ 0 + marks_of form 0
    none Old = refl
    none New = refl
text-marks form (e ∷ es) u =
    let z = zero_first e es u in
    let ih = text-marks form es z.1 in
    let a = ap length (entry-parts form e z.0) ∙ length-append (stamp_text e) (mark_text form ++ behind_text e) in
    let b = length-append (mark_text form) (behind_text e) in
    let c = ap length (entry-parts Old e z.0) ∙ length-append (stamp_text e) (mark_text Old ++ behind_text e) in
    let d = length-append (entry_text form e) (sheet_text form es) in
    let f = length-append (entry_text Old e) (sheet_text Old es) in
    let m = mark-long form in
    let o = one-mark (length es) form in
    omega arith

-- ---- the first entry, cut out of the bytes

pub record Cut (from to : Form) (bytes : List ℕ) (es : List Entry) (long a : ℕ) : Type 0 where
  pub inside : a + marks_of from 1 ≤ long
  pub within : long ≤ length bytes
  pub text :
      front_text to es ≡ take a bytes ++ (mark_text to ++ take (long - (a + marks_of from 1)) (drop (a + marks_of from 1) bytes))

module _ (from to : Form) where
  pub cut :
      (bytes : List ℕ) (es : List Entry) → bytes ≡ sheet_text from es → all_written from es ≡ true → unmended es ≡ true → (long : ℕ)
      → long ≡ length (front_text from es) → 1 ≤ long → {l : Line} → l ≡ number_at stamp_name stamp_most bytes → Cut from to bytes es long l.long
  unfolding front_text sheet_text all_written
  cut bytes [] b w u long n s r = absurd (omega arith)
  cut bytes (e ∷ es) b w u long n s {l} r =
      let z = zero_first e es u in
      let x = stamp_text e in
      let m = mark_text from in
      let y = behind_text e in
      let t = sheet_text from es in
      let p = entry-parts from e z.0 in
      let whole : bytes ≡ x ++ (m ++ (y ++ t)) =
      b ∙ ap (λ (v : List ℕ). v ++ t) p ∙ append_assoc x (m ++ y) t ∙ ap (λ (v : List ℕ). x ++ v) (append_assoc m y t) in
      let fits = leb-true e.stamp stamp_most (written-parts from e (both_true (written from e) (all_written from es) w).0).stamp_fits in
      let a : l.long ≡ length x = ap (λ (v : Line). v.long) (r ∙ ap (number_at stamp_name stamp_most) whole ∙ number-back stamp_name stamp_most e.stamp (m ++ (y ++ t)) fits (omega arith)) in
      let k = mark-long from in
      let q = n ∙ ap length p ∙ length-append x (m ++ y) ∙ ap (λ (v : ℕ). length x + v) (length-append m y) in
      let c = ap length whole ∙ length-append x (m ++ (y ++ t)) ∙ ap (λ (v : ℕ). length x + v) (length-append m (y ++ t)) in
      let d = length-append y t in
      let o : long - (l.long + marks_of from 1) ≡ length y = omega arith in
      let v : l.long + marks_of from 1 ≡ length x + length m = omega arith in
      record {
        inside = omega arith;
        within = omega arith;
        text =
            entry-parts to e z.0
            ∙ (rw (o, v, a, whole, take-append_seam x (m ++ (y ++ t)), drop-append-add x (m ++ (y ++ t)) (length m), drop-append_seam m (y ++ t), take-append_seam y t));
      }

  module _ (sheet : List ℕ) (at long : ℕ) (s : Stood from sheet at long) {l : Line} (reads : l ≡ number_at stamp_name stamp_most (drop at sheet)) where
    pub stood-cut : Cut from to (drop at sheet) (entries_of from (drop at sheet)) long l.long
    stood-cut =
        let r = read-written from (drop at sheet) 0 s.plainly.halfway.fine in
        cut (drop at sheet) (entries_of from (drop at sheet)) r.0 r.2 s.plainly.zeros long s.is_long s.some reads

    pub cut_fits : (l.long + marks_of from 1 ≤ long) × (at + long ≤ 65000)
    cut_fits =
        let x = stood-cut in
        let w = x.within in
        let h = s.plainly.halfway.within.inside in
        let m = s.plainly.halfway.within.short in
        let d = length-drop at sheet in
        (x.inside, omega arith)

    -- what stands before the mark, the mark, what stands behind it
    pub put-cut :
        {m p : ℕ} {out one two three : List ℕ} {q : ℕ} → m ≡ marks_of from 1 → one ≡ sets out q (take l.long (drop at sheet))
        → Put one (q + l.long) (mark_text to) two p
        → three ≡ sets two p (take (long - (l.long + m)) (drop (at + (l.long + m)) sheet))
        → Put out q (front_text to (entries_of from (drop at sheet))) three (p + (long - (l.long + m)))
    put-cut {m} {p} {out} {one} {two} {three} {q} z a b c =
        let x = stood-cut in
        let i = x.inside in
        let w = x.within in
        let n = l.long + m in
        let d = drop-drop n at sheet in
        let k = length-drop n (drop at sheet) in
        let f : Put out q (take l.long (drop at sheet)) one (q + l.long) =
        record { stored = a; moved = ap (λ (v : ℕ). q + v) (sym (length-take-le l.long (drop at sheet) (omega arith))) } in
        let g : Put two p (take (long - n) (drop n (drop at sheet))) three (p + (long - n)) =
        record { stored = rw d c; moved = ap (λ (v : ℕ). p + v) (sym (length-take-le (long - n) (drop n (drop at sheet)) (omega arith))) } in
        put_as (sym (rw (← z) at x.text)) (then f (then b g))

-- ---- from entry to entry

pub record Ahead (form : Form) (sheet : List ℕ) (at : ℕ) (f : Found) : Type 0 where
  pub first : Entry
  pub entries : entries_of form (drop at sheet) ≡ first ∷ entries_of form (drop (at + f.long) sheet)
  pub is_long : f.long ≡ length (entry_text form first)
  pub number : f.mended ≡ first.mended
  pub some : 1 ≤ f.long
  pub inside : at + f.long ≤ length sheet
  pub on : Halfway form sheet (at + f.long)

module _ (form : Form) (sheet : List ℕ) (at : ℕ) (h : Halfway form sheet at) where
  pub ahead : {f : Found} → Ok f ≡ found_of form (entry_at form 0 (drop at sheet)) → Ahead form sheet at f
  ahead {f} reads = go (front form (drop at sheet) h.fine)
    where
      go : Front form (drop at sheet) → Ahead form sheet at f
      go (empty e n) = let z = ap came (reads ∙ e) in absurd (omega arith)
      go (entry x e n r p q) =
          let i = ap (value_of f) (reads ∙ e) in
          let l : f.long ≡ length (entry_text form x) = ap (λ (y : Found). y.long) i in
          let w = h.within.inside in
          let d = length-drop at sheet in
          let c = drop-drop (length (entry_text form x)) at sheet in
          let inside : at + f.long ≤ length sheet = omega arith in
          record {
            first = x;
            entries = rw (l, ← c) n;
            is_long = l;
            number = ap (λ (y : Found). y.mended) i;
            some = omega arith;
            inside = inside;
            on = record { within = record { inside = inside; short = h.within.short }; fine = rw (l, ← c) r };
          }

  pub none_ahead : {w : NoEntry} → Err w ≡ found_of form (entry_at form 0 (drop at sheet)) → entries_of form (drop at sheet) ≡ []
  none_ahead reads = go (front form (drop at sheet) h.fine)
    where
      go : Front form (drop at sheet) → entries_of form (drop at sheet) ≡ []
      go (empty e n) = n
      go (entry x e n r p q) = let z = ap came (reads ∙ e) in absurd (omega arith)

-- ---- the numbers

module _ {form : Form} {sheet : List ℕ} {at : ℕ} {f : Found} (a : Ahead form sheet at f) where
  pub mended-here : (f.mended ≡ 0 → ⊥) → false ≡ unmended (entries_of form (drop at sheet))
  unfolding unmended
  mended-here z = rw (a.entries, ne_eqb a.first.mended 0 (λ y. z (a.number ∙ y)))

  pub mended-on : f.mended ≡ 0 → unmended (entries_of form (drop (at + f.long) sheet)) ≡ unmended (entries_of form (drop at sheet))
  unfolding unmended
  mended-on z = rw (a.entries, eq-eqb a.first.mended 0 (sym a.number ∙ z))

  -- ---- one put after the other

  pub stood-here : Plainly form sheet at → Stood form sheet at f.long
  unfolding front_text
  stood-here p = record { plainly = p; is_long = rw a.entries a.is_long; some = a.some }

  pub plainly-on : Plainly form sheet at → Plainly form sheet (at + f.long)
  plainly-on p = record { halfway = a.on; zeros = (zero_first a.first _ (rw a.entries at p.zeros)).1 }

  pub text-on : (to : Form) → sheet_text to (entries_of form (drop at sheet)) ≡ front_text to (entries_of form (drop at sheet)) ++ sheet_text to (entries_of form (drop (at + f.long) sheet))
  unfolding front_text sheet_text
  text-on to = rw a.entries

pub no_entry : (es : List Entry) → es ≡ [] → true ≡ unmended es
unfolding unmended
no_entry es e = rw e

pub no_text : (form : Form) (es : List Entry) → es ≡ [] → sheet_text form es ≡ []
unfolding sheet_text
no_text form es e = rw e

-- ---- the call, once the sheet is known to be in form and without numbers

module _
    (from to : Form)
    (sheet old : List ℕ)
    (p : Plainly from sheet 0)
    (count : ℕ)
    (counted : count ≡ length (entries_of from sheet))
  where
    abbrev es : List Entry
    es = entries_of from sheet

    abbrev bytes : List ℕ
    bytes = sheet_text to es

    pub carried-many : entry_limit < count → (refused 21 0 ≡ answered (limited to es) bytes old) × (old ≡ left (limited to es) bytes old)
    carried-many m =
        let e : refused 21 0 ≡ judged refused (limited to es) (Ok 0) = rw (lt-leb (length es) entry_limit (omega arith)) in
        lent-refused (limited to es) bytes old 0 e refl

    module _ {less more : ℕ} (l : less ≡ marks_of from count) (m : more ≡ marks_of to count) where
      pub carried-size : (less ≤ length sheet) × (length bytes ≡ length sheet - less + more)
      carried-size =
          let r = ap length (read-written from sheet 0 p.halfway.fine).0 in
          let a = text-marks from es p.zeros in
          let b = text-marks to es p.zeros in
          let x = l ∙ ap (marks_of from) counted in
          let y = m ∙ ap (marks_of to) counted in
          (omega arith, omega arith)

      module _ (few : count ≤ entry_limit) where
        pub carried-long :
            byte_limit to < length sheet - less + more
            → (refused 21 0 ≡ answered (limited to es) bytes old) × (old ≡ left (limited to es) bytes old)
        carried-long h =
            let z = carried-size in
            let e : refused 21 0 ≡ judged refused (limited to es) (Ok 0) =
            rw (le-leb (length es) entry_limit (omega arith), lt-leb (length bytes) (byte_limit to) (omega arith)) in
            lent-refused (limited to es) bytes old 0 e refl

        module _ (short : length sheet - less + more ≤ byte_limit to) where
          fit : Ok 0 ≡ judged refused (limited to es) (Ok 0)
          fit =
              let z = carried-size in
              rw (le-leb (length es) entry_limit (omega arith), le-leb (length bytes) (byte_limit to) (omega arith))

          pub carried-short :
              length old < length sheet - less + more
              → (refused 1 0 ≡ answered (limited to es) bytes old) × (old ≡ left (limited to es) bytes old)
          carried-short h = lent-short (limited to es) bytes old 0 fit refl (let z = carried-size in omega arith)

          pub carried-done :
              {out : List ℕ} {q : ℕ} → length sheet - less + more ≤ length old → Put old 0 bytes out q
              → (Ok (length sheet - less + more) ≡ answered (limited to es) bytes old) × (out ≡ left (limited to es) bytes old)
          carried-done h a =
              let z = carried-size in
              let d = lent-done (limited to es) bytes old 0 fit refl (omega arith) in
              (ap Ok (sym z.1) ∙ d.0, a.stored ∙ d.1)

-- ---- the rules before it

module _ (from to : Form) (sheet old : List ℕ) where
  abbrev all : List Rule
  all = move_rules from to sheet

  abbrev text : List ℕ
  text = sheet_text to (entries_of from sheet)

  module _ {r : Answer} (counts : r ≡ judged refused (count_rules from sheet) (Ok (length (entries_of from sheet)))) where
    pub move-bad : {w : Refusal} → r ≡ Err w → (Err w ≡ answered all text old) × (old ≡ left all text old)
    move-bad {w} e =
        let a : Err w ≡ judged refused all (Ok 0) =
        (unfold move_rules in counted-bad from sheet counts e (rule (unmended (entries_of from sheet)) 25 0 ∷ limited to (entries_of from sheet)) (Ok 0)) in
        lent-refused all text old 0 a refl

    module _ {m : ℕ} (done : r ≡ Ok m) where
      short : length sheet ≤ byte_limit from
      short = counted-short from sheet counts done

      fine : InForm from sheet
      fine = counted-fine from sheet counts done

      pub move-mended : false ≡ unmended (entries_of from sheet) → (refused 25 0 ≡ answered all text old) × (old ≡ left all text old)
      move-mended u =
          let a : refused 25 0 ≡ judged refused all (Ok 0) =
          (unfold move_rules in rw (le-leb (length sheet) (byte_limit from) short, fine, ← u)) in
          lent-refused all text old 0 a refl

      module _ (u : true ≡ unmended (entries_of from sheet)) where
        pub move-plainly : Plainly from sheet 0
        move-plainly = record { halfway = counted-halfway from sheet counts done; zeros = sym u }

        pub move-goes-on :
            (answered (limited to (entries_of from sheet)) text old ≡ answered all text old) × (left (limited to (entries_of from sheet)) text old ≡ left all text old)
        move-goes-on =
            let e : answered (limited to (entries_of from sheet)) text old ≡ answered all text old =
            (unfold move_rules in rw (le-leb (length sheet) (byte_limit from) short, fine, ← u) refl) in
            (e, ap (λ (x : Answer). after x text old) e)

-- ---- the two calls

-- in the old form no entry has a number but 0
pub old_unmended : (es : List Entry) → all_written Old es ≡ true → unmended es ≡ true
unfolding all_written unmended
old_unmended [] w = refl
old_unmended (e ∷ es) w =
    let p = both_true (written Old e) (all_written Old es) w in
    let m = leb-true e.mended 0 (written-parts Old e p.0).mended_fits in
    rw (eq-eqb e.mended 0 (omega arith)) (old_unmended es p.1)

-- so no old sheet is refused for one, and with 64 entries none gets too long
pub up_same : (old : List ℕ) (a : Answer) (rest : List Rule) → judged refused (move_rules Old New old ++ rest) a ≡ judged refused (up_rules old ++ rest) a
unfolding move_rules up_rules
up_same old a rest = go (leb (length old) (byte_limit Old)) refl (sheet_of Old old).fine refl (leb (length (entries_of Old old)) entry_limit) refl
  where
    go :
        (s : Bool) → leb (length old) (byte_limit Old) ≡ s → (f : Bool) → (sheet_of Old old).fine ≡ f → (n : Bool) → leb (length (entries_of Old old)) entry_limit ≡ n
        → pick s
        (pick f
        (pick (unmended (entries_of Old old)) (pick n (pick (leb (length (sheet_text New (entries_of Old old))) (byte_limit New)) (judged refused rest a) (refused 21 0)) (refused 21 0)) (refused 25 0))
        (refused 20 (sheet_of Old old).long))
        (refused 21 0)
        ≡ pick s (pick f (pick n (judged refused rest a) (refused 21 0)) (refused 20 (sheet_of Old old).long)) (refused 21 0)
    go false s f₀ f n₀ n = refl
    go true s false f n₀ n = refl
    go true s true f false n = rw (old_unmended (entries_of Old old) (read-written Old old 0 f).2)
    go true s true f true n =
        let r = read-written Old old 0 f in
        let u = old_unmended (entries_of Old old) r.2 in
        let l = leb-true (length old) (byte_limit Old) s in
        let k = leb-true (length (entries_of Old old)) entry_limit n in
        let t = ap length r.0 in
        let m = text-marks New (entries_of Old old) u in
        rw (u, le-leb (length (sheet_text New (entries_of Old old))) (byte_limit New) (omega arith))

module _ (old out : List ℕ) where
  pub up-answers : answered (move_rules Old New old) (sheet_text New (entries_of Old old)) out ≡ answered (up_rules old) (up_text old) out
  unfolding up_text
  up-answers = up_same old (Ok (length (up_text old))) (room (up_text old) out ∷ [])

  pub up-leaves : left (move_rules Old New old) (sheet_text New (entries_of Old old)) out ≡ left (up_rules old) (up_text old) out
  unfolding up_text
  up-leaves = ap (λ (x : Answer). after x (up_text old) out) up-answers

module _ (new out : List ℕ) where
  pub down_answers : answered (move_rules New Old new) (sheet_text Old (entries_of New new)) out ≡ answered (down_rules new) (down_text new) out
  unfolding move_rules down_rules down_text
  down_answers = refl

  pub down-leaves : left (move_rules New Old new) (sheet_text Old (entries_of New new)) out ≡ left (down_rules new) (down_text new) out
  unfolding move_rules down_rules down_text
  down-leaves = refl
