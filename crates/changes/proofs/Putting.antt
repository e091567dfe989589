-- The print, put piece by piece along two sheets: what a turn puts is the change of its key, and what is left of both gives the rest. Assumes
-- nothing.
use mathlib.Core.Path.{◌≡◌, ◌∙◌, refl, sym, ap}
use mathlib.Core.Bool.{Bool, true, false}
use mathlib.Core.List.{List, [], ◌∷◌, ◌++◌}
use Prim.Native.Nat.{ℕ, ◌+◌, ◌-◌, ◌/◌, ◌%◌, ◌≤◌, ◌<◌}
use native.Mathlib.Omega.{arith}
use lib.Dec.{eqb}
use lib.ListN.{length, take, drop, length-append, length-drop}
use lib.Seq.{sets, set-set, drop-drop}
use borrow.Author.Tests.{eq-eqb, ne_eqb}
use Rattle.laws.specs.Pick.{pick}
use Rattle.laws.proofs.Lists.{sets-append}
use Rattle.texts.specs.Texts.{same_text}
use Rattle.forms.specs.Tables.{TI}
use Rattle.text_lines.specs.Codes.{codes}
use Rattle.text_lines.specs.Putting.{Put}
use Rattle.text_lines.specs.Lines.{decimal, number_line}
use Rattle.text_lines.proofs.Printed.{then, put_as, Left, left-start, left-on, left_end}
use Rattle.listing.specs.Lines.{kind_line, kind_ti, kind_li, network_name, block_name}
use Rattle.sheet_entry.specs.declared.Found.{Found}
use Rattle.sheet_entry.specs.Entries.{Entry, mended_head, spelled_by, stamp_name, head_lines, table_lines, entry_text}
use Rattle.sheet_joins.specs.declared.Turn.{Turn}
use Rattle.std.specs.declared.option.Option.TheVariants.{None, Some}
use Rattle.day_sheet.specs.Reading.{InForm}
use Rattle.sheet_joins.specs.Along.{Stands, in_first, in_second, in_both, along}
use Rattle.sheet_joins.specs.Turns.{turn_of, first_long, second_long}
use Rattle.day_sheet.specs.Internal.{Halfway}
use Rattle.sheet_joins.specs.Internal.{Lies, Met, found_lines}
use Rattle.day_sheet.specs.Entries.{sheet_text}
use Rattle.day_sheet.proofs.Fronts.{spans}
use Rattle.sheet_joins.proofs.Meeting.{lines-found, Front, front-first, front-second, front-both, Turned, turned, turned-end, along-less, along-more, along-same, along-first, along-second, along-none}
use Rattle.sheet_joins.proofs.Turning.{met_of, part_length}
use Rattle.changes.specs.Lines.{gone_name, new_name, changed_name, kind_word, key_name, key_line, change_lines, changes_of, printed}
use Rattle.changes.specs.Calls.{compare_text}
use Rattle.changes.specs.Internal.{kind_in, front_of, key_text, both_text, turn_change, place_most}
use Rattle.changes.proofs.Applied.{going, printed-on}
use Rattle.changes.proofs.Keys.{key-line}
use Rattle.sheet_entry.specs.declared.Form.{Form}

-- ---- the line of a key

module _ (key : ℕ) where
  pub word-ti : key / 65536 % 2 ≡ 1 → codes "TI," ≡ kind_word (kind_in key)
  unfolding kind_word
  word-ti h = rw (eq-eqb (key / 65536 % 2) 1 h)

  pub word-li : (key / 65536 % 2 ≡ 1 → ⊥) → codes "LI," ≡ kind_word (kind_in key)
  unfolding kind_word
  word-li h = rw (ne_eqb (key / 65536 % 2) 1 h)

-- what ended with one byte ends with another
ends_with :
    {l m n : List ℕ} {q c r : ℕ} (xs : List ℕ) (a b : ℕ) → Put l q (xs ++ (a ∷ [])) m c → Put m (c - 1) (b ∷ []) n r → Put l q (xs ++ (b ∷ [])) n r
ends_with {l} {m} {n} {q} {c} {r} xs a b p o =
    let k = length-append xs (a ∷ []) in
    let j = length-append xs (b ∷ []) in
    let at : c - 1 ≡ q + length xs = omega (arith, p.moved) in
    record {
      stored =
          o.stored
          ∙ (rw (p.stored, at, sets-append l q xs (a ∷ [])) (set-set (sets l q xs) (q + length xs) a b))
          ∙ sym (sets-append l q xs (b ∷ []));
      moved = omega (arith, o.moved, p.moved);
    }

pub front-put :
    (name : List ℕ) (key : ℕ) {l₀ l₁ l₂ l₃ l₄ : List ℕ} {a b c r : ℕ} → Put l₀ 0 name l₁ a → Put l₁ a (kind_word (kind_in key)) l₂ b
    → Put l₂ b (number_line [] (key / 65536 / 2)) l₃ c → Put l₃ (c - 1) (44 ∷ []) l₄ r
    → Put l₀ 0 (front_of name key) l₄ r
unfolding key_name number_line
front-put name key p o n e = then p (then o (ends_with (decimal (key / 65536 / 2)) 10 44 n e))

pub key_put :
    (name front : List ℕ) (key : ℕ) {out out' : List ℕ} {q r : ℕ} → front ≡ front_of name key → Put out q (number_line front (key % 65536)) out' r
    → Put out q (key_text name key) out' r
unfolding key_text
key_put name front key e p = put_as (ap (λ (x : List ℕ). number_line x (key % 65536)) e) p

-- ---- the lines of a table

pub lines_put :
    (sheet : List ℕ) (at : ℕ) (f : Found) {out out' : List ℕ} {q : ℕ} → Lies sheet at f
    → out' ≡ sets out q (take (f.long - 1 - f.head) (drop (at + f.head) sheet))
    → Put out q (found_lines (drop at sheet) f) out' (q + (f.long - 1 - f.head))
unfolding found_lines
lines_put sheet at f {q = q} l e =
    let h = l.head_first in
    let i = l.inside in
    let n = part_length (f.long - 1 - f.head) (at + f.head) sheet (omega arith) in
    record { stored = rw (drop-drop f.head at sheet) e; moved = rw (drop-drop f.head at sheet) (ap (λ (m : ℕ). q + m) (sym n)) }

module _ (a : List ℕ) (f : Found) (b : List ℕ) (g : Found) where
  pub both-same : same_text (found_lines a f) (found_lines b g) ≡ true → [] ≡ both_text a f b g
  unfolding both_text
  both-same h = rw h

  pub both-other :
      same_text (found_lines a f) (found_lines b g) ≡ false
      → key_text changed_name g.key ++ (found_lines a f ++ found_lines b g) ≡ both_text a f b g
  unfolding both_text
  both-other h = rw h

-- ---- one key

module _ (form : Form) where
  -- it is the change of what stands there
  turn-changes : {a b : List ℕ} {t : Turn} {s : Stands} → Front form a b t s → turn_change t a b ≡ change_lines s
  unfolding turn_change both_text change_lines
  turn-changes (front-first x rest v e) = key-line form gone_name x v
  turn-changes (front-second y more w e) = rw (e, lines-found form y more, key-line form new_name y w)
  turn-changes (front-both x y rest more v w k e d) = rw (e, d, lines-found form x rest, lines-found form y more, key-line form changed_name y w)

  -- ---- how long it is

  word-length : (kind : ℕ) → length (kind_word kind) ≡ 3
  unfolding kind_word
  word-length kind = go (eqb kind TI)
    where
      go : (z : Bool) → length (pick z (codes "TI,") (codes "LI,")) ≡ 3
      go true = refl
      go false = refl

  line-length : (kind : ℕ) → length (kind_line kind) ≡ 8
  unfolding kind_line
  line-length kind = go (eqb kind TI)
    where
      go : (z : Bool) → length (pick z kind_ti kind_li) ≡ 8
      go true = refl
      go false = refl

  -- the line of a key is shorter than the head of its entry
  key-short : (name : List ℕ) (e : Entry) → length name ≤ 8 → length (key_line name e.table) ≤ length (head_lines form e)
  unfolding key_line key_name head_lines spelled_by number_line
  key-short name e h =
      let t = e.table in
      let n = decimal t.network in
      let m = decimal t.block in
      let a = length-append (name ++ (kind_word t.kind ++ (n ++ (44 ∷ []))) ++ m) (10 ∷ []) in
      let b = length-append (name ++ (kind_word t.kind ++ (n ++ (44 ∷ [])))) m in
      let c = length-append name (kind_word t.kind ++ (n ++ (44 ∷ []))) in
      let d = length-append (kind_word t.kind) (n ++ (44 ∷ [])) in
      let f = length-append n (44 ∷ []) in
      let w = word-length t.kind in
      let k = line-length t.kind in
      let stamp = (stamp_name ++ decimal e.stamp) ++ (10 ∷ []) in
      let network = (network_name ++ n) ++ (10 ∷ []) in
      let block = (block_name ++ m) ++ (10 ∷ []) in
      let rest = kind_line t.kind ++ (network ++ (block ++ [])) in
      let o = length-append stamp ((mended_head form).text e.mended ++ rest) in
      let z = length-append ((mended_head form).text e.mended) rest in
      let p = length-append (kind_line t.kind) (network ++ (block ++ [])) in
      let q = length-append network (block ++ []) in
      let r = length-append block [] in
      let s = length-append (network_name ++ n) (10 ∷ []) in
      let u = length-append network_name n in
      let x = length-append (block_name ++ m) (10 ∷ []) in
      let y = length-append block_name m in
      omega arith

  -- the entries that stand at a key
  abbrev standing : Stands → ℕ
  standing (in_first x) = length (entry_text form x)
  standing (in_second y) = length (entry_text form y)
  standing (in_both x y) = length (entry_text form x) + length (entry_text form y)

  -- a change is no longer than they are
  change-fits : (s : Stands) → length (change_lines s) ≤ standing s
  unfolding change_lines
  change-fits (in_first x) = let k = key-short gone_name x (omega arith) in let s = spans form x in omega arith
  change-fits (in_second y) =
      let k = key-short new_name y (omega arith) in
      let s = spans form y in
      let l = length-append (key_line new_name y.table) (table_lines y) in
      omega arith
  change-fits (in_both x y) = go (same_text (table_lines x) (table_lines y))
    where
      go :
          (z : Bool)
          → length (pick z [] (key_line changed_name y.table ++ (table_lines x ++ table_lines y))) ≤ length (entry_text form x) + length (entry_text form y)
      go true = omega arith
      go false =
          let h = key-short changed_name y (omega arith) in
          let s = spans form x in
          let u = spans form y in
          let l = length-append (key_line changed_name y.table) (table_lines x ++ table_lines y) in
          let m = length-append (table_lines x) (table_lines y) in
          omega arith

  -- nor than what was found
  change-short : {a b : List ℕ} {t : Turn} {s : Stands} → Front form a b t s → length (change_lines s) ≤ first_long t + second_long t
  change-short (front-first x rest v e) = let h = change-fits (in_first x) in omega arith
  change-short (front-second y more w e) = let h = change-fits (in_second y) in omega arith
  change-short (front-both x y rest more v w k e d) = change-fits (in_both x y)

  sheet-long : (x : Entry) (xs : List Entry) → length (sheet_text form (x ∷ xs)) ≡ length (entry_text form x) + length (sheet_text form xs)
  unfolding sheet_text
  sheet-long x xs = length-append (entry_text form x) (sheet_text form xs)

  abbrev Short : List Entry → List Entry → Type 0
  Short xs ys = length (printed xs ys) ≤ length (sheet_text form xs) + length (sheet_text form ys)

  short_on :
      (xs ys xs' ys' : List Entry) {s : Stands} → along xs ys ≡ s ∷ along xs' ys' → Short xs' ys'
      → standing s + length (sheet_text form xs') + length (sheet_text form ys') ≤ length (sheet_text form xs) + length (sheet_text form ys) → Short xs ys
  short_on xs ys xs' ys' {s} e i m =
      let h = change-fits s in
      let p = ap length (printed-on xs ys xs' ys' e) ∙ length-append (change_lines s) (printed xs' ys') in
      omega arith

  short_none : Short [] []
  unfolding printed changes_of
  short_none = rw along-none (omega arith)

  -- the print is at most as long as the two sheets together
  pub print-short : (xs ys : List Entry) → length (printed xs ys) ≤ length (sheet_text form xs) + length (sheet_text form ys)
  print-short =
      going Short short_none (λ x xs i. let l = sheet-long x xs in short_on (x ∷ xs) [] xs [] (along-first x xs) i (omega arith))
      (λ y ys i. let l = sheet-long y ys in short_on [] (y ∷ ys) [] ys (along-second y ys) i (omega arith))
      (λ x xs y ys k i. let l = sheet-long x xs in short_on (x ∷ xs) (y ∷ ys) xs (y ∷ ys) (along-less x xs y ys k) i (omega arith))
      (λ x xs y ys k i. let l = sheet-long y ys in short_on (x ∷ xs) (y ∷ ys) (x ∷ xs) ys (along-more x xs y ys k) i (omega arith))
      (λ x xs y ys k i.
      let l = sheet-long x xs in
      let m = sheet-long y ys in
      short_on (x ∷ xs) (y ∷ ys) xs ys (along-same x xs y ys k) i (omega arith))

  -- ---- along both sheets

  -- what holds before each turn: what is left of both gives what is still to be put
  pub record Walk (first second out₀ out : List ℕ) (i j q : ℕ) : Type 0 where
    pub in_first : Halfway form first i
    pub in_second : Halfway form second j
    pub to_put : Left out q (compare_text form (drop i first) (drop j second)) out₀ 0 (compare_text form first second)
    pub small : q ≤ i + j

  pub walk_start : (first second out : List ℕ) → Halfway form first 0 → Halfway form second 0 → Walk first second out out 0 0 0
  walk_start first second out f g =
      record { in_first = f; in_second = g; to_put = left-start out 0 (compare_text form first second); small = omega arith }

  text-on :
      {a b : List ℕ} {t : Turn} (u : Turned form a b t)
      → compare_text form a b ≡ turn_change t a b ++ compare_text form (drop (first_long t) a) (drop (second_long t) b)
  unfolding compare_text printed changes_of
  text-on u = rw (u.on, turn-changes u.front)

  text_out : (a b : List ℕ) → InForm form a → InForm form b → None ≡ turn_of form a b → compare_text form a b ≡ []
  unfolding compare_text printed changes_of
  text_out a b f g e = rw (turned-end form a b f g e)

  module _ {first second out₀ out : List ℕ} {i j q : ℕ} (v : Walk first second out₀ out i j q) where
    walk_turn : {t : Turn} → Some t ≡ turn_of form (drop i first) (drop j second) → Turned form (drop i first) (drop j second) t
    walk_turn e = turned form (drop i first) (drop j second) v.in_first.fine v.in_second.fine e

    pub walk-on :
        {t : Turn} {out' : List ℕ} {q' : ℕ} → Some t ≡ turn_of form (drop i first) (drop j second)
        → Put out q (turn_change t (drop i first) (drop j second)) out' q'
        → Walk first second out₀ out' (i + first_long t) (j + second_long t) q'
    walk-on {t} {out'} {q'} e p =
        let u = walk_turn e in
        let a = drop i first in
        let b = drop j second in
        let f = drop-drop (first_long t) i first in
        let g = drop-drop (second_long t) j second in
        let x = u.first_in in
        let y = u.second_in in
        let l = length-drop i first in
        let m = length-drop j second in
        let o = change-short u.front in
        let w = ap length (turn-changes u.front) in
        record {
          in_first = record { within = record { inside = let h = v.in_first.within.inside in omega arith; short = v.in_first.within.short }; fine = rw (sym f) u.first_fine };
          in_second = record { within = record { inside = let h = v.in_second.within.inside in omega arith; short = v.in_second.within.short }; fine = rw (sym g) u.second_fine };
          to_put = rw (sym f, sym g) (left-on (text-on u) p v.to_put);
          small = let h = v.small in omega (arith, p.moved);
        }

    pub walk_end : None ≡ turn_of form (drop i first) (drop j second) → Put out₀ 0 (compare_text form first second) out q
    walk_end e = left_end (text_out (drop i first) (drop j second) v.in_first.fine v.in_second.fine e) v.to_put

    -- a turn goes on within the sheets, no place is far on, and what was met lies within them
    pub walk-fits :
        {t : Turn} → Some t ≡ turn_of form (drop i first) (drop j second)
        → Met first i second j t × (q ≤ place_most) × (i + first_long t ≤ length first) × (j + second_long t ≤ length second) × (0 < first_long t + second_long t)
    walk-fits {t} e =
        let u = walk_turn e in
        let x = u.first_in in
        let y = u.second_in in
        let l = length-drop i first in
        let m = length-drop j second in
        let f = v.in_first.within in
        let g = v.in_second.within in
        let s = v.small in
        let a : i + first_long t ≤ length first = omega arith in
        let b : j + second_long t ≤ length second = omega arith in
        (met_of first i second j t u.span a b f.short g.short, omega arith, a, b, u.goes_on)
