-- What two sheets in form have at their fronts: which of them has the next key, the entry that is found there is its first, and what is left
-- are sheets in form again, whose walk along is the rest of the walk. Assumes nothing.
use mathlib.Core.Path.{◌≡◌, refl, sym, ap, subst}
use mathlib.Core.Bool.{Bool, true, false}
use mathlib.Core.List.{List, [], ◌∷◌, ◌++◌, append_assoc}
use Prim.Native.Nat.{ℕ, suc, ◌+◌, ◌-◌, ◌≤◌, ◌<◌}
use native.Mathlib.Omega.{arith}
use lib.Dec.{ltb}
use lib.ListN.{length, drop}
use lib.Seq.{take-append_seam, drop-append_seam}
use borrow.Author.Tests.{lt-ltb, le-ltb, ltb-true, ltb-false, eq-eqb, ne_eqb}
use Rattle.laws.specs.Pick.{pick}
use Rattle.laws.proofs.Eaches.{each_first, each-rest}
use Rattle.laws.proofs.Merging.{rising-rest, rising-lower}
use Rattle.laws.proofs.Trees.{Good}
use Rattle.sheet_joins.specs.declared.Turn.{Turn}
use Rattle.sheet_entry.specs.Entries.{Entry, key_of, head_lines, table_lines, empty_line, entry_text}
use Rattle.day_sheet.specs.Entries.{sheet_text}
use Rattle.sheet_entry.specs.Reading.{entry_at, found_of}
use Rattle.listing_reader.specs.Many.{many}
use Rattle.day_sheet.specs.Reading.{sheet_from, InForm}
use Rattle.sheet_joins.specs.Along.{Stands, in_first, in_second, in_both, up_to, along}
use Rattle.sheet_joins.specs.declared.Turn.TheVariants.{First, Second, Both}
use Rattle.std.specs.declared.option.Option.{Option}
use Rattle.std.specs.declared.option.Option.TheVariants.{None, Some}
use Rattle.sheet_joins.specs.Turns.{turn_by, turn_of, first_long, second_long}
use Rattle.sheet_joins.specs.Joining.{at_most}
use Rattle.day_sheet.specs.Calls.{entries_of}
use Rattle.sheet_joins.specs.Internal.{found_lines}
use Rattle.day_sheet.proofs.Fronts.{Fit, found, found-text, spans, front_fits}
use Rattle.sheet_joins.proofs.AnyOrder.{decides, sheet-of, text_of}
use Rattle.day_sheet.proofs.Exact.{read-written}
use Rattle.sheet_entry.specs.declared.Form.{Form}

module _ (form : Form) where
  abbrev pub Sheet : List Entry → Type 0
  Sheet = Good key_of (Fit form) at_most (decides form)

  -- the lines of the table of the entry that is found at the front
  pub lines-found : (x : Entry) (rest : List ℕ) → found_lines (entry_text form x ++ rest) (found form x) ≡ table_lines x
  unfolding found_lines entry_text
  lines-found x rest =
      let s = spans form x in
      let n : length (entry_text form x) - 1 - length (head_lines form x) ≡ length (table_lines x) = omega arith in
      rw (n, append_assoc (head_lines form x) (table_lines x ++ empty_line) rest, drop-append_seam (head_lines form x) ((table_lines x ++ empty_line) ++ rest), append_assoc (table_lines x) empty_line rest)
      (take-append_seam (table_lines x) (empty_line ++ rest))

-- ---- which has the next key

module _ (x : Entry) (xs : List Entry) (y : Entry) (ys : List Entry) where
  pub along-less : key_of x < key_of y → along (x ∷ xs) (y ∷ ys) ≡ in_first x ∷ along xs (y ∷ ys)
  unfolding along up_to
  along-less h = rw (lt-ltb (key_of x) (key_of y) h, up_to)

  pub along-more : key_of y < key_of x → along (x ∷ xs) (y ∷ ys) ≡ in_second y ∷ along (x ∷ xs) ys
  unfolding along up_to
  along-more h = rw (le-ltb (key_of x) (key_of y) (omega arith), ne_eqb (key_of x) (key_of y) (λ e. omega arith), up_to)

  pub along-same : key_of x ≡ key_of y → along (x ∷ xs) (y ∷ ys) ≡ in_both x y ∷ along xs ys
  unfolding along up_to
  along-same h = rw (le-ltb (key_of x) (key_of y) (omega arith), eq-eqb (key_of x) (key_of y) h, up_to)

pub along-first : (x : Entry) (xs : List Entry) → along (x ∷ xs) [] ≡ in_first x ∷ along xs []
unfolding along up_to
along-first x xs = refl

pub along-second : (y : Entry) (ys : List Entry) → along [] (y ∷ ys) ≡ in_second y ∷ along [] ys
unfolding along
along-second y ys = refl

pub along-none : along [] [] ≡ []
unfolding along
along-none = refl

-- ---- what is taken, and what is left

-- the head of each entry of a turn stands before its empty line
abbrev pub Spans : Turn → Type 0
Spans (First f) = f.head + 1 ≤ f.long
Spans (Second g) = g.head + 1 ≤ g.long
Spans (Both f g) = (f.head + 1 ≤ f.long) × (g.head + 1 ≤ g.long)

module _ (form : Form) where
  -- what is found at the fronts, of which an entry of the one sheet, the other or both stands there
  pub data Front (a b : List ℕ) : Turn → Stands → Type 0 where
    front-first : (x : Entry) (rest : List ℕ) → Fit form x → a ≡ entry_text form x ++ rest → Front a b (First (found form x)) (in_first x)
    front-second : (y : Entry) (more : List ℕ) → Fit form y → b ≡ entry_text form y ++ more → Front a b (Second (found form y)) (in_second y)
    front-both :
        (x y : Entry) (rest more : List ℕ) → Fit form x → Fit form y → key_of x ≡ key_of y → a ≡ entry_text form x ++ rest → b ≡ entry_text form y ++ more
        → Front a b (Both (found form x) (found form y)) (in_both x y)

  -- what one turn does: it goes on in at least one sheet, what stands there is the first of the walk along both, and what it leaves are sheets
  -- in form that give the rest
  pub record Turned (a b : List ℕ) (t : Turn) : Type 0 where
    pub first_in : first_long t ≤ length a
    pub second_in : second_long t ≤ length b
    pub span : Spans t
    pub goes_on : 0 < first_long t + second_long t
    pub first_fine : InForm form (drop (first_long t) a)
    pub second_fine : InForm form (drop (second_long t) b)
    pub here : Stands
    pub front : Front a b t here
    pub on :
        along (entries_of form a) (entries_of form b)
        ≡ here ∷ along (entries_of form (drop (first_long t) a)) (entries_of form (drop (second_long t) b))

  found-span : (x : Entry) → (found form x).head + 1 ≤ (found form x).long
  found-span x = let s = spans form x in omega arith

  turned_by :
      {xs ys : List Entry} (xs' ys' : List Entry) (s : Stands) (t : Turn) → Spans t → Sheet form xs → Sheet form ys → Sheet form xs' → Sheet form ys'
      → first_long t ≤ length (sheet_text form xs) → second_long t ≤ length (sheet_text form ys) → 0 < first_long t + second_long t
      → drop (first_long t) (sheet_text form xs) ≡ sheet_text form xs' → drop (second_long t) (sheet_text form ys) ≡ sheet_text form ys'
      → Front (sheet_text form xs) (sheet_text form ys) t s → along xs ys ≡ s ∷ along xs' ys'
      → Turned (sheet_text form xs) (sheet_text form ys) t
  turned_by {xs} {ys} xs' ys' s t v f g f' g' l m o p q r j =
      let c = text_of form f' in
      let d = text_of form g' in
      record {
        first_in = l;
        second_in = m;
        span = v;
        goes_on = o;
        first_fine = rw p c.0;
        second_fine = rw q d.0;
        here = s;
        front = r;
        on = rw ((text_of form f).1, (text_of form g).1, p, q, c.1, d.1) j;
      }

  -- a sheet without its first entry
  pub sheet-rest : {x : Entry} {xs : List Entry} → Sheet form (x ∷ xs) → Fit form x × Sheet form xs
  sheet-rest {x} {xs} g =
      (each_first g.fit, record { rises = rising-lower key_of (suc (key_of x)) 0 xs (omega arith) (rising-rest key_of 0 x xs g.rises); fit = each-rest g.fit })

  -- only the first has an entry, or its key is smaller
  takes_first :
      (x : Entry) (xs ys : List Entry) → Sheet form (x ∷ xs) → Sheet form ys → along (x ∷ xs) ys ≡ in_first x ∷ along xs ys
      → Turned (sheet_text form (x ∷ xs)) (sheet_text form ys) (First (found form x))
  unfolding sheet_text
  takes_first x xs ys f g j =
      let s = spans form x in
      turned_by xs ys (in_first x) (First (found form x)) (found-span x) f g (sheet-rest f).1 g (front_fits form x (sheet_text form xs)) (omega arith) (omega arith)
      (drop-append_seam (entry_text form x) (sheet_text form xs)) refl (front-first x (sheet_text form xs) (sheet-rest f).0 refl) j

  takes-second :
      (xs : List Entry) (y : Entry) (ys : List Entry) → Sheet form xs → Sheet form (y ∷ ys) → along xs (y ∷ ys) ≡ in_second y ∷ along xs ys
      → Turned (sheet_text form xs) (sheet_text form (y ∷ ys)) (Second (found form y))
  unfolding sheet_text
  takes-second xs y ys f g j =
      let s = spans form y in
      turned_by xs ys (in_second y) (Second (found form y)) (found-span y) f g f (sheet-rest g).1 (omega arith) (front_fits form y (sheet_text form ys)) (omega arith)
      refl (drop-append_seam (entry_text form y) (sheet_text form ys)) (front-second y (sheet_text form ys) (sheet-rest g).0 refl) j

  takes-both :
      (x : Entry) (xs : List Entry) (y : Entry) (ys : List Entry) → Sheet form (x ∷ xs) → Sheet form (y ∷ ys) → key_of x ≡ key_of y
      → Turned (sheet_text form (x ∷ xs)) (sheet_text form (y ∷ ys)) (Both (found form x) (found form y))
  unfolding sheet_text
  takes-both x xs y ys f g k =
      let s = spans form x in
      turned_by xs ys (in_both x y) (Both (found form x) (found form y)) (found-span x, found-span y) f g (sheet-rest f).1 (sheet-rest g).1
      (front_fits form x (sheet_text form xs)) (front_fits form y (sheet_text form ys)) (omega arith) (drop-append_seam (entry_text form x) (sheet_text form xs))
      (drop-append_seam (entry_text form y) (sheet_text form ys))
      (front-both x y (sheet_text form xs) (sheet_text form ys) (sheet-rest f).0 (sheet-rest g).0 k refl refl) (along-same x xs y ys k)

  -- where both are at their end nothing is left
  along-out : (a b : List ℕ) → length a + length b ≤ 0 → along (entries_of form a) (entries_of form b) ≡ []
  unfolding along sheet_from many
  along-out [] [] h = refl
  along-out [] (y ∷ b) h = absurd (omega arith)
  along-out (x ∷ a) b h = absurd (omega arith)

  -- what is seen at the front of two sheets: a turn, or the end of both
  data Seen (a b : List ℕ) : Option Turn → Type 0 where
    seen-turn : {t : Turn} → Turned a b t → Seen a b (Some t)
    seen-end : along (entries_of form a) (entries_of form b) ≡ [] → Seen a b None

  -- each way in which two sheets can begin
  seen_texts :
      (xs ys : List Entry) → Sheet form xs → Sheet form ys
      → Seen (sheet_text form xs) (sheet_text form ys) (turn_of form (sheet_text form xs) (sheet_text form ys))
  unfolding sheet_text turn_of turn_by found_of entry_at
  seen_texts [] [] f g = seen-end (along-out [] [] (omega arith))
  seen_texts (x ∷ xs) [] f g = rw (found-text form x (sheet_text form xs) (sheet-rest f).0) (seen-turn (takes_first x xs [] f g (along-first x xs)))
  seen_texts [] (y ∷ ys) f g = rw (found-text form y (sheet_text form ys) (sheet-rest g).0) (seen-turn (takes-second [] y ys f g (along-second y ys)))
  seen_texts (x ∷ xs) (y ∷ ys) f g =
      rw (found-text form x (sheet_text form xs) (sheet-rest f).0, found-text form y (sheet_text form ys) (sheet-rest g).0)
      (seen-turn (go (ltb (key_of x) (key_of y)) refl (ltb (key_of y) (key_of x)) refl))
    where
      go :
          (p : Bool) → ltb (key_of x) (key_of y) ≡ p → (q : Bool) → ltb (key_of y) (key_of x) ≡ q
          → Turned (sheet_text form (x ∷ xs)) (sheet_text form (y ∷ ys)) (pick p (First (found form x)) (pick q (Second (found form y)) (Both (found form x) (found form y))))
      go true p q₀ q = takes_first x xs (y ∷ ys) f g (along-less x xs y ys (ltb-true (key_of x) (key_of y) p))
      go false p true q = takes-second (x ∷ xs) y ys f g (along-more x xs y ys (ltb-true (key_of y) (key_of x) q))
      go false p false q =
          takes-both x xs y ys f g (omega (arith, ltb-false (key_of x) (key_of y) p, ltb-false (key_of y) (key_of x) q))

  seen : (a b : List ℕ) → InForm form a → InForm form b → Seen a b (turn_of form a b)
  seen a b f g =
      let p = sym (read-written form a 0 f).0 in
      let q = sym (read-written form b 0 g).0 in
      subst (λ (x : List ℕ). Seen x b (turn_of form x b)) p
      (subst (λ (y : List ℕ). Seen (sheet_text form (entries_of form a)) y (turn_of form (sheet_text form (entries_of form a)) y)) q
      (seen_texts (entries_of form a) (entries_of form b) (sheet-of form a f) (sheet-of form b g)))

  abbrev turn_or : Turn → Option Turn → Turn
  turn_or t None = t
  turn_or t (Some u) = u

  abbrev turns : Option Turn → ℕ
  turns None = 0
  turns (Some t) = 1

  module _ (a b : List ℕ) (f : InForm form a) (g : InForm form b) where
    pub turned : {t : Turn} → Some t ≡ turn_of form a b → Turned a b t
    turned {t} e = go (turn_of form a b) (seen a b f g) e
      where
        go : (o : Option Turn) → Seen a b o → Some t ≡ o → Turned a b t
        go (Some u) (seen-turn v) q = subst (Turned a b) (sym (ap (turn_or t) q)) v
        go None (seen-end v) q = let z = ap turns q in absurd (omega arith)

    -- where neither has an entry nothing is left
    pub turned-end : None ≡ turn_of form a b → along (entries_of form a) (entries_of form b) ≡ []
    turned-end e = go (turn_of form a b) (seen a b f g) e
      where
        go : (o : Option Turn) → Seen a b o → None ≡ o → along (entries_of form a) (entries_of form b) ≡ []
        go (Some u) (seen-turn v) q = let z = ap turns q in absurd (omega arith)
        go None (seen-end v) q = v
