-- What is printed of two sheets, applied to the tables of the first, gives those of the second: each step of the walk along both is one step
-- of applying. Assumes nothing.
use mathlib.Core.Path.{◌≡◌, ◌∙◌, refl, sym, ap}
use mathlib.Core.Bool.{Bool, true, false}
use mathlib.Core.List.{List, [], ◌∷◌, ◌++◌, map, append_assoc}
use Prim.Native.Nat.{ℕ, zero, suc, ◌+◌, ◌-◌, ◌≤◌, ◌<◌}
use native.Mathlib.Nat.{zero-add}
use native.Mathlib.Omega.{arith}
use lib.Dec.{eqb}
use lib.ListN.{length, drop, length-append}
use lib.Seq.{drop-append_seam, drop-append-add}
use borrow.Author.Tests.{lt-ltb, le-ltb, eqb-true}
use Rattle.laws.specs.Pick.{pick, both}
use Rattle.laws.specs.Each.{Each, nil, and}
use Rattle.laws.specs.Keyed.{rising_from}
use Rattle.laws.proofs.Eaches.{each_first, each-rest}
use Rattle.laws.proofs.Merging.{along as merging, rising-first, rising-rest, rising-lower}
use Rattle.laws.proofs.Tests.{both_true, both_false}
use Rattle.texts.specs.Texts.{begins_with, same_text}
use Rattle.forms.specs.Tables.{Descriptor, Table}
use Rattle.text_lines.specs.Lines.{number_line}
use Rattle.listing.specs.Lines.{descriptor_lines_of}
use Rattle.listing_reader.specs.Lines.{number_at}
use Rattle.listing_reader.specs.Many.{Many}
use Rattle.listing_reader.specs.Reading.{descriptors_of}
use Rattle.listing_reader.proofs.Spells.{begins-append}
use Rattle.listing_reader.proofs.Rowed.{Closed}
use Rattle.sheet_entry.specs.Entries.{Entry, key_of, table_lines}
use Rattle.sheet_joins.specs.Along.{Stands, in_first, in_second, in_both, along}
use Rattle.day_sheet.proofs.Fronts.{Fit}
use Rattle.day_sheet.proofs.Choosing.{key-only}
use Rattle.sheet_joins.proofs.Meeting.{Sheet, sheet-rest, along-less, along-more, along-same, along-first, along-second, along-none}
use Rattle.changes.specs.Lines.{gone_name, new_name, changed_name, key_name, key_line, change_lines, changes_of, printed}
use Rattle.changes.specs.Calls.{table_of}
use Rattle.changes.specs.Applying.{key_of_table, new_line, new_table, new_long, comes_before, is_new, changed_from, changed_to, with_descriptors, next_table, applied_in, applied}
use Rattle.changes.proofs.Keys.{Keyed, keyed, keys_apart}
use Rattle.changes.proofs.Reading.{some_line, changes_closed, table_is, no-copyright, lines_read, same-table, brought}
use Rattle.sheet_entry.specs.declared.Form.{Form}

-- ---- along two lists

-- what holds at each step of the walk along both holds of all
pub going :
    (P : List Entry → List Entry → Type 0) → P [] [] → ((x : Entry) (xs : List Entry) → P xs [] → P (x ∷ xs) [])
    → ((y : Entry) (ys : List Entry) → P [] ys → P [] (y ∷ ys))
    → ((x : Entry) (xs : List Entry) (y : Entry) (ys : List Entry) → key_of x < key_of y → P xs (y ∷ ys) → P (x ∷ xs) (y ∷ ys))
    → ((x : Entry) (xs : List Entry) (y : Entry) (ys : List Entry) → key_of y < key_of x → P (x ∷ xs) ys → P (x ∷ xs) (y ∷ ys))
    → ((x : Entry) (xs : List Entry) (y : Entry) (ys : List Entry) → key_of x ≡ key_of y → P xs ys → P (x ∷ xs) (y ∷ ys))
    → (xs ys : List Entry) → P xs ys
going P none first second less more same = merging key_of (λ x y. x) P right left less same more
  where
    right : (ys : List Entry) → P [] ys
    right [] = none
    right (y ∷ ys) = second y ys (right ys)

    left : (xs : List Entry) → P xs []
    left [] = none
    left (x ∷ xs) = first x xs (left xs)

pub printed-on :
    (xs ys xs' ys' : List Entry) {s : Stands} → along xs ys ≡ s ∷ along xs' ys' → printed xs ys ≡ change_lines s ++ printed xs' ys'
unfolding printed changes_of
printed-on xs ys xs' ys' e = rw e

-- ---- one step of applying

module _ (k : ℕ) (text : List ℕ) (ts : List Table) where
  applied-new : is_new text ts ≡ true → applied_in (suc k) text ts ≡ new_table text ∷ applied_in k (drop (new_long text) text) ts
  unfolding applied_in
  applied-new e = rw (e, applied_in)

  applied-next : is_new text ts ≡ false → applied_in (suc k) text ts ≡ next_table (applied_in k) text ts
  unfolding applied_in
  applied-next e = rw (e, applied_in)

module _ (rest : List ℕ → List Table → List Table) (text : List ℕ) (t : Table) (ts : List Table) where
  next-gone : begins_with (key_line gone_name t) text ≡ true → next_table rest text (t ∷ ts) ≡ rest (drop (length (key_line gone_name t)) text) ts
  unfolding next_table
  next-gone e = rw (e, next_table)

  next-changed :
      begins_with (key_line gone_name t) text ≡ false → begins_with (changed_from t) text ≡ true
      → next_table rest text (t ∷ ts)
      ≡ with_descriptors t (changed_to t text).items ∷ rest (drop (length (changed_from t) + (changed_to t text).long) text) ts
  unfolding next_table
  next-changed e f = rw (e, f, next_table)

  next-stays :
      begins_with (key_line gone_name t) text ≡ false → begins_with (changed_from t) text ≡ false → next_table rest text (t ∷ ts) ≡ t ∷ rest text ts
  unfolding next_table
  next-stays e f = rw (e, f, next_table)

-- no `new=` line where another letter stands, nor at the end
not_new : (b : ℕ) (rest : List ℕ) (ts : List Table) → eqb b 110 ≡ false → is_new (b ∷ rest) ts ≡ false
unfolding is_new new_line number_at number_line key_name begins_with
not_new b rest ts e = rw (e, both_false)

none_new : (ts : List Table) → is_new [] ts ≡ false
unfolding is_new new_line number_at number_line key_name begins_with
none_new ts = rw both_false

step_gone : (k : ℕ) (t : Table) (ts : List Table) (rest : List ℕ) → applied_in (suc k) (key_line gone_name t ++ rest) (t ∷ ts) ≡ applied_in k rest ts
step_gone k t ts rest =
    let text = key_line gone_name t ++ rest in
    let n : is_new text (t ∷ ts) ≡ false = (unfold key_line number_line key_name in not_new 103 _ (t ∷ ts) refl) in
    applied-next k text (t ∷ ts) n
    ∙ next-gone (applied_in k) text t ts (begins-append (key_line gone_name t) rest)
    ∙ ap (λ (l : List ℕ). applied_in k l ts) (drop-append_seam (key_line gone_name t) rest)

applied-end : (k : ℕ) → applied_in k [] [] ≡ []
applied-end zero = (unfold applied_in in refl)
applied-end (suc k) = applied-next k [] [] (none_new []) ∙ (unfold next_table in refl)

-- ---- a table of which nothing is printed

-- a text that says nothing of a table
record Past (t : Table) (ts : List Table) (text : List ℕ) : Type 0 where
  new : is_new text (t ∷ ts) ≡ false
  gone : begins_with (key_line gone_name t) text ≡ false
  changed : begins_with (changed_from t) text ≡ false

step_stays : (k : ℕ) (t : Table) (ts : List Table) (text : List ℕ) → Past t ts text → applied_in (suc k) text (t ∷ ts) ≡ t ∷ applied_in k text ts
step_stays k t ts text p =
    applied-next k text (t ∷ ts) p.new ∙ next-stays (applied_in k) text t ts p.gone p.changed

module _ (form : Form) where
  step-new :
      (k : ℕ) (y : Entry) (ts : List Table) (rest : List ℕ) → Fit form y → comes_before (key_of y) ts ≡ true → Closed rest
      → applied_in (suc k) ((key_line new_name y.table ++ table_lines y) ++ rest) ts ≡ table_of y ∷ applied_in k rest ts
  step-new k y ts rest w h c =
      let line = key_line new_name y.table in
      let text = line ++ (table_lines y ++ rest) in
      let r = brought form y rest w c in
      let n : is_new text ts ≡ true = (unfold is_new key_of in rw (r.there, r.table) h) in
      let d : drop (length line + length (table_lines y)) text ≡ rest =
      drop-append-add line (table_lines y ++ rest) (length (table_lines y)) ∙ drop-append_seam (table_lines y) rest in
      rw (append_assoc line (table_lines y) rest) (applied-new k text ts n ∙ rw (r.table, r.long, d))

  step-changed :
      (k : ℕ) (x y : Entry) (ts : List Table) (rest : List ℕ) → Fit form x → Fit form y → key_of x ≡ key_of y → Closed rest
      → applied_in (suc k) ((key_line changed_name y.table ++ (table_lines x ++ table_lines y)) ++ rest) (table_of x ∷ ts)
      ≡ table_of y ∷ applied_in k rest ts
  step-changed k x y ts rest v w e c =
      let t = x.table in
      let o = key-only form x y v w e in
      let line : key_line changed_name y.table ≡ key_line changed_name t = (unfold key_line in rw (o.0, o.1, o.2)) in
      let text = (key_line changed_name t ++ table_lines x) ++ (table_lines y ++ rest) in
      let a : (key_line changed_name y.table ++ (table_lines x ++ table_lines y)) ++ rest ≡ text = rw line (simp append_assoc) in
      let n : is_new text (t ∷ ts) ≡ false = (unfold key_line number_line key_name in not_new 99 _ (t ∷ ts) refl) in
      let g : begins_with (key_line gone_name t) text ≡ false = (unfold key_line number_line key_name begins_with in refl) in
      let b : begins_with (changed_from t) text ≡ true = begins-append (changed_from t) (table_lines y ++ rest) in
      let m : changed_to t text ≡ record { items = y.table.descriptors; fine = true; long = length (table_lines y) } =
      ap (descriptors_of t.kind) (drop-append_seam (changed_from t) (table_lines y ++ rest))
      ∙ ap (λ (z : ℕ). descriptors_of z (table_lines y ++ rest)) o.1
      ∙ lines_read form y rest w c in
      let d : drop (length (changed_from t) + length (table_lines y)) text ≡ rest =
      drop-append-add (changed_from t) (table_lines y ++ rest) (length (table_lines y)) ∙ drop-append_seam (table_lines y) rest in
      let z : with_descriptors t y.table.descriptors ≡ table_of y = table_is o.1 (sym (no-copyright form y w)) o.2 o.0 refl in
      ap (λ (l : List ℕ). applied_in (suc k) l (t ∷ ts)) a
      ∙ applied-next k text (t ∷ ts) n
      ∙ next-changed (applied_in k) text t ts g b
      ∙ ap (λ (q : Many Descriptor). with_descriptors t q.items ∷ applied_in k (drop (length (changed_from t) + q.long) text) ts) m
      ∙ ap (λ (l : List ℕ). with_descriptors t y.table.descriptors ∷ applied_in k l ts) d
      ∙ ap (λ (u : Table). u ∷ applied_in k rest ts) z

  -- what stands there has a greater key
  data Later (k : ℕ) : Stands → Type 0 where
    later_first : {x : Entry} → k < key_of x → Fit form x → Later k (in_first x)
    later_second : {y : Entry} → k < key_of y → Fit form y → Later k (in_second y)
    later-both : {x y : Entry} → k < key_of y → Fit form y → Later k (in_both x y)

  begins-longer : (a b text : List ℕ) → begins_with a text ≡ false → begins_with (a ++ b) text ≡ false
  unfolding begins_with
  begins-longer [] b text h = let z : ◌≡◌ {A = ℕ} 0 1 = cc in absurd (omega arith)
  begins-longer (x ∷ a) b [] h = refl
  begins-longer (x ∷ a) b (c ∷ text) h = go (eqb c x) h (begins-longer a b text)
    where
      go : (z : Bool) → both z (begins_with a text) ≡ false → (begins_with a text ≡ false → begins_with (a ++ b) text ≡ false) → both z (begins_with (a ++ b) text) ≡ false
      go true f i = i f
      go false f i = refl

  past : (t : Table) (ts : List Table) → Keyed t → {ss : List Stands} → Each (Later (key_of_table t)) ss → Past t ts (changes_of ss)
  unfolding changes_of change_lines
  past t ts k nil =
      record {
        new = none_new (t ∷ ts);
        gone = (unfold key_line number_line key_name begins_with in refl);
        changed = (unfold key_line number_line key_name begins_with in refl);
      }
  past t ts k (and {l = ss} (later_first {x} h w) e) =
      record {
        new = (unfold key_line number_line key_name in not_new 103 _ (t ∷ ts) refl);
        gone = (unfold key_of in keys_apart gone_name t x.table (changes_of ss) k (keyed form x w) (λ z. omega arith));
        changed = (unfold key_line number_line key_name begins_with in refl);
      }
  past t ts k (and {l = ss} (later_second {y} h w) e) =
      let text = key_line new_name y.table ++ (table_lines y ++ changes_of ss) in
      let r = brought form y (changes_of ss) w (changes_closed ss) in
      let n : is_new text (t ∷ ts) ≡ false =
      (unfold is_new comes_before key_of in rw (r.there, r.table) (le-ltb (key_of_table y.table) (key_of_table t) (omega arith))) in
      record {
        new = rw (append_assoc (key_line new_name y.table) (table_lines y) (changes_of ss)) n;
        gone = (unfold key_line number_line key_name begins_with in refl);
        changed = (unfold key_line number_line key_name begins_with in refl);
      }
  past t ts k (and {l = ss} (later-both {x} {y} h w) e) = go (same_text (table_lines x) (table_lines y)) (past t ts k e)
    where
      line : List ℕ
      line = key_line changed_name y.table

      both-lines : List ℕ
      both-lines = table_lines x ++ table_lines y

      go : (z : Bool) → Past t ts (changes_of ss) → Past t ts (pick z [] (line ++ both-lines) ++ changes_of ss)
      go true p = p
      go false p =
          record {
            new = (unfold key_line number_line key_name in not_new 99 _ (t ∷ ts) refl);
            gone = (unfold key_line number_line key_name begins_with in refl);
            changed =
                begins-longer (key_line changed_name t) (descriptor_lines_of t) ((line ++ both-lines) ++ changes_of ss)
                (rw (append_assoc line both-lines (changes_of ss))
                (unfold key_of in keys_apart changed_name t y.table (both-lines ++ changes_of ss) k (keyed form y w) (λ z. omega arith)));
          }

  -- entries above a key
  record Above (k : ℕ) (xs : List Entry) : Type 0 where
    rises : rising_from key_of (suc k) xs ≡ true
    fit : Each (Fit form) xs

  above-rest : {k : ℕ} {x : Entry} {xs : List Entry} → Above k (x ∷ xs) → (k < key_of x) × Fit form x × Above k xs
  above-rest {k} {x} {xs} a =
      let f = rising-first key_of (suc k) x xs a.rises in (
        f,
        each_first a.fit,
        record { rises = rising-lower key_of (suc (key_of x)) (suc k) xs (omega arith) (rising-rest key_of (suc k) x xs a.rises); fit = each-rest a.fit },
      )

  later : (k : ℕ) (xs ys : List Entry) → Above k xs → Above k ys → Each (Later k) (along xs ys)
  later k =
      going (λ (xs ys : List Entry). Above k xs → Above k ys → Each (Later k) (along xs ys)) (λ a b. rw along-none nil)
      (λ x xs i a b. let p = above-rest a in rw (along-first x xs) (and (later_first p.0 p.1) (i p.2 b)))
      (λ y ys i a b. let p = above-rest b in rw (along-second y ys) (and (later_second p.0 p.1) (i a p.2)))
      (λ x xs y ys l i a b. let p = above-rest a in rw (along-less x xs y ys l) (and (later_first p.0 p.1) (i p.2 b)))
      (λ x xs y ys l i a b. let p = above-rest b in rw (along-more x xs y ys l) (and (later_second p.0 p.1) (i a p.2)))
      (λ x xs y ys l i a b.
      let p = above-rest a in
      let q = above-rest b in
      rw (along-same x xs y ys l) (and (later-both q.0 q.1) (i p.2 q.2)))

  -- what is left behind two entries of one key
  behind-both : {x y : Entry} {xs ys : List Entry} → Sheet form (x ∷ xs) → Sheet form (y ∷ ys) → key_of x ≡ key_of y → Each (Later (key_of x)) (along xs ys)
  behind-both {x} {y} {xs} {ys} f g e =
      later (key_of x) xs ys
      (record { rises = rising-rest key_of 0 x xs f.rises; fit = each-rest f.fit })
      (record { rises = rw e (rising-rest key_of 0 y ys g.rises); fit = each-rest g.fit })

-- ---- all steps

pub same_text_lem : (a b : List ℕ) → same_text a b ≡ true → a ≡ b
unfolding begins_with
same_text_lem a b h =
    let p = both_true (eqb (length a) (length b)) (begins_with b a) h in
    let l : length a ≡ length b = eqb-true (length a) (length b) p.0 in
    begins-all b a l p.1
  where
    begins-all : (b a : List ℕ) → length a ≡ length b → begins_with b a ≡ true → a ≡ b
    begins-all [] [] l h = refl
    begins-all [] (x ∷ a) l h = absurd (omega arith)
    begins-all (y ∷ b) [] l h = absurd (omega arith)
    begins-all (y ∷ b) (x ∷ a) l h =
        let p = both_true (eqb x y) (begins_with b a) h in
        let e : x ≡ y = eqb-true x y p.0 in
        let r = begins-all b a (omega arith) p.1 in
        rw (e, r)

module _ (form : Form) where
  applied-same :
      (k : ℕ) (x y : Entry) (ts us : List Table) (ss : List Stands) → Fit form x → Fit form y → key_of x ≡ key_of y → Each (Later form (key_of x)) ss
      → applied_in k (changes_of ss) ts ≡ us → applied_in (suc k) (change_lines (in_both x y) ++ changes_of ss) (table_of x ∷ ts) ≡ table_of y ∷ us
  unfolding change_lines
  applied-same k x y ts us ss v w e l h = go (same_text (table_lines x) (table_lines y)) refl
    where
      go :
          (z : Bool) → same_text (table_lines x) (table_lines y) ≡ z
          → applied_in (suc k) (pick z [] (key_line changed_name y.table ++ (table_lines x ++ table_lines y)) ++ changes_of ss) (table_of x ∷ ts)
          ≡ table_of y ∷ us
      go true s =
          step_stays k x.table ts (changes_of ss) (past form x.table ts (keyed form x v) (unfold key_of in l))
          ∙ ap (λ (t : Table). t ∷ applied_in k (changes_of ss) ts) (same-table form x y v w e (same_text_lem (table_lines x) (table_lines y) s))
          ∙ ap (λ (r : List Table). table_of y ∷ r) h
      go false s = step-changed form k x y ts (changes_of ss) v w e (changes_closed ss) ∙ ap (λ (r : List Table). table_of y ∷ r) h

  -- one step of the walk is one of applying
  one_more : (xs ys xs' ys' : List Entry) (j : ℕ) {s : Stands} → along xs ys ≡ s ∷ along xs' ys' → length (along xs ys) + j ≡ suc (length (along xs' ys') + j)
  one_more xs ys xs' ys' j e = let l = ap length e in omega arith

  closed : (xs ys : List Entry) → Closed (printed xs ys)
  unfolding printed
  closed xs ys = changes_closed (along xs ys)

  abbrev Gives : List Entry → List Entry → Type 0
  Gives xs ys = (j : ℕ) → Sheet form xs → Sheet form ys → applied_in (length (along xs ys) + j) (printed xs ys) (map table_of xs) ≡ map table_of ys

  gives-gone :
      (x : Entry) (xs ys : List Entry) → along (x ∷ xs) ys ≡ in_first x ∷ along xs ys → Gives xs ys → Gives (x ∷ xs) ys
  unfolding change_lines
  gives-gone x xs ys e i j f g =
      rw (one_more (x ∷ xs) ys xs ys j e, printed-on (x ∷ xs) ys xs ys e)
      (step_gone (length (along xs ys) + j) x.table (map table_of xs) (printed xs ys) ∙ i j (sheet-rest form f).1 g)

  gives-new :
      (xs : List Entry) (y : Entry) (ys : List Entry) → along xs (y ∷ ys) ≡ in_second y ∷ along xs ys → comes_before (key_of y) (map table_of xs) ≡ true
      → Gives xs ys → Gives xs (y ∷ ys)
  unfolding change_lines
  gives-new xs y ys e b i j f g =
      rw (one_more xs (y ∷ ys) xs ys j e, printed-on xs (y ∷ ys) xs ys e)
      (step-new form (length (along xs ys) + j) y (map table_of xs) (printed xs ys) (sheet-rest form g).0 b (closed xs ys)
      ∙ ap (λ (r : List Table). table_of y ∷ r) (i j f (sheet-rest form g).1))

  gives_both : (x : Entry) (xs : List Entry) (y : Entry) (ys : List Entry) → key_of x ≡ key_of y → Gives xs ys → Gives (x ∷ xs) (y ∷ ys)
  unfolding printed
  gives_both x xs y ys l i j f g =
      let e = along-same x xs y ys l in
      rw (one_more (x ∷ xs) (y ∷ ys) xs ys j e, printed-on (x ∷ xs) (y ∷ ys) xs ys e)
      (applied-same (length (along xs ys) + j) x y (map table_of xs) (map table_of ys) (along xs ys) (sheet-rest form f).0 (sheet-rest form g).0 l (behind-both form f g l)
      (i j (sheet-rest form f).1 (sheet-rest form g).1))

  gives_none : Gives [] []
  unfolding printed changes_of
  gives_none j f g = rw along-none (applied-end (0 + j))

  applied-along : (xs ys : List Entry) → Gives xs ys
  applied-along =
      going Gives gives_none (λ x xs i. gives-gone x xs [] (along-first x xs) i)
      (λ y ys i. gives-new [] y ys (along-second y ys) (unfold comes_before in refl) i)
      (λ x xs y ys l i. gives-gone x xs (y ∷ ys) (along-less x xs y ys l) i)
      (λ x xs y ys l i. gives-new (x ∷ xs) y ys (along-more x xs y ys l) (unfold comes_before key_of in lt-ltb (key_of y) (key_of x) l) i)
      (λ x xs y ys l i. gives_both x xs y ys l i)

  -- as many steps as there are bytes and tables are enough
  brings : (y : Entry) (n : ℕ) → suc n ≤ length (change_lines (in_second y)) + n
  unfolding change_lines
  brings y n =
      let a = some_line new_name y.table in
      let b = length-append (key_line new_name y.table) (table_lines y) in
      omega arith

  abbrev Enough : List Entry → List Entry → Type 0
  Enough xs ys = length (along xs ys) ≤ length (printed xs ys) + length (map table_of xs)

  passes :
      (xs ys xs' ys' : List Entry) {s : Stands} → along xs ys ≡ s ∷ along xs' ys' → Enough xs' ys'
      → suc (length (map table_of xs')) ≤ length (change_lines s) + length (map table_of xs) → Enough xs ys
  passes xs ys xs' ys' {s} e i m =
      let l = ap length e in
      let p = ap length (printed-on xs ys xs' ys' e) ∙ length-append (change_lines s) (printed xs' ys') in
      omega arith

  enough : (xs ys : List Entry) → Enough xs ys
  enough =
      going Enough (rw along-none (omega arith)) (λ x xs i. passes (x ∷ xs) [] xs [] (along-first x xs) i (omega arith))
      (λ y ys i. passes [] (y ∷ ys) [] ys (along-second y ys) i (brings y 0))
      (λ x xs y ys l i. passes (x ∷ xs) (y ∷ ys) xs (y ∷ ys) (along-less x xs y ys l) i (omega arith))
      (λ x xs y ys l i. passes (x ∷ xs) (y ∷ ys) (x ∷ xs) ys (along-more x xs y ys l) i (brings y (length (map table_of (x ∷ xs)))))
      (λ x xs y ys l i. passes (x ∷ xs) (y ∷ ys) xs ys (along-same x xs y ys l) i (omega arith))

  -- what is printed, applied to the first's tables, gives the second's
  pub print-applied : (xs ys : List Entry) → Sheet form xs → Sheet form ys → applied (printed xs ys) (map table_of xs) ≡ map table_of ys
  unfolding applied
  print-applied xs ys f g =
      let n = length (printed xs ys) + length (map table_of xs) in
      let h = enough xs ys in
      let e : n ≡ length (along xs ys) + (n - length (along xs ys)) = omega arith in
      rw e (applied-along xs ys (n - length (along xs ys)) f g)

-- nothing, applied, changes nothing
pub nothing-applied : (ts : List Table) → applied [] ts ≡ ts
unfolding applied
nothing-applied ts = rw (zero-add (length ts)) (steps (length ts) ts)
  where
    steps : (k : ℕ) (ts : List Table) → applied_in k [] ts ≡ ts
    steps zero ts = (unfold applied_in in refl)
    steps (suc k) [] = applied-end (suc k)
    steps (suc k) (t ∷ ts) =
        step_stays k t ts []
        (record {
          new = none_new (t ∷ ts);
          gone = (unfold key_line number_line key_name begins_with in refl);
          changed = (unfold key_line number_line key_name begins_with in refl);
        })
        ∙ ap (λ (r : List Table). t ∷ r) (steps k ts)
