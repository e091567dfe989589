-- What is laid is read back, and what is read fits and is laid again as it was: for a number, for bits that fill, for numbers in a row, of
-- one width or of given widths, for a string, for one thing behind another, for a row, for a value that another stands for, for a row with its count. Assumes nothing.
use mathlib.Core.Path.{◌≡◌, ◌∙◌, refl, sym, ap, ap₂, subst}
use mathlib.Core.Bool.{Bool, true, false}
use mathlib.Core.List.{List, [], ◌∷◌, ◌++◌, append-nil, append_assoc}
use Prim.Native.Nat.{ℕ, zero, suc, ◌+◌, ◌*◌, ◌/◌, ◌^◌, ◌<◌}
use native.Mathlib.Nat.{add-zero, div-one, mod-eq_of_lt}
use native.Mathlib.Omega.{arith}
use borrow.Author.Tests.{ltb-true, lt-ltb, eqb-true, eq-eqb}
use lib.Dec.{ltb, eqb}
use lib.ListN.{length, get_or, take, drop}
use lib.Pow.{shr-shr}
use lib.Seq.{drop-append_seam}
use Rattle.laws.proofs.Tests.{both_true, both-holds}
use Rattle.fields.specs.Fields.{Field, alike, width, laid, fitting, field, parts}
use Rattle.fields.proofs.Laid.{field_lt, field-first, laid-first, laid_next, field_past, laid-append, laid-drop, width-append, width-row, fitting-append, fitting-parts, length-parts, parts-laid, lay, lay-parts}
use Rattle.codecs.specs.Rows.{each, codes_in, rowed, values_in}
use Rattle.codecs.specs.Codec.{Codec, past, left, number, filling, numbers, values, codes, then, row_read, row_whole, row, seen, counted}
use Rattle.codecs.proofs.Codes.{Begins, begins-none, begins-append, begins-codes, codes-back, codes-count}

pub record Lawful {A : Type 0} (c : Codec A) : Type 0 where
  -- what is laid is read back, whatever stands above its bits and behind its codes
  pub back :
      (a : A) (rest : ℕ) (more : List ℕ) → c.whole a ≡ true → fitting (c.fields a) ≡ true
      → c.read (laid (c.fields a) rest) (c.strings a ++ more) ≡ a
  -- what is read fits, and laid again it is what stood there, bits and codes
  pub entire : (n : ℕ) (cs : List ℕ) → c.whole (c.read n cs) ≡ true
  pub fits : (n : ℕ) (cs : List ℕ) → fitting (c.fields (c.read n cs)) ≡ true
  pub again : (n : ℕ) (cs : List ℕ) → n ≡ laid (c.fields (c.read n cs)) (past c n cs)
  pub begins : (n : ℕ) (cs : List ℕ) → Begins cs (c.strings (c.read n cs))

-- ---- numbers and strings

pub number-lawful : (w : ℕ) → Lawful (number w)
unfolding fitting width laid
number-lawful w =
    record {
      back = λ v rest more e h. field-first w _ ∙ laid-first (w, v) [] rest ∙ mod-eq_of_lt (ltb-true v (2 ^ w) (both_true (ltb v (2 ^ w)) true h).0);
      entire = λ n cs. refl;
      fits = λ n cs. rw (lt-ltb (field 0 w n) (2 ^ w) (field_lt 0 w n));
      again = λ n cs. sym (div-one n) ∙ lay 0 w n [] (n / 2 ^ (w + 0)) (ap (λ (x : ℕ). n / 2 ^ x) (omega arith));
      begins = λ n cs. begins-none cs;
    }

-- no bits
none_again : (n : ℕ) → n ≡ laid [] (n / 2 ^ width [])
unfolding laid width
none_again n = sym (div-one n)

pub filling-lawful : (is : Bool) (w : ℕ) → Lawful (filling is w)
filling-lawful true w =
    let p = number-lawful w in
    record { back = p.back; entire = p.entire; fits = p.fits; again = p.again; begins = p.begins }
filling-lawful false w =
    record {
      back = λ v rest more e h. sym (eqb-true v 0 e);
      entire = λ n cs. refl;
      fits = λ n cs. unfold fitting in refl;
      again = λ n cs. none_again n;
      begins = λ n cs. begins-none cs;
    }

numbers_again : (w k n : ℕ) (cs : List ℕ) → n ≡ laid (alike w (parts w k n)) (past (numbers w k) n cs)
unfolding laid
numbers_again w k n cs =
    let wide : width (alike w (parts w k n)) ≡ k * w = width-row w (parts w k n) ∙ ap (λ (x : ℕ). x * w) (length-parts w k n) in
    let up : n / 2 ^ (k * w) ≡ past (numbers w k) n cs = rw wide in
    lay-parts w k n [] (past (numbers w k) n cs) up ∙ (rw append-nil)

pub numbers-lawful : (w k : ℕ) → Lawful (numbers w k)
numbers-lawful w k =
    record {
      back = λ l rest more e h. ap (λ (j : ℕ). parts w j (laid (alike w l) rest)) (sym (eqb-true (length l) k e)) ∙ parts-laid w l rest h;
      entire = λ n cs. eq-eqb (length (parts w k n)) k (length-parts w k n);
      fits = λ n cs. fitting-parts w k n;
      again = numbers_again w k;
      begins = λ n cs. begins-none cs;
    }

pub codes-lawful : (k : ℕ) → Lawful (codes k)
codes-lawful k =
    record {
      back = λ l rest more e h. ap (λ (j : ℕ). codes_in j (l ++ more)) (sym (eqb-true (length l) k e)) ∙ codes-back l more;
      entire = λ n cs. eq-eqb (length (codes_in k cs)) k (codes-count k cs);
      fits = λ n cs. unfold fitting in refl;
      again = λ n cs. none_again n;
      begins = λ n cs. begins-codes k cs;
    }

-- ---- one thing behind another

-- fields, then others: what is above all of them is what is above the others, above the first
past-both : (n : ℕ) (fs gs : List Field) → n / 2 ^ width fs / 2 ^ width gs ≡ n / 2 ^ width (fs ++ gs)
past-both n fs gs = shr-shr n (width fs) (width gs) ∙ ap (λ (x : ℕ). n / 2 ^ x) (sym (width-append fs gs))

-- laid again in two parts
both_again :
    (n : ℕ) (fs gs : List Field) → n ≡ laid fs (n / 2 ^ width fs) → n / 2 ^ width fs ≡ laid gs (n / 2 ^ width fs / 2 ^ width gs)
    → n ≡ laid (fs ++ gs) (n / 2 ^ width (fs ++ gs))
both_again n fs gs p q =
    p ∙ ap (laid fs) q ∙ sym (laid-append fs gs (n / 2 ^ width fs / 2 ^ width gs)) ∙ ap (laid (fs ++ gs)) (past-both n fs gs)

-- the first of two is read out of what is laid for both, and the second stands above and behind it
module _ {A : Type 0} {c : Codec A} (p : Lawful c) (a : A) (gs : List Field) (ss : List ℕ) (rest : ℕ) (more : List ℕ) (e : c.whole a ≡ true)
    (h : fitting (c.fields a ++ gs) ≡ true) where
  parted : (fitting (c.fields a) ≡ true) × (fitting gs ≡ true)
  parted = both_true (fitting (c.fields a)) (fitting gs) (sym (fitting-append (c.fields a) gs) ∙ h)

  -- what is laid for both: bits and codes
  abbrev bits : ℕ
  bits = laid (c.fields a ++ gs) rest

  abbrev said : List ℕ
  said = (c.strings a ++ ss) ++ more

  first_back : c.read bits said ≡ a
  first_back =
      ap₂ c.read (laid-append (c.fields a) gs rest) (append_assoc (c.strings a) ss more) ∙ p.back a (laid gs rest) (ss ++ more) e parted.0

  above-first : past c bits said ≡ laid gs rest
  above-first = ap (λ (x : A). bits / 2 ^ width (c.fields x)) first_back ∙ laid-drop (c.fields a) gs rest

  behind-first : left c bits said ≡ ss ++ more
  behind-first =
      ap₂ (λ (x : A) (l : List ℕ). drop (length (c.strings x)) l) first_back (append_assoc (c.strings a) ss more) ∙ drop-append_seam (c.strings a) (ss ++ more)

module _ {A B : Type 0} {c : Codec A} {d : A → Codec B} (p : Lawful c) (q : (a : A) → Lawful (d a)) where
  pub then-lawful : Lawful (then c d)
  then-lawful =
      record {
        back = two_back;
        entire = λ n cs. both-holds (c.whole (c.read n cs)) _ (p.entire n cs) ((q (c.read n cs)).entire (past c n cs) (left c n cs));
        fits = λ n cs.
            fitting-append (c.fields (c.read n cs)) _
            ∙ both-holds (fitting (c.fields (c.read n cs))) _ (p.fits n cs) ((q (c.read n cs)).fits (past c n cs) (left c n cs));
        again = λ n cs. both_again n (c.fields (c.read n cs)) _ (p.again n cs) ((q (c.read n cs)).again (past c n cs) (left c n cs));
        begins = λ n cs. begins-append cs (c.strings (c.read n cs)) _ (p.begins n cs) ((q (c.read n cs)).begins (past c n cs) (left c n cs));
      }
    where
      two_back :
          (x : A × B) (rest : ℕ) (more : List ℕ) → (then c d).whole x ≡ true → fitting ((then c d).fields x) ≡ true
          → (then c d).read (laid ((then c d).fields x) rest) ((then c d).strings x ++ more) ≡ x
      two_back x rest more e h =
          let gs : List Field = (d x.0).fields x.1 in
          let ss : List ℕ = (d x.0).strings x.1 in
          let m = laid (c.fields x.0 ++ gs) rest in
          let cs : List ℕ = (c.strings x.0 ++ ss) ++ more in
          let w = both_true (c.whole x.0) ((d x.0).whole x.1) e in
          let first : c.read m cs ≡ x.0 = first_back p x.0 gs ss rest more w.0 h in
          let second : (d x.0).read (past c m cs) (left c m cs) ≡ x.1 =
          ap₂ (d x.0).read (above-first p x.0 gs ss rest more w.0 h) (behind-first p x.0 gs ss rest more w.0 h)
          ∙ (q x.0).back x.1 rest more w.1 (parted p x.0 gs ss rest more w.0 h).1 in
          ap (λ (r : A). (r, (d r).read (past c m cs) (left c m cs))) first ∙ ap (λ (y : B). (x.0, y)) second

-- ---- numbers of given widths

values-back :
    (ws vs : List ℕ) (rest : ℕ) → length vs ≡ length ws → fitting (rowed ws vs) ≡ true → values_in ws (laid (rowed ws vs) rest) ≡ vs
unfolding values_in rowed fitting
values-back [] [] rest e h = refl
values-back [] (v ∷ vs) rest e h = absurd (omega arith)
values-back (w ∷ ws) [] rest e h = absurd (omega arith)
values-back (w ∷ ws) (v ∷ vs) rest e h =
    let p = both_true (ltb v (2 ^ w)) (fitting (rowed ws vs)) h in
    let fs : List Field = rowed ws vs in
    ap₂ (λ (x : ℕ) (xs : List ℕ). x ∷ xs)
    (field-first w _ ∙ laid-first (w, v) fs rest ∙ mod-eq_of_lt (ltb-true v (2 ^ w) p.0))
    (ap (values_in ws) (laid_next (w, v) fs rest) ∙ values-back ws vs rest (omega arith) p.1)

pub values-count : (ws : List ℕ) (n : ℕ) → length (values_in ws n) ≡ length ws
unfolding values_in
values-count [] n = refl
values-count (w ∷ ws) n = ap suc (values-count ws (n / 2 ^ w))

values-fit : (ws : List ℕ) (n : ℕ) → fitting (rowed ws (values_in ws n)) ≡ true
unfolding values_in rowed fitting
values-fit [] n = refl
values-fit (w ∷ ws) n = rw (lt-ltb (field 0 w n) (2 ^ w) (field_lt 0 w n)) (values-fit ws (n / 2 ^ w))

values_again : (ws : List ℕ) (n : ℕ) → n ≡ laid (rowed ws (values_in ws n)) (n / 2 ^ width (rowed ws (values_in ws n)))
unfolding values_in rowed
values_again [] n = none_again n
values_again (w ∷ ws) n =
    let fs : List Field = (w, field 0 w n) ∷ [] in
    let gs : List Field = rowed ws (values_in ws (n / 2 ^ w)) in
    let wide : width fs ≡ w = unfold width in add-zero w in
    both_again n fs gs ((number-lawful w).again n []) (rw wide (values_again ws (n / 2 ^ w)))

-- the value i stands behind the bits of those before it
pub value_at_lem : (ws : List ℕ) (n i : ℕ) → i < length ws → get_or (values_in ws n) i 0 ≡ field (width (rowed (take i ws) [])) (get_or ws i 0) n
unfolding values_in rowed width
value_at_lem [] n i h = absurd (omega arith)
value_at_lem (w ∷ ws) n zero h = refl
value_at_lem (w ∷ ws) n (suc i) h =
    value_at_lem ws (n / 2 ^ w) i (omega arith) ∙ field_past (width (rowed (take i ws) [])) (get_or ws i 0) w n

-- the widths alone say how many bits they take
pub values-width : (ws us vs : List ℕ) → width (rowed ws us) ≡ width (rowed ws vs)
unfolding rowed width
values-width [] us vs = refl
values-width (w ∷ ws) us vs = ap (λ (x : ℕ). w + x) (values-width ws (drop 1 us) (drop 1 vs))

pub values-lawful : (ws : List ℕ) → Lawful (values ws)
values-lawful ws =
    record {
      back = λ l rest more e h. values-back ws l rest (eqb-true (length l) (length ws) e) h;
      entire = λ n cs. eq-eqb (length (values_in ws n)) (length ws) (values-count ws n);
      fits = λ n cs. values-fit ws n;
      again = λ n cs. values_again ws n;
      begins = λ n cs. begins-none cs;
    }

-- ---- a row

pub row-length : {A : Type 0} (c : Codec A) (k n : ℕ) (cs : List ℕ) → length (row_read c k n cs) ≡ k
row-length c zero n cs = refl
row-length c (suc k) n cs = ap suc (row-length c k (past c n cs) (left c n cs))

module _ {A : Type 0} {c : Codec A} (p : Lawful c) where
  row_back :
      (l : List A) (rest : ℕ) (more : List ℕ) → row_whole c l ≡ true → fitting (each c.fields l) ≡ true
      → row_read c (length l) (laid (each c.fields l) rest) (each c.strings l ++ more) ≡ l
  row_back [] rest more e h = refl
  row_back (a ∷ l) rest more e h =
      let gs : List Field = each c.fields l in
      let ss : List ℕ = each c.strings l in
      let w = both_true (c.whole a) (row_whole c l) e in
      ap₂ (λ (x : A) (xs : List A). x ∷ xs) (first_back p a gs ss rest more w.0 h)
      (ap₂ (row_read c (length l)) (above-first p a gs ss rest more w.0 h) (behind-first p a gs ss rest more w.0 h)
      ∙ row_back l rest more w.1 (parted p a gs ss rest more w.0 h).1)

  row-entire : (k n : ℕ) (cs : List ℕ) → row_whole c (row_read c k n cs) ≡ true
  row-entire zero n cs = refl
  row-entire (suc k) n cs = both-holds (c.whole (c.read n cs)) _ (p.entire n cs) (row-entire k (past c n cs) (left c n cs))

  row_fits : (k n : ℕ) (cs : List ℕ) → fitting (each c.fields (row_read c k n cs)) ≡ true
  row_fits zero n cs = unfold fitting in refl
  row_fits (suc k) n cs =
      fitting-append (c.fields (c.read n cs)) _
      ∙ both-holds (fitting (c.fields (c.read n cs))) _ (p.fits n cs) (row_fits k (past c n cs) (left c n cs))

  row-again : (k n : ℕ) (cs : List ℕ) → n ≡ laid (each c.fields (row_read c k n cs)) (past (row c k) n cs)
  row-again zero n cs = none_again n
  row-again (suc k) n cs = both_again n (c.fields (c.read n cs)) _ (p.again n cs) (row-again k (past c n cs) (left c n cs))

  row-begins : (k n : ℕ) (cs : List ℕ) → Begins cs (each c.strings (row_read c k n cs))
  row-begins zero n cs = begins-none cs
  row-begins (suc k) n cs = begins-append cs (c.strings (c.read n cs)) _ (p.begins n cs) (row-begins k (past c n cs) (left c n cs))

  pub row_lawful : (k : ℕ) → Lawful (row c k)
  row_lawful k =
      record {
        back = λ l rest more e h.
            let w = both_true (eqb (length l) k) (row_whole c l) e in
            ap (λ (j : ℕ). row_read c j (laid (each c.fields l) rest) (each c.strings l ++ more)) (sym (eqb-true (length l) k w.0))
            ∙ row_back l rest more w.1 h;
        entire = λ n cs.
            both-holds (eqb (length (row_read c k n cs)) k) _ (eq-eqb (length (row_read c k n cs)) k (row-length c k n cs)) (row-entire k n cs);
        fits = row_fits k;
        again = row-again k;
        begins = row-begins k;
      }

-- ---- a value that another stands for

module _
    {A B : Type 0} {c : Codec A} (to : B → A) (from : A → B) (p : Lawful c) (there : (b : B) → from (to b) ≡ b)
    (here : (a : A) → c.whole a ≡ true → to (from a) ≡ a)
  where
    same : (n : ℕ) (cs : List ℕ) → c.read n cs ≡ to (from (c.read n cs))
    same n cs = sym (here (c.read n cs) (p.entire n cs))

    pub seen-lawful : Lawful (seen to from c)
    seen-lawful =
        record {
          back = λ b rest more e h. ap from (p.back (to b) rest more e h) ∙ there b;
          entire = λ n cs. ap c.whole (sym (same n cs)) ∙ p.entire n cs;
          fits = λ n cs. ap (λ (a : A). fitting (c.fields a)) (sym (same n cs)) ∙ p.fits n cs;
          again = λ n cs. p.again n cs ∙ ap (λ (a : A). laid (c.fields a) (n / 2 ^ width (c.fields a))) (same n cs);
          begins = λ n cs. subst (λ (a : A). Begins cs (c.strings a)) (same n cs) (p.begins n cs);
        }

pub counted-lawful : {A : Type 0} {c : Codec A} (w : ℕ) → Lawful c → Lawful (counted w c)
counted-lawful {A} {c} w p =
    seen-lawful (λ l. (length l, l)) (λ x. x.1) (then-lawful (number-lawful w) (row_lawful p)) (λ l. refl)
    (λ x e. ap (λ (k : ℕ). (k, x.1)) (eqb-true (length x.1) x.0 (both_true (eqb (length x.1) x.0) (row_whole c x.1) e).0))

-- ---- counts that are always those of what they count

module _ {A : Type 0} (c : Codec A) (always : (a : A) → c.whole a ≡ true) where
  pub row-whole : (l : List A) → row_whole c l ≡ true
  row-whole [] = refl
  row-whole (a ∷ l) = both-holds (c.whole a) (row_whole c l) (always a) (row-whole l)

  pub counted-whole : (w : ℕ) (l : List A) → (counted w c).whole l ≡ true
  counted-whole w l = both-holds (eqb (length l) (length l)) (row_whole c l) (eq-eqb (length l) (length l) refl) (row-whole l)
