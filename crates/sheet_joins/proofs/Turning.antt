-- One entry taken of two sheets in form that are joined: the smaller key's or the greater entry, as the walk along both says. Assumes nothing.
use mathlib.Core.Path.{◌≡◌, ◌∙◌, refl, sym, ap, ap₂}
use mathlib.Core.Bool.{Bool, true, false}
use mathlib.Core.List.{List, [], ◌++◌}
use Prim.Native.Nat.{ℕ, suc, ◌+◌, ◌-◌, ◌≤◌, ◌<◌}
use native.Mathlib.Omega.{arith}
use lib.Dec.{ltb, leb}
use native.Mathlib.Nat.{zero-add}
use lib.ListN.{length, take, drop, length-append, length-drop, length-take}
use lib.Seq.{sets, take-append_seam, drop-drop, length-take-le}
use borrow.Author.Tests.{lt-ltb, le-ltb, le-leb, lt-leb, ltb-true, ltb-false}
use Rattle.laws.specs.Pick.{pick}
use Rattle.laws.proofs.Lists.{sets-append}
use Rattle.sheet_entry.specs.declared.Found.{Found}
use Rattle.sheet_joins.specs.declared.Turn.{Turn}
use Rattle.sheet_entry.specs.Entries.{Entry, entry_text}
use Rattle.day_sheet.specs.Entries.{sheet_text}
use Rattle.sheet_entry.specs.Reading.{entry_at, found_of}
use Rattle.sheet_joins.specs.Along.{Stands}
use Rattle.std.specs.declared.option.Option.{Option}
use Rattle.std.specs.declared.option.Option.TheVariants.{None, Some}
use Rattle.std.specs.declared.result.Result.{Result}
use Rattle.std.specs.declared.result.Result.TheVariants.{Ok, Err}
use Rattle.sheet_entry.specs.declared.NoEntry.{NoEntry}
use Rattle.day_sheet.specs.Reading.{InForm}
use Rattle.sheet_joins.specs.declared.Turn.TheVariants.{First, Second, Both}
use Rattle.sheet_entry.specs.declared.NoEntry.TheVariants.{End}
use Rattle.sheet_joins.specs.declared.Next.{Next}
use Rattle.sheet_joins.specs.Turns.{next, next_by, next_of, turn_by, turn_of, first_long, second_long}
use Rattle.sheet_joins.specs.Joining.{at_most, staying, joined}
use Rattle.sheet_joins.specs.Calls.{join_result}
use Rattle.day_sheet.specs.Internal.{Halfway}
use Rattle.sheet_joins.specs.Internal.{Lies, Met, found_lines, lines_stay, second_stays, turn_text}
use Rattle.day_sheet.proofs.Fronts.{found}
use Rattle.sheet_joins.proofs.Meeting.{lines-found, Front, front-first, front-second, front-both, Spans, Turned, turned, turned-end}
use Rattle.sheet_entry.specs.declared.Form.{Form}

-- the second's entry stays exactly where the first's is at most it
stays_is : (s t : ℕ) (b : Bool) → pick (ltb s t) true (pick (ltb t s) false b) ≡ pick (leb s t) (pick (leb t s) b true) false
stays_is s t b = go (ltb s t) refl (ltb t s) refl
  where
    go :
        (p : Bool) → ltb s t ≡ p → (q : Bool) → ltb t s ≡ q → pick p true (pick q false b) ≡ pick (leb s t) (pick (leb t s) b true) false
    go true p q₀ q =
        let h = ltb-true s t p in rw (le-leb s t (omega arith), lt-leb t s h)
    go false p true q = let h = ltb-true t s q in rw (lt-leb s t h)
    go false p false q =
        rw (le-leb s t (omega (arith, ltb-false t s q)), le-leb t s (omega (arith, ltb-false s t p)))

module _ (form : Form) where
  stays-text :
      (x y : Entry) (rest more : List ℕ) → second_stays (entry_text form x ++ rest) (found form x) (entry_text form y ++ more) (found form y) ≡ at_most x y
  unfolding second_stays lines_stay
  stays-text x y rest more =
      rw (lines-found form x rest, lines-found form y more) (stays_is x.stamp y.stamp _)

  -- ---- what is put

  -- what a turn puts is the entry that stays
  turn-stays : {a b : List ℕ} {t : Turn} {s : Stands} → Front form a b t s → turn_text t a b ≡ entry_text form (staying s)
  unfolding turn_text
  turn-stays (front-first x rest v e) = rw e (take-append_seam (entry_text form x) rest)
  turn-stays (front-second y more w e) = rw e (take-append_seam (entry_text form y) more)
  turn-stays (front-both x y rest more v w k e d) = rw (e, d, stays-text x y rest more) (chosen (at_most x y))
    where
      chosen :
          (t : Bool)
          → pick t (take (length (entry_text form y)) (entry_text form y ++ more)) (take (length (entry_text form x)) (entry_text form x ++ rest))
          ≡ entry_text form (pick t y x)
      chosen true = take-append_seam (entry_text form y) more
      chosen false = take-append_seam (entry_text form x) rest

  module _ {a b : List ℕ} {t : Turn} (u : Turned form a b t) where
    text-on : sheet_text form (join_result form a b) ≡ turn_text t a b ++ sheet_text form (join_result form (drop (first_long t) a) (drop (second_long t) b))
    unfolding join_result joined sheet_text
    text-on = rw (u.on, turn-stays u.front)

    count-on : length (join_result form a b) ≡ suc (length (join_result form (drop (first_long t) a) (drop (second_long t) b)))
    unfolding join_result joined
    count-on = rw u.on

  -- where neither has an entry nothing is left
  turned-out : (a b : List ℕ) → InForm form a → InForm form b → None ≡ turn_of form a b → join_result form a b ≡ []
  unfolding join_result joined
  turned-out a b f g e = rw (turned-end form a b f g e)

-- ---- as the code goes

-- what has the next key
module _ (form : Form) (a b : List ℕ) where
  module _ {f : Found} (p : Ok f ≡ found_of form (entry_at form 0 a)) where
    pub next-alone : {w : NoEntry} → Err w ≡ found_of form (entry_at form 0 b) → next (Ok f) (Err w) ≡ next_of form a b
    unfolding next_of next_by
    next-alone q = rw (sym p, sym q)

    module _ {g : Found} (q : Ok g ≡ found_of form (entry_at form 0 b)) where
      pub next-less : f.key < g.key → next (Ok f) (Err End) ≡ next_of form a b
      unfolding next_of next_by
      next-less k = rw (sym p, sym q, lt-ltb f.key g.key k)

      pub next-more : g.key < f.key → next (Err End) (Ok g) ≡ next_of form a b
      unfolding next_of next_by
      next-more k = rw (sym p, sym q, le-ltb f.key g.key (omega arith), lt-ltb g.key f.key k)

      pub next-same : f.key ≡ g.key → next (Ok f) (Ok g) ≡ next_of form a b
      unfolding next_of next_by
      next-same k = rw (sym p, sym q, le-ltb f.key g.key (omega arith), le-ltb g.key f.key (omega arith))

  pub next-other : {w : NoEntry} {y : Result Found NoEntry} → Err w ≡ found_of form (entry_at form 0 a) → y ≡ found_of form (entry_at form 0 b) → next (Err w) y ≡ next_of form a b
  unfolding next_of next_by
  next-other p q = rw (sym p, sym q)

-- the turn that it is
abbrev pub turn_from : Result Found NoEntry → Result Found NoEntry → Option Turn
turn_from (Ok f) (Ok g) = Some (Both f g)
turn_from (Ok f) (Err w) = Some (First f)
turn_from (Err w) (Ok g) = Some (Second g)
turn_from (Err w) (Err x) = None

from_next : (x y : Result Found NoEntry) → turn_from (next_by x y).first (next_by x y).second ≡ turn_by x y
unfolding next_by turn_by
from_next (Ok f) (Ok g) = go (ltb f.key g.key) (ltb g.key f.key)
  where
    go :
        (s t : Bool)
        → (let n = pick s (next (Ok f) (Err End)) (pick t (next (Err End) (Ok g)) (next (Ok f) (Ok g))) in turn_from n.first n.second)
        ≡ Some (pick s (First f) (pick t (Second g) (Both f g)))
    go true t = refl
    go false true = refl
    go false false = refl
from_next (Ok f) (Err w) = refl
from_next (Err w) (Ok g) = refl
from_next (Err w) (Err x) = refl

pub turn-next :
    (form : Form) (a b : List ℕ) {n : Next} {x y : Result Found NoEntry} → n ≡ next_of form a b → n.first ≡ x → n.second ≡ y → turn_from x y ≡ turn_of form a b
unfolding next_of turn_of
turn-next form a b e p q =
    ap₂ turn_from (sym p) (sym q)
    ∙ ap (λ (m : Next). turn_from m.first m.second) e
    ∙ from_next (found_of form (entry_at form 0 a)) (found_of form (entry_at form 0 b))

module _ (a : List ℕ) (f : Found) (b : List ℕ) (g : Found) where
  pub stays-less : f.stamp < g.stamp → true ≡ second_stays a f b g
  unfolding second_stays
  stays-less h = rw (lt-ltb f.stamp g.stamp h)

  pub stays-more : g.stamp < f.stamp → false ≡ second_stays a f b g
  unfolding second_stays
  stays-more h = rw (le-ltb f.stamp g.stamp (omega arith), lt-ltb g.stamp f.stamp h)

  pub stays_same : f.stamp ≡ g.stamp → lines_stay (found_lines a f) f.mended (found_lines b g) g.mended ≡ second_stays a f b g
  unfolding second_stays
  stays_same h = rw (le-ltb f.stamp g.stamp (omega arith), le-ltb g.stamp f.stamp (omega arith))

-- the lines as a part of the lent sheet
pub lines_part :
    (sheet : List ℕ) (at : ℕ) (f : Found) → Lies sheet at f
    → take (at + (f.long - 1) - (at + f.head)) (drop (at + f.head) sheet) ≡ found_lines (drop at sheet) f
unfolding found_lines
lines_part sheet at f l =
    let h = l.head_first in
    let e : at + (f.long - 1) - (at + f.head) ≡ f.long - 1 - f.head = omega arith in
    rw (e, drop-drop f.head at sheet)

-- the text of a turn of both
module _ (f g : Found) (a b : List ℕ) where
  pub later_text : second_stays a f b g ≡ true → take g.long b ≡ turn_text (Both f g) a b
  unfolding turn_text
  later_text h = rw h

  pub first-text : second_stays a f b g ≡ false → take f.long a ≡ turn_text (Both f g) a b
  unfolding turn_text
  first-text h = rw h

pub part_length : (n i : ℕ) (l : List ℕ) → i + n ≤ length l → length (take n (drop i l)) ≡ n
part_length n i l h = length-take-le n (drop i l) (rw (length-drop i l) (omega arith))

turn-length : (t : Turn) (a b : List ℕ) → length (turn_text t a b) ≤ first_long t + second_long t
unfolding turn_text
turn-length (First f) a b = let e = length-take f.long a in omega arith
turn-length (Second g) a b = let e = length-take g.long b in omega arith
turn-length (Both f g) a b = go (second_stays a f b g)
  where
    go : (l : Bool) → length (pick l (take g.long b) (take f.long a)) ≤ f.long + g.long
    go true = let e = length-take g.long b in omega arith
    go false = let e = length-take f.long a in omega arith

-- each entry of a turn lies within its sheet
pub met_of :
    (first : List ℕ) (i : ℕ) (second : List ℕ) (j : ℕ) (t : Turn) → Spans t → i + first_long t ≤ length first → j + second_long t ≤ length second
    → length first ≤ 65000 → length second ≤ 65000 → Met first i second j t
met_of first i second j (First f) s x y m n = record { head_first = s; inside = x; small = m }
met_of first i second j (Second g) s x y m n = record { head_first = s; inside = y; small = n }
met_of first i second j (Both f g) s x y m n = (record { head_first = s.0; inside = x; small = m }, record { head_first = s.1; inside = y; small = n })

-- ---- along both sheets

module _ (form : Form) where
  -- what holds before each turn: what is left of both gives what is still to be put
  pub record Along (first second out₀ out : List ℕ) (i j n q : ℕ) : Type 0 where
    pub in_first : Halfway form first i
    pub in_second : Halfway form second j
    pub to_put :
        sets out q (sheet_text form (join_result form (drop i first) (drop j second))) ≡ sets out₀ 0 (sheet_text form (join_result form first second))
    pub to_go : q + length (sheet_text form (join_result form (drop i first) (drop j second))) ≡ length (sheet_text form (join_result form first second))
    pub to_count : n + length (join_result form (drop i first) (drop j second)) ≡ length (join_result form first second)
    pub place_small : q ≤ i + j
    pub count_small : n ≤ i + j

  pub along-start : (first second out : List ℕ) → Halfway form first 0 → Halfway form second 0 → Along first second out out 0 0 0 0
  along-start first second out f g =
      record {
        in_first = f;
        in_second = g;
        to_put = refl;
        to_go = zero-add (length (sheet_text form (join_result form first second)));
        to_count = zero-add (length (join_result form first second));
        place_small = omega arith;
        count_small = omega arith;
      }

  module _ {first second out₀ out : List ℕ} {i j n q : ℕ} (v : Along first second out₀ out i j n q) where
    along-turn : {t : Turn} → Some t ≡ turn_of form (drop i first) (drop j second) → Turned form (drop i first) (drop j second) t
    along-turn e = turned form (drop i first) (drop j second) v.in_first.fine v.in_second.fine e

    pub along-on :
        {t : Turn} {out' : List ℕ} {q' : ℕ} → Some t ≡ turn_of form (drop i first) (drop j second)
        → out' ≡ sets out q (turn_text t (drop i first) (drop j second)) → q' ≡ q + length (turn_text t (drop i first) (drop j second))
        → Along first second out₀ out' (i + first_long t) (j + second_long t) (n + 1) q'
    along-on {t} {out'} {q'} s e k =
        let u = along-turn s in
        let a = drop i first in
        let b = drop j second in
        let f = drop-drop (first_long t) i first in
        let g = drop-drop (second_long t) j second in
        let r : join_result form (drop (i + first_long t) first) (drop (j + second_long t) second) ≡ join_result form (drop (first_long t) a) (drop (second_long t) b) = rw (f, g) in
        let x = u.first_in in
        let y = u.second_in in
        let z = u.goes_on in
        let c = count-on form u in
        let l = length-drop i first in
        let m = length-drop j second in
        let o = turn-length t a b in
        let w = length-append (turn_text t a b) (sheet_text form (join_result form (drop (first_long t) a) (drop (second_long t) b))) in
        let d : length (sheet_text form (join_result form a b)) ≡ length (turn_text t a b) + length (sheet_text form (join_result form (drop (first_long t) a) (drop (second_long t) b))) = ap length (text-on form u) ∙ w in
        record {
          in_first = record { within = record { inside = let h = v.in_first.within.inside in omega arith; short = v.in_first.within.short }; fine = rw (sym f) u.first_fine };
          in_second = record { within = record { inside = let h = v.in_second.within.inside in omega arith; short = v.in_second.within.short }; fine = rw (sym g) u.second_fine };
          to_put =
              rw (r, e, k)
              (sym (sets-append out q (turn_text t a b) (sheet_text form (join_result form (drop (first_long t) a) (drop (second_long t) b))))
              ∙ ap (sets out q) (sym (text-on form u))
              ∙ v.to_put);
          to_go = rw r (let h = v.to_go in omega arith);
          to_count = rw r (let h = v.to_count in omega arith);
          place_small = let h = v.place_small in omega arith;
          count_small = let h = v.count_small in omega arith;
        }

    pub along-end :
        None ≡ turn_of form (drop i first) (drop j second)
        → (out ≡ sets out₀ 0 (sheet_text form (join_result form first second))) × (n ≡ length (join_result form first second))
        × (q ≡ length (sheet_text form (join_result form first second)))
    unfolding sheet_text
    along-end h =
        let r = turned-out form (drop i first) (drop j second) v.in_first.fine v.in_second.fine h in
        let a : sets out q (sheet_text form []) ≡ sets out₀ 0 (sheet_text form (join_result form first second)) = rw r at v.to_put in
        let b : n + 0 ≡ length (join_result form first second) = rw r at v.to_count in
        let c : q + 0 ≡ length (sheet_text form (join_result form first second)) = rw r at v.to_go in
        (a, omega arith, omega arith)

    -- a turn goes on within the sheets, no place is far on, and what was met lies within them
    pub along-fits :
        {t : Turn} → Some t ≡ turn_of form (drop i first) (drop j second)
        → Met first i second j t × (q + first_long t + second_long t ≤ 200000) × (i + first_long t ≤ length first) × (j + second_long t ≤ length second)
        × (0 < first_long t + second_long t)
    along-fits {t} s =
        let u = along-turn s in
        let x = u.first_in in
        let y = u.second_in in
        let l = length-drop i first in
        let m = length-drop j second in
        let f = v.in_first.within in
        let g = v.in_second.within in
        let k = v.place_small in
        let a : i + first_long t ≤ length first = omega arith in
        let b : j + second_long t ≤ length second = omega arith in
        (met_of first i second j t u.span a b f.short g.short, omega arith, a, b, u.goes_on)
