-- The bytes of one packet, stored symbol by symbol: what is stored, with what is still to be stored, is the whole, and so is the
-- place of the first start. Assumes nothing.
use mathlib.Core.Path.{◌≡◌, ◌∙◌, refl, sym, ap}
use mathlib.Core.Bool.{Bool, true, false}
use mathlib.Core.List.{List, [], ◌∷◌, map}
use Prim.Native.Nat.{ℕ, zero, suc, ◌+◌, ◌-◌, ◌<◌, ◌≤◌, min}
use native.Mathlib.Nat.{add-zero, sub-zero, le_refl}
use native.Mathlib.Omega.{arith}
use lib.ListN.{length, get_or, drop, set, length-set}
use lib.Seq.{sets, drop-drop}
use Rattle.symbols.specs.declared.Pen.{Pen}
use Rattle.symbols.specs.declared.Sent.{Sent}
use Rattle.symbols.specs.Stream.{Symbol, start, fill, bits, raw, byte_of, grab, before_start}
use Rattle.symbols.specs.Cells.{first_of}
use Rattle.symbols.specs.Internal.{is_start, rest_of, Within, Goes, Sends}

pub length-grab : (n : ℕ) (ss : List Symbol) → length (grab n ss) ≡ n
unfolding grab
length-grab zero ss = refl
length-grab (suc n) [] = ap suc (length-grab n [])
length-grab (suc n) (s ∷ ss) = ap suc (length-grab n ss)

-- the next symbol, and those after it
pub grab_suc : (n : ℕ) (ss : List Symbol) → grab (suc n) ss ≡ get_or ss 0 fill ∷ grab n (drop 1 ss)
unfolding grab
grab_suc n [] = refl
grab_suc n (s ∷ ss) = refl

pub before_le : (ss : List Symbol) → before_start ss ≤ length ss
unfolding before_start
before_le [] = le_refl 0
before_le (start ∷ ss) = omega arith
before_le (fill ∷ ss) = omega (arith, before_le ss)
before_le (bits n ∷ ss) = omega (arith, before_le ss)
before_le (raw b ∷ ss) = omega (arith, before_le ss)

-- the first start, with one more symbol passed
first_step :
    (s : Symbol) (ss : List Symbol) (before i : ℕ)
    → min (first_of before (is_start s) i) (i + 1 + before_start ss) ≡ min before (i + before_start (s ∷ ss))
unfolding before_start
first_step start ss before i = omega arith
first_step fill ss before i = omega arith
first_step (bits n) ss before i = omega arith
first_step (raw b) ss before i = omega arith

first_small : (t : Bool) (before i n : ℕ) → before ≤ n → first_of before t i ≤ n
first_small true before i n h = omega arith
first_small false before i n h = h

-- i of n symbols are stored at q
pub record Stored (l : List ℕ) (pen : Pen) (entry : List ℕ) (q n : ℕ) (out : List ℕ) (at : Pen) (before i : ℕ) : Type 0 where
  pub passed : i ≤ n
  pub same : length out ≡ length entry
  pub goes : Goes l pen i at
  pub bytes : sets out (q + i) (map byte_of (grab (n - i) (rest_of l at))) ≡ sets entry q (map byte_of (grab n (rest_of l pen)))
  pub found : min before (i + before_start (grab (n - i) (rest_of l at))) ≡ before_start (grab n (rest_of l pen))
  pub small : before ≤ n

pub stored-none : (l : List ℕ) (pen : Pen) (entry : List ℕ) (q n : ℕ) → Within l pen → Stored l pen entry q n entry pen n 0
stored-none l pen entry q n w =
    record {
      passed = omega arith;
      same = refl;
      goes = record { rest = refl; stands = w };
      bytes = rw (add-zero, sub-zero);
      found = rw (sub-zero) (omega (arith, before_le (grab n (rest_of l pen)), length-grab n (rest_of l pen)));
      small = le_refl n;
    }

pub stored_more :
    {l : List ℕ} {pen : Pen} {entry : List ℕ} {q n : ℕ} {out : List ℕ} {at : Pen} {before i : ℕ}
    → Stored l pen entry q n out at before i → i < n → (r : Sent) → Sends l at r → (b : ℕ) → b ≡ first_of before r.starts i
    → Stored l pen entry q n (set out (q + i) r.byte) r.pen b (i + 1)
stored_more {l} {pen} {entry} {q} {n} {out} {at} {before} {i} s h r t b e =
    record {
      passed = omega arith;
      same = length-set out (q + i) r.byte ∙ s.same;
      goes = record { rest = t.goes.rest ∙ ap (drop 1) s.goes.rest ∙ drop-drop 1 i (rest_of l pen); stands = t.goes.stands };
      bytes = rw (f, t.its_byte) (ap (λ (ss : List Symbol). sets out (q + i) (map byte_of ss)) (sym ahead) ∙ s.bytes);
      found =
          rw (e, t.its_start)
          (first_step (get_or (rest_of l at) 0 fill) (grab (n - (i + 1)) (rest_of l r.pen)) before i
          ∙ ap (λ (ss : List Symbol). min before (i + before_start ss)) (sym ahead) ∙ s.found);
      small = rw e (first_small r.starts before i n s.small);
    }
  where
    f : q + (i + 1) ≡ suc (q + i)
    f = omega arith

    ahead : grab (n - i) (rest_of l at) ≡ get_or (rest_of l at) 0 fill ∷ grab (n - (i + 1)) (rest_of l r.pen)
    ahead =
        let g : n - i ≡ suc (n - (i + 1)) = omega arith in
        rw (g, t.goes.rest) (grab_suc (n - (i + 1)) (rest_of l at))

pub stored-all :
    {l : List ℕ} {pen : Pen} {entry : List ℕ} {q n : ℕ} {out : List ℕ} {at : Pen} {before i : ℕ}
    → Stored l pen entry q n out at before i → n ≤ i
    → (out ≡ sets entry q (map byte_of (grab n (rest_of l pen)))) × ((before ≡ before_start (grab n (rest_of l pen))) × Goes l pen n at)
unfolding grab before_start
stored-all {l} {pen} {entry} {q} {n} {out} {at} {before} {i} s h =
    let z : n - i ≡ 0 = omega arith in
    let e : i ≡ n = omega arith in
    let b : min before (i + before_start (grab 0 (rest_of l at))) ≡ before_start (grab n (rest_of l pen)) = rw z at s.found in
    (rw z at s.bytes, (omega arith, rw e at s.goes))
