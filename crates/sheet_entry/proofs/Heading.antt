-- The lines of a head are read exactly where they are spelled, whatever lines they are. Assumes nothing.
use mathlib.Core.Path.{◌≡◌, ◌∙◌, refl, sym, ap}
use mathlib.Core.Bool.{Bool, true, false}
use mathlib.Core.List.{List, [], ◌∷◌, ◌++◌, append_assoc}
use Prim.Native.Nat.{ℕ, ◌≤◌}
use native.Mathlib.Omega.{arith}
use borrow.Author.Tests.{le-ltb, ltb-true, ltb-false}
use lib.Dec.{ltb}
use lib.ListN.{length, drop, length-append, length-drop}
use lib.Seq.{drop-append_seam}
use Rattle.laws.specs.Pick.{pick}
use Rattle.listing_reader.specs.Lines.{line_of}
use Rattle.listing_reader.specs.Many.{Many, none as row-none, behind}
use Rattle.listing_reader.proofs.Spells.{Spelled}
use Rattle.listing_reader.proofs.Rowed.{spelled-within, spelled-then}
use Rattle.sheet_entry.specs.Entries.{HeadLine, spelled_by}
use Rattle.sheet_entry.specs.Reading.{lines_at}

-- what a line owes of the values that fit it: what is read is spelled there, and what is spelled reads back
pub record Faithful (l : HeadLine) (fit : ℕ → Bool) : Type 0 where
  pub sound :
      (bytes : List ℕ) → l.least ≤ (l.reads bytes).long
      → (fit (l.reads bytes).value ≡ true) × Spelled (l.text (l.reads bytes).value) (l.reads bytes) bytes
  pub back : (v : ℕ) (rest : List ℕ) → fit v ≡ true → l.reads (l.text v ++ rest) ≡ line_of true v (l.text v)
  pub some : (v : ℕ) → l.least ≤ length (l.text v)
  -- a line at fault takes no bytes
  pub nothing : l.least ≤ 1

pub data Faithfuls : List HeadLine → List (ℕ → Bool) → Type 0 where
  no_lines : Faithfuls [] []
  and-line :
      {l : HeadLine} {ls : List HeadLine} {f : ℕ → Bool} {fs : List (ℕ → Bool)} → Faithful l f → Faithfuls ls fs → Faithfuls (l ∷ ls) (f ∷ fs)

-- values that fit, one for each line
pub data Fit : List (ℕ → Bool) → List ℕ → Type 0 where
  no-values : Fit [] []
  and-value : {f : ℕ → Bool} {fs : List (ℕ → Bool)} {v : ℕ} {vs : List ℕ} → f v ≡ true → Fit fs vs → Fit (f ∷ fs) (v ∷ vs)

-- ---- one line after the other

-- the first of them is in form, and the others follow it
lines_on :
    (r : HeadLine) (rs : List HeadLine) (bytes : List ℕ) → (lines_at (r ∷ rs) bytes).fine ≡ true
    → (r.least ≤ (r.reads bytes).long)
    × (lines_at (r ∷ rs) bytes ≡ behind (r.reads bytes).value (r.reads bytes).long (lines_at rs (drop (r.reads bytes).long bytes)))
    × ((lines_at rs (drop (r.reads bytes).long bytes)).fine ≡ true)
unfolding lines_at
lines_on r rs bytes h = go (ltb (r.reads bytes).long r.least) refl h
  where
    m : Many ℕ
    m = behind (r.reads bytes).value (r.reads bytes).long (lines_at rs (drop (r.reads bytes).long bytes))

    go :
        (z : Bool) → ltb (r.reads bytes).long r.least ≡ z → (pick z (row-none false 0) m).fine ≡ true
        → (r.least ≤ (r.reads bytes).long) × (pick z (row-none false 0) m ≡ m) × ((lines_at rs (drop (r.reads bytes).long bytes)).fine ≡ true)
    go true e f = let z : ◌≡◌ {A = ℕ} 0 1 = cc in absurd (omega arith)
    go false e f = (ltb-false (r.reads bytes).long r.least e, refl, f)

lines_back :
    (r : HeadLine) (rs : List HeadLine) (v : ℕ) (text rest : List ℕ) → r.reads (text ++ rest) ≡ line_of true v text → r.least ≤ length text
    → lines_at (r ∷ rs) (text ++ rest) ≡ behind v (length text) (lines_at rs rest)
unfolding lines_at
lines_back r rs v text rest e h = rw (e, le-ltb (length text) r.least h, drop-append_seam text rest)

pub no_more : (bytes : List ℕ) → lines_at [] bytes ≡ row-none true 0
unfolding lines_at
no_more bytes = refl

-- no line goes over the end of the bytes
pub line-within : {l : HeadLine} {f : ℕ → Bool} → Faithful l f → (bytes : List ℕ) → (l.reads bytes).long ≤ length bytes
line-within {l} k bytes = go (ltb (l.reads bytes).long l.least) refl
  where
    go : (z : Bool) → ltb (l.reads bytes).long l.least ≡ z → (l.reads bytes).long ≤ length bytes
    go true e = omega (arith, ltb-true (l.reads bytes).long l.least e, k.nothing)
    go false e = spelled-within (k.sound bytes (ltb-false (l.reads bytes).long l.least e)).1

pub lines_within : {ls : List HeadLine} {fs : List (ℕ → Bool)} → Faithfuls ls fs → (bytes : List ℕ) → (lines_at ls bytes).long ≤ length bytes
unfolding lines_at
lines_within no_lines bytes = omega arith
lines_within (and-line {l} {ls} k ks) bytes =
    go (ltb (l.reads bytes).long l.least) (line-within k bytes) (lines_within ks (drop (l.reads bytes).long bytes))
  where
    go :
        (z : Bool) → (l.reads bytes).long ≤ length bytes
        → (lines_at ls (drop (l.reads bytes).long bytes)).long ≤ length (drop (l.reads bytes).long bytes)
        → (pick z (row-none false 0) (behind (l.reads bytes).value (l.reads bytes).long (lines_at ls (drop (l.reads bytes).long bytes)))).long
        ≤ length bytes
    go true a b = omega arith
    go false a b = omega (arith, simp length-drop at b)

-- ---- all of them

-- what lines that are all in form tell
pub record Told (ls : List HeadLine) (fs : List (ℕ → Bool)) (bytes : List ℕ) (h : Many ℕ) : Type 0 where
  pub fit : Fit fs h.items
  pub there : bytes ≡ spelled_by ls h.items ++ drop h.long bytes
  pub size : h.long ≡ length (spelled_by ls h.items)

none_told : (bytes : List ℕ) → Told [] [] bytes (lines_at [] bytes)
unfolding lines_at spelled_by
none_told bytes = record { fit = no-values; there = refl; size = refl }

more-told :
    {l : HeadLine} {ls : List HeadLine} {f : ℕ → Bool} {fs : List (ℕ → Bool)} (bytes : List ℕ) (m : Many ℕ) → Faithful l f
    → l.least ≤ (l.reads bytes).long → Told ls fs (drop (l.reads bytes).long bytes) m
    → Told (l ∷ ls) (f ∷ fs) bytes (behind (l.reads bytes).value (l.reads bytes).long m)
unfolding spelled_by
more-told {l} {ls} bytes m k n r =
    let s = k.sound bytes n in
    record {
      fit = and-value s.0 r.fit;
      there =
          spelled-then (l.text (l.reads bytes).value) (spelled_by ls m.items) bytes (l.reads bytes).long m.long s.1.there r.there;
      size = rw length-append (omega (arith, s.1.size, r.size));
    }

pub lines_told :
    {ls : List HeadLine} {fs : List (ℕ → Bool)} → Faithfuls ls fs → (bytes : List ℕ) → (lines_at ls bytes).fine ≡ true
    → Told ls fs bytes (lines_at ls bytes)
lines_told no_lines bytes h = none_told bytes
lines_told (and-line {l} {ls} k ks) bytes h =
    let o = lines_on l ls bytes h in
    rw o.1 (more-told bytes _ k o.0 (lines_told ks (drop (l.reads bytes).long bytes) o.2))

pub lines_read :
    {ls : List HeadLine} {fs : List (ℕ → Bool)} → Faithfuls ls fs → (vs rest : List ℕ) → Fit fs vs
    → lines_at ls (spelled_by ls vs ++ rest) ≡ record { items = vs; fine = true; long = length (spelled_by ls vs) }
unfolding spelled_by
lines_read no_lines (v ∷ vs) rest x5 = elim x5 [ ]
lines_read (and-line {l = l} {ls = ls} {f = f} {fs = fs} k ks) [] rest x6 = elim x6 [ ]
lines_read no_lines [] rest no-values = no_more rest
lines_read (and-line {l} {ls} k ks) (v ∷ vs) rest (and-value p ps) =
    let t = l.text v in
    let ts = spelled_by ls vs in
    ap (lines_at (l ∷ ls)) (append_assoc t ts rest) ∙ lines_back l ls v t (ts ++ rest) (k.back v (ts ++ rest) p) (k.some v)
    ∙ ap (behind v (length t)) (lines_read ks vs rest ps)
    ∙ ap (λ (n : ℕ). record { items = v ∷ vs; fine = true; long = n }) (sym (length-append t ts))
