-- What is held along a packet: each byte keeps the bits of a header and the bytes of a block within their bounds, and so does a packet.
-- By induction along the bytes. Assumes nothing.
use mathlib.Core.Path.{◌≡◌, refl}
use mathlib.Core.Bool.{Bool, true, false}
use mathlib.Core.List.{List, [], ◌∷◌, ◌++◌}
use Prim.Native.Nat.{ℕ, zero, suc, ◌+◌, ◌*◌, ◌/◌, ◌%◌, ◌^◌, ◌≤◌, ◌<◌}
use native.Mathlib.Decide.{dec_lt}
use native.Mathlib.Omega.{arith}
use lib.Dec.{eqb, leb, ltb}
use lib.ListN.{length, length-append, drop}
use borrow.Author.Tests.{leb-false, ltb-true, eqb-false}
use Rattle.laws.specs.Pick.{pick}
use Rattle.octet.specs.Decoding.{nib, undecodable}
use Rattle.octet.specs.Hearing.{harm}
use Rattle.octet.proofs.Laws.{nib_le}
use Rattle.octet.proofs.Hearing.{harm_le}
use Rattle.blocks.specs.Block.{size_of}
use Rattle.walk.specs.Mode.{Mode, off, scan, heading, body, shifted, full, headed, step, ends, behind, next_head, goes_on, continues, unfinished, Bits, Good}
use Rattle.walk.specs.Reading.{drop_if, pointed, read_mode}

-- a mode along a packet
abbrev pub Along : Mode → Type 0
Along off = Unit {0}
Along scan = Unit {0}
Along (heading g v part) = Bits g v part
Along (body h part held) = (h < 2 ^ 16) × (part ≤ 5) × (length held ≤ size_of h)

-- ---- each byte keeps a mode so

pub more-bits : (g v part n k : ℕ) → n < 16 → k ≤ 1 → g < 3 → Bits g v part → Bits (suc g) (v / 16 + n * 4096) (part + k)
more-bits zero v part n k h u z b =
    let e : v % 65536 ≡ 0 = b.only in
    record { got = omega arith; small = omega (arith, b.small); only = omega (arith, b.small); counted = omega (arith, b.counted) }
more-bits (suc zero) v part n k h u z b =
    let e : v % 4096 ≡ 0 = b.only in
    record { got = omega arith; small = omega (arith, b.small); only = omega (arith, b.small); counted = omega (arith, b.counted) }
more-bits (suc (suc zero)) v part n k h u z b =
    let e : v % 256 ≡ 0 = b.only in
    record { got = omega arith; small = omega (arith, b.small); only = omega (arith, b.small); counted = omega (arith, b.counted) }
more-bits (suc (suc (suc g))) v part n k h u z b = absurd (omega arith)

pub decoded : (b : ℕ) → (nib b ≡ undecodable → ⊥) → nib b < 16
decoded b z = elim (dec_lt (nib b) 16) [ yes h ↦ h | no h ↦ absurd (z (omega (arith, nib_le b))) ]

head-along :
    (g v part b : ℕ) → Bits g v part → (t : Bool) → eqb (nib b) undecodable ≡ t
    → Along (pick t off (headed g (shifted v b) (part + harm b)))
head-along g v part b r true e = tt
head-along g v part b r false e = go (ltb g 3) refl (full (shifted v b) [])
  where
    n : nib b < 16
    n = decoded b (eqb-false (nib b) undecodable e)

    go :
        (t : Bool) → ltb g 3 ≡ t → (u : Bool)
        → Along (pick t (heading (suc g) (shifted v b) (part + harm b)) (pick u scan (body (shifted v b) (part + harm b) [])))
    go true p u = more-bits g v part (nib b) (harm b) n (harm_le b) (ltb-true g 3 p) r
    go false p true = tt
    go false p false = (omega (arith, r.small, n), omega (arith, r.got, r.counted, harm_le b), omega arith)

body_along :
    (h part b : ℕ) (held : List ℕ) → h < 2 ^ 16 → part ≤ 5 → (t : Bool) → full h (held ++ b ∷ []) ≡ t
    → Along (pick t scan (body h part (held ++ b ∷ [])))
body_along h part b held k p true e = tt
body_along h part b held k p false e = let f = leb-false (size_of h) (length (held ++ b ∷ [])) e in (k, p, omega arith)

-- a start alone
pub begun-bits : (k : ℕ) → k ≤ 1 → Bits 0 0 k
begun-bits k h = record { got = omega arith; small = omega arith; only = refl; counted = h }

pub step-along : (m : Mode) (b : ℕ) → Along m → Along (step m b)
unfolding step
step-along off b r = tt
step-along scan b r = go (eqb (nib b) 3) (eqb (nib b) 12)
  where
    go : (t u : Bool) → Along (pick t scan (pick u (heading 0 0 (harm b)) off))
    go true u = tt
    go false true = begun-bits (harm b) (harm_le b)
    go false false = tt
step-along (heading g v part) b r = head-along g v part b r (eqb (nib b) undecodable) refl
step-along (body h part held) b r = body_along h part b held r.0 r.1 (full h (held ++ b ∷ [])) refl

pub ends-along : (m : Mode) (l : List ℕ) → Along m → Along (ends m l)
unfolding ends
ends-along m [] r = r
ends-along m (b ∷ l) r = ends-along (step m b) l (step-along m b r)

continued_along :
    (g v part b : ℕ) → Bits g v part → (t : Bool) → eqb (nib b) undecodable ≡ t
    → Along (pick t off (next_head g (shifted v b) (part + harm b)))
continued_along g v part b r true e = tt
continued_along g v part b r false e = go (ltb g 3) refl
  where
    n : nib b < 16
    n = decoded b (eqb-false (nib b) undecodable e)

    go :
        (t : Bool) → ltb g 3 ≡ t
        → Along (pick t (heading (suc g) (shifted v b) (part + harm b)) (body (shifted v b) (part + harm b) []))
    go true p = more-bits g v part (nib b) (harm b) n (harm_le b) (ltb-true g 3 p) r
    go false p = (omega (arith, r.small, n), omega (arith, r.got, r.counted, harm_le b), omega arith)

waiting_along :
    (pointed : Bool) (h part b : ℕ) (held : List ℕ) → (h < 2 ^ 16) × (part ≤ 5) × (length held ≤ size_of h) → (t : Bool)
    → full h held ≡ t → Along (pick t (behind pointed h part held b) (body h part (held ++ b ∷ [])))
waiting_along true h part b held r true e = go (eqb (nib b) 3)
  where
    go : (t : Bool) → Along (pick t (body h part held) off)
    go true = r
    go false = tt
waiting_along false h part b held r true e = r
waiting_along pointed h part b held r false e =
    let f = leb-false (size_of h) (length held) e in (r.0, r.1, rw length-append (omega arith))

goes_on-along : (pointed : Bool) (m : Mode) (b : ℕ) → Along m → Along (goes_on pointed m b)
unfolding goes_on
goes_on-along pointed off b r = tt
goes_on-along pointed scan b r = tt
goes_on-along pointed (heading g v part) b r = continued_along g v part b r (eqb (nib b) undecodable) refl
goes_on-along pointed (body h part held) b r = waiting_along pointed h part b held r (full h held) refl

pub continues-along : (pointed : Bool) (m : Mode) (l : List ℕ) → Along m → Along (continues pointed m l)
unfolding continues
continues-along pointed m [] r = r
continues-along pointed m (b ∷ l) r = continues-along pointed (goes_on pointed m b) l (goes_on-along pointed m b r)

-- ---- between packets

pub good-along : (m : Mode) → Good m → Along m
good-along off r = tt
good-along scan r = absurd r
good-along (heading g v part) r = r
good-along (body h part held) r = r

unfinished-good : (m : Mode) → Along m → Good (unfinished m)
unfinished-good off r = tt
unfinished-good scan r = tt
unfinished-good (heading g v part) r = r
unfinished-good (body h part held) r = go (full h held)
  where
    go : (t : Bool) → Good (pick t off (body h part held))
    go true = tt
    go false = r

pub drop-good : (t : Bool) (m : Mode) → Good m → Good (drop_if t m)
drop-good true m r = tt
drop-good false m r = r

pub read-good : (m : Mode) (p : ℕ) (l : List ℕ) → Good m → Good (read_mode m p l)
read-good m p l r = go (leb p 12) (eqb p 13)
  where
    go :
        (t u : Bool)
        → Good (pick t (unfinished (ends scan (drop (pointed p) l))) (pick u (unfinished (continues false m l)) off))
    go true u = unfinished-good (ends scan (drop (pointed p) l)) (ends-along scan (drop (pointed p) l) tt)
    go false true = unfinished-good (continues false m l) (continues-along false m l (good-along m r))
    go false false = tt
