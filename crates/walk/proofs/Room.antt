-- How much a packet can give: at most 8 blocks, and their records are at most 2,112 bytes. A block that starts in the packet takes one
-- byte more of it than its record has; only one block can have been running before. By induction along the bytes. Assumes nothing.
use mathlib.Core.Path.{◌≡◌, refl}
use mathlib.Core.Bool.{Bool, true, false}
use mathlib.Core.List.{List, [], ◌∷◌, ◌++◌, map}
use Prim.Native.Nat.{ℕ, suc, ◌+◌, ◌*◌, ◌≤◌}
use native.Mathlib.Omega.{arith}
use lib.Dec.{eqb, leb, ltb}
use lib.ListN.{length, take, drop, length-append, length-drop}
use borrow.Author.Tests.{ltb-false}
use Rattle.laws.specs.Pick.{pick}
use Rattle.octet.specs.Decoding.{nib, undecodable}
use Rattle.octet.specs.Hearing.{harm}
use Rattle.blocks.specs.Block.{Block, head_length, records_of}
use Rattle.walk.specs.Mode.{Mode, off, scan, heading, body, filler, shifted, full, block_with, step, emitted, gives, continues, Good}
use Rattle.walk.specs.Store.{store_length}
use Rattle.walk.specs.Reading.{room, pointed, spanning, ended, read_blocks}
use Rattle.walk.proofs.Adding.{records_of-append}
use Rattle.walk.proofs.Along.{Along, good-along, continues-along}

-- each block's record is as long as its head at least
pub head-each : (bs : List Block) → head_length * length bs ≤ length (records_of bs)
unfolding records_of
head-each [] = omega arith
head-each (b ∷ bs) =
    let h : head_length * length bs ≤ length (records_of bs) = head-each bs in
    simp length-append (omega arith)

-- the block that was running
ended-room : (j : Bool) (m : Mode) → Along m → (length (ended j m) ≤ 1) × (length (records_of (ended j m)) ≤ head_length + store_length)
unfolding records_of
ended-room j off g = (omega arith, omega arith)
ended-room j scan g = (omega arith, omega arith)
ended-room j (heading n v part) g = (omega arith, omega arith)
ended-room j (body h part held) g = go (full h held)
  where
    go :
        (t : Bool)
        → (length (map (spanning j) (pick t (block_with h part held ∷ []) [])) ≤ 1)
        × (length (records_of (map (spanning j) (pick t (block_with h part held ∷ []) []))) ≤ head_length + store_length)
    go true = (omega arith, simp length-append (omega arith))
    go false = (omega arith, omega arith)

pub carried_room :
    (p j : Bool) (m : Mode) (l : List ℕ) → Good m
    → (length (ended j (continues p m l)) ≤ 1) × (length (records_of (ended j (continues p m l))) ≤ head_length + store_length)
carried_room p j m l g = ended-room j (continues p m l) (continues-along p m l (good-along m g))

-- how many bytes a running block has used of the packet
abbrev used : Mode → ℕ
used off = 0
used scan = 0
used (heading n v part) = 1 + n
used (body h part held) = 5 + length held

-- from the pointed byte on: a record is one byte shorter than what it is read from
weigh : List Block → ℕ
weigh bs = length bs + length (records_of bs)

step_room : (m : Mode) (b : ℕ) → weigh (emitted m b) + used (step m b) ≤ suc (used m)
unfolding step emitted weigh records_of
step_room off b = omega arith
step_room scan b = go (filler b) (eqb (nib b) 12)
  where
    go : (t u : Bool) → 0 + used (pick t scan (pick u (heading 0 0 (harm b)) off)) ≤ 1
    go true u = omega arith
    go false true = omega arith
    go false false = omega arith
step_room (heading n v part) b = go (eqb (nib b) undecodable) (ltb n 3) refl (full (shifted v b) [])
  where
    go :
        (t u : Bool) → ltb n 3 ≡ u → (x : Bool)
        → weigh (pick t [] (pick u [] (pick x (block_with (shifted v b) (part + harm b) [] ∷ []) [])))
        + used (pick t off (pick u (heading (suc n) (shifted v b) (part + harm b)) (pick x scan (body (shifted v b) (part + harm b) []))))
        ≤ suc (1 + n)
    go true u f x = omega arith
    go false true f x = omega arith
    go false false f true = omega (arith, ltb-false n 3 f)
    go false false f false = omega (arith, ltb-false n 3 f)
step_room (body h part held) b = go (full h (held ++ b ∷ []))
  where
    go :
        (t : Bool)
        → weigh (pick t (block_with h part (held ++ b ∷ []) ∷ []) []) + used (pick t scan (body h part (held ++ b ∷ []))) ≤ suc (5 + length held)
    go true = simp length-append (omega arith)
    go false = simp length-append (omega arith)

weigh-append : (xs ys : List Block) → weigh (xs ++ ys) ≡ weigh xs + weigh ys
unfolding weigh
weigh-append xs ys = simp (records_of-append, length-append) (omega arith)

gives-weigh : (m : Mode) (l : List ℕ) → weigh (gives m l) ≤ used m + length l
unfolding gives weigh records_of
gives-weigh m [] = omega arith
gives-weigh m (b ∷ bs) =
    let h : weigh (emitted m b) + used (step m b) ≤ suc (used m) = step_room m b in
    let r : weigh (gives (step m b) bs) ≤ used (step m b) + length bs = gives-weigh (step m b) bs in
    let e : weigh (emitted m b ++ gives (step m b) bs) ≡ weigh (emitted m b) + weigh (gives (step m b) bs)
    = weigh-append (emitted m b) (gives (step m b) bs) in
    omega arith

gives-room : (l : List ℕ) → length (gives scan l) + length (records_of (gives scan l)) ≤ length l
unfolding weigh
gives-room l = let h : weigh (gives scan l) ≤ used scan + length l = gives-weigh scan l in omega arith

-- ---- one packet

-- so many blocks, and so many bytes of records
abbrev pub Within : List Block → Type 0
Within bs = (length bs ≤ 8) × (length (records_of bs) ≤ room)

pub within_none : Within []
unfolding records_of
within_none = (omega arith, omega arith)

pub read-room : (j : Bool) (m : Mode) (p : ℕ) (l : List ℕ) → Good m → length l ≤ 39 → Within (read_blocks j m p l)
read-room j m p l g h = go (leb p 12) (eqb p 13)
  where
    pointed-at : Within (ended j (continues true m (take (pointed p) l)) ++ gives scan (drop (pointed p) l))
    pointed-at =
        let f = carried_room true j m (take (pointed p) l) g in
        let n = gives-room (drop (pointed p) l) in
        let t = head-each (gives scan (drop (pointed p) l)) in
        let d = length-drop (pointed p) l in
        (simp length-append (omega arith), simp (records_of-append, length-append) (omega arith))

    go :
        (t u : Bool)
        → Within
        (pick t (ended j (continues true m (take (pointed p) l)) ++ gives scan (drop (pointed p) l))
        (pick u (ended j (continues false m l)) []))
    go true u = pointed-at
    go false true = let f = carried_room false j m l g in (omega arith, omega arith)
    go false false = within_none
