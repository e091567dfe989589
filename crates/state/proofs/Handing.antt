-- What is handed out: each block is whole, with just the raw bytes that its 16 bits say, and its part counts at most its start and its
-- four header bytes, each once. So whatever holds of such a block holds of each. By induction along the bytes. Assumes nothing.
use mathlib.Core.Path.{◌≡◌, refl}
use mathlib.Core.Bool.{Bool, true, false}
use mathlib.Core.List.{List, [], ◌∷◌, ◌++◌, map}
use Prim.Native.Nat.{ℕ, suc, ◌+◌, ◌*◌, ◌≤◌, ◌<◌}
use native.Mathlib.Omega.{arith}
use lib.Dec.{eqb, leb, ltb}
use lib.ListN.{length, length-append, take, drop}
use borrow.Author.Tests.{leb-true, leb-false, le-leb}
use Rattle.laws.specs.Pick.{pick}
use Rattle.laws.specs.Each.{Each, nil, and}
use Rattle.laws.proofs.Eaches.{each_append}
use Rattle.octet.specs.Decoding.{nib, undecodable}
use Rattle.octet.specs.Hearing.{harm}
use Rattle.octet.proofs.Hearing.{harm_le}
use Rattle.blocks.specs.Block.{Block, size_of}
use Rattle.blocks.specs.Sizes.{Sized}
use Rattle.blocks.specs.Parts.{part_most, Parted}
use Rattle.walk.specs.Mode.{Mode, off, scan, heading, body, shifted, full, block_with, step, emitted, gives, continues, Good}
use Rattle.walk.specs.Reading.{drop_if, spanning, ended, read_blocks}
use Rattle.walk.proofs.Along.{Along, good-along, drop-good, continues-along, step-along}
use Rattle.pages.specs.declared.headers.Verdict.{Verdict}
use Rattle.pages.specs.Judging.{verdict_of}
use Rattle.pages.specs.Headers.{Seen}
use Rattle.state.specs.Acting.{State, spans, pointer_of, bytes_of, handed}
use Rattle.state.specs.State.{Sound}

-- from the pointed byte on a block never waits whole
abbrev Short : Mode → Type 0
Short off = Unit {0}
Short scan = Unit {0}
Short (heading g v part) = Unit {0}
Short (body h part held) = length held < size_of h

step-short : (m : Mode) (b : ℕ) → Short m → Short (step m b)
unfolding step
step-short off b r = tt
step-short scan b r = go (eqb (nib b) 3) (eqb (nib b) 12)
  where
    go : (t u : Bool) → Short (pick t scan (pick u (heading 0 0 (harm b)) off))
    go true u = tt
    go false true = tt
    go false false = tt
step-short (heading g v part) b r = go (eqb (nib b) undecodable) (ltb g 3) (full (shifted v b) []) refl
  where
    go :
        (t u w : Bool) → full (shifted v b) [] ≡ w
        → Short (pick t off (pick u (heading (suc g) (shifted v b) (part + harm b)) (pick w scan (body (shifted v b) (part + harm b) []))))
    go true u w e = tt
    go false true w e = tt
    go false false true e = tt
    go false false false e = leb-false (size_of (shifted v b)) 0 e
step-short (body h part held) b r = go (full h (held ++ b ∷ [])) refl
  where
    go : (t : Bool) → full h (held ++ b ∷ []) ≡ t → Short (pick t scan (body h part (held ++ b ∷ [])))
    go true e = tt
    go false e = leb-false (size_of h) (length (held ++ b ∷ [])) e

-- P holds of every whole block whose part is at most 5, whether it spans pages or not
module _ (P : Block → Type 0)
    (of-whole : (j : Bool) (h part : ℕ) (l : List ℕ) → size_of h ≡ length l → part ≤ 5 → P (spanning j (block_with h part l))) where
  one_each :
      (j : Bool) (h part : ℕ) (l : List ℕ) (t : Bool) → full h l ≡ t → length l ≤ size_of h → part ≤ 5
      → Each P (map (spanning j) (pick t (block_with h part l ∷ []) []))
  one_each j h part l true e k p =
      let f : size_of h ≡ length l = omega (arith, leb-true (size_of h) (length l) e) in and (of-whole j h part l f p) nil
  one_each j h part l false e k p = nil

  -- one that begins and ends in the packet
  here-each :
      (h part : ℕ) (l : List ℕ) (t : Bool) → full h l ≡ t → length l ≤ size_of h → part ≤ 5 → Each P (pick t (block_with h part l ∷ []) [])
  here-each h part l true e k p = one_each false h part l true e k p
  here-each h part l false e k p = nil

  emitted-each : (m : Mode) (b : ℕ) → Along m → Short m → Each P (emitted m b)
  unfolding emitted
  emitted-each off b r s = nil
  emitted-each scan b r s = nil
  emitted-each (heading g v part) b r s = go (eqb (nib b) undecodable) (ltb g 3)
    where
      go :
          (t u : Bool)
          → Each P (pick t [] (pick u [] (pick (full (shifted v b) []) (block_with (shifted v b) (part + harm b) [] ∷ []) [])))
      go true u = nil
      go false true = nil
      go false false =
          here-each (shifted v b) (part + harm b) [] (full (shifted v b) []) refl (omega arith)
          (omega (arith, r.got, r.counted, harm_le b))
  emitted-each (body h part held) b r s =
      here-each h part (held ++ b ∷ []) (full h (held ++ b ∷ [])) refl (rw length-append (omega arith)) r.1

  gives-each : (m : Mode) (l : List ℕ) → Along m → Short m → Each P (gives m l)
  unfolding gives
  gives-each m [] r s = nil
  gives-each m (b ∷ l) r s = each_append (emitted-each m b r s) (gives-each (step m b) l (step-along m b r) (step-short m b s))

  ended-each : (j : Bool) (m : Mode) → Along m → Each P (ended j m)
  ended-each j off r = nil
  ended-each j scan r = nil
  ended-each j (heading g v part) r = nil
  ended-each j (body h part held) r = one_each j h part held (full h held) refl r.2 r.1

  pub read-each : (j : Bool) (m : Mode) (p : ℕ) (l : List ℕ) → Good m → Each P (read_blocks j m p l)
  read-each j m p l r = go (leb p 12) (eqb p 13)
    where
      go :
          (t u : Bool)
          → Each P
          (pick t (ended j (continues true m (take (3 * p) l)) ++ gives scan (drop (3 * p) l)) (pick u (ended j (continues false m l)) []))
      go true u =
          each_append (ended-each j (continues true m (take (3 * p) l)) (continues-along true m (take (3 * p) l) (good-along m r)))
          (gives-each scan (drop (3 * p) l) tt tt)
      go false true = ended-each j (continues false m l) (continues-along false m l (good-along m r))
      go false false = nil

  -- every block that a packet finishes, from any state in range
  pub handed-each : (st : State) (x : Seen) → Sound st → Each P (handed st x)
  unfolding handed
  handed-each st x r = go v.reads
    where
      v : Verdict
      v = verdict_of st.page st.index x

      go : (t : Bool) → Each P (pick t (read_blocks (spans v st) (drop_if v.drops st.mode) (pointer_of x) (bytes_of x)) [])
      go true = read-each (spans v st) (drop_if v.drops st.mode) (pointer_of x) (bytes_of x) (drop-good v.drops st.mode r.mode)
      go false = nil

-- what is handed out is whole records
pub handed-sized : (st : State) (x : Seen) → Sound st → Each Sized (handed st x)
handed-sized = handed-each Sized (λ j h part l e p. e)

-- and each has a part of at most 5 and a second byte of at most 1
pub handed-parted : (st : State) (x : Seen) → Sound st → Each Parted (handed st x)
handed-parted = handed-each Parted (λ j h part l e p. rw (le-leb part part_most p) (le-leb _ 1 (one j)))
  where
    one : (j : Bool) → pick j 1 0 ≤ 1
    one true = omega arith
    one false = omega arith
