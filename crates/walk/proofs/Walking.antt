-- Reading by places is reading byte by byte: filler, a header and a block's bytes are each passed in one go. By induction along the
-- bytes. Assumes nothing.
use mathlib.Core.Path.{◌≡◌, refl}
use mathlib.Core.Bool.{Bool, true, false}
use mathlib.Core.List.{List, [], ◌∷◌, ◌++◌, append-nil}
use Prim.Native.Nat.{ℕ, zero, suc, ◌+◌, ◌-◌, ◌≤◌, ◌<◌}
use native.Mathlib.Omega.{arith}
use lib.Dec.{eqb}
use lib.ListN.{length, take, drop, length-append}
use lib.Seq.{append_snoc}
use borrow.Author.Tests.{lt-ltb, le-leb, lt-leb}
use Rattle.laws.specs.Pick.{pick, either}
use Rattle.laws.proofs.Picks.{agree}
use Rattle.octet.specs.Decoding.{nib, undecodable}
use Rattle.octet.specs.Hearing.{harm}
use Rattle.blocks.specs.Block.{Block, size_of}
use Rattle.walk.specs.Mode.{Mode, off, scan, heading, body, filler, shifted, full, block_with, headed, step, emitted, spoiled, ends, gives, spoils, goes_on, continues, unfinished}
use Rattle.walk.specs.Places.{StartAhead, nothing, broken, cut, whole, heads, found}
use Rattle.walk.proofs.Staying.{continues_off}

-- ---- nothing is read past a stray nibble

pub ends_off : (l : List ℕ) → ends off l ≡ off
unfolding ends step
ends_off [] = refl
ends_off (b ∷ bs) = ends_off bs

pub gives_off : (l : List ℕ) → gives off l ≡ []
unfolding gives step emitted
gives_off [] = refl
gives_off (b ∷ bs) = gives_off bs

pub spoils_off : (l : List ℕ) → spoils off l ≡ false
unfolding spoils step spoiled
spoils_off [] = refl
spoils_off (b ∷ bs) = spoils_off bs

-- ---- from the pointed byte on

-- past a header: a block of size 0 is finished at once
abbrev pub headed-whole : ℕ → ℕ → Mode
headed-whole h part = pick (full h []) scan (body h part [])

abbrev pub at_once : ℕ → ℕ → List Block
at_once h part = pick (full h []) (block_with h part [] ∷ []) []

-- what is left running, what is handed out and whether a block is dropped, by what stands ahead
abbrev pub left_by : StartAhead → Mode
left_by nothing = off
left_by broken = off
left_by (cut g v part) = heading g v part
left_by (whole h part l) = unfinished (ends (headed-whole h part) l)

abbrev pub given_by : StartAhead → List Block
given_by nothing = []
given_by broken = []
given_by (cut g v part) = []
given_by (whole h part l) = at_once h part ++ gives (headed-whole h part) l

abbrev pub spoilt_by : StartAhead → Bool
spoilt_by nothing = false
spoilt_by broken = true
spoilt_by (cut g v part) = false
spoilt_by (whole h part l) = spoils (headed-whole h part) l

pub heads-left : (k v part : ℕ) (l : List ℕ) → k ≤ 3 → unfinished (ends (heading (3 - k) v part) l) ≡ left_by (heads (suc k) v part l)
unfolding ends step heads
heads-left k v part [] h = refl
heads-left zero v part (b ∷ bs) h =
    agree (λ m. unfinished (ends m bs)) left_by (eqb (nib b) undecodable) (rw (ends_off bs)) refl
heads-left (suc k) v part (b ∷ bs) h =
    let l : 3 - suc k < 3 = omega arith in
    let e : suc (3 - suc k) ≡ 3 - k = omega arith in
    agree (λ m. unfinished (ends m bs)) left_by (eqb (nib b) undecodable) (rw (ends_off bs))
    (rw (lt-ltb _ _ l, e) (heads-left k (shifted v b) (part + harm b) bs (omega arith)))

pub found_left : (l : List ℕ) → unfinished (ends scan l) ≡ left_by (found l)
unfolding ends step found
found_left [] = refl
found_left (b ∷ bs) =
    agree (λ m. unfinished (ends m bs)) left_by (filler b) (found_left bs)
    (agree (λ m. unfinished (ends m bs)) left_by (eqb (nib b) 12) (heads-left 3 0 (harm b) bs (omega arith)) (rw (ends_off bs)))

heads-given : (k v part : ℕ) (l : List ℕ) → k ≤ 3 → gives (heading (3 - k) v part) l ≡ given_by (heads (suc k) v part l)
unfolding gives emitted step heads
heads-given k v part [] h = refl
heads-given zero v part (b ∷ bs) h = go (eqb (nib b) undecodable)
  where
    go :
        (t : Bool)
        → pick t [] (at_once (shifted v b) (part + harm b)) ++ gives (pick t off (headed 3 (shifted v b) (part + harm b))) bs
        ≡ given_by (pick t broken (whole (shifted v b) (part + harm b) bs))
    go true = gives_off bs
    go false = refl
heads-given (suc k) v part (b ∷ bs) h =
    let l : 3 - suc k < 3 = omega arith in
    let e : suc (3 - suc k) ≡ 3 - k = omega arith in
    rw (lt-ltb _ _ l, e) (go (eqb (nib b) undecodable) (heads-given k (shifted v b) (part + harm b) bs (omega arith)))
  where
    go :
        (t : Bool) → gives (heading (3 - k) (shifted v b) (part + harm b)) bs ≡ given_by (heads (suc k) (shifted v b) (part + harm b) bs)
        → pick t [] [] ++ gives (pick t off (heading (3 - k) (shifted v b) (part + harm b))) bs
        ≡ given_by (pick t broken (heads (suc k) (shifted v b) (part + harm b) bs))
    go true r = gives_off bs
    go false r = r

pub found-given : (l : List ℕ) → gives scan l ≡ given_by (found l)
unfolding gives emitted step found
found-given [] = refl
found-given (b ∷ bs) =
    agree (λ m. gives m bs) given_by (filler b) (found-given bs)
    (agree (λ m. gives m bs) given_by (eqb (nib b) 12) (heads-given 3 0 (harm b) bs (omega arith)) (gives_off bs))

heads_spoilt : (k v part : ℕ) (l : List ℕ) → k ≤ 3 → spoils (heading (3 - k) v part) l ≡ spoilt_by (heads (suc k) v part l)
unfolding spoils spoiled step heads
heads_spoilt k v part [] h = refl
heads_spoilt zero v part (b ∷ bs) h = go (eqb (nib b) undecodable)
  where
    go :
        (t : Bool)
        → either t (spoils (pick t off (headed 3 (shifted v b) (part + harm b))) bs) ≡ spoilt_by (pick t broken (whole (shifted v b) (part + harm b) bs))
    go true = refl
    go false = refl
heads_spoilt (suc k) v part (b ∷ bs) h =
    let l : 3 - suc k < 3 = omega arith in
    let e : suc (3 - suc k) ≡ 3 - k = omega arith in
    rw (lt-ltb _ _ l, e) (go (eqb (nib b) undecodable) (heads_spoilt k (shifted v b) (part + harm b) bs (omega arith)))
  where
    go :
        (t : Bool) → spoils (heading (3 - k) (shifted v b) (part + harm b)) bs ≡ spoilt_by (heads (suc k) (shifted v b) (part + harm b) bs)
        → either t (spoils (pick t off (heading (3 - k) (shifted v b) (part + harm b))) bs)
        ≡ spoilt_by (pick t broken (heads (suc k) (shifted v b) (part + harm b) bs))
    go true r = refl
    go false r = r

pub found_spoilt : (l : List ℕ) → spoils scan l ≡ spoilt_by (found l)
unfolding spoils spoiled step found
found_spoilt [] = refl
found_spoilt (b ∷ bs) =
    agree (λ m. spoils m bs) spoilt_by (filler b) (found_spoilt bs)
    (agree (λ m. spoils m bs) spoilt_by (eqb (nib b) 12) (heads_spoilt 3 0 (harm b) bs (omega arith)) (spoils_off bs))

-- ---- a block's bytes

-- reading along l from m finishes these blocks and is then reading along l' from m'
pub record Passes (m : Mode) (l : List ℕ) (bs : List Block) (m' : Mode) (l' : List ℕ) : Type 0 where
  pub left : ends m l ≡ ends m' l'
  pub given : gives m l ≡ bs ++ gives m' l'
  pub spoilt : spoils m l ≡ spoils m' l'

-- what doesn't fill the block is held
pub short : (h part : ℕ) (held l : List ℕ) → length held + length l < size_of h → Passes (body h part held) l [] (body h part (held ++ l)) []
unfolding ends step gives emitted spoils spoiled
short h part held [] e = rw append-nil (record { left = refl; given = refl; spoilt = refl })
short h part held (b ∷ bs) e =
    let f : length (held ++ b ∷ []) < size_of h = simp length-append (omega arith) in
    let g : length (held ++ b ∷ []) + length bs < size_of h = simp length-append (omega arith) in
    let r = short h part (held ++ b ∷ []) bs g in
    record {
      left = rw (lt-leb _ _ f, ← append_snoc held b bs) r.left;
      given = rw (lt-leb _ _ f) r.given;
      spoilt = rw (lt-leb _ _ f) r.spoilt;
    }

-- what fills it finishes it
pub long :
    (n h part : ℕ) (held l : List ℕ) → length held + suc n ≡ size_of h → n < length l
    → Passes (body h part held) l (block_with h part (held ++ take (suc n) l) ∷ []) scan (drop (suc n) l)
unfolding ends step gives emitted spoils spoiled
long n h part held [] e k = absurd (omega arith)
long zero h part held (b ∷ bs) e k =
    let f : size_of h ≤ length (held ++ b ∷ []) = simp length-append (omega arith) in
    record { left = rw (le-leb _ _ f); given = rw (le-leb _ _ f); spoilt = rw (le-leb _ _ f) }
long (suc n) h part held (b ∷ bs) e k =
    let f : length (held ++ b ∷ []) < size_of h = simp length-append (omega arith) in
    let g : length (held ++ b ∷ []) + suc n ≡ size_of h = simp length-append (omega arith) in
    let r = long n h part (held ++ b ∷ []) bs g (omega arith) in
    record {
      left = rw (lt-leb _ _ f) r.left;
      given = rw (lt-leb _ _ f, ← append_snoc held b (take (suc n) bs)) r.given;
      spoilt = rw (lt-leb _ _ f) r.spoilt;
    }

-- past a header: the block is all there, or what there is of it is held
pub headed-long :
    (h part : ℕ) (l : List ℕ) → size_of h ≤ length l
    → (ends (headed-whole h part) l ≡ ends scan (drop (size_of h) l))
    × (at_once h part ++ gives (headed-whole h part) l
    ≡ block_with h part (take (size_of h) l) ∷ gives scan (drop (size_of h) l))
    × (spoils (headed-whole h part) l ≡ spoils scan (drop (size_of h) l))
headed-long h part l e = go (size_of h) refl
  where
    go : (z : ℕ) → size_of h ≡ z → (ends (headed-whole h part) l ≡ ends scan (drop (size_of h) l))
        × (at_once h part ++ gives (headed-whole h part) l
        ≡ block_with h part (take (size_of h) l) ∷ gives scan (drop (size_of h) l))
        × (spoils (headed-whole h part) l ≡ spoils scan (drop (size_of h) l))
    go zero p = rw p (refl, refl, refl)
    go (suc n) p =
        let f : 0 < size_of h = omega arith in
        let r = long n h part [] l (omega arith) (omega arith) in
        rw (lt-leb _ _ f, p) (r.left, r.given, r.spoilt)

pub headed-short :
    (h part : ℕ) (l : List ℕ) → length l < size_of h
    → (ends (headed-whole h part) l ≡ body h part l) × (at_once h part ++ gives (headed-whole h part) l ≡ []) × (spoils (headed-whole h part) l ≡ false)
unfolding ends gives spoils
headed-short h part l e =
    let f : 0 < size_of h = omega arith in
    let r = short h part [] l (omega arith) in
    rw (lt-leb _ _ f) (r.left, r.given, r.spoilt)

-- ---- up to the pointed byte

abbrev pub continued_by : Bool → StartAhead → Mode
continued_by p nothing = off
continued_by p broken = off
continued_by p (cut g v part) = heading g v part
continued_by p (whole h part l) = continues p (body h part []) l

pub heads_continued :
    (p : Bool) (k v part : ℕ) (l : List ℕ) → k ≤ 3 → continues p (heading (3 - k) v part) l ≡ continued_by p (heads (suc k) v part l)
unfolding continues goes_on heads
heads_continued p k v part [] h = refl
heads_continued p zero v part (b ∷ bs) h =
    agree (λ m. continues p m bs) (continued_by p) (eqb (nib b) undecodable) (continues_off p bs) refl
heads_continued p (suc k) v part (b ∷ bs) h =
    let l : 3 - suc k < 3 = omega arith in
    let e : suc (3 - suc k) ≡ 3 - k = omega arith in
    agree (λ m. continues p m bs) (continued_by p) (eqb (nib b) undecodable) (continues_off p bs)
    (rw (lt-ltb _ _ l, e) (heads_continued p k (shifted v b) (part + harm b) bs (omega arith)))

-- a running block takes what it still wants
pub chunk_continued :
    (p : Bool) (n h part : ℕ) (held l : List ℕ) → length held + n ≤ size_of h → n ≤ length l
    → continues p (body h part held) l ≡ continues p (body h part (held ++ take n l)) (drop n l)
unfolding continues goes_on
chunk_continued p zero h part held l e k = rw append-nil
chunk_continued p (suc n) h part held [] e k = absurd (omega arith)
chunk_continued p (suc n) h part held (b ∷ bs) e k =
    let f : length held < size_of h = omega arith in
    let g : length (held ++ b ∷ []) + n ≤ size_of h = simp length-append (omega arith) in
    rw (lt-leb _ _ f, ← append_snoc held b (take n bs)) (chunk_continued p n h part (held ++ b ∷ []) bs g (omega arith))
