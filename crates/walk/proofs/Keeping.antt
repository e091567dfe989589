-- A store that holds a mode: what it reads back as, what taking bytes in and clearing make of it. Assumes nothing.
use mathlib.Core.Path.{◌≡◌, ◌∙◌, refl, sym, ap}
use mathlib.Core.Bool.{Bool, true, false}
use mathlib.Core.Logic.{◌⊎◌, inl, inr, ⊎_elim}
use mathlib.Core.List.{List, [], ◌∷◌, ◌++◌}
use Prim.Native.Nat.{ℕ, zero, suc, ◌+◌, ◌-◌, ◌^◌, ◌≤◌, ◌<◌}
use native.Mathlib.Omega.{arith}
use lib.ListN.{length, take, drop, replicate, length-append, length-replicate, length-drop, replicate-append-replicate}
use lib.Seq.{sets, sets-eq, take_at, drop_at, drop-append-add, drop-drop, length-take-le}
use lib.Dec.{eqb}
use borrow.Author.Tests.{le-leb, eqb-false}
use Rattle.laws.proofs.Lists.{sets-front}
use Rattle.laws.specs.Pick.{pick}
use Rattle.laws.proofs.Picks.{same}
use Rattle.octet.specs.Decoding.{nib, undecodable}
use Rattle.octet.specs.Hearing.{harm}
use Rattle.octet.proofs.Hearing.{harm_le}
use Rattle.blocks.specs.Block.{size_of}
use Rattle.walk.specs.declared.Run.{Run}
use Rattle.walk.specs.declared.Run.TheVariants.{Idle, Head, Body}
use Rattle.walk.specs.declared.Taken.{Taken}
use Rattle.walk.specs.declared.Ahead.{Ahead}
use Rattle.walk.specs.declared.Ahead.TheVariants.{Cut, Whole}
use Rattle.walk.specs.Mode.{Mode, off, scan, heading, body, filler, shifted, full, continues, Bits, Good}
use Rattle.walk.specs.Store.{store_length, zeroed, mode_of, run_of, held_of}
use Rattle.walk.specs.Places.{StartAhead, nothing, broken, cut, whole, heads, found, ahead_in}
use Rattle.walk.specs.Internal.{Holds, Kept, TookIn, awaits}
use Rattle.walk.proofs.Staying.{stays}
use Rattle.walk.proofs.Along.{more-bits, decoded, begun-bits}
use Rattle.walk.proofs.Walking.{chunk_continued, continued_by, heads_continued}

-- ---- a list of N bytes, zeros past those held

replicate-drop : (n m : ℕ) → drop n (replicate {A = ℕ} (n + m) 0) ≡ replicate m 0
replicate-drop n m = rw (← replicate-append-replicate) (drop_at (replicate n 0) (replicate m 0) n (length-replicate n 0))

module _ (N : ℕ) where
  pad : List ℕ → List ℕ
  pad held = held ++ replicate (N - length held) 0

  pad-length : (held : List ℕ) → length held ≤ N → length (pad held) ≡ N
  unfolding pad
  pad-length held h = simp (length-append, length-replicate) (omega arith)

  pad-take : (held : List ℕ) → take (length held) (pad held) ≡ held
  unfolding pad
  pad-take held = take_at held (replicate (N - length held) 0) (length held) refl

  -- past the bytes held, and n more, there are that many zeros fewer
  pad-drop : (held : List ℕ) (n : ℕ) → length held + n ≤ N → drop (length held + n) (pad held) ≡ replicate (N - (length held + n)) 0
  unfolding pad
  pad-drop held n h =
      let e : N - length held ≡ n + (N - (length held + n)) = omega arith in
      drop-append-add held (replicate (N - length held) 0) n ∙ rw e (replicate-drop n (N - (length held + n)))

  unpad : (l : List ℕ) (n : ℕ) → length l ≡ n → l ++ replicate (N - n) 0 ≡ pad l
  unfolding pad
  unpad l n e = rw e

  pad-more : (held xs : List ℕ) → length held + length xs ≤ N → sets (pad held) (length held) xs ≡ pad (held ++ xs)
  pad-more held xs h =
      sets-eq xs (pad held) (length held) (rw (pad-length held (omega arith)) h)
      ∙ rw (pad-take, pad-drop held (length xs) h) (unpad (held ++ xs) (length held + length xs) (length-append held xs))

  pad-none : (held : List ℕ) → length held ≤ N → sets (pad held) 0 (replicate (length held) 0) ≡ pad []
  unfolding pad
  pad-none held h =
      let e : length held ≤ length (pad held) = rw (pad-length held h) h in
      let q : length (replicate {A = ℕ} (length held) 0) ≡ length held = length-replicate (length held) 0 in
      let z : length held + (N - length held) ≡ N - 0 = omega arith in
      sets-front (pad held) (replicate (length held) 0) (rw q e)
      ∙ rw (q, drop_at held (replicate (N - length held) 0) (length held) refl, replicate-append-replicate, z)

-- ---- the store

pub zeroed-length : (held : List ℕ) → length held ≤ store_length → length (zeroed held) ≡ store_length
unfolding zeroed pad
zeroed-length held h = pad-length store_length held h

pub zeroed-take : (held : List ℕ) → take (length held) (zeroed held) ≡ held
unfolding zeroed pad
zeroed-take held = pad-take store_length held

-- bytes are taken in behind those held
pub zeroed-more :
    (held xs : List ℕ) → length held + length xs ≤ store_length → sets (zeroed held) (length held) xs ≡ zeroed (held ++ xs)
unfolding zeroed pad
zeroed-more held xs h = pad-more store_length held xs h

-- those held are cleared
pub zeroed-none : (held : List ℕ) → length held ≤ store_length → sets (zeroed held) 0 (replicate (length held) 0) ≡ zeroed []
unfolding zeroed pad
zeroed-none held h = pad-none store_length held h

-- the same of a store that is known to hold them
module _ (held : List ℕ) {store : List ℕ} {n : ℕ} (e : store ≡ zeroed held) (l : length held ≡ n) where
  pub store-none : n ≤ store_length → sets store 0 (replicate n 0) ≡ zeroed []
  store-none h = rw (e, ← l) (zeroed-none held (rw l h))

  pub store-more : (xs : List ℕ) → n + length xs ≤ store_length → sets store n xs ≡ zeroed (held ++ xs)
  store-more xs h = rw (e, ← l) (zeroed-more held xs (rw l h))

-- ---- a mode that is held

-- it is read back
pub holds_mode : (m : Mode) {r : Run} {store : List ℕ} → Holds m r store → mode_of r store ≡ m
holds_mode off h = rw h.run
holds_mode scan h = absurd h.good
holds_mode (heading g v part) h = rw h.run
holds_mode (body x part held) h = rw (h.run, h.kept, zeroed-take)

pub holds_kept : (m : Mode) {r : Run} {store : List ℕ} → Holds m r store → Kept r store
holds_kept m h = rw (holds_mode m h) h

held_fits : (m : Mode) → Good m → length (held_of m) ≤ store_length
held_fits off g = omega arith
held_fits scan g = absurd g
held_fits (heading n v part) g = omega arith
held_fits (body x part held) g = omega arith

pub holds-length : (m : Mode) {r : Run} {store : List ℕ} → Holds m r store → length store ≡ store_length
holds-length m h = rw h.kept (zeroed-length (held_of m) (held_fits m h.good))

-- nothing is held
pub holds_idle : {store : List ℕ} → store ≡ zeroed [] → Holds off Idle store
holds_idle e = record { good = tt; run = refl; kept = e }

-- ---- what is held, by the run

module _ {r : Run} {store : List ℕ} (k : Kept r store) where
  pub kept-idle : r ≡ Idle → store ≡ zeroed []
  kept-idle e = (rw e at k).kept

  pub kept-head : {g v part : ℕ} → r ≡ Head g v part → store ≡ zeroed []
  kept-head e = (rw e at k).kept

  pub kept-bits : {g v part : ℕ} → r ≡ Head g v part → Bits g v part
  kept-bits e = (rw e at k).good

  pub kept-got : {g v part : ℕ} → r ≡ Head g v part → g ≤ 3
  kept-got e = (kept-bits e).got

  pub kept-body : {h part n : ℕ} → r ≡ Body h part n → Kept (Body h part n) store
  kept-body e = rw e at k

-- a block's bytes
module _ {h part n : ℕ} {store : List ℕ} (k : Kept (Body h part n) store) where
  pub body-length : length (take n store) ≡ n
  body-length = let e : run_of (body h part (take n store)) ≡ Body h part n = sym k.run in cc

  pub body-fits : n ≤ size_of h
  body-fits = rw body-length at k.good.2

  pub body-size : size_of h ≤ store_length
  body-size = omega (arith, k.good.0)

  pub body-store : length store ≡ store_length
  body-store = holds-length (body h part (take n store)) k

  pub body-clear : sets store 0 (replicate n 0) ≡ zeroed []
  body-clear = store-none (take n store) k.kept body-length (omega (arith, body-fits, body-size))

  pub body_more : (xs : List ℕ) → n + length xs ≤ store_length → sets store n xs ≡ zeroed (take n store ++ xs)
  body_more xs f = store-more (take n store) k.kept body-length xs f

-- ---- taking bytes in

-- a block that is full, or has no byte left to take, stays as it is
ended :
    (h part : ℕ) (held l : List ℕ) → (size_of h ≤ length held) ⊎ (length l ≡ 0)
    → continues false (body h part held) l ≡ body h part held
unfolding continues
ended h part held l (inl f) = stays h part held l f
ended h part held [] (inr e) = refl
ended h part held (b ∷ bs) (inr e) = absurd (omega arith)

-- and then it awaits the pointed byte
awaited :
    (h part : ℕ) (held l : List ℕ) → (size_of h ≤ length held) ⊎ (length l ≡ 0)
    → continues true (body h part held) l ≡ awaits (body h part held) l
unfolding continues
awaited h part held l (inl f) = rw (le-leb _ _ f)
awaited h part held [] (inr e) = sym (same (full h held) refl refl)
awaited h part held (b ∷ bs) (inr e) = absurd (omega arith)

-- a block takes n bytes, all that it wants or all that there are
pub body_took :
    {h part held : ℕ} {store : List ℕ} (s : List ℕ) (from n : ℕ) {after : List ℕ} → Kept (Body h part held) store → from + n ≤ length s
    → held + n ≤ size_of h → (held + n ≡ size_of h) ⊎ (from + n ≡ length s) → after ≡ sets store held (take n (drop from s))
    → TookIn (body h part (take held store)) (drop from s) s (record { run = Body h part (held + n); next = from + n }) after
body_took {h} {part} {held} {store} s from n {after} k w f o e =
    let d : length (drop from s) ≡ length s - from = length-drop from s in
    let x : length (take n (drop from s)) ≡ n = length-take-le n (drop from s) (omega arith) in
    let y : length (take held store ++ take n (drop from s)) ≡ held + n
    = length-append (take held store) (take n (drop from s)) ∙ rw (x, body-length k) in
    let more : (p : Bool)
    → continues p (body h part (take held store)) (drop from s)
    ≡ continues p (body h part (take held store ++ take n (drop from s))) (drop (from + n) s)
    = λ p. chunk_continued p n h part (take held store) (drop from s) (rw (body-length k) f) (omega arith) ∙ rw drop-drop in
    let done : (size_of h ≤ length (take held store ++ take n (drop from s))) ⊎ (length (drop (from + n) s) ≡ 0)
    = ⊎_elim (λ (q : held + n ≡ size_of h). inl (rw y (omega arith)))
    (λ (q : from + n ≡ length s). inr (rw length-drop (omega arith)))
    o in
    let all : continues false (body h part (take held store)) (drop from s) ≡ body h part (take held store ++ take n (drop from s))
    = more false ∙ ended h part (take held store ++ take n (drop from s)) (drop (from + n) s) done in
    record {
      holds =
          rw all
          (record { good = (k.good.0, k.good.1, rw y f); run = rw y; kept = e ∙ body_more k (take n (drop from s)) (rw x (omega (arith, body-size k))) });
      within = w;
      rest = rw all (more true ∙ awaited h part (take held store ++ take n (drop from s)) (drop (from + n) s) done);
    }

-- nothing is running, or no longer
pub idle_took :
    {m : Mode} (l s : List ℕ) {store : List ℕ} → ((p : Bool) → continues p m l ≡ off) → store ≡ zeroed []
    → TookIn m l s (record { run = Idle; next = 0 }) store
idle_took l s c e =
    record { holds = rw (c false) (holds_idle e); within = omega arith; rest = rw (c false) (c true) }

-- the header goes on in the next packet
pub cut_took :
    {m : Mode} (s : List ℕ) {store : List ℕ} {g v part : ℕ} → ((p : Bool) → continues p m s ≡ heading g v part)
    → Bits g v part → store ≡ zeroed [] → TookIn m s s (record { run = Head g v part; next = length s }) store
unfolding continues
cut_took s c h e =
    record {
      holds = rw (c false) (record { good = h; run = refl; kept = e });
      within = omega arith;
      rest = rw (c false) (c true);
    }

-- past a header it is the block that takes
pub on_took :
    {m m' : Mode} {l l' s : List ℕ} {r : Taken} {store : List ℕ} → ((p : Bool) → continues p m l ≡ continues p m' l')
    → TookIn m' l' s r store → TookIn m l s r store
on_took c t = record { holds = rw (c false) t.holds; within = t.within; rest = rw (c false) (c true ∙ t.rest) }

-- a header that is read on, by what stands there
pub head_continued :
    (g v part : ℕ) (l : List ℕ) {f : StartAhead} → g ≤ 3 → heads (4 - g) v part l ≡ f → (p : Bool)
    → continues p (heading g v part) l ≡ continued_by p f
head_continued g v part l h e p =
    let a : 3 - (3 - g) ≡ g = omega arith in
    let b : suc (3 - g) ≡ 4 - g = omega arith in
    (rw (a, b, e) at (heads_continued p (3 - g) v part l (omega arith)))

-- a header that is cut off has the bits of its nibbles
heads-bits :
    (k v part : ℕ) (l : List ℕ) {g w n : ℕ} → k ≤ 3 → Bits (3 - k) v part → heads (suc k) v part l ≡ cut g w n → Bits g w n
unfolding heads
heads-bits k v part [] {g} {w} {n} h b e =
    let x : 3 - k ≡ g = cc in
    let y : v ≡ w = cc in
    let z : part ≡ n = cc in
    rw (x, y, z) at b
heads-bits zero v part (b ∷ bs) {g} {w} {n} h r e = go (eqb (nib b) undecodable) e
  where
    go : (t : Bool) → pick t broken (whole (shifted v b) (part + harm b) bs) ≡ cut g w n → Bits g w n
    go true q = let z : ◌≡◌ {A = ℕ} 0 1 = cc in absurd (omega arith)
    go false q = let z : ◌≡◌ {A = ℕ} 0 1 = cc in absurd (omega arith)
heads-bits (suc k) v part (b ∷ bs) {g} {w} {n} h r e =
    go (eqb (nib b) undecodable) refl (λ x. heads-bits k (shifted v b) (part + harm b) bs (omega arith) x) e
  where
    go :
        (t : Bool) → eqb (nib b) undecodable ≡ t
        → (Bits (3 - k) (shifted v b) (part + harm b) → heads (suc k) (shifted v b) (part + harm b) bs ≡ cut g w n → Bits g w n)
        → pick t broken (heads (suc k) (shifted v b) (part + harm b) bs) ≡ cut g w n → Bits g w n
    go true f s q = let z : ◌≡◌ {A = ℕ} 0 1 = cc in absurd (omega arith)
    go false f s q =
        let x : suc (3 - suc k) ≡ 3 - k = omega arith in
        let y : Bits (suc (3 - suc k)) (shifted v b) (part + harm b)
        = more-bits (3 - suc k) v part (nib b) (harm b) (decoded b (eqb-false _ _ f)) (harm_le b) (omega arith) r in
        s (rw x at y) q

-- one that is whole has counted five bytes at most
heads-part :
    (k v part : ℕ) (l : List ℕ) {h n : ℕ} {r : List ℕ} → k ≤ 4 → part + k ≤ 5 → heads k v part l ≡ whole h n r → n ≤ 5
unfolding heads
heads-part zero v part l {h} {n} i c e = let z : part ≡ n = cc in omega arith
heads-part (suc k) v part [] i c e = let z : ◌≡◌ {A = ℕ} 0 1 = cc in absurd (omega arith)
heads-part (suc k) v part (b ∷ bs) {h} {n} {r} i c e =
    go (eqb (nib b) undecodable) (λ x. heads-part k (shifted v b) (part + harm b) bs (omega arith) (omega (arith, harm_le b)) x) e
  where
    go :
        (t : Bool) → (heads k (shifted v b) (part + harm b) bs ≡ whole h n r → n ≤ 5)
        → pick t broken (heads k (shifted v b) (part + harm b) bs) ≡ whole h n r → n ≤ 5
    go true s q = let z : ◌≡◌ {A = ℕ} 0 1 = cc in absurd (omega arith)
    go false s q = s q

pub found-bits : (l : List ℕ) {g w n : ℕ} → found l ≡ cut g w n → Bits g w n
unfolding found
found-bits [] e = let z : ◌≡◌ {A = ℕ} 0 1 = cc in absurd (omega arith)
found-bits (b ∷ bs) {g} {w} {n} e = go (filler b) (eqb (nib b) 12) (found-bits bs) e
  where
    go :
        (t u : Bool) → (found bs ≡ cut g w n → Bits g w n)
        → pick t (found bs) (pick u (heads 4 0 (harm b) bs) nothing) ≡ cut g w n → Bits g w n
    go true u r q = r q
    go false true r q = heads-bits 3 0 (harm b) bs (omega arith) (begun-bits (harm b) (harm_le b)) q
    go false false r q = let z : ◌≡◌ {A = ℕ} 0 1 = cc in absurd (omega arith)

pub found_part : (l : List ℕ) {h n : ℕ} {k : List ℕ} → found l ≡ whole h n k → n ≤ 5
unfolding found
found_part [] e = let z : ◌≡◌ {A = ℕ} 0 1 = cc in absurd (omega arith)
found_part (b ∷ bs) {h} {n} {k} e = go (filler b) (eqb (nib b) 12) (found_part bs) e
  where
    go :
        (t u : Bool) → (found bs ≡ whole h n k → n ≤ 5)
        → pick t (found bs) (pick u (heads 4 0 (harm b) bs) nothing) ≡ whole h n k → n ≤ 5
    go true u r q = r q
    go false true r q = heads-part 4 0 (harm b) bs (omega arith) (omega (arith, harm_le b)) q
    go false false r q = let z : ◌≡◌ {A = ℕ} 0 1 = cc in absurd (omega arith)

-- a running header, by the answer to reading it on
module _ {r : Run} {store : List ℕ} {g v part : ℕ} (s : List ℕ) (a : Ahead) (k : Kept r store) (e : r ≡ Head g v part)
    (x : heads (4 - g) v part s ≡ ahead_in s a) where
  by_answer : (p : Bool) → continues p (mode_of r store) s ≡ continued_by p (ahead_in s a)
  by_answer p = rw e (head_continued g v part s (kept-got k e) x p)

  -- nothing runs on
  pub head-lost :
      ((p : Bool) → continued_by p (ahead_in s a) ≡ off) → TookIn (mode_of r store) s s (record { run = Idle; next = 0 }) store
  head-lost y = idle_took s s (λ p. by_answer p ∙ y p) (kept-head k e)

  -- the header goes on in the next packet
  pub head-bits : {n w z : ℕ} → a ≡ Cut n w z → Bits n w z
  head-bits y =
      let m : 3 - (3 - g) ≡ g = omega (arith, kept-got k e) in
      let n : suc (3 - g) ≡ 4 - g = omega (arith, kept-got k e) in
      heads-bits (3 - g) v part s (omega arith) (rw m (kept-bits k e)) (rw n (x ∙ ap (ahead_in s) y))

  pub head-cut : {n w z : ℕ} → a ≡ Cut n w z → TookIn (mode_of r store) s s (record { run = Head n w z; next = length s }) store
  head-cut y = cut_took s (λ p. by_answer p ∙ rw y) (head-bits y) (kept-head k e)

  -- it is whole
  pub head-part : {h z n : ℕ} → a ≡ Whole h z n → z ≤ 5
  head-part y =
      heads-part (4 - g) v part s (omega arith) (omega (arith, (kept-bits k e).counted, kept-got k e)) (x ∙ ap (ahead_in s) y)

  pub head-whole :
      {h z n : ℕ} {t : Taken} {after : List ℕ} → a ≡ Whole h z n → TookIn (body h z []) (drop n s) s t after
      → TookIn (mode_of r store) s s t after
  head-whole y z = on_took (λ p. by_answer p ∙ rw y) z

-- a block begins
pub begun_body :
    {h part : ℕ} {store : List ℕ} → h < 2 ^ 16 → part ≤ 5 → store ≡ zeroed [] → Holds (body h part []) (Body h part 0) store
begun_body f p e = record { good = (f, p, omega arith); run = refl; kept = e }
