-- Noise only loses, up to the pointed byte: the running block along what arrives is the one along what stands for it, or, where loss is
-- allowed, has been dropped. Assumes nothing.
use mathlib.Core.Path.{◌≡◌, refl, sym, subst}
use mathlib.Core.Bool.{Bool, true, false}
use mathlib.Core.Logic.{◌⊎◌, ⊎_elim}
use mathlib.Core.List.{List, [], ◌∷◌, ◌++◌, map, append_assoc, append-nil}
use Prim.Native.Nat.{ℕ, suc, ◌+◌, ◌<◌}
use native.Mathlib.Omega.{arith}
use lib.Dec.{ltb, lit<}
use lib.ListN.{length}
use Rattle.laws.specs.Each.{Each, nil, and}
use Rattle.laws.specs.Pick.{pick}
use Rattle.octet.specs.Image.{image}
use Rattle.octet.specs.Decoding.{nib, undecodable}
use Rattle.octet.specs.Hearing.{harm}
use Rattle.blocks.specs.Block.{Block}
use Rattle.symbols.specs.Stream.{Symbol, start, fill, bits, raw, before_start}
use Rattle.walk.specs.Mode.{Mode, off, scan, heading, body, full, block_with, step, emitted, ends, gives, behind, goes_on, continues, finished, unfinished}
use Rattle.claims.specs.Noise.{Hears, over}
use Rattle.claims.proofs.Losing.{lost-all, came_refl}
use Rattle.claims.proofs.Telling.{stands-nib, stands-heard, Told, heard, symbol_of, came_of, standing, stood, Noisy}
use Rattle.claims.proofs.Walking.{Fit, skips, opens, nibble, byte, Plain, sent_ends, sent_gives, known, Blocks}

-- the mode and the blocks so far along what stands for what arrives, beside the running block along what arrives. A block that is full
-- waits there for the pointed byte.
pub data Carried (L : Type 0) : Mode → List Block → Mode → Type 0 where
  idle : Carried L scan [] off
  heads : {g v part : ℕ} → Carried L (heading g v part) [] (heading g v part)
  bodies : {h part : ℕ} {l : List ℕ} → full h l ≡ false → Carried L (body h part l) [] (body h part l)
  waits : {h part : ℕ} {l : List ℕ} → full h l ≡ true → Carried L scan (block_with h part l ∷ []) (body h part l)
  gone : {m : Mode} {a : List Block} → L → Carried L m a off

-- between two packets
abbrev pub Between : Type 0 → Mode → Mode → Type 0
Between L m k = Carried L m [] k

-- a list with no start among its symbols begins with none, and goes on with none
no_start : (s : Symbol) (ss : List Symbol) → before_start (s ∷ ss) ≡ suc (length ss) → s ≡ start → ⊥
unfolding before_start
no_start s ss z e = go (rw e at z)
  where
    go : before_start (start ∷ ss) ≡ suc (length ss) → ⊥
    go q = omega arith

no_start-after : (s : Symbol) (ss : List Symbol) → before_start (s ∷ ss) ≡ suc (length ss) → before_start ss ≡ length ss
unfolding before_start
no_start-after start ss z = absurd (no_start start ss z refl)
no_start-after fill ss z = omega arith
no_start-after (bits n) ss z = omega arith
no_start-after (raw b) ss z = omega arith

module _ (R : ℕ → ℕ → Type 0) (L : Type 0) (hears : Hears R L) (pointed : Bool) where
  behind-fill :
      (h part c : ℕ) {l : List ℕ} → full h l ≡ true → R (image 3) c → (t : Bool)
      → Carried L scan (block_with h part l ∷ []) (behind t h part l c)
  behind-fill h part c e f false = waits e
  behind-fill h part c e f true = ⊎_elim (λ q. rw q (waits e)) (λ w. rw w.0 (gone w.1)) (hears 3 c (lit< tt) f)

  wait-fill :
      (h part c : ℕ) {l : List ℕ} → full h l ≡ true → R (image 3) c
      → Carried L (step scan (standing fill c)) (block_with h part l ∷ emitted scan (standing fill c)) (goes_on pointed (body h part l) c)
  unfolding step emitted goes_on standing
  wait-fill h part c e f = rw (stands-nib 3 c (lit< tt), e) (behind-fill h part c e f pointed)

  -- past a nibble that was heard right
  on :
      (g w p : ℕ) (t u : Bool) → full w [] ≡ u
      → Carried L
      (pick t (heading (suc g) w p) (pick u scan (body w p [])))
      (pick t [] (pick u (block_with w p [] ∷ []) []))
      (pick t (heading (suc g) w p) (body w p []))
  on g w p true u e = heads
  on g w p false true e = waits e
  on g w p false false e = bodies e

  head-right :
      (g v part n r : ℕ) → n < 16 → nib r ≡ n
      → Carried L (step (heading g v part) r) (emitted (heading g v part) r) (goes_on pointed (heading g v part) r)
  unfolding step emitted goes_on
  head-right g v part n r h e = rw (e, known n h) (on g _ (part + harm r) (ltb g 3) _ refl)

  head-lost :
      (g v part c : ℕ) {m : Mode} {a : List Block} → nib c ≡ undecodable → L → Carried L m a (goes_on pointed (heading g v part) c)
  unfolding goes_on
  head-lost g v part c e x = rw e (gone x)

  head-nibble :
      (g v part n c : ℕ) → n < 16 → R (image n) c
      → Carried L (step (heading g v part) (standing (bits n) c)) (emitted (heading g v part) (standing (bits n) c))
      (goes_on pointed (heading g v part) c)
  unfolding standing
  head-nibble g v part n c h f =
      let r = standing (bits n) c in
      ⊎_elim
      (λ (e : c ≡ r).
      subst (λ (x : ℕ). Carried L (step (heading g v part) r) (emitted (heading g v part) r) (goes_on pointed (heading g v part) x))
      (sym e) (head-right g v part n r h (stands-nib n c h)))
      (λ w. head-lost g v part c w.0 w.1)
      (stands-heard R L hears n c h f)

  body-byte :
      (h part b c : ℕ) (l : List ℕ) → full h l ≡ false
      → Carried L (step (body h part l) (standing (raw b) c)) (emitted (body h part l) (standing (raw b) c))
      (goes_on pointed (body h part l) c)
  unfolding step emitted goes_on standing
  body-byte h part b c l e = rw e (go (full h (l ++ c ∷ [])) refl)
    where
      go :
          (t : Bool) → full h (l ++ c ∷ []) ≡ t
          → Carried L
          (pick t scan (body h part (l ++ c ∷ [])))
          (pick t (block_with h part (l ++ c ∷ []) ∷ []) [])
          (body h part (l ++ c ∷ []))
      go true q = waits q
      go false q = bodies q

  idle-fill : (c : ℕ) → Carried L (step scan (standing fill c)) (emitted scan (standing fill c)) (goes_on pointed off c)
  unfolding step emitted goes_on standing
  idle-fill c = rw (stands-nib 3 c (lit< tt)) idle

  gone-on : (m : Mode) (a : List Block) (c : ℕ) → L → Carried L m a (goes_on pointed off c)
  unfolding goes_on
  gone-on m a c x = gone x

  -- one byte that is no start; `a` is what the walk has given before
  carry-follows :
      {m k : Mode} {a : List Block} (z : Told) → Fit m (symbol_of z) → (symbol_of z ≡ start → ⊥) → Noisy R z → Carried L m a k
      → Carried L (step m (stood z)) (a ++ emitted m (stood z)) (goes_on pointed k (came_of z))
  carry-follows (heard fill c) skips z f idle = idle-fill c.byte
  carry-follows (heard fill c) skips z f (waits {h} {part} e) = wait-fill h part c.byte e f
  carry-follows (heard fill c) skips z f (gone x) = gone-on _ _ c.byte x
  carry-follows (heard start c) opens z f r = absurd (z refl)
  carry-follows (heard (bits n) c) (nibble {g} {v} {part} h) z f heads = head-nibble g v part n c.byte h f
  carry-follows (heard (bits n) c) (nibble h) z f (gone x) = gone-on _ _ c.byte x
  carry-follows (heard (raw b) c) (byte {h} {part} {held = l}) z f (bodies e) = body-byte h part b c.byte l e
  carry-follows (heard (raw b) c) byte z f (gone x) = gone-on _ _ c.byte x

  -- along bytes with no start among them
  continues-from :
      {m k : Mode} (a : List Block) (zs : List Told) → Plain m zs → before_start (map symbol_of zs) ≡ length (map symbol_of zs)
      → Each (Noisy R) zs → Carried L m a k → Carried L (sent_ends m zs) (a ++ sent_gives m zs) (continues pointed k (map came_of zs))
  unfolding ends gives continues
  continues-from a [] t z nil r = rw append-nil r
  continues-from {m} a (x ∷ zs) t z (and h n) r =
      rw (← append_assoc a (emitted m (stood x)) (sent_gives (step m (stood x)) zs))
      (continues-from {m = step m (stood x)} (a ++ emitted m (stood x)) zs t.1 (no_start-after (symbol_of x) (map symbol_of zs) z) n
      (carry-follows x t.0 (no_start (symbol_of x) (map symbol_of zs) z) h r))

  pub continues-follows :
      {m k : Mode} (zs : List Told) → Plain m zs → before_start (map symbol_of zs) ≡ length (map symbol_of zs) → Each (Noisy R) zs
      → Between L m k → Carried L (sent_ends m zs) (sent_gives m zs) (continues pointed k (map came_of zs))
  continues-follows zs t z n r = continues-from [] zs t z n r

-- what goes out, and what runs on, where no start was pointed at or the pointed byte is reached
pub out_of : {L : Type 0} {m k : Mode} {a : List Block} → Carried L m a k → Blocks L a (finished k)
out_of idle = over
out_of heads = over
out_of (bodies e) = rw e over
out_of (waits e) = rw e (came_refl _)
out_of {a = a} (gone x) = lost-all x a

pub runs_on : {L : Type 0} {m k : Mode} {a : List Block} → Carried L m a k → Between L m (unfinished k)
runs_on idle = idle
runs_on heads = heads
runs_on (bodies e) = rw e (bodies e)
runs_on (waits e) = rw e idle
runs_on (gone x) = gone x
