-- Noise only loses, within a packet: the reader along bytes that arrive does what it does along the bytes that stand for them, or, where
-- loss is allowed, has dropped. The walk along those meets a symbol that fits its mode at each byte, so wherever a nibble is read it is
-- the one that was sent. Assumes nothing.
use mathlib.Core.Path.{◌≡◌, ◌∙◌, refl, sym, subst}
use mathlib.Core.Bool.{Bool, true, false}
use mathlib.Core.Logic.{⊎_elim}
use mathlib.Core.List.{List, [], ◌∷◌, ◌++◌, map}
use Prim.Native.Nat.{ℕ, suc, ◌+◌, ◌<◌}
use native.Mathlib.Omega.{arith}
use lib.Dec.{eqb, ltb, lit<}
use borrow.Author.Tests.{ne_eqb}
use Rattle.laws.specs.Each.{Each, nil, and}
use Rattle.laws.specs.Pick.{pick}
use Rattle.octet.specs.Image.{image}
use Rattle.octet.specs.Decoding.{nib, undecodable}
use Rattle.octet.specs.Hearing.{harm}
use Rattle.blocks.specs.Block.{Block}
use Rattle.symbols.specs.Stream.{Symbol, start, fill, bits, raw}
use Rattle.walk.specs.Mode.{Mode, off, scan, heading, body, full, step, emitted, ends, gives}
use Rattle.claims.specs.Noise.{Hears, Came, over}
use Rattle.claims.proofs.Losing.{lost-all, came_refl, came-append}
use Rattle.claims.proofs.Telling.{stands, stands-nib, stands-heard, Told, heard, symbol_of, came_of, standing, stood, Noisy}

-- ---- what the modes do along what stands for what arrives

-- the symbol is one that the mode expects
pub data Fit : Mode → Symbol → Type 0 where
  skips : Fit scan fill
  opens : Fit scan start
  nibble : {g v part n : ℕ} → n < 16 → Fit (heading g v part) (bits n)
  byte : {h part b : ℕ} {held : List ℕ} → Fit (body h part held) (raw b)

-- each symbol fits the mode that it meets
abbrev pub Plain : Mode → List Told → Type 0
Plain m [] = Unit {0}
Plain m (z ∷ zs) = Fit m (symbol_of z) × Plain (step m (stood z)) zs

abbrev pub sent_ends : Mode → List Told → Mode
sent_ends m zs = ends m (map stood zs)

abbrev pub sent_gives : Mode → List Told → List Block
sent_gives m zs = gives m (map stood zs)

pub known : (n : ℕ) → n < 16 → eqb n undecodable ≡ false
known n h = ne_eqb n undecodable (λ e. omega arith)

-- ---- the same along what arrives

-- a mode that goes on: a body isn't full
abbrev pub Runs : Mode → Type 0
Runs off = ⊥
Runs scan = Unit {0}
Runs (heading g v part) = Unit {0}
Runs (body h part l) = full h l ≡ false

-- the mode along what arrives, beside the mode along what stands for it; L allows loss
pub data Sim (L : Type 0) : Mode → Mode → Type 0 where
  same : {m : Mode} → Runs m → Sim L m m
  gone : {m : Mode} → L → Sim L m off

abbrev pub Blocks : Type 0 → List Block → List Block → Type 0
Blocks L = Came L ◌≡◌

-- where a walk is and what it has given, beside the one along what stands for its bytes
pub record Follows (L : Type 0) (m : Mode) (a : List Block) (k : Mode) (b : List Block) : Type 0 where
  pub mode : Sim L m k
  pub blocks : Blocks L a b

-- ---- a byte that stands for what was sent

pub step-fill : (c : ℕ) → step scan (standing fill c) ≡ scan
unfolding step standing
step-fill c = rw (stands-nib 3 c (lit< tt))

pub step_start : (c : ℕ) → step scan (standing start c) ≡ heading 0 0 (harm (standing start c))
unfolding step standing
step_start c = rw (stands-nib 12 c (lit< tt))

head-runs : (g v part : ℕ) (t : Bool) → Runs (pick t (heading (suc g) v part) (pick (full v []) scan (body v part [])))
head-runs g v part true = tt
head-runs g v part false = go (full v []) refl
  where
    go : (u : Bool) → full v [] ≡ u → Runs (pick u scan (body v part []))
    go true e = tt
    go false e = e

body_runs : (h part : ℕ) (l : List ℕ) (t : Bool) → full h l ≡ t → Runs (pick t scan (body h part l))
body_runs h part l true e = tt
body_runs h part l false e = e

runs-nibble : (g v part n c : ℕ) → n < 16 → Runs (step (heading g v part) (standing (bits n) c))
unfolding step standing
runs-nibble g v part n c h = rw (stands-nib n c h, known n h) (head-runs g _ _ (ltb g 3))

runs-byte : (h part b c : ℕ) (held : List ℕ) → Runs (step (body h part held) (standing (raw b) c))
unfolding step standing
runs-byte h part b c held = body_runs h part (held ++ c ∷ []) (full h (held ++ c ∷ [])) refl

step-runs : {m : Mode} {s : Symbol} (c : ℕ) → Fit m s → Runs (step m (standing s c))
step-runs c skips = rw (step-fill c) tt
step-runs c opens = rw (step_start c) tt
step-runs c (nibble {g} {v} {part} {n} h) = runs-nibble g v part n c h
step-runs c (byte {h} {part} {b} {held}) = runs-byte h part b c held

module _ (R : ℕ → ℕ → Type 0) (L : Type 0) (hears : Hears R L) where
  dropped-here : {m : Mode} (a : List Block) → L → Follows L m a off []
  dropped-here a x = record { mode = gone x; blocks = lost-all x a }

  -- the very byte
  stays :
      (m : Mode) (r c : ℕ) → c ≡ r → Runs (step m r) → Follows L (step m r) (emitted m r) (step m c) (emitted m c)
  stays m r c e h =
      subst (λ (x : ℕ). Follows L (step m r) (emitted m r) (step m x) (emitted m x)) (sym e)
      (record { mode = same h; blocks = came_refl (emitted m r) })

  -- one that can't be decoded
  breaks-scan : (c : ℕ) {m : Mode} (a : List Block) → nib c ≡ undecodable → L → Follows L m a (step scan c) (emitted scan c)
  unfolding step emitted
  breaks-scan c a e x = rw e (dropped-here a x)

  breaks-head :
      (g v part c : ℕ) {m : Mode} (a : List Block) → nib c ≡ undecodable → L
      → Follows L m a (step (heading g v part) c) (emitted (heading g v part) c)
  unfolding step emitted
  breaks-head g v part c a e x = rw e (dropped-here a x)

  gone-step : (m : Mode) (a : List Block) (c : ℕ) → L → Follows L m a (step off c) (emitted off c)
  unfolding step emitted
  gone-step m a c x = dropped-here a x

  scan-follows :
      (s : Symbol) (n c : ℕ) → n < 16 → Fit scan s → standing s c ≡ stands n c → R (image n) c
      → Follows L (step scan (standing s c)) (emitted scan (standing s c)) (step scan c) (emitted scan c)
  scan-follows s n c h f q r =
      ⊎_elim (λ (e : c ≡ stands n c). stays scan (standing s c) c (e ∙ sym q) (step-runs c f)) (λ w. breaks-scan c _ w.0 w.1)
      (stands-heard R L hears n c h r)

  head-follows :
      (g v part n c : ℕ) → n < 16 → R (image n) c
      → Follows L (step (heading g v part) (standing (bits n) c)) (emitted (heading g v part) (standing (bits n) c))
      (step (heading g v part) c) (emitted (heading g v part) c)
  unfolding standing
  head-follows g v part n c h r =
      ⊎_elim (λ (e : c ≡ stands n c). stays (heading g v part) _ c e (step-runs c (nibble h))) (λ w. breaks-head g v part c _ w.0 w.1)
      (stands-heard R L hears n c h r)

  byte-follows :
      (h part b c : ℕ) (held : List ℕ)
      → Follows L (step (body h part held) (standing (raw b) c)) (emitted (body h part held) (standing (raw b) c))
      (step (body h part held) c) (emitted (body h part held) c)
  unfolding standing
  byte-follows h part b c held = stays (body h part held) c c refl (step-runs c (byte {b = b}))

  is-fill : (c : ℕ) → standing fill c ≡ stands 3 c
  unfolding standing
  is-fill c = refl

  is-start : (c : ℕ) → standing start c ≡ stands 12 c
  unfolding standing
  is-start c = refl

  step_follows :
      {m k : Mode} (z : Told) → Fit m (symbol_of z) → Noisy R z → Sim L m k
      → Follows L (step m (stood z)) (emitted m (stood z)) (step k (came_of z)) (emitted k (came_of z))
  step_follows z f n (gone x) = gone-step _ _ (came_of z) x
  step_follows (heard fill c) skips n (same r) = scan-follows fill 3 c.byte (lit< tt) skips (is-fill c.byte) n
  step_follows (heard start c) opens n (same r) = scan-follows start 12 c.byte (lit< tt) opens (is-start c.byte) n
  step_follows (heard (bits x) c) (nibble {g} {v} {part} h) n (same r) = head-follows g v part x c.byte h n
  step_follows (heard (raw b) c) (byte {h} {part} {held = held}) n (same r) = byte-follows h part b c.byte held

  -- along any bytes
  pub flow-follows :
      {m k : Mode} (zs : List Told) → Plain m zs → Each (Noisy R) zs → Sim L m k
      → Follows L (sent_ends m zs) (sent_gives m zs) (ends k (map came_of zs)) (gives k (map came_of zs))
  unfolding ends gives
  flow-follows [] t nil r = record { mode = r; blocks = over }
  flow-follows {m = m} {k = k} (z ∷ zs) t (and h n) r =
      let one = step_follows z t.0 h r in
      let rest = flow-follows {m = step m (stood z)} zs t.1 n one.mode in
      record { mode = rest.mode; blocks = came-append one.blocks rest.blocks }
