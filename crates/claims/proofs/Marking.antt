-- The walk along what stands for the bytes that arrive, with the page that each of them stands in: a block that it gives has second byte 1
-- where it began in another page than the one in which it ends. In a packet, which is of one page, that can only be the block that ran before.
-- Assumes nothing.
use mathlib.Core.Path.{◌≡◌, ◌∙◌, refl, sym, ap}
use mathlib.Core.Bool.{Bool, true, false, not}
use mathlib.Core.List.{List, [], ◌∷◌, ◌++◌, map, map-append, append_assoc}
use Prim.Native.Nat.{ℕ, suc, ◌+◌, ◌≤◌}
use native.Mathlib.Omega.{arith}
use lib.Dec.{eqb, ltb}
use lib.ListN.{length}
use borrow.Author.Tests.{eq-eqb}
use Rattle.laws.specs.Each.{Each, nil, and}
use Rattle.laws.specs.Pick.{pick}
use Rattle.octet.specs.Decoding.{nib, undecodable}
use Rattle.octet.specs.Hearing.{harm}
use Rattle.blocks.specs.Block.{Block}
use Rattle.symbols.specs.Stream.{Symbol, start, fill, bits, raw, before_start}
use Rattle.walk.specs.Mode.{Mode, off, scan, heading, body, running, shifted, full, block_with, step, emitted, ends, gives}
use Rattle.walk.specs.Reading.{spanning}
use Rattle.state.proofs.Clearing.{untrue}
use Rattle.claims.specs.Damage.{Placed}
use Rattle.claims.proofs.Telling.{Told, heard, symbol_of, page_of, stood}
use Rattle.claims.proofs.Walking.{Fit, skips, opens, nibble, byte, Plain, sent_ends, sent_gives, step-fill}

-- a block that begins in page p and ends in page x
abbrev pub marked : ℕ → ℕ → Block → Block
marked p x b = spanning (not (eqb p x)) b

-- the page in which the last block began, once this byte has come
abbrev pub turned : ℕ → Told → ℕ
turned p (heard start c) = c.page
turned p (heard fill c) = p
turned p (heard (bits n) c) = p
turned p (heard (raw b) c) = p

unfoldable pub sent_first : ℕ → List Told → ℕ
sent_first p [] = p
sent_first p (z ∷ zs) = sent_first (turned p z) zs

-- the blocks that the walk gives, from a mode in which the last block began in page p
unfoldable pub sent_out : Mode → ℕ → List Told → List Block
sent_out m p [] = []
sent_out m p (z ∷ zs) = map (marked p (page_of z)) (emitted m (stood z)) ++ sent_out (step m (stood z)) (turned p z) zs

pub first-append : (p : ℕ) (xs ys : List Told) → sent_first p (xs ++ ys) ≡ sent_first (sent_first p xs) ys
unfolding sent_first
first-append p [] ys = refl
first-append p (x ∷ xs) ys = first-append (turned p x) xs ys

pub out_append :
    (m : Mode) (p : ℕ) (xs ys : List Told) → sent_out m p (xs ++ ys) ≡ sent_out m p xs ++ sent_out (sent_ends m xs) (sent_first p xs) ys
unfolding sent_out sent_first ends
out_append m p [] ys = refl
out_append m p (x ∷ xs) ys = rw (out_append (step m (stood x)) (turned p x) xs ys, append_assoc)

-- ---- bytes of one page

abbrev pub InPage : ℕ → Told → Type 0
InPage x z = page_of z ≡ x

-- no later than it the last block began
turned_le : (p x : ℕ) (z : Told) → InPage x z → p ≤ x → turned p z ≤ x
turned_le p x (heard start c) e h = omega (arith, e)
turned_le p x (heard fill c) e h = h
turned_le p x (heard (bits n) c) e h = h
turned_le p x (heard (raw b) c) e h = h

pub first_le : (x p : ℕ) {zs : List Told} → Each (InPage x) zs → p ≤ x → sent_first p zs ≤ x
unfolding sent_first
first_le x p nil h = h
first_le x p (and {a = z} e r) h = first_le x (turned p z) r (turned_le p x z e h)

module _ (x : ℕ) where
  -- with no start among them
  pub record Before (m : Mode) (p : ℕ) (zs : List Told) : Type 0 where
    pub out : sent_out m p zs ≡ map (marked p x) (sent_gives m zs)
    pub first : sent_first p zs ≡ p

  before_more :
      (m : Mode) (p : ℕ) (z : Told) (zs : List Told) → InPage x z → turned p z ≡ p → Before (step m (stood z)) p zs → Before m p (z ∷ zs)
  unfolding sent_out sent_first gives
  before_more m p z zs e t r =
      record {
        out =
            rw (e, t, r.out)
            (sym (map-append (marked p x) (emitted m (stood z)) (sent_gives (step m (stood z)) zs)));
        first = rw t r.first;
      }

  pub before-out :
      (m : Mode) (p : ℕ) {zs : List Told} → Each (InPage x) zs → before_start (map symbol_of zs) ≡ length (map symbol_of zs) → Before m p zs
  unfolding before_start sent_out sent_first gives
  before-out m p nil h = record { out = refl; first = refl }
  before-out m p (and {a = heard start c} e r) h = absurd (omega arith)
  before-out m p (and {a = heard fill c} {l = zs} e r) h = before_more m p (heard fill c) zs e refl (before-out (step m (stood (heard fill c))) p r (omega arith))
  before-out m p (and {a = heard (bits n) c} {l = zs} e r) h = before_more m p (heard (bits n) c) zs e refl (before-out (step m (stood (heard (bits n) c))) p r (omega arith))
  before-out m p (and {a = heard (raw b) c} {l = zs} e r) h = before_more m p (heard (raw b) c) zs e refl (before-out (step m (stood (heard (raw b) c))) p r (omega arith))

-- a block that ends in the page in which it began has second byte 0
one-page : (m : Mode) (b : ℕ) → map (spanning false) (emitted m b) ≡ emitted m b
unfolding emitted
one-page off b = refl
one-page scan b = refl
one-page (heading g v part) b = go (eqb (nib b) undecodable) (ltb g 3) (full (shifted v b) [])
  where
    go :
        (t u w : Bool)
        → map (spanning false) (pick t [] (pick u [] (pick w (block_with (shifted v b) (part + harm b) [] ∷ []) [])))
        ≡ pick t [] (pick u [] (pick w (block_with (shifted v b) (part + harm b) [] ∷ []) []))
    go true u w = refl
    go false true w = refl
    go false false true = refl
    go false false false = refl
one-page (body h part held) b = go (full h (held ++ b ∷ []))
  where
    go :
        (t : Bool)
        → map (spanning false) (pick t (block_with h part (held ++ b ∷ []) ∷ []) []) ≡ pick t (block_with h part (held ++ b ∷ []) ∷ []) []
    go true = refl
    go false = refl

-- from where no block runs, or one that began in the page
pub record Here (x : ℕ) (m : Mode) (p : ℕ) (zs : List Told) : Type 0 where
  pub out : sent_out m p zs ≡ sent_gives m zs
  pub first : running (sent_ends m zs) ≡ true → sent_first p zs ≡ x

module _ (x : ℕ) where
  here-more :
      (m : Mode) (p : ℕ) (z : Told) (zs : List Told) → map (marked p (page_of z)) (emitted m (stood z)) ≡ emitted m (stood z)
      → Here x (step m (stood z)) (turned p z) zs → Here x m p (z ∷ zs)
  unfolding sent_out sent_first gives ends
  here-more m p z zs e r = record { out = rw (e, r.out); first = r.first }

  -- what a running block gives
  here-runs : (m : Mode) (p : ℕ) (z : Told) → InPage x z → p ≡ x → map (marked p (page_of z)) (emitted m (stood z)) ≡ emitted m (stood z)
  here-runs m p z e q =
      ap (λ (y : ℕ). map (marked p y) (emitted m (stood z))) e
      ∙ ap (λ (y : ℕ). map (marked y x) (emitted m (stood z))) q
      ∙ ap (λ (t : Bool). map (spanning (not t)) (emitted m (stood z))) (eq-eqb x x refl)
      ∙ one-page m (stood z)

  -- one byte, and what is known of those after it
  here_on :
      {m : Mode} (p : ℕ) (z : Told) (zs : List Told) → InPage x z → Fit m (symbol_of z) → Plain (step m (stood z)) zs → (running m ≡ true → p ≡ x)
      → ((m : Mode) (p : ℕ) → Plain m zs → (running m ≡ true → p ≡ x) → Here x m p zs) → Here x m p (z ∷ zs)
  unfolding emitted
  here_on p (heard fill c) zs e skips t q rest =
      here-more scan p (heard fill c) zs refl (rest _ p t (λ w. untrue (sym (ap running (step-fill c.byte)) ∙ w)))
  here_on p (heard start c) zs e opens t q rest = here-more scan p (heard start c) zs refl (rest _ c.page t (λ w. e))
  here_on {m} p (heard (bits n) c) zs e (nibble h) t q rest =
      here-more m p (heard (bits n) c) zs (here-runs m p (heard (bits n) c) e (q refl)) (rest _ p t (λ w. q refl))
  here_on {m} p (heard (raw b) c) zs e byte t q rest =
      here-more m p (heard (raw b) c) zs (here-runs m p (heard (raw b) c) e (q refl)) (rest _ p t (λ w. q refl))

  pub from-here : (m : Mode) (p : ℕ) {zs : List Told} → Each (InPage x) zs → Plain m zs → (running m ≡ true → p ≡ x) → Here x m p zs
  unfolding sent_out sent_first gives ends
  from-here m p nil t q = record { out = refl; first = q }
  from-here m p (and {a = z} {l = zs} e r) t q = here_on p z zs e t.0 t.1 q (λ m' p' u w. from-here m' p' r u w)

-- ---- how far the walk is

-- its mode, the page in which the last block began, and the page that it is in
pub record Spot : Type 0 where
  pub mode : Mode
  pub first : ℕ
  pub page : ℕ

-- further on in that page
abbrev pub moved : Spot → List Told → Spot
moved m zs = record { mode = sent_ends m.mode zs; first = sent_first m.first zs; page = m.page }

-- in the next
abbrev pub leafed : Spot → Spot
leafed m = record { mode = m.mode; first = m.first; page = suc m.page }
