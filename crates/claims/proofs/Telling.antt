-- A byte that arrived beside the symbol that was sent, and the byte that stands for it where the symbol is a protected one: itself where it is
-- read as the nibble that was sent, and otherwise a byte of that nibble that is mended. So a walk along such bytes never loses a block, and
-- counts in its part each byte that arrived other than it was sent. Assumes nothing.
use mathlib.Core.Path.{◌≡◌, ◌∙◌, refl, sym, ap}
use mathlib.Core.Bool.{Bool, true, false}
use mathlib.Core.Logic.{◌⊎◌, inl, inr, ⊎_elim}
use mathlib.Core.List.{List, [], ◌∷◌, ◌++◌, map}
use Prim.Native.Nat.{ℕ, zero, suc, ◌+◌, ◌%◌, ◌<◌}
use native.Mathlib.Nat.{mod-eq_of_lt}
use native.Mathlib.Omega.{arith}
use lib.Dec.{eqb, eqb→eq}
use lib.ListN.{length, drop}
use lib.Seq.{drop-nil}
use borrow.Author.Tests.{eq-eqb, ne_eqb, eqb-true, eqb-false}
use Rattle.laws.specs.Each.{Each, nil, and}
use Rattle.laws.specs.Pick.{pick, both}
use Rattle.laws.proofs.Whole.{both_left, both_right, all-at}
use Rattle.octet.specs.Bits.{differing, number}
use Rattle.octet.specs.Image.{image, with_parity}
use Rattle.octet.specs.Decoding.{nib, nibble_from, undecodable}
use Rattle.octet.specs.Hearing.{harm}
use Rattle.octet.proofs.Laws.{nib-image}
use Rattle.octet.proofs.Hearing.{harm-sent}
use Rattle.symbols.specs.Stream.{Symbol, start, fill, bits, raw, byte_of, grab}
use Rattle.claims.specs.Noise.{Hears, Near, more}
use Rattle.claims.specs.Damage.{Placed, placed, byte_in}
use Rattle.claims.proofs.Losing.{near-length}

pub eqb_turned : (a b : ℕ) → eqb a b ≡ eqb b a
eqb_turned a b = go (eqb b a) refl
  where
    go : (t : Bool) → eqb b a ≡ t → eqb a b ≡ t
    go true e = eq-eqb a b (sym (eqb-true b a e))
    go false e = ne_eqb a b (λ q. eqb-false b a e (sym q))

-- ---- a byte of a nibble that is no image

unfoldable pub bruised : ℕ → ℕ
bruised n = (image n + 128) % 256

bruised_test : ℕ → Bool
bruised_test n = both (eqb (nib (bruised n)) n) (eqb (harm (bruised n)) 1)

bruised-nib : (n : ℕ) → n < 16 → nib (bruised n) ≡ n
unfolding bruised_test bruised nib nibble_from image with_parity differing number harm
bruised-nib n h = eqb→eq _ n (both_left (eqb (nib (bruised n)) n) (eqb (harm (bruised n)) 1) (all-at bruised_test 16 tt n h))

bruised-harm : (n : ℕ) → n < 16 → harm (bruised n) ≡ 1
unfolding bruised_test bruised nib nibble_from image with_parity differing number harm
bruised-harm n h = eqb→eq _ 1 (both_right (eqb (nib (bruised n)) n) (eqb (harm (bruised n)) 1) (all-at bruised_test 16 tt n h))

-- ---- what stands for a byte c that arrived of the nibble n

unfoldable pub stands : ℕ → ℕ → ℕ
stands n c = pick (eqb (nib c) n) c (bruised n)

pub nib-sent : (n : ℕ) → n < 16 → nib (image n) ≡ n
nib-sent n h = nib-image n ∙ mod-eq_of_lt h

pub stands-nib : (n c : ℕ) → n < 16 → nib (stands n c) ≡ n
unfolding stands
stands-nib n c h = go (eqb (nib c) n) refl
  where
    go : (t : Bool) → eqb (nib c) n ≡ t → nib (pick t c (bruised n)) ≡ n
    go true e = eqb-true (nib c) n e
    go false e = bruised-nib n h

-- it is harmed where the byte differs from the one that was sent
pub stands-harm : (n c : ℕ) → n < 16 → harm (stands n c) ≡ pick (eqb (image n) c) 0 1
unfolding stands
stands-harm n c h = go (eqb (nib c) n) refl
  where
    go : (t : Bool) → eqb (nib c) n ≡ t → harm (pick t c (bruised n)) ≡ pick (eqb (image n) c) 0 1
    go true e = harm-sent n c (eqb-true (nib c) n e) ∙ rw (eqb_turned (image n) c)
    go false e =
        let z : image n ≡ c → ⊥ = λ q. eqb-false (nib c) n e (ap nib (sym q) ∙ nib-sent n h) in
        bruised-harm n h ∙ rw (ne_eqb (image n) c z)

-- with noise it is the byte itself, or that can't be decoded
pub stands-heard :
    (R : ℕ → ℕ → Type 0) (L : Type 0) → Hears R L → (n c : ℕ) → n < 16 → R (image n) c
    → (c ≡ stands n c) ⊎ ((nib c ≡ undecodable) × L)
unfolding stands
stands-heard R L hears n c h f =
    ⊎_elim (λ (e : nib c ≡ n). inl (sym (ap (λ (t : Bool). pick t c (bruised n)) (eq-eqb (nib c) n e)))) (λ w. inr w) (hears n c h f)

-- ---- a symbol and the byte that arrived of it

pub data Told : Type 0 where
  heard : Symbol → Placed → Told

abbrev pub symbol_of : Told → Symbol
symbol_of (heard s c) = s

abbrev pub came_of : Told → ℕ
came_of (heard s c) = c.byte

-- the page that it stands in
abbrev pub page_of : Told → ℕ
page_of (heard s c) = c.page

-- the byte that stands for it; a raw byte isn't read
unfoldable pub standing : Symbol → ℕ → ℕ
standing start c = stands 12 c
standing fill c = stands 3 c
standing (bits n) c = stands n c
standing (raw b) c = c

abbrev pub stood : Told → ℕ
stood (heard s c) = standing s c.byte

-- the byte that arrived is to the one that was sent as R says
abbrev pub Noisy : (ℕ → ℕ → Type 0) → Told → Type 0
Noisy R (heard s c) = R (byte_of s) c.byte

-- the symbols of a stream beside the bytes that arrived, with filler past its end
unfoldable pub told : List Symbol → List Placed → List Told
told ss [] = []
told [] (c ∷ cs) = heard fill c ∷ told [] cs
told (s ∷ ss) (c ∷ cs) = heard s c ∷ told ss cs

pub told-append : (ss : List Symbol) (xs ys : List Placed) → told ss (xs ++ ys) ≡ told ss xs ++ told (drop (length xs) ss) ys
unfolding told
told-append ss [] ys = refl
told-append [] (x ∷ xs) ys = ap (λ (l : List Told). heard fill x ∷ l) (told-append [] xs ys ∙ rw (drop-nil (length xs)))
told-append (s ∷ ss) (x ∷ xs) ys = ap (λ (l : List Told). heard s x ∷ l) (told-append ss xs ys)

pub told_came : (ss : List Symbol) (cs : List Placed) → map came_of (told ss cs) ≡ map byte_in cs
unfolding told
told_came ss [] = refl
told_came [] (c ∷ cs) = ap (λ (l : List ℕ). c.byte ∷ l) (told_came [] cs)
told_came (s ∷ ss) (c ∷ cs) = ap (λ (l : List ℕ). c.byte ∷ l) (told_came ss cs)

pub told-symbols : (ss : List Symbol) (cs : List Placed) → map symbol_of (told ss cs) ≡ grab (length cs) ss
unfolding told grab
told-symbols ss [] = refl
told-symbols [] (c ∷ cs) = ap (λ (l : List Symbol). fill ∷ l) (told-symbols [] cs)
told-symbols (s ∷ ss) (c ∷ cs) = ap (λ (l : List Symbol). s ∷ l) (told-symbols ss cs)

pub told_noisy :
    {R : ℕ → ℕ → Type 0} (n : ℕ) (ss : List Symbol) (cs : List Placed) → Near R (map byte_of (grab n ss)) (map byte_in cs) → Each (Noisy R) (told ss cs)
unfolding told grab
told_noisy n ss [] r = nil
told_noisy zero ss (c ∷ cs) r = absurd (omega (arith, near-length r))
told_noisy (suc n) [] (c ∷ cs) (more h r) = and h (told_noisy n [] cs r)
told_noisy (suc n) (s ∷ ss) (c ∷ cs) (more h r) = and h (told_noisy n ss cs r)

pub bytes_placed : (x : ℕ) (l : List ℕ) → map byte_in (map (placed x) l) ≡ l
bytes_placed x [] = refl
bytes_placed x (c ∷ cs) = ap (λ (l : List ℕ). c ∷ l) (bytes_placed x cs)

-- they stand in the pages that the bytes do
pub told_paged : (x : ℕ) (ss : List Symbol) (l : List ℕ) → Each (λ z. page_of z ≡ x) (told ss (map (placed x) l))
unfolding told
told_paged x ss [] = nil
told_paged x [] (c ∷ cs) = and refl (told_paged x [] cs)
told_paged x (s ∷ ss) (c ∷ cs) = and refl (told_paged x ss cs)
