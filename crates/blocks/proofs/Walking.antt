-- A list of records, walked from record to record: whether it is whole, and its blocks, go on with what follows its first
-- record. The number that bounds the walk doesn't count, as each record takes at least its head. Assumes nothing.
use mathlib.Core.Path.{◌≡◌, ◌∙◌, refl, ap}
use mathlib.Core.Bool.{Bool, true, false}
use mathlib.Core.List.{List, [], ◌∷◌}
use Prim.Native.Nat.{ℕ, zero, suc, ◌+◌, ◌<◌, ◌≤◌}
use native.Mathlib.Nat.{le_refl}
use native.Mathlib.Omega.{arith}
use lib.Dec.{leb, eqb}
use lib.ListN.{length, drop, length-drop}
use lib.Seq.{drop-drop}
use borrow.Author.Tests.{eq-eqb, ne_eqb, lt-leb, leb-true, eqb-true, eqb-false}
use Rattle.laws.proofs.Tests.{both_first, both-second}
use Rattle.laws.specs.Pick.{pick, both, either}
use Rattle.blocks.specs.declared.Found.TheVariants.{End, Record, Broken}
use Rattle.blocks.specs.Place.{found_at}
use Rattle.blocks.specs.Block.{Block, head_length, head_of, record_length, begins, block_of, whole_within, whole, blocks_within, blocks}

-- a whole record has its head, and its bytes are there
pub begins-head : (l : List ℕ) → begins l ≡ true → head_length ≤ length l
begins-head l e = leb-true head_length (length l) (both_first (leb head_length (length l)) (leb (record_length l) (length l)) e)

pub begins-fits : (l : List ℕ) → begins l ≡ true → record_length l ≤ length l
begins-fits l e = leb-true (record_length l) (length l) (both-second (leb head_length (length l)) (leb (record_length l) (length l)) e)

pub begins_not : (l : List ℕ) → length l < head_length → begins l ≡ false
begins_not l h = rw (lt-leb head_length (length l) h)

-- what follows the first record is shorter
follows_short : (l : List ℕ) (f : ℕ) → length l ≤ suc f → length (drop (record_length l) l) ≤ f
follows_short l f h = omega (arith, length-drop (record_length l) l)

whole_fuel : (f g : ℕ) (l : List ℕ) → length l ≤ f → length l ≤ g → whole_within f l ≡ whole_within g l
unfolding whole_within
whole_fuel zero zero l hf hg = refl
whole_fuel zero (suc g) l hf hg = let e : length l ≡ 0 = omega arith in rw (eq-eqb (length l) 0 e)
whole_fuel (suc f) zero l hf hg = let e : length l ≡ 0 = omega arith in rw (eq-eqb (length l) 0 e)
whole_fuel (suc f) (suc g) l hf hg =
    ap (λ (w : Bool). either (eqb (length l) 0) (both (begins l) w))
    (whole_fuel f g (drop (record_length l) l) (follows_short l f hf) (follows_short l g hg))

blocks_fuel : (f g : ℕ) (l : List ℕ) → length l ≤ f → length l ≤ g → blocks_within f l ≡ blocks_within g l
unfolding blocks_within
blocks_fuel zero zero l hf hg = refl
blocks_fuel zero (suc g) l hf hg = let e : length l < head_length = omega arith in rw (begins_not l e)
blocks_fuel (suc f) zero l hf hg = let e : length l < head_length = omega arith in rw (begins_not l e)
blocks_fuel (suc f) (suc g) l hf hg =
    ap (λ (bs : List Block). pick (begins l) (block_of l ∷ bs) [])
    (blocks_fuel f g (drop (record_length l) l) (follows_short l f hf) (follows_short l g hg))

-- ---- whole, and blocks, by the first record

pub whole_end_lem : (l : List ℕ) → length l ≡ 0 → whole l ≡ true
unfolding whole_within
whole_end_lem l e = rw e (eq-eqb (length l) 0 e)

pub whole-step : (l : List ℕ) → begins l ≡ true → whole l ≡ whole (drop (record_length l) l)
unfolding whole_within
whole-step l b =
    let n : length l ≡ 0 → ⊥ = λ e. omega (arith, begins-head l b) in
    whole_fuel (length l) (suc (length l)) l (le_refl (length l)) (omega arith)
    ∙ rw (ne_eqb (length l) 0 n, b)
    (whole_fuel (length l) (length (drop (record_length l) l)) (drop (record_length l) l) (omega (arith, length-drop (record_length l) l)) (le_refl _))

pub whole_not : (l : List ℕ) → (length l ≡ 0 → ⊥) → begins l ≡ false → whole l ≡ false
unfolding whole_within
whole_not l n b =
    whole_fuel (length l) (suc (length l)) l (le_refl (length l)) (omega arith) ∙ rw (ne_eqb (length l) 0 n, b)

pub blocks_step : (l : List ℕ) → begins l ≡ true → blocks l ≡ block_of l ∷ blocks (drop (record_length l) l)
unfolding blocks_within
blocks_step l b =
    blocks_fuel (length l) (suc (length l)) l (le_refl (length l)) (omega arith)
    ∙ rw b
    (ap (λ (bs : List Block). block_of l ∷ bs)
    (blocks_fuel (length l) (length (drop (record_length l) l)) (drop (record_length l) l) (omega (arith, length-drop (record_length l) l)) (le_refl _)))

pub blocks_not : (l : List ℕ) → begins l ≡ false → blocks l ≡ []
unfolding blocks_within
blocks_not l b = blocks_fuel (length l) (suc (length l)) l (le_refl (length l)) (omega arith) ∙ rw b

-- ---- by place, from what was found there

-- a whole record stands at p: its 16 bits, the place of its raw bytes, the place after it
pub record Standing (l : List ℕ) (p head raw next : ℕ) : Type 0 where
  pub whole_there : begins (drop p l) ≡ true
  pub its_head : head ≡ head_of (drop p l)
  pub its_raw : raw ≡ p + head_length
  pub its_next : next ≡ p + record_length (drop p l)
  pub within : next ≤ length l

pub standing : (l : List ℕ) (p head raw next : ℕ) → found_at l p ≡ Record head raw next → Standing l p head raw next
unfolding found_at
standing l p head raw next e = go (eqb p (length l)) refl (begins (drop p l)) refl
  where
    go : (a : Bool) → eqb p (length l) ≡ a → (b : Bool) → begins (drop p l) ≡ b → Standing l p head raw next
    go true ea b eb = let z : ◌≡◌ {A = ℕ} 0 1 = cc in absurd (omega arith)
    go false ea false eb = let z : ◌≡◌ {A = ℕ} 0 1 = cc in absurd (omega arith)
    go false ea true eb =
        let at_next : next ≡ p + record_length (drop p l) = cc in
        record {
          whole_there = eb;
          its_head = cc;
          its_raw = cc;
          its_next = at_next;
          within = omega (arith, begins-head (drop p l) eb, begins-fits (drop p l) eb, length-drop p l);
        }

pub ended : (l : List ℕ) (p : ℕ) → found_at l p ≡ End → p ≡ length l
unfolding found_at
ended l p e = go (eqb p (length l)) refl (begins (drop p l)) refl
  where
    go : (a : Bool) → eqb p (length l) ≡ a → (b : Bool) → begins (drop p l) ≡ b → p ≡ length l
    go true ea b eb = eqb-true p (length l) ea
    go false ea false eb = let z : ◌≡◌ {A = ℕ} 0 1 = cc in absurd (omega arith)
    go false ea true eb = let z : ◌≡◌ {A = ℕ} 0 1 = cc in absurd (omega arith)

pub broken : (l : List ℕ) (p : ℕ) → found_at l p ≡ Broken → (p ≡ length l → ⊥) × (begins (drop p l) ≡ false)
unfolding found_at
broken l p e = go (eqb p (length l)) refl (begins (drop p l)) refl
  where
    go :
        (a : Bool) → eqb p (length l) ≡ a → (b : Bool) → begins (drop p l) ≡ b
        → (p ≡ length l → ⊥) × (begins (drop p l) ≡ false)
    go true ea b eb = let z : ◌≡◌ {A = ℕ} 0 1 = cc in absurd (omega arith)
    go false ea false eb = (eqb-false p (length l) ea, eb)
    go false ea true eb = let z : ◌≡◌ {A = ℕ} 0 1 = cc in absurd (omega arith)

-- the walk goes on at the next record
pub whole-at : {l : List ℕ} {p head raw next : ℕ} → Standing l p head raw next → whole (drop p l) ≡ whole (drop next l)
whole-at {l} {p} s = whole-step (drop p l) s.whole_there ∙ rw (drop-drop (record_length (drop p l)) p l, ← s.its_next)

pub blocks_at :
    {l : List ℕ} {p head raw next : ℕ} → Standing l p head raw next
    → blocks (drop p l) ≡ block_of (drop p l) ∷ blocks (drop next l)
blocks_at {l} {p} s =
    blocks_step (drop p l) s.whole_there ∙ rw (drop-drop (record_length (drop p l)) p l, ← s.its_next)
