-- Whatever the words, the value of an option is its usual one or within its bounds. Assumes nothing.
use mathlib.Core.Path.{◌≡◌, subst, refl}
use mathlib.Core.Bool.{Bool, true, false}
use mathlib.Core.List.{List, [], ◌∷◌}
use Prim.Native.Nat.{ℕ, ◌+◌, ◌*◌, ◌/◌, ◌≤◌, ◌<◌}
use native.Mathlib.Omega.{arith}
use borrow.Author.Tests.{leb-true, ltb-true, lt-ltb, eqb-true, eqb-false}
use lib.Dec.{eqb, leb, ltb}
use lib.ListN.{length, get_or, set, length-set, get_or-replicate}
use lib.Seq.{get_or-set_same, get_or-set_other}
use Rattle.laws.specs.Pick.{pick, both}
use Rattle.laws.proofs.Tests.{both_true}
use Rattle.words.specs.declared.Said.{Said}
use Rattle.words.specs.declared.places.Spot.{Spot}
use Rattle.words.specs.declared.Stage.{Stage}
use Rattle.words.specs.declared.Stage.TheVariants.{Task, Options, Value, Names, AllNames, Bad}
use Rattle.texts.specs.Texts.{same_text, stands_in}
use Rattle.words.specs.Rows.{before, up_to, behind, letters_at, places_at, row_of}
use Rattle.words.specs.Numbers.{decimal_of, hex_pair_of}
use Rattle.words.specs.Places.{after, fits}
use Rattle.words.specs.Options.{least_of, greatest_of, usual_of, form_of, option_of, no_value, flag, hex_pair, pair, comma, is_in, kept, put_one, put_two, said_by}
use Rattle.words.specs.Words.{start_said, dash, is_name, letter_now, chosen, named, heard_last, heard_letter, heard_option, heard, heard_all, spoken, value_at, second_at}

-- a number that is kept for option k: none was said, or one within its bounds
pub data Kept (o : List ℕ) (k v : ℕ) : Type 0 where
  none : v ≡ no_value → Kept o k v
  one : least_of o k ≤ v → v ≤ greatest_of o k → Kept o k v

-- the value of option k: its usual one, or one within its bounds
pub data Ranged (o : List ℕ) (k v : ℕ) : Type 0 where
  usual : v ≡ usual_of o k → Ranged o k v
  said : least_of o k ≤ v → v ≤ greatest_of o k → Ranged o k v

-- sixteen numbers, two for each option: those of option k stand at 2 k and 2 k + 1
pub record Numbers (o vs : List ℕ) : Type 0 where
  pub long : length vs ≡ 16
  pub each : (i : ℕ) → i < 16 → Kept o (i / 2) (get_or vs i 0)

-- every number that was said is within its option's bounds
pub record Within (o : List ℕ) (s : Said) : Type 0 where
  pub numbers : Numbers o s.values

pub start-within : (o t : List ℕ) → Within o (start_said t)
unfolding start_said
start-within o t = record { numbers = record { long = refl; each = λ i h. none (get_or-replicate 16 i no_value 0 h) } }

module _ (o : List ℕ) where
  set-within : (vs : List ℕ) (i n : ℕ) → i < 16 → Kept o (i / 2) n → Numbers o vs → Numbers o (set vs i n)
  set-within vs i n h new w = record { long = simp length-set w.long; each = λ j g. at j g (eqb j i) refl }
    where
      at : (j : ℕ) → j < 16 → (t : Bool) → eqb j i ≡ t → Kept o (j / 2) (get_or (set vs i n) j 0)
      at j g true e =
          let there : i < length vs = omega (arith, w.long) in
          rw (eqb-true j i e, get_or-set_same vs i n 0 there) new
      at j g false e = rw (get_or-set_other vs i j n 0 (eqb-false j i e)) (w.each j g)

  module _ (s : Said) (k n m : ℕ) (few : k < 8) (w : Within o s) where
    pub kept-within : Kept o k n → Kept o k m → Within o (kept s k n m)
    kept-within first second =
        let e : 2 * k / 2 ≡ k = omega arith in
        let f : (2 * k + 1) / 2 ≡ k = omega arith in
        record {
          numbers = set-within (set s.values (2 * k) n) (2 * k + 1) m (omega arith) (rw f second)
              (set-within s.values (2 * k) n (omega arith) (rw e first) w.numbers);
        }

  -- a number that an option takes
  taken : (k n : ℕ) → is_in o k n ≡ true → (k < 8) × Kept o k n
  unfolding is_in
  taken k n h =
      let p = both_true (ltb k 8) (both (leb (least_of o k) n) (leb n (greatest_of o k))) h in
      let q = both_true (leb (least_of o k) n) (leb n (greatest_of o k)) p.1 in
      (ltb-true k 8 p.0, one (leb-true _ _ q.0) (leb-true _ _ q.1))

  -- of two that are picked by a test
  picked : (b : Bool) {x y : Said} → (b ≡ true → Within o x) → Within o y → Within o (pick b x y)
  picked true f v = f refl
  picked false f v = v

  module _ (t : List ℕ) (s : Said) (w : Within o s) where
    one-within : (k n : ℕ) → Within o (put_one o s k n)
    unfolding put_one
    one-within k n = picked (is_in o k n) (λ e. kept-within s k n no_value (taken k n e).0 w (taken k n e).1 (none refl)) (record { numbers = w.numbers })

    two-within : (k n m : ℕ) → Within o (put_two o s k n m)
    unfolding put_two
    two-within k n m =
        picked (is_in o k n)
        (λ e. picked (is_in o k m) (λ f. picked (eqb n m) (λ g. record { numbers = w.numbers }) (kept-within s k n m (taken k n e).0 w (taken k n e).1 (taken k m f).1)) (record { numbers = w.numbers }))
        (record { numbers = w.numbers })

    said-within : (k : ℕ) (word : List ℕ) → Within o (said_by o s k word)
    unfolding said_by
    said-within k word =
        picked (eqb (form_of o k) hex_pair) (λ e. one-within k (hex_pair_of word))
        (picked (both (eqb (form_of o k) pair) (ltb (before comma word) (length word)))
        (λ e. two-within k (decimal_of (up_to comma word)) (decimal_of (behind comma word)))
        (one-within k (decimal_of word)))

    -- the same numbers, whatever else is said
    same : (n : Stage) (r : ℕ) (p : Spot) → Within o (record { stage = n; row = r; spot = p; values = s.values })
    same n r p = record { numbers = w.numbers }

    named-within : (n : Stage) (word : List ℕ) → Within o (named t s n word)
    unfolding named
    named-within n word =
        picked (fits (letter_now t s) word) (λ e. same n s.row (after (places_at t s.row) s.spot)) (same Bad s.row s.spot)

    last_within : (word : List ℕ) → Within o (heard_last t s word)
    unfolding heard_last
    last_within word =
        picked (is_name word) (λ e. named-within Names word)
        (picked (same_text word (dash ∷ dash ∷ [])) (λ e. same AllNames s.row s.spot) (same Bad s.row s.spot))

    letter-within : (c : ℕ) → Within o (heard_letter o t s c)
    unfolding heard_letter
    letter-within c =
        let k = option_of o c in
        picked (both (ltb k 8) (stands_in (c ∷ []) (letters_at t s.row)))
        (λ e. picked (eqb (form_of o k) flag) (λ f. one-within k 1) (same (Value k) s.row s.spot))
        (same Bad s.row s.spot)

    -- one more word, and every number stays within its option's bounds
    pub heard-within : (word : List ℕ) (n : Stage) → Within o (heard o t s word n)
    unfolding chosen heard_option
    heard-within word Task =
        picked (ltb (row_of t word) (length t)) (λ e. same Options (row_of t word) s.spot) (same Bad s.row s.spot)
    heard-within word Options =
        picked (both (eqb (length word) 2) (both (eqb (get_or word 0 0) dash) (pick (eqb (get_or word 1 0) dash) false true)))
        (λ e. letter-within (get_or word 1 0))
        (last_within word)
    heard-within word (Value k) = said-within k word
    heard-within word Names = last_within word
    heard-within word AllNames = named-within AllNames word
    heard-within word Bad = w

  pub all-within : (t : List ℕ) (s : Said) (ws : List (List ℕ)) → Within o s → Within o (heard_all o t s ws)
  unfolding heard_all
  all-within t s [] w = w
  all-within t s (x ∷ ws) w = all-within t (heard o t s x s.stage) ws (heard-within t s w x s.stage)

  pub value_of : (s : Said) (k : ℕ) → k < 8 → Within o s → Ranged o k (value_at o s k)
  unfolding value_at
  value_of s k few w =
      let e : 2 * k / 2 ≡ k = omega arith in
      rw (lt-ltb k 8 few) (go (get_or s.values (2 * k) 0) (subst (λ (i : ℕ). Kept o i (get_or s.values (2 * k) 0)) e (w.numbers.each (2 * k) (omega arith))))
    where
      pass : (v : ℕ) → least_of o k ≤ v → v ≤ greatest_of o k → (t : Bool) → Ranged o k (pick t (usual_of o k) v)
      pass v l g true = usual refl
      pass v l g false = said l g

      go : (v : ℕ) → Kept o k v → Ranged o k (pick (eqb v no_value) (usual_of o k) v)
      go v (none e) = rw e (usual refl)
      go v (one l g) = pass v l g (eqb v no_value)

  -- the value of an option is its usual one or within its bounds, whatever the words are
  pub value-within : (t : List ℕ) (ws : List (List ℕ)) (k : ℕ) → k < 8 → Ranged o k (value_at o (spoken o t ws) k)
  value-within t ws k few = value_of (spoken o t ws) k few (all-within t (start_said t) ws (start-within o t))

  -- and within its bounds, where its usual one is
  pub value_in :
      (t : List ℕ) (ws : List (List ℕ)) (k : ℕ) → k < 8 → least_of o k ≤ usual_of o k → usual_of o k ≤ greatest_of o k
      → (least_of o k ≤ value_at o (spoken o t ws) k) × (value_at o (spoken o t ws) k ≤ greatest_of o k)
  value_in t ws k few low high = go (value_at o (spoken o t ws) k) (value-within t ws k few)
    where
      go : (v : ℕ) → Ranged o k v → (least_of o k ≤ v) × (v ≤ greatest_of o k)
      go v (usual e) = (rw e low, rw e high)
      go v (said l g) = (l, g)

  -- the second of two numbers is within the bounds too, where it was said
  pub second-within : (t : List ℕ) (ws : List (List ℕ)) (k : ℕ) → k < 8 → Kept o k (second_at (spoken o t ws) k)
  unfolding second_at
  second-within t ws k few =
      let e : (2 * k + 1) / 2 ≡ k = omega arith in
      let w = all-within t (start_said t) ws (start-within o t) in
      rw (lt-ltb k 8 few) (subst (λ (i : ℕ). Kept o i (get_or (spoken o t ws).values (2 * k + 1) 0)) e (w.numbers.each (2 * k + 1) (omega arith)))
