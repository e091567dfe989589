-- Things in a row: how many steps are allowed doesn't matter where they are as many as the bytes, what is read spells the bytes, and what
-- is spelled reads back. Over any kind of thing. Assumes nothing.
use mathlib.Core.Path.{◌≡◌, ◌∙◌, refl, sym, ap}
use mathlib.Core.Bool.{Bool, true, false}
use mathlib.Core.List.{List, [], ◌∷◌, ◌++◌, append_assoc}
use Prim.Native.Nat.{ℕ, zero, suc, ◌+◌, ◌≤◌}
use native.Mathlib.Omega.{arith}
use lib.ListN.{length, drop, length-append, length-drop}
use lib.Seq.{drop-drop, drop-append_seam}
use Rattle.listing_reader.specs.Many.{Step, item, stop, Many, none as row-none, behind, further, many}

module _ {A : Type 0} (next : ℕ → A → ℕ) (step : ℕ → List ℕ → Step A) where
  -- what a step owes: nothing stands where there are no bytes, a thing has bytes of its own, and a row ends well at the line where it ends
  pub record Stepping : Type 0 where
    pub none_left : (s : ℕ) → step s [] ≡ stop true 0
    pub moves_on : (s : ℕ) (bytes : List ℕ) (a : A) (n : ℕ) → step s bytes ≡ item a n → (1 ≤ n) × (n ≤ length bytes)
    pub stays : (s : ℕ) (bytes : List ℕ) (b : Bool) (n : ℕ) → step s bytes ≡ stop b n → n ≤ length bytes
    pub ends_well : (s : ℕ) (bytes : List ℕ) (n : ℕ) → step s bytes ≡ stop true n → n ≡ 0

  -- the texts of things, one after the other
  unfoldable pub texts : (ℕ → A → List ℕ) → ℕ → List A → List ℕ
  texts text s [] = []
  texts text s (a ∷ xs) = text s a ++ texts text (next s a) xs

  -- each thing, under the number that the step before it left
  pub data Each (P : ℕ → A → Type 0) : ℕ → List A → Type 0 where
    none : {s : ℕ} → Each P s []
    more : {s : ℕ} {a : A} {xs : List A} → P s a → Each P (next s a) xs → Each P s (a ∷ xs)

  -- all that there are
  abbrev pub whole : ℕ → List ℕ → Many A
  whole s bytes = many next step (length bytes) s bytes

  module _ (good : Stepping) where
    -- as many steps xs there are bytes are enough
    pub any_fuel : (k j s : ℕ) (bytes : List ℕ) → length bytes ≤ k → length bytes ≤ j → many next step k s bytes ≡ many next step j s bytes
    unfolding many further
    any_fuel zero zero s bytes h i = refl
    any_fuel zero (suc j) s [] h i = rw (good.none_left s)
    any_fuel (suc k) zero s [] h i = rw (good.none_left s)
    any_fuel zero (suc j) s (b ∷ bytes) h i = absurd (omega arith)
    any_fuel (suc k) zero s (b ∷ bytes) h i = absurd (omega arith)
    any_fuel (suc k) (suc j) s bytes h i = go (step s bytes) refl (λ a n l m. any_fuel k j (next s a) (drop n bytes) l m)
      where
        go :
            (t : Step A) → step s bytes ≡ t
            → ((a : A) (n : ℕ) → length (drop n bytes) ≤ k → length (drop n bytes) ≤ j
            → many next step k (next s a) (drop n bytes) ≡ many next step j (next s a) (drop n bytes))
            → further t (λ a n. many next step k (next s a) (drop n bytes)) ≡ further t (λ a n. many next step j (next s a) (drop n bytes))
        go (item a n) e f =
            let m = good.moves_on s bytes a n e in
            ap (behind a n) (f a n (rw length-drop (omega arith)) (rw length-drop (omega arith)))
        go (stop b n) e f = refl

    -- one more
    pub whole_item : (s : ℕ) (bytes : List ℕ) (a : A) (n : ℕ) → step s bytes ≡ item a n → whole s bytes ≡ behind a n (whole (next s a) (drop n bytes))
    whole_item s bytes a n e =
        let m = good.moves_on s bytes a n e in
        any_fuel (length bytes) (suc (length bytes)) s bytes (omega arith) (omega arith)
        ∙ (unfold many further in rw e (ap (behind a n) (any_fuel (length bytes) (length (drop n bytes)) (next s a) (drop n bytes) (rw length-drop (omega arith)) (omega arith))))

    -- no more
    pub whole-stop : (s : ℕ) (bytes : List ℕ) (b : Bool) (n : ℕ) → step s bytes ≡ stop b n → whole s bytes ≡ row-none b n
    whole-stop s bytes b n e =
        any_fuel (length bytes) (suc (length bytes)) s bytes (omega arith) (omega arith) ∙ (unfold many further in rw e)

    -- a row lies within the bytes
    pub row_within : (k s : ℕ) (bytes : List ℕ) → (many next step k s bytes).long ≤ length bytes
    unfolding many further
    row_within zero s bytes = omega arith
    row_within (suc k) s bytes = go (step s bytes) refl (λ a n. row_within k (next s a) (drop n bytes))
      where
        go :
            (t : Step A) → step s bytes ≡ t
            → ((a : A) (n : ℕ) → (many next step k (next s a) (drop n bytes)).long ≤ length (drop n bytes))
            → (further t (λ a n. many next step k (next s a) (drop n bytes))).long ≤ length bytes
        go (item a n) e f =
            let m = good.moves_on s bytes a n e in
            let l = f a n in
            omega (arith, simp length-drop at l)
        go (stop b n) e f = good.stays s bytes b n e

    module _ (P : ℕ → A → Type 0) (text : ℕ → A → List ℕ) where
      -- what is read spells the bytes
      pub record Row (s : ℕ) (bytes : List ℕ) (m : Many A) : Type 0 where
        pub there : bytes ≡ texts text s m.items ++ drop m.long bytes
        pub size : m.long ≡ length (texts text s m.items)
        pub each : Each P s m.items

      pub row-sound :
          ((s : ℕ) (bytes : List ℕ) (a : A) (n : ℕ) → step s bytes ≡ item a n
          → (bytes ≡ text s a ++ drop n bytes) × (n ≡ length (text s a)) × P s a)
          → (k s : ℕ) (bytes : List ℕ) → (many next step k s bytes).fine ≡ true
          → Row s bytes (many next step k s bytes)
      unfolding many further texts
      row-sound one zero s bytes h = record { there = refl; size = refl; each = none }
      row-sound one (suc k) s bytes h = go (step s bytes) refl h (λ a n. row-sound one k (next s a) (drop n bytes))
        where
          go :
              (t : Step A) → step s bytes ≡ t → (further t (λ a n. many next step k (next s a) (drop n bytes))).fine ≡ true
              → ((a : A) (n : ℕ) → (many next step k (next s a) (drop n bytes)).fine ≡ true
              → Row (next s a) (drop n bytes) (many next step k (next s a) (drop n bytes)))
              → Row s bytes (further t (λ a n. many next step k (next s a) (drop n bytes)))
          go (item a n) e g f =
              let o = one s bytes a n e in
              let r = f a n g in
              let m = many next step k (next s a) (drop n bytes) in
              let q : drop n bytes ≡ texts text (next s a) m.items ++ drop (n + m.long) bytes =
              r.there ∙ ap (λ (l : List ℕ). texts text (next s a) m.items ++ l) (drop-drop m.long n bytes) in
              record {
                there =
                    o.0 ∙ ap (λ (l : List ℕ). text s a ++ l) q ∙ sym (append_assoc (text s a) (texts text (next s a) m.items) (drop (n + m.long) bytes));
                size = rw length-append (omega (arith, o.1, r.size));
                each = more o.2 r.each;
              }
          go (stop b n) e g f =
              let z : n ≡ 0 = good.ends_well s bytes n (e ∙ ap (λ (x : Bool). stop x n) g) in
              record { there = rw z; size = z; each = none }

      -- what is spelled reads back, before bytes that may follow it
      module _
          (May : List ℕ → Type 0)
          (one : (s : ℕ) (a : A) (rest : List ℕ) → P s a → May rest → step s (text s a ++ rest) ≡ item a (length (text s a)))
          (may : (s : ℕ) (a : A) (rest : List ℕ) → P s a → May (text s a ++ rest))
          (tail : List ℕ)
          (may-tail : May tail)
          (ends : (s : ℕ) → step s tail ≡ stop true 0)
        where
          may_more : (s : ℕ) (xs : List A) → Each P s xs → May (texts text s xs ++ tail)
          unfolding texts
          may_more s [] none = may-tail
          may_more s (a ∷ xs) (more p ps) = rw append_assoc (may s a (texts text (next s a) xs ++ tail) p)

          pub row_back :
              (xs : List A) (k s : ℕ) → Each P s xs → length (texts text s xs ++ tail) ≤ k
              → many next step k s (texts text s xs ++ tail) ≡ record { items = xs; fine = true; long = length (texts text s xs) }
          unfolding many further texts
          row_back [] zero s none h = refl
          row_back [] (suc k) s none h = rw (ends s)
          row_back (a ∷ xs) zero s (more p ps) h =
              let e = one s a (texts text (next s a) xs ++ tail) p (may_more (next s a) xs ps) in
              let m = good.moves_on s (text s a ++ (texts text (next s a) xs ++ tail)) a (length (text s a)) e in
              absurd (omega (arith, simp (length-append) at h))
          row_back (a ∷ xs) (suc k) s (more p ps) h =
              let rest = texts text (next s a) xs ++ tail in
              let e = one s a rest p (may_more (next s a) xs ps) in
              let m = good.moves_on s (text s a ++ rest) a (length (text s a)) e in
              let l : length rest ≤ k = simp (length-append) (omega (arith, simp (length-append) at h)) in
              rw (append_assoc (text s a) (texts text (next s a) xs) tail, e, drop-append_seam (text s a) rest, row_back xs k (next s a) ps l, length-append (text s a) (texts text (next s a) xs))

-- What stands at the front of bytes, as the laws above want it: nothing; a line at fault, within the bytes; or a thing of which P holds, with
-- its text.
pub data Seen {A : Type 0} (P : A → Type 0) (text : A → List ℕ) (bytes : List ℕ) : Step A → Type 0 where
  nothing : Seen P text bytes (stop true 0)
  fault : {n : ℕ} → n ≤ length bytes → Seen P text bytes (stop false n)
  read : {a : A} {n : ℕ} → P a → bytes ≡ text a ++ drop n bytes → n ≡ length (text a) → Seen P text bytes (item a n)

module _
    {A : Type 0}
    (next : ℕ → A → ℕ)
    (step : ℕ → List ℕ → Step A)
    (P : ℕ → A → Type 0)
    (text : ℕ → A → List ℕ)
    (seen : (s : ℕ) (bytes : List ℕ) → Seen (P s) (text s) bytes (step s bytes))
  where
    pub seen-item :
        (s : ℕ) (bytes : List ℕ) (a : A) (n : ℕ) → step s bytes ≡ item a n → (bytes ≡ text s a ++ drop n bytes) × (n ≡ length (text s a)) × P s a
    seen-item s bytes a n e = go (rw e at (seen s bytes))
      where
        go : Seen (P s) (text s) bytes (item a n) → (bytes ≡ text s a ++ drop n bytes) × (n ≡ length (text s a)) × P s a
        go (read p t l) = (t, l, p)

    pub stepping : ((s : ℕ) → step s [] ≡ stop true 0) → ((s : ℕ) (a : A) → P s a → 1 ≤ length (text s a)) → Stepping next step
    stepping empty some =
        record {
          none_left = empty;
          moves_on = on;
          stays = λ s bytes b n e. in_bytes s bytes b n (rw e at (seen s bytes));
          ends_well = λ s bytes n e. at_once s bytes n (rw e at (seen s bytes));
        }
      where
        on : (s : ℕ) (bytes : List ℕ) (a : A) (n : ℕ) → step s bytes ≡ item a n → (1 ≤ n) × (n ≤ length bytes)
        on s bytes a n e =
            let r = seen-item s bytes a n e in
            let l = ap length r.0 in
            (omega (arith, r.1, some s a r.2), omega (arith, r.1, simp length-append at l))

        in_bytes : (s : ℕ) (bytes : List ℕ) (b : Bool) (n : ℕ) → Seen (P s) (text s) bytes (stop b n) → n ≤ length bytes
        in_bytes s bytes b n nothing = omega arith
        in_bytes s bytes b n (fault l) = l

        at_once : (s : ℕ) (bytes : List ℕ) (n : ℕ) → Seen (P s) (text s) bytes (stop true n) → n ≡ 0
        at_once s bytes n nothing = refl
