-- Where names stand among a row's places, and what fits there. Assumes nothing.
use mathlib.Core.Path.{◌≡◌, ◌∙◌, ap}
use mathlib.Core.Bool.{Bool, true, false}
use mathlib.Core.List.{List}
use Prim.Native.Nat.{ℕ, ◌+◌, ◌≤◌, ◌<◌}
use borrow.Author.Tests.{lt-ltb, le-ltb, le-leb, lt-leb, eq-eqb, ne_eqb}
use lib.Dec.{eqb, leb}
use lib.ListN.{length, get_or, get_or-eq_default}
use Rattle.words.specs.declared.places.Spot.{Spot}
use Rattle.words.specs.Numbers.{number_of, most}
use Rattle.words.specs.Places.{spot, is_mark, passed, letter_at, turned, after, may_end, is_kind, fits}

module _ (p : List ℕ) (i other : ℕ) where
  pub passed-end : length p ≤ i → other ≡ passed p i other
  unfolding passed is_mark
  passed-end past = rw (get_or-eq_default p 0 past)

  pub passed-mark : {b : Bool} → b ≡ is_mark (get_or p i 0) → b ≡ true → i + 1 ≡ passed p i other
  unfolding passed
  passed-mark asked is = rw (← asked, is)

  pub passed-letter : {b : Bool} → b ≡ is_mark (get_or p i 0) → b ≡ false → other ≡ passed p i other
  unfolding passed
  passed-letter asked not = rw (← asked, not)

pub letter-there : (p : List ℕ) (s : Spot) {h r : ℕ} → h ≡ passed p s.at s.at → r ≡ get_or p h 0 → r ≡ letter_at p s
unfolding letter_at
letter-there p s here letter = letter ∙ ap (λ (i : ℕ). get_or p i 0) here

module _ (p : List ℕ) (s : Spot) {h g : ℕ} (here : h ≡ passed p s.at s.at) (group : g ≡ passed p s.at s.group) where
  pub after_last : length p ≤ h + 1 → {r : Spot} → r ≡ turned (length p) g → r ≡ after p s
  unfolding after
  after_last past turn = rw (← here, ← group, le-ltb (h + 1) (length p) past, turn)

  pub after-other : h + 1 < length p → spot (h + 1) g ≡ after p s
  unfolding after
  after-other more = rw (← here, ← group, lt-ltb _ _ more)

module _ (p : List ℕ) (s : Spot) where
  pub end-all : length p ≤ s.at → true ≡ may_end p s
  unfolding may_end
  end-all past = rw (le-leb _ _ past)

  pub end-any : s.at < length p → get_or p s.at 0 ≡ 42 → true ≡ may_end p s
  unfolding may_end
  end-any more any = rw (lt-leb _ _ more, eq-eqb _ _ any)

  module _ (more : s.at < length p) (letter : get_or p s.at 0 ≡ 42 → ⊥) where
    pub end-not-yet : s.group ≡ 0 → false ≡ may_end p s
    unfolding may_end
    end-not-yet none = rw (lt-leb _ _ more, ne_eqb _ _ letter, eq-eqb _ _ none)

    pub end-again : (s.group ≡ 0 → ⊥) → eqb s.at s.group ≡ may_end p s
    unfolding may_end
    end-again some = rw (lt-leb _ _ more, ne_eqb _ _ letter, ne_eqb _ _ some)

module _ (w : List ℕ) {c : ℕ} where
  pub fits-none : c ≡ 0 → false ≡ fits c w
  unfolding fits
  fits-none here = rw here

  pub fits-stamp : c ≡ 115 → {n : ℕ} → n ≡ number_of w → leb n most ≡ fits c w
  unfolding fits
  fits-stamp here said = rw (here, said)

  pub fits_block : c ≡ 98 → {n : ℕ} → n ≡ number_of w → leb n 65535 ≡ fits c w
  unfolding fits
  fits-block here said = rw (here, said)

  pub fits_byte : c ≡ 110 → {n : ℕ} → n ≡ number_of w → leb n 255 ≡ fits c w
  unfolding fits
  fits_byte here said = rw (here, said)

  pub fits-kind : c ≡ 107 → {b : Bool} → b ≡ is_kind w → b ≡ fits c w
  unfolding fits
  fits-kind here is = rw (here, is)
