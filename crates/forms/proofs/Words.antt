-- A word of three bytes, and past the end. Assumes nothing.
use mathlib.Core.Path.{◌≡◌}
use mathlib.Core.List.{List, [], ◌∷◌}
use Prim.Native.Nat.{ℕ, ◌+◌, ◌*◌, ◌<◌, ◌≤◌}
use native.Mathlib.Omega.{arith}
use lib.ListN.{length, get_or-eq_default}
use Rattle.fields.specs.Fields.{whole}
use Rattle.forms.specs.Words.{word_at}

-- a word, high byte first
pub word_of : (a b c : ℕ) → a < 256 → b < 256 → c < 256 → (a * 256 + b) * 256 + c ≡ whole 8 (c ∷ b ∷ a ∷ [])
unfolding whole
word_of a b c ha hb hc = omega arith

-- past the end there is none
pub word-past : (f : List ℕ) (i : ℕ) → length f ≤ i → 0 ≡ word_at f i
unfolding whole
word-past f i h =
    let h₁ : length f ≤ i + 1 = omega arith in
    let h₂ : length f ≤ i + 2 = omega arith in
    rw (get_or-eq_default f 0 h, get_or-eq_default f 0 h₁, get_or-eq_default f 0 h₂)
