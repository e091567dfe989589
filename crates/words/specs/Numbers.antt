-- The numbers and kinds that words say (SCOPE 13.12, 20.14).
use Rattle.std.specs.Prelude.{List, [], ◌∷◌, ℕ, ◌+◌, ◌-◌, ◌*◌, eqb, leb, ltb, length, get_or}
use Rattle.laws.specs.Pick.{pick, both}
use Rattle.texts.specs.Texts.{same_text}

-- the greatest number that a word can say
abbrev pub most : ℕ
most = 4294967295

-- what stands for a number that can't be had
abbrev pub no_number : ℕ
no_number = 4294967296

abbrev pub no_digit : ℕ
no_digit = 16

-- what a character stands for as a hex digit of either case: 0..9, A..F, a..f
unfoldable pub digit_of : ℕ → ℕ
digit_of b =
    pick (both (leb 48 b) (leb b 57)) (b - 48)
    (pick (both (leb 65 b) (leb b 70)) (b - 55) (pick (both (leb 97 b) (leb b 102)) (b - 87) no_digit))

-- decimal digits up to the end, after those that say n; nothing past the greatest number
unfoldable pub decimal_from : List ℕ → ℕ → ℕ
decimal_from [] n = n
decimal_from (b ∷ bs) n =
    pick (both (ltb (digit_of b) 10) (leb (10 * n + digit_of b) most)) (decimal_from bs (10 * n + digit_of b)) no_number

-- a decimal number of at least one digit, zeros before it allowed
unfoldable pub decimal_of : List ℕ → ℕ
decimal_of w = pick (eqb (length w) 0) no_number (decimal_from w 0)

-- as the day sheet spells it: no leading zero
unfoldable pub number_of : List ℕ → ℕ
number_of w = pick (both (ltb 1 (length w)) (eqb (get_or w 0 0) 48)) no_number (decimal_of w)

-- two hex digits
unfoldable pub hex_pair_of : List ℕ → ℕ
hex_pair_of w =
    let high = digit_of (get_or w 0 0) in
    let low = digit_of (get_or w 1 0) in
    pick (both (eqb (length w) 2) (both (ltb high no_digit) (ltb low no_digit))) (16 * high + low) no_number

-- a kind of table: `LI` is 7, `TI` is 8, any other word 0
unfoldable pub kind_of : List ℕ → ℕ
kind_of w = pick (same_text w (76 ∷ 73 ∷ [])) 7 (pick (same_text w (84 ∷ 73 ∷ [])) 8 0)
