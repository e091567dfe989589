-- A program's options (SCOPE 13.12), at most eight, five numbers each: its letter, its form, its least and its greatest value, and its usual one.
use Rattle.std.specs.Prelude.{Bool, List, ℕ, zero, suc, ◌+◌, ◌*◌, eqb, leb, ltb, length, get_or, set}
use Rattle.laws.specs.Pick.{pick, both}
use Rattle.words.specs.declared.Said.{Said}
use Rattle.words.specs.declared.Stage.{Stage}
use Rattle.words.specs.declared.Stage.TheVariants.{Options, Bad}
use Rattle.words.specs.Rows.{before, up_to, behind}
use Rattle.words.specs.Numbers.{decimal_of, hex_pair_of}

-- the numbers of option k
abbrev pub letter_of : List ℕ → ℕ → ℕ
letter_of o k = get_or o (5 * k) 0

unfoldable pub form_of : List ℕ → ℕ → ℕ
form_of o k = pick (ltb k 8) (get_or o (5 * k + 1) 0) 0

abbrev pub least_of : List ℕ → ℕ → ℕ
least_of o k = get_or o (5 * k + 2) 0

abbrev pub greatest_of : List ℕ → ℕ → ℕ
greatest_of o k = get_or o (5 * k + 3) 0

abbrev pub usual_of : List ℕ → ℕ → ℕ
usual_of o k = get_or o (5 * k + 4) 0

-- the forms: 0 takes no value and says 1, 2 is two hex digits, 3 is one or two numbers, any other is a decimal number
abbrev pub flag : ℕ
flag = 0

abbrev pub hex_pair : ℕ
hex_pair = 2

abbrev pub pair : ℕ
pair = 3

-- what stands for a value that wasn't said
abbrev pub no_value : ℕ
no_value = 4294967295

-- the number of the option with a letter, of the n from k on; the number past them where there is none
unfoldable pub option_from : ℕ → ℕ → List ℕ → ℕ → ℕ
option_from zero k o c = k
option_from (suc n) k o c = pick (eqb (letter_of o k) c) k (option_from n (suc k) o c)

abbrev pub option_of : List ℕ → ℕ → ℕ
option_of o c = option_from 8 0 o c

-- the same words, and what may come next
abbrev pub to_stage : Stage → Said → Said
to_stage t s = record { stage = t; row = s.row; spot = s.spot; values = s.values }

-- a word was bad
abbrev pub bad : Said → Said
bad s = to_stage Bad s

-- option k takes a number
unfoldable pub is_in : List ℕ → ℕ → ℕ → Bool
is_in o k n = both (ltb k 8) (both (leb (least_of o k) n) (leb n (greatest_of o k)))

-- option k has these two numbers
abbrev pub kept : Said → ℕ → ℕ → ℕ → Said
kept s k n m = record { stage = Options; row = s.row; spot = s.spot; values = set (set s.values (2 * k) n) (2 * k + 1) m }

-- one number that the option takes; any other is a bad word
unfoldable pub put_one : List ℕ → Said → ℕ → ℕ → Said
put_one o s k n = pick (is_in o k n) (kept s k n no_value) (bad s)

-- two different numbers that the option takes
unfoldable pub put_two : List ℕ → Said → ℕ → ℕ → ℕ → Said
put_two o s k n m = pick (is_in o k n) (pick (is_in o k m) (pick (eqb n m) (bad s) (kept s k n m)) (bad s)) (bad s)

abbrev pub comma : ℕ
comma = 44

-- a word as the value of option k
unfoldable pub said_by : List ℕ → Said → ℕ → List ℕ → Said
said_by o s k w =
    pick (eqb (form_of o k) hex_pair) (put_one o s k (hex_pair_of w))
    (pick (both (eqb (form_of o k) pair) (ltb (before comma w) (length w)))
    (put_two o s k (decimal_of (up_to comma w)) (decimal_of (behind comma w)))
    (put_one o s k (decimal_of w)))
