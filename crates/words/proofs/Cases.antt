-- The rows of programs (SCOPE 13.12) on real words, computed. Assumes nothing.
use mathlib.Core.Path.{◌≡◌, refl}
use mathlib.Core.Bool.{Bool, true, false}
use mathlib.Core.List.{List, [], ◌∷◌, map}
use Prim.Native.Nat.{ℕ, ◌≤◌}
use native.Mathlib.Omega.{arith}
use Rattle.texts.specs.Texts.{begins_with, stands_in}
use Rattle.words.specs.Rows.{before, up_to, behind, row_from}
use Rattle.words.specs.Numbers.{digit_of, decimal_from, decimal_of, number_of, hex_pair_of, kind_of}
use Rattle.words.specs.Places.{is_mark, passed, letter_at, turned, after, may_end, is_kind, fits}
use Rattle.words.specs.Options.{no_value, form_of, option_from, is_in, put_one, put_two, said_by}
use Rattle.words.specs.Words.{start_said, is_name, letter_now, chosen, named, heard_last, heard_letter, heard_option, heard_all, spoken, is_good, value_at, second_at}
use Rattle.words.proofs.Ranging.{Kept, value_in, second-within}

-- `-m 1..8`, `-p 00..FF`, `-s 0..15` for one stream or two, `-a 0..31`, and behind them what a program has of its own
abbrev setting : List ℕ → List ℕ
setting others =
    109 ∷ 1 ∷ 1 ∷ 8 ∷ 1 ∷ 112 ∷ 2 ∷ 0 ∷ 255 ∷ 223 ∷ 115 ∷ 3 ∷ 0 ∷ 15 ∷ 1 ∷ 97 ∷ 1 ∷ 0 ∷ 31 ∷ 1 ∷ others

-- and `-v`
abbrev desk_options : List ℕ
desk_options = setting (118 ∷ 0 ∷ 0 ∷ 1 ∷ 0 ∷ [])

-- and `-b 0..65535`, `-l 1..8`
abbrev menus_options : List ℕ
menus_options = setting (98 ∷ 1 ∷ 0 ∷ 65535 ∷ 0 ∷ 108 ∷ 1 ∷ 1 ∷ 8 ∷ 8 ∷ [])

-- ` mpsav *f`
abbrev desk_rows : List ℕ
desk_rows = 32 ∷ 109 ∷ 112 ∷ 115 ∷ 97 ∷ 118 ∷ 32 ∷ 42 ∷ 102 ∷ 10 ∷ []

-- ` mpsabl *f`
abbrev menus_rows : List ℕ
menus_rows = 32 ∷ 109 ∷ 112 ∷ 115 ∷ 97 ∷ 98 ∷ 108 ∷ 32 ∷ 42 ∷ 102 ∷ 10 ∷ []

-- `add mpsa f+sc`, `join  f+o`, `check  +f`, and `drop  fknb`
abbrev sheet_rows : List ℕ
sheet_rows = 97 ∷ 100 ∷ 100 ∷ 32 ∷ 109 ∷ 112 ∷ 115 ∷ 97 ∷ 32 ∷ 102 ∷ 43 ∷ 115 ∷ 99 ∷ 10 ∷ 106 ∷ 111 ∷ 105 ∷ 110 ∷ 32 ∷ 32 ∷ 102 ∷ 43 ∷ 111 ∷ 10 ∷ 99 ∷ 104 ∷ 101 ∷ 99 ∷ 107 ∷ 32 ∷ 32 ∷ 43 ∷ 102 ∷ 10 ∷ 100 ∷ 114 ∷ 111 ∷ 112 ∷ 32 ∷ 32 ∷ 102 ∷ 107 ∷ 110 ∷ 98 ∷ 10 ∷ []

-- whether these words may end
abbrev good : List ℕ → List ℕ → List (List ℕ) → Bool
good o t ws = is_good t (spoken o t ws) (spoken o t ws).stage

-- no word; `-v -p 1f -- -f`; `f -v`, an option after a name; `-m 9`; `-m`, which lacks its value
desk :
    map (good desk_options desk_rows)
    ([] ∷
    ((45 ∷ 118 ∷ []) ∷ (45 ∷ 112 ∷ []) ∷ (49 ∷ 102 ∷ []) ∷ (45 ∷ 45 ∷ []) ∷ (45 ∷ 102 ∷ []) ∷ []) ∷
    ((102 ∷ []) ∷ (45 ∷ 118 ∷ []) ∷ []) ∷
    ((45 ∷ 109 ∷ []) ∷ (57 ∷ []) ∷ []) ∷
    ((45 ∷ 109 ∷ []) ∷ []) ∷ [])
    ≡ true ∷ true ∷ false ∷ false ∷ false ∷ []
unfolding before up_to behind row_from digit_of decimal_from decimal_of number_of hex_pair_of kind_of is_mark passed letter_at turned after may_end is_kind fits form_of option_from is_in put_one put_two said_by start_said is_name chosen named heard_last heard_letter heard_option heard_all value_at second_at begins_with stands_in
desk = refl

-- what `-v -p 1f -- -f` asks for: page 1F and the counts, and the usual magazine, stream and application
desk-values : map (value_at desk_options (spoken desk_options desk_rows ((45 ∷ 118 ∷ []) ∷ (45 ∷ 112 ∷ []) ∷ (49 ∷ 102 ∷ []) ∷ (45 ∷ 45 ∷ []) ∷ (45 ∷ 102 ∷ []) ∷ []))) (0 ∷ 1 ∷ 2 ∷ 3 ∷ 4 ∷ []) ≡ 1 ∷ 31 ∷ 1 ∷ 1 ∷ 1 ∷ []
unfolding before up_to behind row_from digit_of decimal_from decimal_of number_of hex_pair_of kind_of is_mark passed letter_at turned after may_end is_kind fits form_of option_from is_in put_one put_two said_by start_said is_name chosen named heard_last heard_letter heard_option heard_all value_at second_at begins_with stands_in
desk-values = refl

-- whatever the words, the desk's magazine is 1 to 8, its page a byte, its stream at most 15 and its application at most 31
pub desk-in_range :
    (ws : List (List ℕ)) → let v : ℕ → ℕ = value_at desk_options (spoken desk_options desk_rows ws) in
    (1 ≤ v 0) × (v 0 ≤ 8) × (v 1 ≤ 255) × (v 2 ≤ 15) × (v 3 ≤ 31)
desk-in_range ws =
    let at = value_in desk_options desk_rows ws in
    let m = at 0 (omega arith) (omega arith) (omega arith) in
    (m.0, m.1, (at 1 (omega arith) (omega arith) (omega arith)).1, (at 2 (omega arith) (omega arith) (omega arith)).1, (at 3 (omega arith) (omega arith) (omega arith)).1)

-- and its second stream at most 15, where one was said
pub desk-second : (ws : List (List ℕ)) → Kept desk_options 2 (second_at (spoken desk_options desk_rows ws) 2)
desk-second ws = second-within desk_options desk_rows ws 2 (omega arith)

-- `-b 1 -b 0065535 f`; `-v`, which isn't its option; `-l 9 f`
menus :
    map (good menus_options menus_rows)
    (((45 ∷ 98 ∷ []) ∷ (49 ∷ []) ∷ (45 ∷ 98 ∷ []) ∷ (48 ∷ 48 ∷ 54 ∷ 53 ∷ 53 ∷ 51 ∷ 53 ∷ []) ∷ (102 ∷ []) ∷ []) ∷
    ((45 ∷ 118 ∷ []) ∷ []) ∷
    ((45 ∷ 108 ∷ []) ∷ (57 ∷ []) ∷ (102 ∷ []) ∷ []) ∷ [])
    ≡ true ∷ false ∷ false ∷ []
unfolding before up_to behind row_from digit_of decimal_from decimal_of number_of hex_pair_of kind_of is_mark passed letter_at turned after may_end is_kind fits form_of option_from is_in put_one put_two said_by start_said is_name chosen named heard_last heard_letter heard_option heard_all value_at second_at begins_with stands_in
menus = refl

-- of `-b` the last counts, and the levels are the usual ones
menus-values : map (value_at menus_options (spoken menus_options menus_rows ((45 ∷ 98 ∷ []) ∷ (49 ∷ []) ∷ (45 ∷ 98 ∷ []) ∷ (48 ∷ 48 ∷ 54 ∷ 53 ∷ 53 ∷ 51 ∷ 53 ∷ []) ∷ (102 ∷ []) ∷ []))) (4 ∷ 5 ∷ []) ≡ 65535 ∷ 8 ∷ []
unfolding before up_to behind row_from digit_of decimal_from decimal_of number_of hex_pair_of kind_of is_mark passed letter_at turned after may_end is_kind fits form_of option_from is_in put_one put_two said_by start_said is_name chosen named heard_last heard_letter heard_option heard_all value_at second_at begins_with stands_in
menus-values = refl

-- `add -m 2 s 7 c 8 c`; `add s 7 c 8`, a stamp without its capture; `add s 07 c`, no stamp; `join s a b`; `join s`, which joins nothing; `check -m 2 s`,
-- which takes no option; `ad s`, no task
sheet :
    map (good (setting []) sheet_rows)
    (((97 ∷ 100 ∷ 100 ∷ []) ∷ (45 ∷ 109 ∷ []) ∷ (50 ∷ []) ∷ (115 ∷ []) ∷ (55 ∷ []) ∷ (99 ∷ []) ∷ (56 ∷ []) ∷ (99 ∷ []) ∷ []) ∷
    ((97 ∷ 100 ∷ 100 ∷ []) ∷ (115 ∷ []) ∷ (55 ∷ []) ∷ (99 ∷ []) ∷ (56 ∷ []) ∷ []) ∷
    ((97 ∷ 100 ∷ 100 ∷ []) ∷ (115 ∷ []) ∷ (48 ∷ 55 ∷ []) ∷ (99 ∷ []) ∷ []) ∷
    ((106 ∷ 111 ∷ 105 ∷ 110 ∷ []) ∷ (115 ∷ []) ∷ (97 ∷ []) ∷ (98 ∷ []) ∷ []) ∷
    ((106 ∷ 111 ∷ 105 ∷ 110 ∷ []) ∷ (115 ∷ []) ∷ []) ∷
    ((99 ∷ 104 ∷ 101 ∷ 99 ∷ 107 ∷ []) ∷ (45 ∷ 109 ∷ []) ∷ (50 ∷ []) ∷ (115 ∷ []) ∷ []) ∷
    ((97 ∷ 100 ∷ []) ∷ (115 ∷ []) ∷ []) ∷ [])
    ≡ true ∷ false ∷ false ∷ true ∷ false ∷ false ∷ false ∷ []
unfolding before up_to behind row_from digit_of decimal_from decimal_of number_of hex_pair_of kind_of is_mark passed letter_at turned after may_end is_kind fits form_of option_from is_in put_one put_two said_by start_said is_name chosen named heard_last heard_letter heard_option heard_all value_at second_at begins_with stands_in
sheet = refl

-- behind `add s 7` a capture stands: `c`
sheet-capture : letter_now sheet_rows (spoken (setting []) sheet_rows ((97 ∷ 100 ∷ 100 ∷ []) ∷ (115 ∷ []) ∷ (55 ∷ []) ∷ [])) ≡ 99
unfolding before up_to behind row_from digit_of decimal_from decimal_of number_of hex_pair_of kind_of is_mark passed letter_at turned after may_end is_kind fits form_of option_from is_in put_one put_two said_by start_said is_name chosen named heard_last heard_letter heard_option heard_all value_at second_at begins_with stands_in
sheet-capture = refl

-- `drop s TI 255 65535`; no kind; no byte; no place left
sheet-drop :
    map (good (setting []) sheet_rows)
    (((100 ∷ 114 ∷ 111 ∷ 112 ∷ []) ∷ (115 ∷ []) ∷ (84 ∷ 73 ∷ []) ∷ (50 ∷ 53 ∷ 53 ∷ []) ∷ (54 ∷ 53 ∷ 53 ∷ 51 ∷ 53 ∷ []) ∷ []) ∷
    ((100 ∷ 114 ∷ 111 ∷ 112 ∷ []) ∷ (115 ∷ []) ∷ (84 ∷ 88 ∷ []) ∷ (50 ∷ 53 ∷ 53 ∷ []) ∷ (54 ∷ 53 ∷ 53 ∷ 51 ∷ 53 ∷ []) ∷ []) ∷
    ((100 ∷ 114 ∷ 111 ∷ 112 ∷ []) ∷ (115 ∷ []) ∷ (84 ∷ 73 ∷ []) ∷ (50 ∷ 53 ∷ 54 ∷ []) ∷ (48 ∷ []) ∷ []) ∷
    ((100 ∷ 114 ∷ 111 ∷ 112 ∷ []) ∷ (115 ∷ []) ∷ (84 ∷ 73 ∷ []) ∷ (50 ∷ 53 ∷ 53 ∷ []) ∷ (54 ∷ 53 ∷ 53 ∷ 51 ∷ 53 ∷ []) ∷ (120 ∷ []) ∷ []) ∷ [])
    ≡ true ∷ false ∷ false ∷ false ∷ []
unfolding before up_to behind row_from digit_of decimal_from decimal_of number_of hex_pair_of kind_of is_mark passed letter_at turned after may_end is_kind fits form_of option_from is_in put_one put_two said_by start_said is_name chosen named heard_last heard_letter heard_option heard_all value_at second_at begins_with stands_in
sheet-drop = refl

-- the row of `compare`, by itself
abbrev compare_row : List ℕ
compare_row = 99 ∷ 111 ∷ 109 ∷ 112 ∷ 97 ∷ 114 ∷ 101 ∷ 32 ∷ 32 ∷ 102 ∷ 111 ∷ 10 ∷ []

-- `compare a b`; `compare -- -a b`; `compare a`; `compare a b c`, a third name; `compare -m 2 a b`, which takes no option
sheet-compare :
    map (good (setting []) compare_row)
    (((99 ∷ 111 ∷ 109 ∷ 112 ∷ 97 ∷ 114 ∷ 101 ∷ []) ∷ (97 ∷ []) ∷ (98 ∷ []) ∷ []) ∷
    ((99 ∷ 111 ∷ 109 ∷ 112 ∷ 97 ∷ 114 ∷ 101 ∷ []) ∷ (45 ∷ 45 ∷ []) ∷ (45 ∷ 97 ∷ []) ∷ (98 ∷ []) ∷ []) ∷
    ((99 ∷ 111 ∷ 109 ∷ 112 ∷ 97 ∷ 114 ∷ 101 ∷ []) ∷ (97 ∷ []) ∷ []) ∷
    ((99 ∷ 111 ∷ 109 ∷ 112 ∷ 97 ∷ 114 ∷ 101 ∷ []) ∷ (97 ∷ []) ∷ (98 ∷ []) ∷ (99 ∷ []) ∷ []) ∷
    ((99 ∷ 111 ∷ 109 ∷ 112 ∷ 97 ∷ 114 ∷ 101 ∷ []) ∷ (45 ∷ 109 ∷ []) ∷ (50 ∷ []) ∷ (97 ∷ []) ∷ (98 ∷ []) ∷ []) ∷ [])
    ≡ true ∷ true ∷ false ∷ false ∷ false ∷ []
unfolding before up_to behind row_from digit_of decimal_from decimal_of number_of hex_pair_of kind_of is_mark passed letter_at turned after may_end is_kind fits form_of option_from is_in put_one put_two said_by start_said is_name chosen named heard_last heard_letter heard_option heard_all value_at second_at begins_with stands_in
sheet-compare = refl

-- `-s 2`, `-s 1,2`; `-s 2,2`, the same twice; `-s 1,2,3`; `-s 1,`
pair :
    map (good desk_options desk_rows)
    (((45 ∷ 115 ∷ []) ∷ (50 ∷ []) ∷ []) ∷
    ((45 ∷ 115 ∷ []) ∷ (49 ∷ 44 ∷ 50 ∷ []) ∷ []) ∷
    ((45 ∷ 115 ∷ []) ∷ (50 ∷ 44 ∷ 50 ∷ []) ∷ []) ∷
    ((45 ∷ 115 ∷ []) ∷ (49 ∷ 44 ∷ 50 ∷ 44 ∷ 51 ∷ []) ∷ []) ∷
    ((45 ∷ 115 ∷ []) ∷ (49 ∷ 44 ∷ []) ∷ []) ∷ [])
    ≡ true ∷ true ∷ false ∷ false ∷ false ∷ []
unfolding before up_to behind row_from digit_of decimal_from decimal_of number_of hex_pair_of kind_of is_mark passed letter_at turned after may_end is_kind fits form_of option_from is_in put_one put_two said_by start_said is_name chosen named heard_last heard_letter heard_option heard_all value_at second_at begins_with stands_in
pair = refl

-- the second of `-s 1,2`
pair-second : second_at (spoken desk_options desk_rows ((45 ∷ 115 ∷ []) ∷ (49 ∷ 44 ∷ 50 ∷ []) ∷ [])) 2 ≡ 2
unfolding before up_to behind row_from digit_of decimal_from decimal_of number_of hex_pair_of kind_of is_mark passed letter_at turned after may_end is_kind fits form_of option_from is_in put_one put_two said_by start_said is_name chosen named heard_last heard_letter heard_option heard_all value_at second_at begins_with stands_in
pair-second = refl

-- of `-s 1,2 -s 3` the last counts, which has no second
pair-last : second_at (spoken desk_options desk_rows ((45 ∷ 115 ∷ []) ∷ (49 ∷ 44 ∷ 50 ∷ []) ∷ (45 ∷ 115 ∷ []) ∷ (51 ∷ []) ∷ [])) 2 ≡ no_value
unfolding before up_to behind row_from digit_of decimal_from decimal_of number_of hex_pair_of kind_of is_mark passed letter_at turned after may_end is_kind fits form_of option_from is_in put_one put_two said_by start_said is_name chosen named heard_last heard_letter heard_option heard_all value_at second_at begins_with stands_in
pair-last = refl
