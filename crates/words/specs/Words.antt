-- The words of a command line, one after the other, for a program whose options and rows are data (SCOPE 13.12).
use Rattle.std.specs.Prelude.{Bool, true, false, List, [], ◌∷◌, ℕ, ◌+◌, ◌*◌, eqb, ltb, length, get_or, replicate}
use Rattle.laws.specs.Pick.{pick, both}
use Rattle.texts.specs.Texts.{same_text, stands_in}
use Rattle.words.specs.declared.Said.{Said}
use Rattle.words.specs.declared.Stage.{Stage}
use Rattle.words.specs.declared.Stage.TheVariants.{Task, Options, Value, Names, AllNames, Bad}
use Rattle.words.specs.Rows.{letters_at, places_at, row_of, space}
use Rattle.words.specs.Places.{spot, letter_at, after, may_end, fits}
use Rattle.words.specs.Options.{option_of, form_of, flag, usual_of, no_value, to_stage, bad, put_one, said_by}

-- before any word; a program whose first row has no word has no tasks
unfoldable pub start_said : List ℕ → Said
start_said t =
    record { stage = pick (eqb (get_or t 0 0) space) Options Task; row = 0; spot = spot 0 0; values = replicate 16 no_value }

-- the character of a `-`
abbrev pub dash : ℕ
dash = 45

-- a word that doesn't begin with a `-` is a name
unfoldable pub is_name : List ℕ → Bool
is_name w = pick (eqb (get_or w 0 0) dash) false true

-- the letter of the next name's place; whether the names may end
abbrev pub letter_now : List ℕ → Said → ℕ
letter_now t s = letter_at (places_at t s.row) s.spot

abbrev pub is_whole : List ℕ → Said → Bool
is_whole t s = may_end (places_at t s.row) s.spot

-- the word of a task; any other is bad
unfoldable pub chosen : List ℕ → Said → List ℕ → Said
chosen t s w =
    pick (ltb (row_of t w) (length t)) (record { stage = Options; row = row_of t w; spot = s.spot; values = s.values }) (bad s)

-- a name takes the next place, where it fits
unfoldable pub named : List ℕ → Said → Stage → List ℕ → Said
named t s n w =
    pick (fits (letter_now t s) w)
    (record { stage = n; row = s.row; spot = after (places_at t s.row) s.spot; values = s.values })
    (bad s)

-- a word where only a name or `--` may stand
unfoldable pub heard_last : List ℕ → Said → List ℕ → Said
heard_last t s w = pick (is_name w) (named t s Names w) (pick (same_text w (dash ∷ dash ∷ [])) (to_stage AllNames s) (bad s))

-- the letter behind a `-`: an option that the row takes
unfoldable pub heard_letter : List ℕ → List ℕ → Said → ℕ → Said
heard_letter o t s c =
    pick (both (ltb (option_of o c) 8) (stands_in (c ∷ []) (letters_at t s.row)))
    (pick (eqb (form_of o (option_of o c)) flag) (put_one o s (option_of o c) 1) (to_stage (Value (option_of o c)) s))
    (bad s)

-- a word where options may stand: `-` and a letter, which isn't `-` itself, is an option
unfoldable pub heard_option : List ℕ → List ℕ → Said → List ℕ → Said
heard_option o t s w =
    pick (both (eqb (length w) 2) (both (eqb (get_or w 0 0) dash) (pick (eqb (get_or w 1 0) dash) false true)))
    (heard_letter o t s (get_or w 1 0))
    (heard_last t s w)

-- one more word; once a word was bad, all is bad
abbrev pub heard : List ℕ → List ℕ → Said → List ℕ → Stage → Said
heard o t s w Task = chosen t s w
heard o t s w Options = heard_option o t s w
heard o t s w (Value k) = said_by o s k w
heard o t s w Names = heard_last t s w
heard o t s w AllNames = named t s AllNames w
heard o t s w Bad = s

-- all the words of a command line, after what was said
unfoldable pub heard_all : List ℕ → List ℕ → Said → List (List ℕ) → Said
heard_all o t s [] = s
heard_all o t s (w ∷ ws) = heard_all o t (heard o t s w s.stage) ws

abbrev pub spoken : List ℕ → List ℕ → List (List ℕ) → Said
spoken o t ws = heard_all o t (start_said t) ws

-- the letter of the place that a word takes, if it is heard next; 0 where it is no name
abbrev pub place_of : List ℕ → Said → List ℕ → Stage → ℕ
place_of t s w Task = 0
place_of t s w Options = pick (is_name w) (letter_now t s) 0
place_of t s w (Value k) = 0
place_of t s w Names = pick (is_name w) (letter_now t s) 0
place_of t s w AllNames = letter_now t s
place_of t s w Bad = 0

-- the words may end
abbrev pub is_good : List ℕ → Said → Stage → Bool
is_good t s Task = false
is_good t s Options = is_whole t s
is_good t s (Value k) = false
is_good t s Names = is_whole t s
is_good t s AllNames = is_whole t s
is_good t s Bad = false

-- the value of option k: what was said last, or the usual one
unfoldable pub value_at : List ℕ → Said → ℕ → ℕ
value_at o s k =
    pick (ltb k 8) (pick (eqb (get_or s.values (2 * k) 0) no_value) (usual_of o k) (get_or s.values (2 * k) 0)) no_value

-- the second of two numbers that were said last for option k
unfoldable pub second_at : Said → ℕ → ℕ
second_at s k = pick (ltb k 8) (get_or s.values (2 * k + 1) 0) no_value
