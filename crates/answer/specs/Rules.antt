-- Refusals in order (SCOPE 2.1): a call judges its rules from first to last, and the first that doesn't hold decides. Over any type of
-- answer.
use Rattle.std.specs.Prelude.{◌≡◌, Bool, true, false, List, [], ◌∷◌, ℕ, leb}
use Rattle.laws.specs.Pick.{pick, both}

-- what must hold, and the number and the offset of the refusal where it doesn't
pub record Rule : Type 0 where
  pub holds : Bool
  pub number : ℕ
  pub offset : ℕ

abbrev pub rule : Bool → ℕ → ℕ → Rule
rule h n o = record { holds = h; number = n; offset = o }

-- the first rule that doesn't hold makes the refusal of its number and offset; where all hold it is a
abbrev pub judged {ℓ} : {A : Type ℓ} → (ℕ → ℕ → A) → List Rule → A → A
judged refused [] a = a
judged refused (r ∷ rs) a = pick r.holds (judged refused rs a) (refused r.number r.offset)

-- the greatest number of the list, of which 17, 18 and 19 aren't given (SCOPE 2.1)
abbrev pub last_number : ℕ
last_number = 27

-- a refusal's number is 1 to the last of the list; 0 stands for an acceptance (SCOPE 2.1)
abbrev pub refusing : ℕ → Bool
refusing n = both (leb 1 n) (leb n last_number)

-- every rule has such a number
unfoldable pub all_refusing : List Rule → Bool
all_refusing [] = true
all_refusing (r ∷ rs) = both (refusing r.number) (all_refusing rs)

-- every rule holds
pub data Every : List Rule → Type 0 where
  none : Every []
  more : {r : Rule} {rs : List Rule} → r.holds ≡ true → Every rs → Every (r ∷ rs)

-- q is the first rule that doesn't hold
pub data First (q : Rule) : List Rule → Type 0 where
  here : {rs : List Rule} → q.holds ≡ false → First q (q ∷ rs)
  later : {r : Rule} {rs : List Rule} → r.holds ≡ true → First q rs → First q (r ∷ rs)
