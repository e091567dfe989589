-- A call that writes bytes to the front of a lent output: its answer, and the output afterwards, from its rules and its bytes.
use Rattle.std.specs.declared.result.Result.TheVariants.{Ok, Err}
use Rattle.std.specs.Prelude.{List, [], ◌∷◌, ◌++◌, ℕ, leb, length, drop}
use Rattle.answer.specs.Answer.{Answer}
use Rattle.answer.specs.Rules.{Rule, rule, judged}
use Rattle.answer.specs.Values.{refused}

-- 1, where there is no room for the bytes: always the last rule, and judged by the exact need (SCOPE 3.7)
abbrev pub room : List ℕ → List ℕ → Rule
room bytes old = rule (leb (length bytes) (length old)) 1 0

-- the rules of a call, the room's among them
abbrev pub all_rules : List Rule → List ℕ → List ℕ → List Rule
all_rules rules bytes old = rules ++ room bytes old ∷ []

-- the call's answer
abbrev pub answered : List Rule → List ℕ → List ℕ → Answer
answered rules bytes old = judged refused (all_rules rules bytes old) (Ok (length bytes))

-- the output after an answer: only the bytes that are reported as written change (SCOPE 3.3), and at a refusal none (SCOPE 3.2)
abbrev pub after : Answer → List ℕ → List ℕ → List ℕ
after (Ok n) bytes old = bytes ++ drop (length bytes) old
after (Err r) bytes old = old

-- the output that the call leaves
abbrev pub left : List Rule → List ℕ → List ℕ → List ℕ
left rules bytes old = after (answered rules bytes old) bytes old
