-- What the number and the offset of an answer owe the rules of its call, whatever enum the answer is (SCOPE 2.1).
use Rattle.std.specs.Prelude.{◌≡◌, true, List, ℕ}
use Rattle.answer.specs.Rules.{Rule, all_refusing, Every, First}

pub record Judges (rules : List Rule) (number offset : ℕ) : Type 0 where
  -- every rule refuses with a number of the list, so that 0 is no refusal
  pub numbered : all_refusing rules ≡ true
  -- 0 where every rule holds
  pub accepts : Every rules → number ≡ 0
  -- otherwise the number and the offset of the first that doesn't
  pub refuses : (q : Rule) → First q rules → (number ≡ q.number) × (offset ≡ q.offset)
