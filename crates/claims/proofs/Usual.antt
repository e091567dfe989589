-- The third demand where no number is given: the corollaries of `Calls`, which hold for every number of packets a page from 1 to 25, at the
-- usual one. A call of `cut` is one of them. Assumes nothing.
use mathlib.Core.Path.{◌≡◌}
use mathlib.Core.Bool.{true}
use mathlib.Core.List.{List, map}
use Prim.Native.Nat.{ℕ, ◌≤◌, ◌<◌}
use native.Mathlib.Omega.{arith}
use Rattle.laws.specs.Each.{Each}
use Rattle.packet.specs.declared.Setting.{Setting}
use Rattle.packet.specs.Setting.{in_range}
use Rattle.writer.specs.Cutting.{usual_page}
use Rattle.forms.specs.Tables.{Table, fits}
use Rattle.forms.specs.Form.{form}
use Rattle.claims.specs.Noise.{Flipped}
use Rattle.claims.specs.Damage.{Counted}
use Rattle.claims.specs.Lists.{Among}
use Rattle.claims.specs.Calls.{counted_forms, Through, Delivers}
use Rattle.claims.proofs.Calls.{calls-carried, calls-exactly, calls-never-wrong, calls-exactly-forms, calls-never-wrong-forms}

module _ (d : ℕ) (small : d ≤ 2) (s : Setting) (within : in_range s ≡ true) (index : ℕ) (low : index < 16) (ts : List Table)
    (fit : Each (λ t. fits t ≡ true) ts) {forms : List (Counted (List ℕ))} (c : Through (Flipped d) s index usual_page ts forms) where
  -- the forms handed in, each with the number of bytes of its sending that arrived other than they were sent
  abbrev pub usual_in : List (Counted (List ℕ))
  usual_in = counted_forms usual_page ts c.made.records c.ours

  pub usual-carried : Delivers (2 ≤ d) c
  usual-carried = calls-carried d small s within index usual_page low (omega arith) (omega arith) ts fit c

  -- at most one flipped bit in each byte: exactly the forms handed in, with exactly those counts
  pub usual-exactly : d ≤ 1 → forms ≡ usual_in
  usual-exactly one = calls-exactly d small s within index usual_page low (omega arith) (omega arith) ts fit c one

  -- up to two: only forms that were handed in, in order, each at most once, and each with its own count
  pub usual-never-wrong : Among forms usual_in
  usual-never-wrong = calls-never-wrong d small s within index usual_page low (omega arith) (omega arith) ts fit c

  -- of the forms alone: all of them, or a list among them
  pub usual-exactly-forms : d ≤ 1 → map (λ x. x.what) forms ≡ map form ts
  usual-exactly-forms one = calls-exactly-forms d small s within index usual_page low (omega arith) (omega arith) ts fit c one

  pub usual-never-wrong-forms : Among (map (λ x. x.what) forms) (map form ts)
  usual-never-wrong-forms = calls-never-wrong-forms d small s within index usual_page low (omega arith) (omega arith) ts fit c
