-- `table::spelling::write_word` meets its contract: three stores in a row. Assumes nothing.
use mathlib.Core.Path.{refl}
use mathlib.Core.List.{List, [], ◌∷◌}
use Prim.Native.Nat.{ℕ, ◌+◌, ◌/◌, ◌%◌}
use native.Mathlib.Omega.{arith}
use Rattle.forms.specs.Form.{spelled}
use Rattle.table.proofs.Written.{stored}
use Rattle.table.proofs.spelling.write_word.Goals as goal

pub returns : goal.returns
unfolding spelled
returns c =
    let p₁ = c.put in
    let p₂ = c.put-2 in
    let p₃ = c.put-3 in
    let a = c.args in
    let q = a.q in
    let w = a.w in
    let l₃ : List ℕ = p₃.new.out in
    stored a.out.now p₁.new.out l₃ q (q + 1) (w / 256 / 256 % 256) (w / 256 % 256 ∷ w % 256 ∷ []) (omega arith) p₁.ensures
    (stored p₁.new.out p₂.new.out l₃ (q + 1) (q + 2) (w / 256 % 256) (w % 256 ∷ []) (omega arith) p₂.ensures
    (stored p₂.new.out l₃ l₃ (q + 2) (q + 3) (w % 256) [] (omega arith) p₃.ensures refl))
