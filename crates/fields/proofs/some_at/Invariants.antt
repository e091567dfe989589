-- `fields::some_at` meets its contract. The loop's invariant: n is the field from nibble i up to the last one that holds a bit
-- of what is asked. The measure is i. Assumes nothing.
use mathlib.Core.Path.{◌≡◌}
use Prim.Native.Nat.{◌+◌, ◌-◌, ◌*◌, ◌≤◌}
use Rattle.fields.specs.Fields.{field}
use Rattle.fields.specs.Compound.{compound}
use Rattle.fields.proofs.some_at.Given as goal

abbrev pub invariant-loop-i : goal.invariant-loop-i
invariant-loop-i l =
    (l.first ≤ l.i) × (l.i ≤ l.end) × (l.end ≤ l.first + 7) × (l.n ≡ field (l.i * 4) ((l.end - l.i) * 4) (compound l.s))
