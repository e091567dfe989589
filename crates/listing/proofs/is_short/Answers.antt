-- `listing::is_short` meets its contract: nine bytes for each of the form are enough, and else the lines are measured. Assumes nothing.
use borrow.Author.Tests.{le-ltb}
use mathlib.Core.Path.{◌∙◌, sym, ap}
use mathlib.Core.List.{List}
use Prim.Native.Nat.{ℕ, ◌≤◌}
use native.Mathlib.Omega.{arith}
use lib.Dec.{ltb}
use lib.ListN.{length}
use Rattle.forms.specs.Form.{table_in}
use Rattle.forms.proofs.Sendable.{sendable}
use Rattle.listing.specs.Internal.{lines_from}
use Rattle.listing.proofs.Room.{lines_room}
use Rattle.listing.proofs.is_short.Goals as goal

pub returns-else-room-table : goal.returns-else-room-table
returns-else-room-table c =
    let a = c.args in
    let f : List ℕ = a.table.now in
    let h : length (lines_from a.head (table_in f)) ≤ a.room =
    omega (
      arith,
      lines_room a.head (table_in f) c.requires.2 (sendable (table_in f) c.requires.1),
      c.requires.0,
      c.if-room-table.false,
    ) in
    le-ltb _ _ c.if-room-table.false ∙ sym (le-ltb _ _ h)

pub returns-then-room-table : goal.returns-then-room-table
returns-then-room-table c = ap (λ (x : ℕ). ltb c.args.room x) c.measure.ensures
