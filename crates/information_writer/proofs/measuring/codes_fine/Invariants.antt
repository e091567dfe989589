-- `information_writer::measuring::codes_fine` meets its contract: what is left decides as all of them. Assumes nothing.
use mathlib.Core.Path.{◌≡◌}
use Prim.Native.Nat.{◌+◌, ◌-◌}
use lib.ListN.{drop}
use Rattle.codecs.specs.Rows.{codes_in}
use Rattle.kinds.specs.Kind.{sevens}
use Rattle.information_writer.proofs.measuring.codes_fine.Given as goal

abbrev pub invariant-loop-i : goal.invariant-loop-i
invariant-loop-i l =
    sevens (codes_in (l.count - l.i) (drop (l.at + l.i) l.form)) ≡ sevens (codes_in l.count (drop l.at l.form))
