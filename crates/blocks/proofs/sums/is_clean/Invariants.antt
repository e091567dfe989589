-- `blocks::sums::is_clean` meets its contract: nothing was found so far and the rest has no harm, exactly where all from the place on has none. The measure is what is left of the length. Assumes nothing.
use mathlib.Core.Path.{◌≡◌}
use lib.Dec.{eqb}
use lib.ListN.{drop}
use Rattle.laws.specs.Pick.{both}
use Rattle.octet.specs.Hearing.{harms}
use Rattle.blocks.proofs.sums.is_clean.Given as goal

abbrev pub invariant-loop-b : goal.invariant-loop-b
invariant-loop-b l = both (eqb l.mix 0) (eqb (harms (drop l.b-index l.s)) 0) ≡ eqb (harms l.s) 0
