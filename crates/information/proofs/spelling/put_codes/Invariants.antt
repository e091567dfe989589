-- `information::spelling::put_codes` meets its contract: what is left to be stored makes what was to be stored. Assumes nothing.
use mathlib.Core.Path.{◌≡◌}
use Prim.Native.Nat.{◌+◌, ◌-◌}
use lib.ListN.{drop}
use lib.Seq.{sets}
use Rattle.codecs.specs.Rows.{codes_in}
use Rattle.information.specs.Internal.{spoken}
use Rattle.information.proofs.spelling.put_codes.Given as goal

abbrev pub invariant-loop-i : goal.invariant-loop-i
invariant-loop-i l =
    let cs = spoken l.strings in
    sets l.out (l.to + l.i) (codes_in (l.count - l.i) (drop (l.from + l.i) cs)) ≡ sets l.initial.out l.to (codes_in l.count (drop l.from cs))
