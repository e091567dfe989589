-- `information_writer::laying::put_letters` meets its contract: what is left to be put makes what was to be put. Assumes nothing.
use mathlib.Core.Path.{◌≡◌}
use mathlib.Core.List.{map}
use Prim.Native.Nat.{◌+◌, ◌-◌}
use lib.ListN.{drop}
use lib.Seq.{sets}
use Rattle.parity.specs.Parity.{letter}
use Rattle.codecs.specs.Rows.{codes_in}
use Rattle.information_writer.proofs.laying.put_letters.Given as goal

abbrev pub invariant-loop-i : goal.invariant-loop-i
invariant-loop-i l =
    sets l.out (l.to + l.i) (map letter (codes_in (l.count - l.i) (drop (l.from + l.i) l.form)))
    ≡ sets l.initial.out l.to (map letter (codes_in l.count (drop l.from l.form)))
