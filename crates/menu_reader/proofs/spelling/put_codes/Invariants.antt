-- `menu_reader::spelling::put_codes` meets its contract: what is left to be stored makes what was to be stored. Assumes nothing.
use mathlib.Core.Path.{◌≡◌}
use mathlib.Core.List.{map}
use Prim.Native.Nat.{◌+◌, ◌-◌}
use lib.ListN.{drop}
use lib.Seq.{sets}
use Rattle.menu_forms.specs.Form.{codes_in}
use Rattle.kinds.specs.Reading.{code_of}
use Rattle.menu_reader.proofs.spelling.put_codes.Given as goal

abbrev pub invariant-loop-i : goal.invariant-loop-i
invariant-loop-i l =
    let cs = map code_of l.strings in
    sets l.out (l.to + l.i) (codes_in (l.count - l.i) (drop (l.from + l.i) cs)) ≡ sets l.initial.out l.to (codes_in l.count (drop l.from cs))
