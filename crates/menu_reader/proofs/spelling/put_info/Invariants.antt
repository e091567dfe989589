-- `menu_reader::spelling::put_info` meets its contract: what is left to be stored makes what was to be stored. Assumes nothing.
use mathlib.Core.Path.{◌≡◌}
use mathlib.Core.List.{map}
use Prim.Native.Nat.{◌+◌, ◌-◌, ◌*◌}
use lib.ListN.{drop}
use lib.Seq.{sets}
use Rattle.octet.specs.Decoding.{nib}
use Rattle.menu_forms.specs.Form.{high_first}
use Rattle.menu_reader.specs.Internal.{bits_at}
use Rattle.menu_reader.proofs.spelling.put_info.Given as goal

abbrev pub invariant-loop-i : goal.invariant-loop-i
invariant-loop-i l =
    let v = bits_at 8 (8 * l.k) (drop l.at (map nib l.control)) in
    sets l.out (l.to + l.i) (high_first (l.k - l.i) v) ≡ sets l.initial.out l.to (high_first l.k v)
