-- `blocks::sums::sound` meets its contract: the bytes passed and those still to come before the first that can't be decoded are as
-- many as at the start. Assumes nothing.
use mathlib.Core.Path.{◌≡◌}
use mathlib.Core.List.{map}
use Prim.Native.Nat.{◌+◌}
use lib.ListN.{drop}
use Rattle.octet.specs.Decoding.{nib}
use Rattle.blocks.specs.Sums.{sound}
use Rattle.blocks.proofs.sums.sound.Given as goal

abbrev pub invariant-loop-i : goal.invariant-loop-i
invariant-loop-i l = l.i + sound (map nib (drop l.i l.s)) ≡ sound (map nib l.s)
