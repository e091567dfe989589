-- `fields::pen::lay` meets its contract: what is left to be stored from here makes what was to be stored. The measure is the bits in
-- hand. Assumes nothing.
use mathlib.Core.Path.{◌≡◌}
use mathlib.Core.List.{map}
use Prim.Native.Nat.{◌+◌, ◌*◌, ◌/◌, ◌%◌, ◌^◌, ◌≤◌, min}
use lib.ListN.{length}
use lib.Seq.{sets}
use Rattle.octet.specs.Image.{image}
use Rattle.fields.specs.Fields.{parts}
use Rattle.fields.specs.Pens.{last}
use Rattle.fields.proofs.pen.lay.Given as goal

abbrev pub invariant-loop-held : goal.invariant-loop-held
invariant-loop-held l =
    (length l.out ≡ length l.initial.out) × (l.at ≤ last) × (min (l.at + l.held / 4) last ≡ min (l.initial.at + l.initial.held / 4) last) × (l.held % 4 ≡ l.initial.held % 4)
    × (l.bits / 2 ^ (4 * (l.held / 4)) ≡ l.initial.bits / 2 ^ (4 * (l.initial.held / 4)))
    × (sets l.out l.at (map image (parts 4 (l.held / 4) l.bits)) ≡ sets l.initial.out l.initial.at (map image (parts 4 (l.initial.held / 4) l.initial.bits)))

abbrev pub decreases-loop-held : goal.decreases-loop-held
decreases-loop-held l = l.held
