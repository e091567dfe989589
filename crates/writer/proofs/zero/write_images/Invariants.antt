-- `writer::zero::write_images` meets its contract. The loop's invariant: the images stored, with those still to be stored, are the whole. Assumes nothing.
use mathlib.Core.Path.{◌≡◌}
use mathlib.Core.List.{map}
use Prim.Native.Nat.{◌+◌, ◌≤◌}
use lib.ListN.{length, drop}
use lib.Seq.{sets}
use Rattle.octet.specs.Image.{image}
use Rattle.writer.proofs.zero.write_images.Given as goal

abbrev pub invariant-loop-i : goal.invariant-loop-i
invariant-loop-i l =
    (l.i ≤ length l.nibbles) × (length l.out ≡ length l.initial.out) × (sets l.out (l.q + l.i) (map image (drop l.i l.nibbles)) ≡ sets l.initial.out l.q (map image l.nibbles))
