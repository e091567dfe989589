-- `dvb_descriptor::put_descriptors` meets its contract: the subtitles left from here make those that were to be put. Assumes nothing.
use mathlib.Core.Path.{◌≡◌}
use Prim.Native.Nat.{◌+◌, ◌-◌, ◌*◌, ◌≤◌}
use lib.ListN.{length, drop}
use lib.Seq.{sets}
use Rattle.forms.specs.Form.{descriptors_in, table_in}
use Rattle.forms.specs.Internal.{descriptor_most, form_most}
use Rattle.dvb_descriptor.specs.Subtitles.{subtitles_in, subtitles_of}
use Rattle.dvb_descriptor.specs.Entries.{fives}
use Rattle.dvb_descriptor.proofs.put_descriptors.Given as goal

abbrev pub invariant-loop : goal.invariant-loop
invariant-loop l =
    (length l.out ≡ length l.initial.out) × (l.i + descriptor_most * (l.end - l.counter) ≤ form_most) × (l.to + descriptor_most * (l.end - l.counter) ≤ form_most)
    × (sets l.out l.to (fives 2 (subtitles_in (descriptors_in 2 (l.end - l.counter) (drop l.i l.table)))) ≡ sets l.initial.out 2 (fives 2 (subtitles_of (table_in l.table))))
