-- `dvb_descriptor::put_entries` meets its contract: the entries left from here make those that were to be put. Assumes nothing.
use mathlib.Core.Path.{◌≡◌}
use Prim.Native.Nat.{◌+◌, ◌-◌, ◌*◌, ◌≤◌}
use lib.ListN.{length, drop}
use lib.Seq.{sets}
use Rattle.forms.specs.Form.{words_in}
use Rattle.dvb_descriptor.specs.Subtitles.{paired}
use Rattle.dvb_descriptor.specs.Entries.{fives}
use Rattle.dvb_descriptor.proofs.put_entries.Given as goal

abbrev pub invariant-loop : goal.invariant-loop
invariant-loop l =
    (length l.out ≡ length l.initial.out) × (l.i + 6 * (l.k - l.counter) ≤ l.from + 6 * l.k) × (l.q + 5 * (l.k - l.counter) ≤ l.to + 5 * l.k)
    × (sets l.out l.q (fives 2 (paired (words_in (2 * (l.k - l.counter)) (drop l.i l.table)))) ≡ sets l.initial.out l.to (fives 2 (paired (words_in (2 * l.k) (drop l.from l.table)))))
