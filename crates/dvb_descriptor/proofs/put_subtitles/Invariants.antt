-- `dvb_descriptor::put_subtitles` meets its contract: the subtitles left from here make those that were to be put. Assumes nothing.
use mathlib.Core.Path.{◌≡◌}
use Prim.Native.Nat.{◌+◌, ◌-◌, ◌*◌, ◌≤◌}
use lib.ListN.{length, drop}
use lib.Seq.{sets}
use Rattle.dvb_descriptor.specs.Entries.{fives, kept_in}
use Rattle.dvb_descriptor.proofs.put_subtitles.Given as goal

abbrev pub invariant-loop : goal.invariant-loop
invariant-loop l =
    (length l.out ≡ length l.initial.out) × (l.i + 5 * (l.k - l.counter) ≤ 2 + 5 * l.k) × (l.to + 5 * (l.k - l.counter) ≤ 2 + 5 * l.k)
    × (l.to + 5 * length (kept_in (l.k - l.counter) (drop l.i l.bytes)) ≡ 2 + 5 * length (kept_in l.k (drop 2 l.bytes)))
    × (sets l.out l.to (fives 0 (kept_in (l.k - l.counter) (drop l.i l.bytes))) ≡ sets l.initial.out 2 (fives 0 (kept_in l.k (drop 2 l.bytes))))
