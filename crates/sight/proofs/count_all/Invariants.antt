-- `sight::count_all` meets its contract: what is left, counted and noted from here, is the whole. Assumes nothing.
use mathlib.Core.Path.{◌≡◌}
use Prim.Native.Nat.{◌-◌, ◌*◌, ◌/◌}
use lib.ListN.{length, drop}
use Rattle.packet.specs.Packet.{packet_length}
use Rattle.sight.specs.Sights.{counted_all, noted_all}
use Rattle.sight.proofs.count_all.Given as goal

abbrev pub invariant-loop-i : goal.invariant-loop-i
invariant-loop-i l = record {
  counted : counted_all l.setting (length l.bytes / packet_length - l.i) l.counts (drop (42 * l.i) l.bytes)
      ≡ counted_all l.setting (length l.bytes / packet_length) l.initial.counts l.bytes;
  noted : noted_all (length l.bytes / packet_length - l.i) l.pages (drop (42 * l.i) l.bytes)
      ≡ noted_all (length l.bytes / packet_length) l.initial.pages l.bytes;
}
