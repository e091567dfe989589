-- `reader::many::pass_on` meets its contract: each packet that it passes by is another magazine's. Assumes nothing.
use mathlib.Core.Path.{◌≡◌}
use lib.ListN.{drop}
use Rattle.std.specs.Slice.Iter.{chunks_exact_rest, chunks_exact_size}
use Rattle.reader.specs.Internal.{Passed}
use Rattle.reader.proofs.many.pass_on.Given as goal

abbrev pub invariant-loop-packet : goal.invariant-loop-packet
invariant-loop-packet l =
    (goal.iterator-loop-packet).can_next l.packet-iterator × (goal.iterator-loop-packet).is_finite l.packet-iterator
    × (chunks_exact_size l.packet-iterator ≡ 42) × (chunks_exact_rest l.packet-iterator ≡ drop l.at l.packets)
    × Passed l.setting l.packets l.from l.at
