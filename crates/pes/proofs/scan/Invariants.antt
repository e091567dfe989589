-- `pes::scan` meets its contract. The loop's invariant: judging from here on, with the bytes counted so far, is the whole answer.
-- The measure is what is left of the packet. Assumes nothing.
use mathlib.Core.Path.{◌≡◌}
use Prim.Native.Nat.{◌≤◌, ◌+◌, ◌-◌}
use lib.ListN.{length}
use Rattle.std.specs.declared.result.Result.TheVariants.{Ok}
use Rattle.answer.specs.Rules.{judged}
use Rattle.answer.specs.Values.{refused}
use Rattle.pes.specs.Reading.{units_rules, records_of}
use Rattle.pes.proofs.Walk.{scanned}
use Rattle.pes.proofs.scan.Given as goal

abbrev pub invariant-loop-next : goal.invariant-loop-next
invariant-loop-next l =
    (l.given ≤ l.at) × (l.at ≤ length l.pes + 46) × (scanned l.pes l.at l.given ≡ judged refused (units_rules l.pes) (Ok (length (records_of l.pes))))

abbrev pub decreases-loop-next : goal.decreases-loop-next
decreases-loop-next l = length l.pes - l.at
