-- `listing::put_entries` meets its contract: what is left to be put from here makes what was to be put. Assumes nothing.
use mathlib.Core.Path.{◌≡◌}
use Prim.Native.Nat.{◌+◌, ◌-◌, ◌*◌, ◌≤◌}
use lib.ListN.{length, drop}
use Rattle.forms.specs.Form.{words_in}
use Rattle.forms.specs.Tables.{per}
use Rattle.listing.specs.Lines.{entry_lines}
use Rattle.listing.specs.Internal.{entry_most}
use Rattle.text_lines.proofs.Printed.{Left}
use Rattle.listing.proofs.put_entries.Given as goal

abbrev pub invariant-loop : goal.invariant-loop
invariant-loop l =
    (length l.out ≡ length l.initial.out) × (l.i + 6 * (l.k - l.counter) ≤ l.from + 6 * l.k) × (l.p + entry_most * (l.k - l.counter) ≤ l.q + entry_most * l.k)
    × Left l.out l.p (entry_lines l.kind (words_in (per l.kind * (l.k - l.counter)) (drop l.i l.table))) l.initial.out l.q (entry_lines l.kind (words_in (per l.kind * l.k) (drop l.from l.table)))
