-- `text_lines::puts::put_cut` meets its contract: what is left to be put from here makes what was to be put. The measure is the bytes left. Assumes nothing.
use mathlib.Core.Path.{◌≡◌}
use Prim.Native.Nat.{◌+◌, ◌-◌, ◌≤◌}
use lib.ListN.{length, drop}
use Rattle.text_lines.proofs.Putting.{Left}
use Rattle.text_lines.proofs.puts.put_cut.Given as goal

abbrev pub invariant-loop-b : goal.invariant-loop-b
invariant-loop-b l = (l.b-index ≤ length l.text) × (length l.out ≡ length l.initial.out) × (l.p + (length l.text - l.b-index) ≤ l.q + length l.text) × Left l.out l.p (drop l.b-index l.text) l.initial.out l.q l.text
