-- `menu_listing::lines::put_codes` meets its contract: what is left to be put from here makes what was to be put. Assumes nothing.
use mathlib.Core.List.{map}
use Prim.Native.Nat.{◌+◌, ◌-◌, ◌≤◌}
use lib.ListN.{drop}
use Rattle.menu_forms.specs.Form.{codes_in}
use Rattle.text_lines.proofs.Printed.{Left}
use Rattle.menu_listing.specs.Lines.{shown}
use Rattle.menu_listing.proofs.lines.put_codes.Given as goal

abbrev pub invariant-loop-i : goal.invariant-loop-i
invariant-loop-i l =
    (l.p ≤ l.q + l.i)
    × Left l.out l.p (map shown (codes_in (l.count - l.i) (drop (l.from + l.i) l.form))) l.initial.out l.q (map shown (codes_in l.count (drop l.from l.form)))
