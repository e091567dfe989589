-- `information_writer::laying::lay_networks` meets its contract: what is left from here makes what was to be laid. Assumes nothing.
use mathlib.Core.Path.{◌≡◌}
use Prim.Native.Nat.{◌+◌, ◌-◌, ◌*◌, ◌≤◌}
use Rattle.fields.specs.Pens.{inked, moved, Fine}
use Rattle.information_writer.specs.Internal.{laid_from}
use Rattle.information_writer.proofs.laying.lay_networks.Given as goal

abbrev pub invariant-loop-j : goal.invariant-loop-j
invariant-loop-j l =
    let here = laid_from (l.count - l.j) l.j l.codes l.form in
    let all = laid_from l.count 0 l.first l.form in
    Fine l.p × (l.codes ≤ l.first + 255 * l.j) × (moved l.p here ≡ moved l.initial.p all)
    × (inked l.p here l.out ≡ inked l.initial.p all l.initial.out)
