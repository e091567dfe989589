-- `table_writer::put_words` meets its contract: the words laid from here make those laid from the start. Assumes nothing.
use mathlib.Core.Path.{◌≡◌}
use Prim.Native.Nat.{◌+◌, ◌-◌, ◌*◌, ◌≤◌}
use lib.ListN.{length, drop}
use Rattle.fields.specs.Fields.{alike}
use Rattle.fields.specs.Pens.{inked, moved, Fine}
use Rattle.forms.specs.Form.{words_in}
use Rattle.forms.specs.Internal.{form_most}
use Rattle.table_writer.proofs.put_words.Given as goal

abbrev pub invariant-loop : goal.invariant-loop
invariant-loop l =
    Fine l.p × (length l.out ≡ length l.initial.out) × (l.i + 3 * (l.k - l.counter) ≤ form_most)
    × (moved l.p (alike 24 (words_in (l.k - l.counter) (drop l.i l.table))) ≡ moved l.initial.p (alike 24 (words_in l.k (drop l.from l.table))))
    × (inked l.p (alike 24 (words_in (l.k - l.counter) (drop l.i l.table))) l.out ≡ inked l.initial.p (alike 24 (words_in l.k (drop l.from l.table))) l.initial.out)
