-- `table::spelling::write_words` meets its contract: what is left to be stored from here makes what was to be stored. Assumes nothing.
use mathlib.Core.Path.{◌≡◌}
use Prim.Native.Nat.{◌+◌, ◌-◌, ◌*◌, ◌/◌, ◌^◌, ◌<◌}
use lib.ListN.{length}
use lib.Seq.{sets}
use Rattle.fields.specs.Fields.{parts}
use Rattle.forms.specs.Form.{spelled}
use Rattle.fields.specs.Compound.{compound}
use Rattle.table.proofs.spelling.write_words.Given as goal

abbrev pub invariant-loop : goal.invariant-loop
invariant-loop l =
    (length l.out ≡ length l.initial.out) × (l.p + 3 * (l.k - l.counter) < 300000) × (l.at + 24 * (l.k - l.counter) < 300000)
    × (sets l.out l.p (spelled (parts 24 (l.k - l.counter) (compound l.body / 2 ^ l.at))) ≡ sets l.initial.out l.q (spelled (parts 24 l.k (compound l.body / 2 ^ l.from))))
