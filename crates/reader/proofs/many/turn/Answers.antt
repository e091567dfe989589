-- `reader::many::turn` meets its contract: the running block is dropped or not. Assumes nothing.
use mathlib.Core.Path.{◌∙◌, sym, ap}
use mathlib.Core.Bool.{Bool}
use Rattle.walk.proofs.Adding.{runs_mode}
use Rattle.state.specs.Acting.{spans_by}
use Rattle.reader.specs.Internal.{state_in}
use Rattle.reader.proofs.Heeding.{heed-only}
use Rattle.reader.proofs.many.turn.Goals as goal

pub returns : goal.returns
returns c =
    let a = c.args in
    λ p l out.
    heed-only a.v p l (state_in a.a a.store.now) (c.lose-got.ensures out) c.requires.reads_value
    (c.spans-joined.ensures
    ∙ ap (λ (b : Bool). spans_by a.v b a.a.joined) (c.is_running-ran.ensures ∙ sym (runs_mode a.a.got.run a.store.now)))
