-- `captures::feeding::feed` meets its contract: nothing is given, or it doesn't lie in the piece, or the reader's answer is heeded. Assumes nothing.
use Rattle.captures.proofs.Fed.{Feeds, none-given, past-piece, some-given}
use Rattle.captures.proofs.feeding.feed.Goals as goal
use Rattle.captures.proofs.feeding.feed.Goals.{then-end-at-via-then-end-at, then-end-at-via-else-end-at+then-piece-end}

pub returns-then-end-at : goal.returns-then-end-at
returns-then-end-at c =
    let a = c.args in
    let it : Feeds a.capture a.piece.now a.records.now c.broken.result a.records.now =
    elim c.then-end-at.branch [
      | then-end-at-via-then-end-at w ↦
          none-given a.capture a.piece.now a.records.now c.up_to-end.ensures w.if-end-at.true c.broken.ensures
      | then-end-at-via-else-end-at+then-piece-end w ↦
          past-piece a.capture a.piece.now a.records.now c.up_to-end.ensures w.if-piece-end.true c.broken.ensures
    ] in
    record { value = it.0; records_after = it.1 }

pub returns : goal.returns
returns c =
    let a = c.args in
    let f = c.call-heard.ensures in
    let it = some-given a.capture a.piece.now a.records.now c.up_to-end.ensures c.if-end-at.false c.if-piece-end.false f.value f.out_after c.heed-came.ensures in
    record { value = it.0; records_after = it.1 }
