-- `sight::look_on` meets its contract: a packet 0 of our page has come, or not. Assumes nothing.
use mathlib.Core.Path.{◌∙◌, ap}
use Rattle.sight.specs.Sights.{fit_from}
use Rattle.sight.proofs.Looking.{looked-came, looked-lacking, noted-front}
use Rattle.sight.proofs.look_on.Goals as goal

pub returns-then-sight : goal.returns-then-sight
returns-then-sight c =
    let a = c.args in
    let k = c.count_all-sight.ensures in
    let w =
    looked-came a.setting a.sight a.n a.piece.now c.front.ensures c.begin-sight.ensures
    c.front-2.ensures k.value c.if-sight.true in
    record {
      value = w.0;
      piece_after = w.1;
      pages_after = noted-front a.n a.piece.now a.pages.now c.front-2.ensures k.pages_after;
    }

pub returns : goal.returns
returns c =
    let a = c.args in
    let k = c.count_all-sight.ensures in
    let w =
    looked-lacking a.setting a.sight a.n a.piece.now c.front.ensures c.begin-sight.ensures
    c.front-2.ensures k.value c.if-sight.false c.front-3.ensures
    (c.fit_from-sight.ensures ∙ ap (fit_from c.begin-sight.result.plain) c.find.ensures) c.turn_all.ensures c.front-4.ensures
    (c.fit_from-sight-2.ensures ∙ ap (fit_from c.begin-sight.result.turned) c.find-2.ensures) in
    record {
      value = w.0;
      piece_after = w.1;
      pages_after = noted-front a.n a.piece.now a.pages.now c.front-2.ensures k.pages_after;
    }
