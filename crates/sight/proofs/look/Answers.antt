-- `sight::look` meets its contract, by its test. Assumes nothing.
use Rattle.sight.proofs.Looking.{is-looked, not-looked}
use Rattle.sight.proofs.look.Goals as goal

pub returns-then-is_looked : goal.returns-then-is_looked
returns-then-is_looked c =
    let a = c.args in
    let it = is-looked a.setting a.verbose a.sight a.n a.piece.now a.pages.now c.is_looked.ensures c.if-is_looked.true (c.look_on.ensures.value, (c.look_on.ensures.piece_after, c.look_on.ensures.pages_after)) in
    record { value = it.0; piece_after = it.1.0; pages_after = it.1.1 }

pub returns : goal.returns
returns c =
    let a = c.args in
    let it = not-looked a.setting a.verbose a.sight a.n a.piece.now a.pages.now c.is_looked.ensures c.if-is_looked.false in
    record { value = it.0; piece_after = it.1.0; pages_after = it.1.1 }
