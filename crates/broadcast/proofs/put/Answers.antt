-- `broadcast::put` meets its contract: the room decides. Assumes nothing.
use mathlib.Core.List.{List, []}
use mathlib.Core.Path.{◌∙◌, refl, ap}
use Prim.Native.Nat.{ℕ}
use lib.Seq.{sets, take-length}
use Rattle.answer.proofs.Lent.{lent-short, lent-done}
use Rattle.broadcast.proofs.put.Goals as goal

pub returns-then-out-n : goal.returns-then-out-n
returns-then-out-n c =
    let s = c.args in
    let p = lent-short [] s.text.now s.out.now 0 refl refl c.if-out-n.true in
    record {
      answer = c.refuse.ensures ∙ p.0;
      output = p.1;
    }

pub returns : goal.returns
returns c =
    let s = c.args in
    let text : List ℕ = s.text.now in
    let p = lent-done [] text s.out.now 0 refl refl c.if-out-n.false in
    record {
      answer = p.0;
      output = c.copy.ensures ∙ ap (sets s.out.now 0) (take-length text) ∙ p.1;
    }
