-- `broadcast::say` meets its contract: the texts are the lines. Assumes nothing.
use mathlib.Core.List.{List, []}
use mathlib.Core.Path.{◌∙◌, ap}
use Prim.Native.Nat.{ℕ}
use Rattle.answer.specs.Writing.{answered, left}
use Rattle.broadcast.specs.Internal.{said}
use Rattle.broadcast.proofs.Judged.{said_no}
use Rattle.broadcast.proofs.say.Goals as goal

pub returns-in-None : goal.returns-in-None
unfolding said
returns-in-None c = let w = c.put.ensures in rw c.in-None.is record { answer = w.answer; output = w.output }

pub returns-in-Some : goal.returns-in-Some
returns-in-Some c =
    let w = c.put-in-Some.ensures in
    let s = c.args in
    let e = said_no c.in-Some.letter in
    rw c.in-Some.is record {
      answer = w.answer ∙ ap (λ (l : List ℕ). answered [] l s.out.now) e;
      output = w.output ∙ ap (λ (l : List ℕ). left [] l s.out.now) e;
    }
