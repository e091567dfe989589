-- `words::places::after` meets its contract: its tests in order. Assumes nothing.
use native.Mathlib.Omega.{arith}
use Rattle.words.proofs.Placing.{after_last, after-other}
use Rattle.words.proofs.places.after.Goals as goal

pub returns-then-end-here : goal.returns-then-end-here
returns-then-end-here c = after_last _ c.args.spot c.passed-here.ensures c.passed-group.ensures (omega arith) c.turned.ensures

pub returns-then-end-here-eq1 : goal.returns-then-end-here-eq1
returns-then-end-here-eq1 c = after_last _ c.args.spot c.passed-here.ensures c.passed-group.ensures (omega arith) c.turned-then-end-here-eq1.ensures

pub returns : goal.returns
returns c = after-other _ c.args.spot c.passed-here.ensures c.passed-group.ensures (omega arith)
