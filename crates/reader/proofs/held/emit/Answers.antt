-- `reader::held::emit` meets its contract: four stores, and the raw bytes behind them. Assumes nothing.
use mathlib.Core.Path.{◌∙◌}
use Prim.Native.Nat.{◌%◌, ◌/◌}
use native.Mathlib.Omega.{arith}
use lib.ListN.{take, drop, length-set}
use Rattle.walk.proofs.Storing.{head_first}
use Rattle.reader.proofs.held.emit.Goals as goal

pub bounds-out-q-2 : goal.bounds-out-q-2
bounds-out-q-2 c = simp length-set (omega arith)

pub bounds-out-q-3 : goal.bounds-out-q-3
bounds-out-q-3 c = simp length-set (omega arith)

pub bounds-out-q-4 : goal.bounds-out-q-4
bounds-out-q-4 c = simp length-set (omega arith)

pub shape_of-out : goal.shape_of-out
shape_of-out c = c.copy.auto.dst ∙ simp length-set

pub returns : goal.returns
returns c =
    let a = c.args in
    c.copy.ensures
    ∙ head_first a.out.now (take a.size (drop a.from a.raw.now)) a.q (a.head % 256) (a.head / 256) a.part a.second
