-- The answers that `bench::bench_turn` wants beside its invariants. Assumes nothing.
use borrow.Author.Rules.{rules}
use mathlib.Core.Path.{◌∙◌, sym}
use Prim.Native.Nat.{◌-◌}
use Rattle.octet.specs.Turning.{turned}
use Rattle.bench.proofs.Mixing.{mix_step, mix_end}
use Rattle.bench.proofs.bench_turn.Goals as goal

pub loop-b-preserved : goal.loop-b-preserved
loop-b-preserved c =
    let l = c.loop-b in
    let a = c.args in
    mix_step turned a.s.now l.b-index l.mix c.turn-mix.result (search rules) c.turn-mix.ensures ∙ l.invariant

pub returns : goal.returns
returns c =
    let l = c.loop-b in
    sym (mix_end turned c.args.s.now l.b-index l.mix (search rules)) ∙ l.invariant
