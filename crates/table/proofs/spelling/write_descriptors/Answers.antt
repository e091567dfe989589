-- The answers that `table::spelling::write_descriptors` wants beside its invariants. Assumes nothing.
use borrow.Author.Rules.{rules}
use mathlib.Core.Path.{◌∙◌}
use native.Mathlib.Omega.{arith}
use Rattle.fields.specs.Compound.{compound}
use Rattle.table.proofs.Written.{descriptor-on, descriptors_end}
use Rattle.table.proofs.spelling.write_descriptors.Goals as goal

pub loop-preserved : goal.loop-preserved
loop-preserved c =
    let l = c.loop in
    let a = c.args in
    let d = c.write_descriptor-words in
    let n = compound a.body.now in
    let kind = a.kind in (
      d.auto.out ∙ l.invariant.0,
      omega (arith, d.ensures.1, l.invariant.1),
      omega (arith, d.ensures.1, l.invariant.2),
      descriptor-on kind _ _ n l.at d.result (search rules) d.ensures.0 l.q l.out d.new.out _
          d.ensures.2 l.invariant.3,
    )

pub returns : goal.returns
returns c =
    let l = c.loop in
    descriptors_end c.args.kind _ (compound c.args.body.now) l.at l.q
    l.out _ (search rules) l.invariant.3
