-- The answers that `writer::zero::write_images` wants beside its invariants. Assumes nothing.
use mathlib.Core.Path.{◌∙◌, refl}
use Prim.Native.Nat.{◌+◌}
use native.Mathlib.Nat.{add-zero}
use borrow.Author.Rules.{rules}
use lib.ListN.{length-set}
use Rattle.writer.proofs.PacketZero.{images_more, images_all}
use Rattle.writer.proofs.zero.write_images.Goals as goal

pub loop-i-init : goal.loop-i-init
loop-i-init c = (search rules, refl, rw add-zero)

pub loop-i-preserved : goal.loop-i-preserved
loop-i-preserved c =
    let l = c.loop-i in
    let a = c.args in
    (search rules, length-set l.out (a.q + l.i) _ ∙ l.invariant.1, images_more l.out _ a.q l.i _ c.loop-i-test.true c.image.ensures ∙ l.invariant.2)

pub returns : goal.returns
returns c = images_all _ _ _ _ _ c.loop-i-test.false c.loop-i.invariant.2
