-- The answers that `blocks::sums::mended_in` wants beside its invariants. Assumes nothing.
use borrow.Author.Rules.{rules}
use mathlib.Core.Path.{◌≡◌, ◌∙◌, ap}
use Prim.Native.Nat.{◌+◌}
use native.Mathlib.Omega.{arith}
use lib.ListN.{length, drop, length-append, length-drop}
use Rattle.std.specs.Slice.Iter.{chunks_rest}
use Rattle.std.proofs.lemmas.List.{drop_min}
use Rattle.laws.proofs.Lists.{part-rest}
use Rattle.octet.proofs.Hearing.{harms_le}
use Rattle.blocks.specs.Parts.{mended_in}
use Rattle.blocks.proofs.Mending.{harms-run, harms_none}
use Rattle.blocks.proofs.sums.mended_in.Goals as goal

pub loop-run-init : goal.loop-run-init
unfolding mended_in
loop-run-init c =
    let rec = c.args.rec.now in
    let raw : chunks_rest c.into_iter-run-iterator.result ≡ drop 4 rec =
    ap chunks_rest c.into_iter-run-iterator.ensures.into_iter_gives ∙ c.chunks-run-items.ensures.rest ∙ part-rest c.min.result rec ∙ ap (λ n. drop n rec) c.min.ensures ∙ drop_min 4 rec in
    (search rules, rw (raw, length-drop) (omega arith), rw raw (omega (arith, c.byte_at-count.ensures.0)))

pub harms_in-requires : goal.harms_in-requires
harms_in-requires c = omega (arith, c.in-Some.ensures.steps.1.1, c.loop-run.invariant.0)

pub overflow_add-count : goal.overflow_add-count
overflow_add-count c = search rules

pub loop-run-preserved : goal.loop-run-preserved
loop-run-preserved c =
    let l = c.loop-run in
    let s = c.in-Some.ensures.steps in
    let few = c.in-Some.run'.now in
    let long : length l.run-iterator.rest.now ≡ length few + length c.next.new.self.rest.now = ap length s.1.0 ∙ length-append few _ in (
      s.0 ∙ l.invariant.0,
      omega (arith, long, harms_le few, c.harms_in.ensures, l.invariant.1),
      omega (arith, c.harms_in.ensures, harms-run few c.next.new.self.rest.now s.1.0, l.invariant.2),
    )

pub returns : goal.returns
returns c =
    let l = c.loop-run in
    omega (arith, harms_none l.run-iterator.rest.now c.in-None.ensures.steps.1.0, l.invariant.2)
