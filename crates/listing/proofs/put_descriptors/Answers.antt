-- The answers that `listing::put_descriptors` wants beside its invariants. Assumes nothing.
use borrow.Author.Rules.{rules}
use mathlib.Core.List.{List}
use mathlib.Core.Path.{◌∙◌, refl}
use Prim.Native.Nat.{ℕ, ◌-◌}
use native.Mathlib.Nat.{sub-zero}
use native.Mathlib.Omega.{arith}
use lib.ListN.{drop}
use Rattle.laws.proofs.Countdown.{at_none}
use Rattle.forms.proofs.Measures.{words_counted}
use Rattle.forms.specs.Form.{descriptors_in, table_in}
use Rattle.forms.specs.Tables.{per}
use Rattle.listing.specs.Lines.{descriptor_lines, descriptor_lines_of}
use Rattle.text_lines.proofs.Printed.{left-start, left-on, left_end}
use Rattle.listing.proofs.Walk.{descriptors_on}
use Rattle.listing.proofs.put_descriptors.Goals as goal

pub loop-init : goal.loop-init
unfolding descriptor_lines_of table_in
loop-init c =
    let k = c.byte_at-kind in
    let n = c.byte_at-end in
    (refl, omega (arith, n.ensures.1), omega (arith, n.ensures.1), rw (k.ensures.0, n.ensures.0, sub-zero) (left-start _ _ _))

pub overflow_mul-i : goal.overflow_mul-i
overflow_mul-i c = omega (arith, c.words_of.ensures.1, c.byte_at-entries.ensures.1)

pub overflow_add-i-in-loop : goal.overflow_add-i-in-loop
overflow_add-i-in-loop c = omega (arith, c.words_of.ensures.1, c.byte_at-entries.ensures.1)

pub overflow_add-i-in-loop-2 : goal.overflow_add-i-in-loop-2
overflow_add-i-in-loop-2 c = omega (arith, c.words_of.ensures.1, c.byte_at-entries.ensures.1)

pub loop-preserved : goal.loop-preserved
loop-preserved c =
    let l = c.loop in
    let f : List ℕ = c.args.table.now in
    let kind = c.byte_at-kind.result in
    let n = c.byte_at-entries in
    let p = c.put_descriptor-p in
    let w = c.words_of in (
      p.auto.out ∙ l.invariant.0,
      omega (arith, l.invariant.1, w.ensures.1, n.ensures.1),
      omega (arith, l.invariant.2, p.ensures.1),
      left-on (descriptors_on kind _ _ l.i n.result w.result f (omega arith) n.ensures.0 (words_counted _ _ _ _ w.ensures.0 n.ensures.1 refl)) p.ensures.0 l.invariant.3,
    )

pub returns : goal.returns
unfolding descriptor_lines descriptors_in
returns c =
    let l = c.loop in
    let f : List ℕ = c.args.table.now in
    let kind = c.byte_at-kind.result in
    left_end (at_none (λ (n : ℕ). descriptor_lines kind (descriptors_in (per kind) n (drop l.i f))) (c.byte_at-end.result - l.counter) (search rules)) l.invariant.3
