-- The answers that `table_writer::put_descriptors` wants beside its invariants. Assumes nothing.
use borrow.Author.Rules.{rules}
use mathlib.Core.Path.{◌∙◌, refl, sym, ap}
use mathlib.Core.List.{List}
use Prim.Native.Nat.{ℕ, ◌+◌, ◌-◌}
use native.Mathlib.Nat.{sub-zero}
use native.Mathlib.Omega.{arith}
use lib.ListN.{drop}
use Rattle.laws.proofs.Countdown.{at_none}
use Rattle.fields.specs.Fields.{Field}
use Rattle.fields.specs.Pens.{inked, moved}
use Rattle.fields.proofs.Inking.{none_left, none-inked}
use Rattle.forms.specs.Tables.{per, loops}
use Rattle.forms.specs.Form.{descriptors_in, table_in}
use Rattle.table_writer.proofs.Descriptors.{Ahead, read_ahead, few_words, fit_on, fine-heading, fine-descriptor, on-descriptor, inked-descriptor}
use Rattle.table_writer.proofs.put_descriptors.Goals as goal

pub loop-init : goal.loop-init
unfolding table_in
loop-init c =
    let e = c.byte_at-kind.ensures.0 in
    let n = c.byte_at-end.ensures.0 in
    (c.requires.0, refl, omega (arith, c.byte_at-end.ensures.1), rw (e, n, sub-zero) c.requires.1, rw (e, n, sub-zero) refl, rw (e, n, sub-zero) refl)

pub put_words-p-requires : goal.put_words-p-requires
put_words-p-requires c =
    let l = c.loop in
    let d = c.byte_at-id in
    let n = c.byte_at-entries in
    let w = c.words_of-words in
    let q = c.lay-q in
    let ahead : Ahead c.byte_at-kind.result (c.byte_at-end.result - l.counter) (c.byte_at-end.result - (l.counter + 1)) l.i d.result n.result w.result c.args.table.now =
    read_ahead (omega arith) d.ensures.0 n.ensures w.ensures.0 l.invariant.3 in (
      fine-heading ahead l.p q.ensures.0,
      omega (arith, l.invariant.2, w.ensures.1, n.ensures.1),
    )

pub loop-preserved : goal.loop-preserved
loop-preserved c =
    let l = c.loop in
    let d = c.byte_at-id in
    let n = c.byte_at-entries in
    let w = c.words_of-words in
    let q = c.lay-q in
    let r = c.put_words-p in
    let ahead : Ahead c.byte_at-kind.result (c.byte_at-end.result - l.counter) (c.byte_at-end.result - (l.counter + 1)) l.i d.result n.result w.result c.args.table.now =
    read_ahead (omega arith) d.ensures.0 n.ensures w.ensures.0 l.invariant.3 in (
      fine-descriptor ahead l.p q.ensures.0 r.ensures.0,
      r.auto.out ∙ q.auto.out ∙ l.invariant.1,
      omega (arith, l.invariant.2, w.ensures.1, few_words ahead),
      fit_on ahead,
      on-descriptor ahead l.p q.ensures.0 r.ensures.0 ∙ l.invariant.4,
      inked-descriptor ahead l.p q.ensures.0 r.ensures.0 l.out (omega (arith, l.invariant.1, c.well_formed.1.1.0.0)) q.ensures.1 r.ensures.1 ∙ l.invariant.5,
    )

pub returns : goal.returns
unfolding loops descriptors_in
returns c =
    let l = c.loop in
    let f : List ℕ = c.args.table.now in
    let kind = c.byte_at-kind.result in
    let e = at_none (λ (n : ℕ). loops kind (descriptors_in (per kind) n (drop l.i f))) (c.byte_at-end.result - l.counter) (search rules) in (
      sym (none_left l.p l.invariant.0) ∙ sym (ap (moved l.p) e) ∙ l.invariant.4,
      sym (none-inked l.p l.invariant.0 l.out) ∙ sym (ap (λ (x : List Field). inked l.p x l.out) e) ∙ l.invariant.5,
    )
