-- The answers that `information_writer::laying::lay_networks` wants beside its invariants. Assumes nothing.
use borrow.Author.Rules.{rules}
use mathlib.Core.Path.{◌≡◌, ◌∙◌, refl, sym, ap}
use mathlib.Core.List.{List}
use Prim.Native.Nat.{ℕ, ◌+◌, ◌-◌}
use native.Mathlib.Omega.{arith}
use Rattle.fields.specs.Fields.{Field}
use Rattle.fields.specs.Pens.{inked, moved}
use Rattle.fields.proofs.Inking.{on_fine, on-moved, on-inked, none_left, none-inked}
use Rattle.information_forms.specs.Information.{network_widths}
use Rattle.information_writer.specs.Internal.{placed, row_at, laid_from}
use Rattle.information_writer.proofs.Listed.{network-codes}
use Rattle.information_writer.proofs.Penned.{laid-split, laid_none}
use Rattle.information_writer.proofs.laying.lay_networks.Goals as goal

pub loop-j-init : goal.loop-j-init
loop-j-init c =
    let f : List ℕ = c.args.form.now in
    let all : c.args.count - 0 ≡ c.args.count = omega arith in (
      c.requires.2,
      search rules,
      ap (λ (k : ℕ). moved c.args.from (laid_from k 0 c.args.first f)) all,
      ap (λ (k : ℕ). inked c.args.from (laid_from k 0 c.args.first f) c.args.out.now) all,
    )

pub loop-j-preserved : goal.loop-j-preserved
loop-j-preserved c =
    let f : List ℕ = c.args.form.now in
    let l = c.loop-j in
    let d = c.lay_row-p in
    let k = c.byte_at-codes in
    let left = c.args.count - l.j in
    let next : c.args.count - (l.j + 1) ≡ left - 1 = omega arith in
    let at = placed l.j l.codes in
    let codes = l.codes + k.result in
    let name = sym (network-codes f at k.result k.ensures.0 k.ensures.1) in
    let fs : List Field = row_at network_widths at f in
    let rest : List Field = laid_from (left - 1) (l.j + 1) codes f in
    let all : List Field = laid_from left l.j l.codes f in
    let e = laid-split f left l.j l.codes k.result codes (omega arith) name refl in (
      on_fine l.p fs rest all e d.ensures.0,
      omega (arith, l.invariant.1, k.ensures.1),
      ap (λ (x : ℕ). moved d.result (laid_from x (l.j + 1) codes f)) next ∙ on-moved l.p fs rest all e d.ensures.0 ∙ l.invariant.2,
      ap (λ (x : ℕ). inked d.result (laid_from x (l.j + 1) codes f) d.new.out) next
          ∙ on-inked l.p fs rest all e d.ensures.0 l.out (omega (arith, l.auto.out, c.well_formed)) d.ensures.1
          ∙ l.invariant.3,
    )

pub returns : goal.returns
returns c =
    let l = c.loop-j in
    let e = laid_none c.args.form.now (c.args.count - l.j) l.j l.codes (search rules) in (
      sym (none_left l.p l.invariant.0) ∙ sym (ap (moved l.p) e) ∙ l.invariant.2,
      sym (none-inked l.p l.invariant.0 l.out) ∙ sym (ap (λ (x : List Field). inked l.p x l.out) e) ∙ l.invariant.3,
    )
