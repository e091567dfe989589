-- The answers that `dvb_descriptor::put_descriptors` wants beside its invariants. Assumes nothing.
use borrow.Author.Rules.{rules}
use mathlib.Core.Path.{◌≡◌, ◌∙◌, refl, sym, ap}
use mathlib.Core.List.{List, ◌++◌}
use Prim.Native.Nat.{ℕ, ◌+◌, ◌-◌, ◌*◌}
use native.Mathlib.Nat.{sub-zero}
use native.Mathlib.Omega.{arith}
use lib.ListN.{length, drop}
use lib.Seq.{sets}
use Rattle.laws.proofs.Countdown.{at_none}
use Rattle.laws.proofs.Stores.{sets_next}
use Rattle.forms.specs.Tables.{per}
use Rattle.forms.specs.Form.{words_in, descriptors_in, table_in}
use Rattle.dvb_descriptor.specs.declared.Subtitle.{Subtitle}
use Rattle.dvb_descriptor.specs.Subtitles.{paired, subtitles_in}
use Rattle.dvb_descriptor.specs.Entries.{fives}
use Rattle.dvb_descriptor.proofs.Packing.{length-fives, fives-append}
use Rattle.dvb_descriptor.proofs.Walking.{descriptor-on, length-paired}
use Rattle.dvb_descriptor.proofs.put_descriptors.Goals as goal

pub loop-init : goal.loop-init
unfolding table_in per
loop-init c =
    let n = c.byte_at-end in
    let kind = c.requires in
    (refl, omega (arith, n.ensures.1), omega (arith, n.ensures.1), rw (kind, n.ensures.0, sub-zero) refl)

pub loop-preserved : goal.loop-preserved
loop-preserved c =
    let l = c.loop in
    let f : List ℕ = c.args.table.now in
    let n = c.byte_at-entries in
    let p = c.put_entries in
    let one : List Subtitle = paired (words_in (2 * n.result) (drop (l.i + 2) f)) in
    let rest : List Subtitle = subtitles_in (descriptors_in 2 (c.byte_at-end.result - (l.counter + 1)) (drop (l.i + (2 + 6 * n.result)) f)) in
    let all : List Subtitle = subtitles_in (descriptors_in 2 (c.byte_at-end.result - l.counter) (drop l.i f)) in
    let on : all ≡ one ++ rest = descriptor-on (c.byte_at-end.result - l.counter) (c.byte_at-end.result - (l.counter + 1)) l.i n.result f (omega arith) n.ensures.0 in
    let long : length (fives 2 one) ≡ 5 * n.result =
    length-fives 2 one ∙ ap (λ (x : ℕ). 5 * x) (length-paired n.result (drop (l.i + 2) f)) in (
      p.auto.out ∙ l.invariant.0,
      omega (arith, l.invariant.1, n.ensures.1),
      omega (arith, l.invariant.2, n.ensures.1),
      sets_next l.out _ l.to (5 * n.result) (fives 2 one) (fives 2 rest) (fives 2 all) (ap (fives 2) on ∙ fives-append 2 one rest) long
          p.ensures
          ∙ l.invariant.3,
    )

pub returns : goal.returns
unfolding fives subtitles_in descriptors_in
returns c =
    let l = c.loop in
    let f : List ℕ = c.args.table.now in
    let e = at_none (λ (n : ℕ). fives 2 (subtitles_in (descriptors_in 2 n (drop l.i f)))) (c.byte_at-end.result - l.counter) (search rules) in
    sym (ap (sets l.out l.to) e) ∙ l.invariant.3
