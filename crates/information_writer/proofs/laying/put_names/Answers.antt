-- The answers that `information_writer::laying::put_names` wants beside its invariants. Assumes nothing.
use borrow.Author.Rules.{rules}
use mathlib.Core.Path.{◌≡◌, ◌∙◌, refl, sym, ap}
use mathlib.Core.List.{List, map}
use Prim.Native.Nat.{ℕ, ◌+◌, ◌-◌}
use native.Mathlib.Omega.{arith}
use lib.Seq.{sets}
use Rattle.parity.specs.Parity.{letter}
use Rattle.information_writer.specs.Internal.{placed, spoken_from}
use Rattle.information_writer.proofs.Listed.{network-name, network-codes}
use Rattle.information_writer.proofs.Penned.{names-on, spoken-none}
use Rattle.information_writer.proofs.laying.put_names.Goals as goal

pub loop-j-init : goal.loop-j-init
loop-j-init c =
    let a = c.args in
    let all : a.count - 0 ≡ a.count = omega arith in
    (search rules, ap (λ (k : ℕ). sets a.out.now (a.to + a.first) (map letter (spoken_from k 0 a.first a.form.now))) all)

pub loop-j-preserved : goal.loop-j-preserved
loop-j-preserved c =
    let a = c.args in
    let l = c.loop-j in
    let f = a.form.now in
    let k = c.byte_at-k in
    let p = c.put_letters in
    let left = a.count - l.j in
    let next : a.count - (l.j + 1) ≡ left - 1 = omega arith in
    let at = placed l.j l.codes in
    let name = sym (network-codes f at k.result k.ensures.0 k.ensures.1) in
    let all = names-on f left l.j l.codes k.result (l.codes + k.result) (omega arith) name refl a.to _ l.out _ _
    (network-name f at k.result k.ensures.0 k.ensures.1) p.ensures l.invariant.1 in (
      omega (arith, l.invariant.0, k.ensures.1),
      ap (λ (x : ℕ). sets p.new.out (a.to + (l.codes + k.result)) (map letter (spoken_from x (l.j + 1) (l.codes + k.result) f))) next ∙ all,
    )

pub returns : goal.returns
returns c =
    let a = c.args in
    let l = c.loop-j in
    let none = spoken-none a.form.now (a.count - l.j) l.j l.codes (search rules) in
    sym (ap (λ (cs : List ℕ). sets l.out (a.to + l.codes) (map letter cs)) none) ∙ l.invariant.1
