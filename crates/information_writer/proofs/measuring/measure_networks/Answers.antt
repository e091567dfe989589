-- The answers that `information_writer::measuring::measure_networks` wants beside its invariants. Assumes nothing.
use borrow.Author.Rules.{rules}
use mathlib.Core.Path.{◌≡◌, ◌∙◌, refl, sym, ap}
use mathlib.Core.List.{List}
use Prim.Native.Nat.{ℕ, ◌+◌, ◌-◌, ◌*◌}
use native.Mathlib.Nat.{add-zero}
use native.Mathlib.Omega.{arith}
use Rattle.laws.specs.Pick.{both}
use Rattle.information_forms.specs.Information.{Network}
use Rattle.information_writer.specs.Internal.{networks_from, named, all_fine}
use Rattle.information_writer.proofs.Listed.{network-codes, codes-on, fine-on, networks_none, none_fine}
use Rattle.information_writer.proofs.measuring.measure_networks.Goals as goal

pub loop-j-init : goal.loop-j-init
loop-j-init c =
    let a = c.args in
    let all : a.count - 0 ≡ a.count = omega arith in (
      search rules,
      ap (λ (k : ℕ). a.first + named (networks_from k 0 a.first a.form.now)) all,
      ap (λ (k : ℕ). both a.fine (all_fine (networks_from k 0 a.first a.form.now))) all,
    )

pub loop-j-preserved : goal.loop-j-preserved
loop-j-preserved c =
    let a = c.args in
    let l = c.loop-j in
    let f = a.form.now in
    let k = c.byte_at-k in
    let left = a.count - l.j in
    let next : a.count - (l.j + 1) ≡ left - 1 = omega arith in
    let name = sym (network-codes f (20 + 17 * l.j + l.codes) k.result k.ensures.0 k.ensures.1) in
    let codes = codes-on f left l.j l.codes k.result (l.codes + k.result) (omega arith) name refl _ l.invariant.1 in
    let fine = fine-on f left l.j l.codes k.result (l.codes + k.result) (omega arith) name refl l.good c.network_fine-good.result _ c.network_fine-good.ensures l.invariant.2 in (
      omega (arith, l.invariant.0, k.ensures.1),
      ap (λ (x : ℕ). l.codes + k.result + named (networks_from x (l.j + 1) (l.codes + k.result) f)) next ∙ codes,
      ap (λ (x : ℕ). both c.network_fine-good.result (all_fine (networks_from x (l.j + 1) (l.codes + k.result) f))) next ∙ fine,
    )

pub returns : goal.returns
returns c =
    let a = c.args in
    let l = c.loop-j in
    let none = networks_none a.form.now (a.count - l.j) l.j l.codes (search rules) in (
      sym (ap (λ (ns : List Network). l.codes + named ns) none ∙ add-zero l.codes) ∙ l.invariant.1,
      omega (arith, l.invariant.0),
      sym (ap (λ (ns : List Network). both l.good (all_fine ns)) none ∙ none_fine l.good) ∙ l.invariant.2,
    )
