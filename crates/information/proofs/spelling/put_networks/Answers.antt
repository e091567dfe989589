-- The answers that `information::spelling::put_networks` wants beside its invariants. Assumes nothing.
use borrow.Author.Rules.{rules}
use mathlib.Core.Path.{◌≡◌, ◌∙◌, sym, ap}
use mathlib.Core.List.{List}
use Prim.Native.Nat.{ℕ, ◌+◌, ◌-◌, ◌*◌}
use native.Mathlib.Nat.{add-zero}
use native.Mathlib.Omega.{arith}
use lib.Seq.{sets}
use Rattle.codecs.specs.Rows.{each}
use Rattle.information_forms.specs.Information.{Network}
use Rattle.information_forms.specs.Form.{network_form}
use Rattle.information.specs.Internal.{networks_from, named}
use Rattle.information.proofs.Networks.{names-on, networks-on, networks_none}
use Rattle.information.proofs.spelling.put_networks.Goals as goal

pub loop-j-init : goal.loop-j-init
loop-j-init c =
    let a = c.args in
    let all : a.count - 0 ≡ a.count = omega arith in (
      search rules,
      ap (λ (k : ℕ). a.first + named (networks_from k 0 a.first a.control.now a.strings.now)) all,
      ap (λ (k : ℕ). sets a.out.now (20 + a.first) (each network_form (networks_from k 0 a.first a.control.now a.strings.now))) all,
    )

pub loop-j-preserved : goal.loop-j-preserved
loop-j-preserved c =
    let a = c.args in
    let l = c.loop-j in
    let p = c.put_network-from in
    let left = a.count - l.j in
    let some = c.loop-j-test.true in
    let next : a.count - (l.j + 1) ≡ left - 1 = omega arith in
    let names = names-on a.control.now a.strings.now left l.j l.from p.result (omega arith) p.ensures.0 _ l.invariant.1 in
    let all = networks-on a.control.now a.strings.now left l.j l.from p.result (omega arith) p.ensures.0 l.out _ _ p.ensures.2 l.invariant.2 in (
      omega (arith, l.invariant.0, p.ensures.1),
      ap (λ (k : ℕ). p.result + named (networks_from k (l.j + 1) p.result a.control.now a.strings.now)) next ∙ names,
      ap (λ (k : ℕ). sets p.new.out (20 + 17 * (l.j + 1) + p.result) (each network_form (networks_from k (l.j + 1) p.result a.control.now a.strings.now))) next ∙ all,
    )

pub returns : goal.returns
returns c =
    let a = c.args in
    let l = c.loop-j in
    let none = networks_none a.control.now a.strings.now (a.count - l.j) l.j l.from (search rules) in (
      sym (ap (λ (ns : List Network). l.from + named ns) none ∙ add-zero l.from) ∙ l.invariant.1,
      omega (arith, l.invariant.0),
      sym (ap (λ (ns : List Network). sets l.out (20 + 17 * l.j + l.from) (each network_form ns)) none) ∙ l.invariant.2,
    )
