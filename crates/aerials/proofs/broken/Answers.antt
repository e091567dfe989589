-- The answers that `aerials::broken` wants beside its invariants. Assumes nothing.
use mathlib.Core.Path.{◌≡◌, ◌∙◌, ap}
use mathlib.Core.List.{List}
use Prim.Native.Nat.{ℕ, suc, ◌+◌, ◌-◌}
use native.Mathlib.Nat.{zero-add}
use native.Mathlib.Omega.{arith}
use lib.ListN.{get_or, drop}
use borrow.Author.Rules.{rules}
use Rattle.aerials.specs.Better.{judged_bytes, broken_in}
use Rattle.aerials.proofs.Counting.{lost_le, broken-step, broken-end}
use Rattle.aerials.proofs.broken.Goals as goal

pub loop-i-init : goal.loop-i-init
loop-i-init c = (search rules, search rules, zero-add _)

pub overflow_add-n : goal.overflow_add-n
overflow_add-n c =
    let l = c.loop-i in
    omega (arith, l.invariant.0, l.invariant.1, c.lost-n.ensures, lost_le (get_or c.args.packet.now l.i 0))

pub loop-i-preserved : goal.loop-i-preserved
loop-i-preserved c =
    let l = c.loop-i in
    let p : List ℕ = c.args.packet.now in
    let e : suc (judged_bytes - (l.i + 1)) ≡ judged_bytes - l.i = omega (arith, l.invariant.0, c.loop-i-test) in (
      search rules,
      omega (arith, l.invariant.1, c.lost-n.ensures, lost_le (get_or p l.i 0)),
      ap (λ (k : ℕ). l.n + k + broken_in (judged_bytes - (l.i + 1)) (drop (l.i + 1) p)) c.lost-n.ensures
          ∙ broken-step p l.i (judged_bytes - (l.i + 1)) l.n (search rules)
          ∙ ap (λ (k : ℕ). l.n + broken_in k (drop l.i p)) e
          ∙ l.invariant.2,
    )

pub returns : goal.returns
returns c =
    let l = c.loop-i in
    let p : List ℕ = c.args.packet.now in
    let e : judged_bytes - l.i ≡ 0 = search rules in
    broken-end p l.i l.n (judged_bytes - l.i) e ∙ l.invariant.2
