-- The answers that `octet::faults::fault_place` wants beside its invariants. Assumes nothing.
use borrow.Author.Rules.{rules}
use borrow.Author.Tests.{eq-eqb, ne_eqb}
use mathlib.Core.Path.{◌≡◌, ◌∙◌, sym}
use Prim.Native.Nat.{ℕ, ◌+◌, ◌*◌}
use native.Mathlib.Omega.{arith}
use Rattle.octet.specs.Bits.{number}
use Rattle.octet.specs.Parity.{checks, fails, failing, place_from, fault_place}
use Rattle.octet.proofs.Rows.{row, place-step, place_found, place_none}
use Rattle.octet.proofs.faults.fault_place.Goals as goal

-- the four tests' numbers make the definition's
gathered :
    (b w x y z : ℕ) → w ≡ fails (row 0) b → x ≡ fails (row 1) b → y ≡ fails (row 2) b → z ≡ fails (row 3) b
    → w + 2 * x + 4 * y + 8 * z ≡ failing b
unfolding failing number checks
gathered b w x y z e f g h = omega arith

none-fails : (b s : ℕ) → s ≡ failing b → s ≡ 0 → 8 ≡ fault_place b
unfolding fault_place
none-fails b s e z = rw (eq-eqb (failing b) 0 (sym e ∙ z))

some_fails : (b s : ℕ) → s ≡ failing b → (s ≡ 0 → ⊥) → place_from 8 0 s ≡ fault_place b
unfolding fault_place
some_fails b s e z = rw (ne_eqb (failing b) 0 (λ q. z (e ∙ q)), e)

pub returns-then-failing-eq0 : goal.returns-then-failing-eq0
returns-then-failing-eq0 c =
    none-fails _ _
    (gathered _ _ _ _ _ c.fails.ensures.value c.fails-2.ensures.value c.fails-3.ensures.value c.fails-4.ensures.value)
    c.if-failing-eq0.true

pub loop-i-init : goal.loop-i-init
loop-i-init c =
    some_fails _ _
    (gathered _ _ _ _ _ c.fails.ensures.value c.fails-2.ensures.value c.fails-3.ensures.value c.fails-4.ensures.value)
    c.if-failing-eq0.false

pub returns-then-column-failing : goal.returns-then-column-failing
returns-then-column-failing c =
    let l = c.loop-i in
    sym (place_found l.i _ (search rules) (sym c.column.ensures ∙ c.if-column-failing.true)) ∙ l.invariant

pub loop-i-preserved : goal.loop-i-preserved
loop-i-preserved c =
    let l = c.loop-i in
    sym (place-step l.i _ (search rules) (λ e. c.if-column-failing.false (c.column.ensures ∙ e))) ∙ l.invariant

pub returns : goal.returns
returns c =
    let l = c.loop-i in
    sym (place_none l.i _ (search rules)) ∙ l.invariant
