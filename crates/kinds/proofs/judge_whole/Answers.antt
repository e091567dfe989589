-- `kinds::judge_whole` meets its contract: each `return` is the first rule that doesn't hold, and the last is all of them. Assumes nothing.
use mathlib.Core.Path.{◌≡◌, ◌∙◌, sym, ap, ap₂}
use mathlib.Core.List.{List, map}
use Prim.Native.Nat.{ℕ, ◌+◌}
use native.Mathlib.Omega.{arith}
use lib.ListN.{length, length-map}
use Rattle.answer.specs.Values.{refused}
use Rattle.octet.specs.Decoding.{nib}
use Rattle.blocks.specs.Sums.{sound}
use Rattle.blocks.proofs.Summing.{sound_le}
use Rattle.parity.proofs.Letters.{odds_le}
use Rattle.kinds.proofs.Judging.{whole-10, whole-23, whole-11, whole-done}
use Rattle.kinds.proofs.judge_whole.Goals as goal

pub overflow_add-sound : goal.overflow_add-sound
overflow_add-sound c =
    let s : List ℕ = c.args.control.now in
    omega (arith, c.sound.ensures, sound_le (map nib s), length-map s nib, c.well_formed)

pub returns-then-sum-gt255 : goal.returns-then-sum-gt255
returns-then-sum-gt255 c =
    let s : List ℕ = c.args.control.now in
    rw c.sound.ensures at c.refuse.ensures
    ∙ sym (whole-10 _ (map nib s) _ _ (λ (e : _). absurd (omega (arith, c.sum_of-sum.ensures.broken c.if-sum-gt255.true, e, length-map s nib))))

pub overflow_add-control-then-odd-strings : goal.overflow_add-control-then-odd-strings
overflow_add-control-then-odd-strings c =
    omega (arith, c.odds-odd.ensures, odds_le c.args.strings.now, c.well_formed, c.requires.0)

pub returns-then-odd-strings : goal.returns-then-odd-strings
returns-then-odd-strings c =
    let s : List ℕ = c.args.control.now in
    let w = c.sum_of-sum.ensures.whole (omega (arith, c.if-sum-gt255.false)) in
    let sounds : sound (map nib s) ≡ length (map nib s) = w.0 ∙ sym (length-map s nib) in
    let t : List ℕ = c.args.strings.now in
    let place = ap₂ (λ (x y : ℕ). 4 + x + y) (sym (length-map s nib)) c.odds-odd.ensures in
    c.refuse-then-odd-strings.ensures ∙ ap (refused 23) place
    ∙ sym (whole-23 _ (map nib s) t _ sounds (λ (e : _). c.if-odd-strings.true (c.odds-odd.ensures ∙ e)))

pub returns-then-said-sum : goal.returns-then-said-sum
returns-then-said-sum c =
    let s : List ℕ = c.args.control.now in
    let w = c.sum_of-sum.ensures.whole (omega (arith, c.if-sum-gt255.false)) in
    let sounds : sound (map nib s) ≡ length (map nib s) = w.0 ∙ sym (length-map s nib) in
    let odd = sym c.odds-odd.ensures ∙ c.if-odd-strings.false in
    c.refuse-then-said-sum.ensures ∙ sym (whole-11 _ (map nib s) _ _ sounds odd (λ (e : _). c.if-said-sum.true (c.requires.1 ∙ e ∙ sym w.1)))

pub returns : goal.returns
returns c =
    let s : List ℕ = c.args.control.now in
    let w = c.sum_of-sum.ensures.whole (omega (arith, c.if-sum-gt255.false)) in
    let sounds : sound (map nib s) ≡ length (map nib s) = w.0 ∙ sym (length-map s nib) in
    let odd = sym c.odds-odd.ensures ∙ c.if-odd-strings.false in
    sym (whole-done _ (map nib s) _ _ sounds odd (sym c.requires.1 ∙ c.if-said-sum.false ∙ w.1))
