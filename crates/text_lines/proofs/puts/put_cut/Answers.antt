-- The answers that `text_lines::puts::put_cut` wants beside its invariants. Assumes nothing.
use borrow.Author.Rules.{rules}
use mathlib.Core.List.{List}
use mathlib.Core.Path.{◌∙◌, refl}
use Prim.Native.Nat.{ℕ}
use native.Mathlib.Omega.{arith}
use Rattle.text_lines.proofs.Putting.{left-start, left-on, left_end, text-on, text-end}
use Rattle.text_lines.proofs.puts.put_cut.Goals as goal

pub loop-b-init : goal.loop-b-init
loop-b-init c = (search rules, refl, search rules, left-start _ _ _)

pub loop-b-preserved : goal.loop-b-preserved
loop-b-preserved c =
    let l = c.loop-b in
    let t : List ℕ = c.args.text.now in
    let p = c.put_byte-p in
    (search rules, p.auto.out ∙ l.invariant.1, omega (arith, l.invariant.2, p.ensures.1), left-on (text-on t l.b-index (search rules)) p.ensures.0 l.invariant.3)

pub returns : goal.returns
returns c =
    let l = c.loop-b in
    let t : List ℕ = c.args.text.now in
    (left_end (text-end t l.b-index (search rules)) l.invariant.3, search rules)
