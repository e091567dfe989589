-- The answers that `menu_listing::lines::put_codes` wants beside its invariants. Assumes nothing.
use borrow.Author.Rules.{rules}
use mathlib.Core.List.{[], ◌∷◌}
use mathlib.Core.Path.{◌≡◌, ◌∙◌, ap}
use Prim.Native.Nat.{◌+◌, ◌-◌}
use native.Mathlib.Omega.{arith}
use Rattle.text_lines.proofs.Putting.{put-at}
use Rattle.text_lines.proofs.Printed.{left-start, left-on, left_end}
use Rattle.menu_listing.specs.Lines.{shown}
use Rattle.menu_listing.proofs.Bytes.{code-on, code-end}
use Rattle.menu_listing.proofs.lines.put_codes.Goals as goal

pub loop-i-init : goal.loop-i-init
loop-i-init c =
    let n : c.args.count - 0 ≡ c.args.count = omega arith in
    let p : c.args.from + 0 ≡ c.args.from = omega arith in
    rw (n, p) (omega arith, left-start _ _ _)

pub loop-i-preserved : goal.loop-i-preserved
loop-i-preserved c =
    let a = c.args in
    let l = c.loop-i in
    let p = c.put-p in
    let s = c.shown in
    let n : a.count - (l.i + 1) ≡ a.count - l.i - 1 = omega arith in
    let on : a.from + (l.i + 1) ≡ a.from + l.i + 1 = omega arith in
    rw (n, on) (
      omega (arith, l.invariant.0, p.ensures.1),
      left-on {first = s.result ∷ []} (code-on (a.count - l.i) (a.from + l.i) s.result _ (omega arith) (s.ensures ∙ ap shown c.byte_at.ensures.0))
          (put-at (search rules) p.ensures.0) l.invariant.1,
    )

pub returns : goal.returns
returns c =
    let a = c.args in
    let l = c.loop-i in
    (left_end (code-end (a.count - l.i) (a.from + l.i) _ (omega arith)) l.invariant.1, omega (arith, l.invariant.0))
