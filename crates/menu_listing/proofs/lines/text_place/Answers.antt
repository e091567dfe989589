-- The answers that `menu_listing::lines::text_place` wants beside its invariants. Assumes nothing.
use mathlib.Core.Path.{◌≡◌, ◌∙◌, sym, ap}
use Prim.Native.Nat.{◌+◌, ◌-◌}
use native.Mathlib.Omega.{arith}
use Rattle.menu_forms.specs.Menus.{info_bytes}
use Rattle.menu_listing.proofs.Bytes.{text-start, text-on, text-end}
use Rattle.menu_listing.proofs.lines.text_place.Goals as goal

pub loop-init : goal.loop-init
loop-init c =
    let k = c.byte_at-attributes in
    let all : k.result - 0 ≡ k.result = omega arith in
    rw all (omega arith, text-start _ _ _ k.ensures.0)

pub loop-preserved : goal.loop-preserved
loop-preserved c =
    let l = c.loop in
    let n = c.info_bytes in
    let left = c.byte_at-attributes.result - l.counter in
    let fewer : c.byte_at-attributes.result - (l.counter + 1) ≡ left - 1 = omega arith in
    rw fewer (
      omega (arith, l.invariant.0, n.ensures.2),
      text-on left l.at n.result _ (omega arith) (n.ensures.0 ∙ ap info_bytes c.byte_at.ensures.0) ∙ l.invariant.1,
    )

pub returns : goal.returns
returns c =
    let l = c.loop in
    let k = c.byte_at-attributes in
    (sym (text-end (k.result - l.counter) l.at _ (omega arith)) ∙ l.invariant.1, omega (arith, l.invariant.0, k.ensures.1))
