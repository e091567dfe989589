-- `dvb_descriptor::put_subtitle` meets its contract: the entry is a subtitle and is put, or it isn't. Assumes nothing.
use mathlib.Core.Path.{◌∙◌, refl, ap}
use mathlib.Core.List.{List}
use Prim.Native.Nat.{ℕ}
use native.Mathlib.Omega.{arith}
use lib.Seq.{sets}
use Rattle.forms.specs.Form.{spelled}
use Rattle.dvb_descriptor.specs.declared.Subtitle.{Subtitle}
use Rattle.dvb_descriptor.specs.Entries.{five, fives}
use Rattle.dvb_descriptor.proofs.Walking.{kept-one, kept-none}
use Rattle.dvb_descriptor.proofs.put_subtitle.Goals as goal

pub returns-then-byte_at-ne-SUBTITLE : goal.returns-then-byte_at-ne-SUBTITLE
unfolding fives
returns-then-byte_at-ne-SUBTITLE c =
    let a = c.args in
    let b : List ℕ = a.bytes.now in
    let e = kept-none a.i _ b c.byte_at.ensures.0 (λ h. omega (arith, c.if-byte_at-ne-SUBTITLE.true)) in
    rw e (omega arith, omega arith, refl)

pub returns : goal.returns
unfolding fives five spelled
returns c =
    let a = c.args in
    let b : List ℕ = a.bytes.now in
    let e = kept-one a.i _ b c.byte_at.ensures.0 (omega (arith, c.if-byte_at-ne-SUBTITLE.false)) in
    let s = c.subtitle_at in
    let p = c.put_five in
    rw e (omega arith, omega arith, p.ensures ∙ ap (λ (x : Subtitle). sets a.out.now a.to (five 0 x)) s.ensures.0)
