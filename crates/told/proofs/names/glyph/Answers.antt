-- `told::names::glyph` meets its contract: a byte is a control character, or not. Assumes nothing.
use Rattle.std.proofs.Common.{◌≡◌, ◌≤◌, ◌≢◌, inl, inr, arith}
use Rattle.std.proofs.lemmas.Bool.{lt-ltb, le-ltb, ne_eqb}
use Rattle.told.specs.Names.{printed}
use Rattle.told.proofs.names.glyph.Goals as goal

pub returns-then-is_ascii_control : goal.returns-then-is_ascii_control
unfolding printed
returns-then-is_ascii_control c =
    let b = c.args.b in
    elim c.if-is_ascii_control.ensures.cases [
      | inl h ↦ simp (lt-ltb b 0x20 (omega (arith, h)))
      | inr h ↦ let e : b ≡ 0x7F = omega (arith, h) in simp e
    ]

pub returns-else-is_ascii_control : goal.returns-else-is_ascii_control
unfolding printed
returns-else-is_ascii_control c =
    let b = c.args.b in
    let h = c.if-is_ascii_control.ensures.cases in
    let least : 0x20 ≤ b = omega (arith, h) in
    let other : b ≢ 0x7F = omega (arith, h) in
    simp (le-ltb b 0x20 least, ne_eqb b 0x7F other)
