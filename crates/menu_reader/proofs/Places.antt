-- Control data from a place on, and up to one: its nibbles there hold its bits there. Assumes nothing.
use mathlib.Core.Path.{◌≡◌, ◌∙◌, ap}
use mathlib.Core.List.{List}
use Prim.Native.Nat.{ℕ, ◌+◌, ◌*◌, ◌/◌, ◌%◌, ◌^◌, ◌≤◌}
use native.Mathlib.Omega.{arith}
use lib.ListN.{length, take, drop}
use Rattle.fields.specs.Fields.{Field, width, field, whole}
use Rattle.fields.proofs.Laid.{field_past, field_in}
use Rattle.kinds.proofs.Places.{whole_drop, whole_take}
use Rattle.menu_forms.specs.Block.{in_nibbles}
use Rattle.menu_forms.proofs.Spelling.{length-spelled}
use Rattle.menu_reader.specs.Internal.{bits_at}

-- the bits of what is left stand k nibbles further on
pub bits-drop : (at w k : ℕ) (ns : List ℕ) → bits_at at w (drop k ns) ≡ bits_at (k * 4 + at) w ns
bits-drop at w k ns = ap (field at w) (whole_drop 4 k ns) ∙ field_past at w (k * 4) (whole 4 ns)

-- bits within the first k nibbles are theirs
pub bits-take : (at w k : ℕ) (ns : List ℕ) → at + w ≤ k * 4 → bits_at at w (take k ns) ≡ bits_at at w ns
bits-take at w k ns h = ap (field at w) (whole_take 4 k ns) ∙ field_in at w (k * 4) (whole 4 ns) h

-- what is left behind fields of whole nibbles
pub whole-behind : (fs : List Field) (ns : List ℕ) → width fs % 4 ≡ 0 → whole 4 (drop (length (in_nibbles fs)) ns) ≡ whole 4 ns / 2 ^ width fs
whole-behind fs ns h =
    let e : width fs / 4 * 4 ≡ width fs = omega arith in
    ap (λ (k : ℕ). whole 4 (drop k ns)) (length-spelled fs) ∙ whole_drop 4 (width fs / 4) ns ∙ ap (λ (x : ℕ). whole 4 ns / 2 ^ x) e
