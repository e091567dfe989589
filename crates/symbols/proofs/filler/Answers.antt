-- `symbols::filler` meets its contract: filler's byte is the image of its nibble. Assumes nothing.
use mathlib.Core.Path.{ap}
use mathlib.Core.Bool.{false}
use Prim.Native.Nat.{ℕ}
use Rattle.symbols.proofs.filler.Goals as goal

pub returns : goal.returns
returns c = ap (λ (b : ℕ). record { byte = b; starts = false; pen = c.args.pen }) c.image.ensures
