-- `texts::holds` meets its contract: the part stands in what is left of the text, or it was found. Assumes nothing.
use Rattle.std.proofs.Common.{◌≡◌, length}
use Rattle.std.specs.Slice.Iter.{windows_rest, windows_size}
use Rattle.texts.specs.Texts.{stands_in}
use Rattle.texts.proofs.holds.Given as goal

abbrev pub invariant-loop-window : goal.invariant-loop-window
invariant-loop-window l =
    (windows_size l.window-iterator ≡ length l.part) × (stands_in l.part (windows_rest l.window-iterator) ≡ stands_in l.part l.text)
