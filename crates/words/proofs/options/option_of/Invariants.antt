-- `words::options::option_of` meets its contract: the option is found among those left from here, or it was found. Assumes nothing.
use mathlib.Core.Path.{◌≡◌}
use Prim.Native.Nat.{◌≤◌, ◌-◌}
use Rattle.words.specs.Options.{option_from, option_of}
use Rattle.words.proofs.options.option_of.Given as goal

abbrev pub invariant-loop-k : goal.invariant-loop-k
invariant-loop-k l = (l.k ≤ 8) × (option_from (8 - l.k) l.k l.options l.letter ≡ option_of l.options l.letter)
