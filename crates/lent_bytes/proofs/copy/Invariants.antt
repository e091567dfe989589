-- `lent_bytes::copy` meets its contract: the bytes still to come are stored from the place on. Assumes nothing.
use mathlib.Core.Path.{◌≡◌}
use Prim.Native.Nat.{◌+◌, ◌-◌, ◌≤◌}
use lib.ListN.{length, take, drop}
use lib.Seq.{sets}
use Rattle.lent_bytes.proofs.copy.Given as goal

abbrev pub invariant-loop-i : goal.invariant-loop-i
invariant-loop-i l =
    (l.i ≤ l.m) × (l.m ≤ length l.src - l.from) × (l.m ≤ length l.initial.dst - l.to) × (length l.dst ≡ length l.initial.dst)
    × (sets l.dst (l.to + l.i) (take (l.m - l.i) (drop (l.from + l.i) l.src)) ≡ sets l.initial.dst l.to (take l.n (drop l.from l.src)))
