-- Packets fed one after the other: one more, and the end. Assumes nothing.
use mathlib.Core.Path.{◌≡◌, ◌∙◌, ap}
use mathlib.Core.List.{List}
use Prim.Native.Nat.{ℕ, zero, suc, ◌+◌, ◌-◌, ◌<◌}
use native.Mathlib.Nat.{not-suc-le-zero}
use native.Mathlib.Omega.{arith}
use lib.ListN.{take, drop}
use lib.Seq.{drop-drop}
use Rattle.laws.proofs.Lists.{part_of}
use Rattle.state.specs.declared.Reader.{Reader}
use Rattle.reader.specs.Taking.{Heard, HeardAll}
use Rattle.reader.specs.Feeding.{feed_heard, feed_reader, feed_out}
use Rattle.bench.specs.Feeding.{desk, added, each_count, each_out, blocks_of}

-- the packet at a place of l, with what feed gives for it
module _ (r new : Reader) (l out after : List ℕ) (at : ℕ)
    (read : new ≡ feed_reader desk r (take (at + 42 - at) (drop at l)) out)
    (wrote : after ≡ feed_out desk r (take (at + 42 - at) (drop at l)) out) where
  pub count-on :
      (left count more : ℕ) (heard : Heard) → 0 < left
      → heard ≡ feed_heard desk r (take (at + 42 - at) (drop at l)) out
      → more ≡ added count heard
      → each_count (left - 1) new (drop (at + 42) l) after more ≡ each_count left r (drop at l) out count
  unfolding each_count
  count-on zero count more heard h e c = absurd (not-suc-le-zero h)
  count-on (suc n) count more heard h e c =
      let p : suc n - 1 ≡ n = omega arith in
      rw (p, read, wrote, c, e, part_of at 42 l, ← (drop-drop 42 at l))

  pub out-on : (left : ℕ) → 0 < left → each_out (left - 1) new (drop (at + 42) l) after ≡ each_out left r (drop at l) out
  unfolding each_out
  out-on zero h = absurd (not-suc-le-zero h)
  out-on (suc n) h =
      let p : suc n - 1 ≡ n = omega arith in
      rw (p, read, wrote, part_of at 42 l, ← (drop-drop 42 at l))

pub ended-count : (left : ℕ) (r : Reader) (l out : List ℕ) (count : ℕ) → left ≡ 0 → count ≡ each_count left r l out count
unfolding each_count
ended-count left r l out count e = rw e

pub ended_out : (left : ℕ) (r : Reader) (l out : List ℕ) → left ≡ 0 → out ≡ each_out left r l out
unfolding each_out
ended_out left r l out e = rw e

-- a list fed in one call, from a state that is the fresh one: so many blocks, and this output
pub all_fed :
    {R : Type 0} {start : R} (told : R → HeardAll) (leaves : R → List ℕ) {state : R} {count : ℕ} {after : List ℕ} {heard : HeardAll}
    → state ≡ start → heard ≡ told state → after ≡ leaves state → count ≡ blocks_of heard
    → (count ≡ blocks_of (told start)) × (after ≡ leaves start)
all_fed told leaves s h o n = (n ∙ ap blocks_of (h ∙ ap told s), o ∙ ap leaves s)
