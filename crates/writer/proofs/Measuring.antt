-- How many cells a list of records takes, walked from record to record: no more than it has bytes. Assumes nothing.
use Rattle.std.proofs.Common.{Option, Some, None}
use mathlib.Core.Path.{◌≡◌, ◌∙◌, refl, ap}
use mathlib.Core.Bool.{Bool, true, false}
use mathlib.Core.List.{List, [], ◌∷◌}
use Prim.Native.Nat.{ℕ, zero, suc, ◌+◌, ◌-◌, ◌/◌, ◌≤◌}
use native.Mathlib.Nat.{zero-add, add-zero, add_assoc}
use native.Mathlib.Omega.{arith}
use lib.ListN.{length, drop, length-append, length-drop, drop_of_length-le}
use lib.Seq.{length-take-le}
use Rattle.laws.specs.Pick.{pick}
use Rattle.blocks.specs.Block.{Block, head_length, size_of, head_of, record_length, begins, block_of, whole, blocks, whole_within, blocks_within}
use Rattle.blocks.proofs.Walking.{Standing, whole_not, whole-at, blocks_at, begins-fits}
use Rattle.symbols.specs.Stream.{cell, cells_of, stream_of}
use Rattle.symbols.proofs.Sending.{cells_length, raw_length}
use Rattle.writer.specs.Internal.{measure_of}

stream-length : (b : Block) (bs : List Block) → length (stream_of (b ∷ bs)) / cell ≡ (length b.raw + 7) / 3 + length (stream_of bs) / cell
unfolding stream_of
stream-length b bs = omega (arith, length-append (cells_of b) (stream_of bs), cells_length b)

-- the measure of what is left, with so many cells before it
abbrev pub measure_from : ℕ → List ℕ → Option ℕ
measure_from cells l = pick (whole l) (Some (cells + length (stream_of (blocks l)) / cell)) None

pub measure-start : (l : List ℕ) → measure_from 0 l ≡ measure_of l
measure-start l = rw zero-add

pub measure-step :
    {l : List ℕ} {p head raw next : ℕ} → Standing l p head raw next → (cells more : ℕ) → more ≡ (next - raw + 7) / 3
    → measure_from (cells + more) (drop next l) ≡ measure_from cells (drop p l)
measure-step {l} {p} {next = next} s cells more e =
    let n : length (stream_of (blocks (drop p l))) / cell ≡ more + length (stream_of (blocks (drop next l))) / cell
    = ap (λ (bs : List Block). length (stream_of bs) / cell) (blocks_at s)
    ∙ stream-length (block_of (drop p l)) (blocks (drop next l)) ∙ omega (arith, raw_length s) in
    rw (whole-at s, n, add_assoc)

pub measure-end : (l : List ℕ) (p cells : ℕ) → p ≡ length l → Some cells ≡ measure_from cells (drop p l)
unfolding whole_within blocks_within stream_of
measure-end l p cells e = let h : length l ≤ p = omega arith in rw (drop_of_length-le l h, add-zero)

pub measure-broken :
    (l : List ℕ) (p cells : ℕ) → p ≤ length l → (p ≡ length l → ⊥) × (begins (drop p l) ≡ false)
    → None ≡ measure_from cells (drop p l)
measure-broken l p cells h b =
    let n : length (drop p l) ≡ 0 → ⊥ = λ e. b.0 (omega (arith, length-drop p l)) in
    rw (whole_not (drop p l) n b.1)

-- a record's cells are no more than its bytes
pub record_cells : {l : List ℕ} {p head raw next : ℕ} → Standing l p head raw next → (next - raw + 7) / 3 ≤ next - p
record_cells {l} {p} s = omega (arith, s.its_raw, s.its_next)

-- the cells of a list of records are no more than its bytes
cells_within : (f : ℕ) (l : List ℕ) → length (stream_of (blocks_within f l)) / cell ≤ length l
unfolding blocks_within stream_of
cells_within zero l = omega arith
cells_within (suc f) l = go (begins l) refl (cells_within f (drop (record_length l) l))
  where
    go :
        (t : Bool) → begins l ≡ t
        → length (stream_of (blocks_within f (drop (record_length l) l))) / cell ≤ length (drop (record_length l) l)
        → length (stream_of (pick t (block_of l ∷ blocks_within f (drop (record_length l) l)) [])) / cell ≤ length l
    go false e h = omega arith
    go true e h =
        let fits = begins-fits l e in
        let rest = drop (record_length l) l in
        let raw = length-take-le (size_of (head_of l)) (drop head_length l) (omega (arith, fits, length-drop head_length l)) in
        omega (arith, stream-length (block_of l) (blocks_within f rest), length-drop (record_length l) l, fits, raw)

pub cells_bound : (l : List ℕ) → length (stream_of (blocks l)) / cell ≤ length l
cells_bound l = cells_within (length l) l
