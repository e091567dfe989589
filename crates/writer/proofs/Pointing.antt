-- What stands in a packet's data part: its pointer names the first start or is 13, and every byte that isn't a block's is filler.
-- Assumes nothing.
use mathlib.Core.Path.{◌≡◌, ◌∙◌, refl}
use mathlib.Core.List.{List, [], ◌∷◌, map, append_assoc}
use Prim.Native.Nat.{ℕ, zero, suc, ◌+◌, ◌*◌, ◌%◌, ◌<◌, ◌≤◌}
use native.Mathlib.Nat.{le_of_suc-le-suc, not-suc-le-zero}
use native.Mathlib.Decide.{dec_lt}
use native.Mathlib.Omega.{arith}
use lib.ListN.{length, get_or, drop, get_or-eq_default}
use lib.Seq.{get_or-drop}
use Rattle.octet.specs.Image.{image}
use Rattle.blocks.specs.Block.{Block}
use Rattle.packet.specs.declared.Setting.{Setting}
use Rattle.packet.specs.Packet.{packet_of}
use Rattle.symbols.specs.Stream.{Symbol, start, fill, bits, raw, byte_of, cell, per_packet, symbols, cells_of, stream_of, grab, before_start, pointer_of}
use Rattle.writer.specs.Cutting.{data_packet}
use Rattle.writer.specs.Order.{Names, first, none, Laid, end, and}
use Rattle.writer.proofs.Aligned.{Celled, celled_aligned, after_celled, stream_celled}
use Rattle.writer.proofs.Filling.{length-grab, before_le}

-- a packet's third byte is its pointer, and its data part follows
pub packet_pointer : (s : Setting) (y : ℕ) (ss : List Symbol) → get_or (data_packet s y ss) 2 0 ≡ image (pointer_of (grab per_packet ss))
unfolding packet_of
packet_pointer s y ss = refl

pub packet_data : (s : Setting) (y : ℕ) (ss : List Symbol) → drop 3 (data_packet s y ss) ≡ map byte_of (grab per_packet ss)
unfolding packet_of
packet_data s y ss = refl

-- ---- the pointer

-- no start stands before the first
none_before : (ss : List Symbol) (i : ℕ) → i < before_start ss → get_or ss i fill ≡ start → ⊥
unfolding before_start
none_before [] i h e = not-suc-le-zero h
none_before (start ∷ ss) i h e = not-suc-le-zero h
none_before (fill ∷ ss) zero h e = let z : ◌≡◌ {A = ℕ} 0 1 = cc in omega arith
none_before (fill ∷ ss) (suc i) h e = none_before ss i (le_of_suc-le-suc h) e
none_before (bits n ∷ ss) zero h e = let z : ◌≡◌ {A = ℕ} 0 1 = cc in omega arith
none_before (bits n ∷ ss) (suc i) h e = none_before ss i (le_of_suc-le-suc h) e
none_before (raw b ∷ ss) zero h e = let z : ◌≡◌ {A = ℕ} 0 1 = cc in omega arith
none_before (raw b ∷ ss) (suc i) h e = none_before ss i (le_of_suc-le-suc h) e

-- and the first is one, unless it is the end
start-there : (ss : List Symbol) → before_start ss < length ss → get_or ss (before_start ss) fill ≡ start
unfolding before_start
start-there [] h = absurd (not-suc-le-zero h)
start-there (start ∷ ss) h = refl
start-there (fill ∷ ss) h = start-there ss (le_of_suc-le-suc h)
start-there (bits n ∷ ss) h = start-there ss (le_of_suc-le-suc h)
start-there (raw b ∷ ss) h = start-there ss (le_of_suc-le-suc h)

none_at_all : (ss : List Symbol) → length ss ≤ before_start ss → (i : ℕ) → get_or ss i fill ≡ start → ⊥
none_at_all ss h i e =
    elim (dec_lt i (length ss)) [
      | yes g ↦ none_before ss i (omega arith) e
      | no g ↦ let d : get_or ss i fill ≡ fill = get_or-eq_default ss fill (omega arith) in let z : ◌≡◌ {A = ℕ} 0 1 = cc in omega arith
    ]

-- each packet's pointer says where its first start stands, or that there is none (SCOPE 11.5)
pub celled_names : {ss : List Symbol} → Celled ss → Names (grab per_packet ss) (pointer_of (grab per_packet ss))
celled_names {ss} h =
    let row = grab per_packet ss in
    let a : cell * pointer_of row ≡ before_start row = celled_aligned h in
    let n : length row ≡ per_packet = length-grab per_packet ss in
    elim (dec_lt (before_start row) per_packet) [
      | yes g ↦ first {p = pointer_of row} (omega arith) (rw a (start-there row (omega arith))) (λ i. rw a (none_before row i))
      | no g ↦ let e : pointer_of row ≡ 13 = omega (arith, before_le row) in rw e (none (none_at_all row (omega arith)))
    ]

pub pointer_names :
    (bs : List Block) (j : ℕ)
    → Names (grab per_packet (drop (j * per_packet) (stream_of bs))) (pointer_of (grab per_packet (drop (j * per_packet) (stream_of bs))))
pointer_names bs j = celled_names (after_celled j (stream_celled bs))

-- ---- the filler

-- a packet's symbols are the stream's, and filler past its end
grab-at : (n : ℕ) (ss : List Symbol) (i : ℕ) → i < n → get_or (grab n ss) i fill ≡ get_or ss i fill
unfolding grab
grab-at zero ss i h = absurd (not-suc-le-zero h)
grab-at (suc n) [] zero h = refl
grab-at (suc n) [] (suc i) h = grab-at n [] i (le_of_suc-le-suc h)
grab-at (suc n) (s ∷ ss) zero h = refl
grab-at (suc n) (s ∷ ss) (suc i) h = grab-at n ss i (le_of_suc-le-suc h)

pub data_symbol : (n m : ℕ) (ss : List Symbol) (i : ℕ) → i < n → get_or (grab n (drop m ss)) i fill ≡ get_or ss (m + i) fill
data_symbol n m ss i h = grab-at n (drop m ss) i h ∙ get_or-drop m ss i fill

-- and the stream is the blocks' symbols, each with filler behind it to whole cells
pub stream-laid : (bs : List Block) → Laid bs (stream_of bs)
unfolding stream_of cells_of
stream-laid [] = end
stream-laid (b ∷ bs) =
    rw append_assoc (and b (length (symbols b) * 2 % cell) (omega arith) (stream-laid bs))
