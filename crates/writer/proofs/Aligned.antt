-- Every start stands at a byte 1+3p: the stream is cells of three symbols of which only the first may be a start, and a packet
-- takes thirteen cells. Assumes nothing.
use mathlib.Core.Path.{◌≡◌, ◌∙◌, refl, ap}
use mathlib.Core.List.{List, [], ◌∷◌, ◌++◌, map, append_assoc}
use Prim.Native.Nat.{ℕ, zero, suc, ◌+◌, ◌*◌, ◌/◌, ◌%◌}
use native.Mathlib.Omega.{arith}
use lib.ListN.{length, get_or, drop}
use lib.Seq.{drop-drop}
use Rattle.blocks.specs.Block.{Block}
use Rattle.symbols.specs.Stream.{Symbol, start, fill, bits, raw, cell, per_packet, fill_after, symbols, cells_of, stream_of, grab, before_start, pointer_of}

-- a symbol that is no start
pub data Plain : Symbol → Type 0 where
  fills : Plain fill
  bit : {n : ℕ} → Plain (bits n)
  byte : {b : ℕ} → Plain (raw b)

-- each symbol of the list is no start
data Plains : List Symbol → Type 0 where
  none : Plains []
  more : {s : Symbol} {ss : List Symbol} → Plain s → Plains ss → Plains (s ∷ ss)

-- whole cells: of each three symbols only the first may be a start
pub data Celled : List Symbol → Type 0 where
  end : Celled []
  three : {a b c : Symbol} {ss : List Symbol} → Plain b → Plain c → Celled ss → Celled (a ∷ b ∷ c ∷ ss)

three-more : (n : ℕ) → suc (suc (suc n)) * 2 % 3 ≡ n * 2 % 3
three-more n = omega arith

-- what is no start, made whole cells by filler
plain_celled : {ps ss : List Symbol} → Plains ps → Celled ss → Celled (ps ++ (fill_after (length ps) ++ ss))
plain_celled none h = h
plain_celled (more a none) h = three fills fills h
plain_celled (more a (more b none)) h = three b fills h
plain_celled (more a (more b (more {ss = ps} c p))) h =
    rw (three-more (length ps)) (three b c (plain_celled p h))

raws_plain : (l : List ℕ) → Plains (map raw l)
raws_plain [] = none
raws_plain (b ∷ l) = more byte (raws_plain l)

-- a block's cells, and cells after it, are whole cells
cells_celled : (b : Block) {ss : List Symbol} → Celled ss → Celled (cells_of b ++ ss)
unfolding cells_of symbols
cells_celled b {ss} h =
    rw (append_assoc, three-more (suc (suc (length (map raw b.raw)))))
    (three bit bit (plain_celled (more bit (more bit (raws_plain b.raw))) h))

pub stream_celled : (bs : List Block) → Celled (stream_of bs)
unfolding stream_of
stream_celled [] = end
stream_celled (b ∷ bs) = cells_celled b (stream_celled bs)

-- a cell less is whole cells
drop-cell : {ss : List Symbol} → Celled ss → Celled (drop 3 ss)
drop-cell end = end
drop-cell (three b c h) = h

drop_cells : (m : ℕ) {ss : List Symbol} → Celled ss → Celled (drop (m * 3) ss)
drop_cells zero h = h
drop_cells (suc m) {ss} h =
    let e : suc m * 3 ≡ 3 + m * 3 = omega arith in
    rw (e, ← drop-drop (m * 3) 3 ss) (drop_cells m (drop-cell h))

-- so many cells, filler past the end, are whole cells
grab_cells : (m : ℕ) {ss : List Symbol} → Celled ss → Celled (grab (m * 3) ss)
unfolding grab
grab_cells zero h = end
grab_cells (suc m) end =
    let e : suc m * 3 ≡ suc (suc (suc (m * 3))) = omega arith in
    rw e (three fills fills (grab_cells m end))
grab_cells (suc m) (three b c h) =
    let e : suc m * 3 ≡ suc (suc (suc (m * 3))) = omega arith in
    rw e (three b c (grab_cells m h))

-- a symbol that is no start is passed by
pub before-plain : {s : Symbol} → Plain s → (ss : List Symbol) → before_start (s ∷ ss) ≡ suc (before_start ss)
unfolding before_start
before-plain fills ss = refl
before-plain bit ss = refl
before-plain byte ss = refl

before_two : {b c : Symbol} → Plain b → Plain c → (ss : List Symbol) → before_start (b ∷ c ∷ ss) ≡ suc (suc (before_start ss))
before_two {b} {c} p q ss = before-plain p (c ∷ ss) ∙ ap suc (before-plain q ss)

-- the first start of whole cells, or their end, is at a whole number of cells
cells_before : {ss : List Symbol} → Celled ss → before_start ss % 3 ≡ 0
unfolding before_start
cells_before end = refl
cells_before (three {a = start} b c h) = refl
cells_before (three {a = fill} {ss = ss} b c h) = omega (arith, before_two b c ss, cells_before h)
cells_before (three {a = bits n} {ss = ss} b c h) = omega (arith, before_two b c ss, cells_before h)
cells_before (three {a = raw x} {ss = ss} b c h) = omega (arith, before_two b c ss, cells_before h)

-- a start among whole cells is at a whole number of cells
plain-no_start : {s : Symbol} → Plain s → s ≡ start → ⊥
plain-no_start fills e = let z : ◌≡◌ {A = ℕ} 0 1 = cc in omega arith
plain-no_start bit e = let z : ◌≡◌ {A = ℕ} 0 1 = cc in omega arith
plain-no_start byte e = let z : ◌≡◌ {A = ℕ} 0 1 = cc in omega arith

pub start-at : {ss : List Symbol} → Celled ss → (i : ℕ) → get_or ss i fill ≡ start → i % 3 ≡ 0
start-at end i e = absurd (plain-no_start fills e)
start-at (three b c h) zero e = refl
start-at (three b c h) (suc zero) e = absurd (plain-no_start b e)
start-at (three b c h) (suc (suc zero)) e = absurd (plain-no_start c e)
start-at (three b c h) (suc (suc (suc i))) e = omega (arith, start-at h i e)

-- a stream is whole cells
cells_length : {ss : List Symbol} → Celled ss → length ss % 3 ≡ 0
cells_length end = refl
cells_length (three {ss = ss} b c h) = omega (arith, cells_length h)

pub stream_cells : (bs : List Block) → length (stream_of bs) / cell * cell ≡ length (stream_of bs)
stream_cells bs = omega (arith, cells_length (stream_celled bs))

-- ---- the stream from any packet on

-- what is left of whole cells after j packets is whole cells
pub after_celled : (j : ℕ) {ss : List Symbol} → Celled ss → Celled (drop (j * per_packet) ss)
after_celled j {ss} h =
    let e : j * 39 ≡ j * 13 * 3 = omega arith in
    rw e (drop_cells (j * 13) h)

-- a packet's symbols are whole cells
pub packet_celled : {ss : List Symbol} → Celled ss → Celled (grab per_packet ss)
packet_celled h = grab_cells 13 h

-- the pointer loses nothing: the first start of a packet, or its end, is at a whole number of cells
pub celled_aligned : {ss : List Symbol} → Celled ss → cell * pointer_of (grab per_packet ss) ≡ before_start (grab per_packet ss)
celled_aligned {ss} h = omega (arith, cells_before (packet_celled h))

pub aligned :
    (bs : List Block) (j : ℕ)
    → cell * pointer_of (grab per_packet (drop (j * per_packet) (stream_of bs))) ≡ before_start (grab per_packet (drop (j * per_packet) (stream_of bs)))
aligned bs j = celled_aligned (after_celled j (stream_celled bs))

-- each start stands at a byte of the form 1 + 3 × p (SCOPE 11.1): byte 1 + i of the packet's forty, with i a multiple of three
pub starts-aligned :
    (bs : List Block) (j i : ℕ) → get_or (grab per_packet (drop (j * per_packet) (stream_of bs))) i fill ≡ start → i % cell ≡ 0
starts-aligned bs j i e = start-at (packet_celled (after_celled j (stream_celled bs))) i e
