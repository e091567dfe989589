-- One symbol of the stream: which of a block's symbols it is, and what is left behind it. Assumes nothing.
use mathlib.Core.Path.{◌≡◌, ◌∙◌, refl, sym, ap}
use mathlib.Core.Bool.{Bool, true, false}
use mathlib.Core.List.{List, [], ◌∷◌, ◌++◌, map}
use Prim.Native.Nat.{ℕ, zero, suc, ◌+◌, ◌-◌, ◌*◌, ◌/◌, ◌%◌, ◌<◌, ◌≤◌}
use native.Mathlib.Nat.{le_of_suc-le-suc, not-suc-le-zero}
use native.Mathlib.Numerals.{add_five}
use native.Mathlib.Decide.{dec_lt}
use native.Mathlib.Omega.{arith}
use lib.Dec.{eqb}
use lib.ListN.{length, get_or, drop, replicate, length-append, length-map, length-replicate, length-drop}
use lib.Seq.{drop-nil, drop-drop, drop_at, get_or-take, get_or-drop, length-take-le}
use borrow.Author.Tests.{lt-ltb, le-ltb, ne_eqb}
use Rattle.octet.specs.Image.{image}
use Rattle.blocks.specs.Block.{Block, head_length, size_of, head_of, record_length, begins, block_of, blocks}
use Rattle.blocks.proofs.Walking.{Standing, blocks_at, blocks_not, begins-head, begins-fits, begins_not}
use Rattle.symbols.specs.declared.Pen.{Pen}
use Rattle.symbols.specs.declared.Sent.{Sent}
use Rattle.symbols.specs.Stream.{Symbol, start, fill, bits, raw, byte_of, cell, fill_after, symbols, cells_of, stream_of}
use Rattle.symbols.specs.Pen.{moved_of, filler_at, sent_of}
use Rattle.symbols.specs.Internal.{nibble_of, is_start, block_at, rest_of, Within, Goes, Sends}

-- ---- how many symbols a block has

-- a block's cells, in symbols
pub cells_length : (b : Block) → length (cells_of b) ≡ (length b.raw + 7) / 3 * 3
unfolding cells_of symbols
cells_length b =
    let n = length (symbols b) in
    omega (arith, length-append (symbols b) (fill_after n), length-replicate (n * 2 % cell) fill, length-map b.raw raw)

-- a record's raw bytes are as many as stand between their place and the next record
pub raw_length :
    {l : List ℕ} {p head raw next : ℕ} → Standing l p head raw next → length (block_of (drop p l)).raw ≡ next - raw
raw_length {l} {p} s =
    length-take-le (size_of (head_of (drop p l))) (drop head_length (drop p l))
    (omega (arith, begins-fits (drop p l) s.whole_there, length-drop head_length (drop p l)))
    ∙ omega (arith, s.its_raw, s.its_next)

-- ---- a block's symbols by number

pub symbol_start : (b : Block) → get_or (cells_of b) 0 fill ≡ start
unfolding cells_of symbols
symbol_start b = refl

pub symbol_bits : (b : Block) (i : ℕ) → i < 4 → get_or (cells_of b) (suc i) fill ≡ bits (nibble_of i b.head)
unfolding cells_of symbols nibble_of
symbol_bits b zero h = refl
symbol_bits b (suc zero) h = refl
symbol_bits b (suc (suc zero)) h = refl
symbol_bits b (suc (suc (suc zero))) h = refl
symbol_bits b (suc (suc (suc (suc i)))) h = absurd (omega arith)

raws_at : (l : List ℕ) (ss : List Symbol) (i : ℕ) → i < length l → get_or (map raw l ++ ss) i fill ≡ raw (get_or l i 0)
raws_at [] ss i h = absurd (not-suc-le-zero h)
raws_at (b ∷ l) ss zero h = refl
raws_at (b ∷ l) ss (suc i) h = raws_at l ss i (le_of_suc-le-suc h)

fills-at : (n i : ℕ) → get_or (replicate n fill) i fill ≡ fill
fills-at zero i = refl
fills-at (suc n) zero = refl
fills-at (suc n) (suc i) = fills-at n i

past_raws : (l : List ℕ) (n i : ℕ) → length l ≤ i → get_or (map raw l ++ replicate n fill) i fill ≡ fill
past_raws [] n i h = fills-at n i
past_raws (b ∷ l) n zero h = absurd (not-suc-le-zero h)
past_raws (b ∷ l) n (suc i) h = past_raws l n i (le_of_suc-le-suc h)

pub symbol_raw : (b : Block) (i : ℕ) → i < length b.raw → get_or (cells_of b) (i + 5) fill ≡ raw (get_or b.raw i 0)
unfolding cells_of symbols
symbol_raw b i h = rw add_five (raws_at b.raw _ i h)

pub symbol_fill : (b : Block) (i : ℕ) → length b.raw ≤ i → get_or (cells_of b) (i + 5) fill ≡ fill
unfolding cells_of symbols
symbol_fill b i h = rw add_five (past_raws b.raw (length (symbols b) * 2 % cell) i h)

-- ---- its bytes

byte_by : (b : Block) (i j : ℕ) (x : Symbol) → i ≡ j → get_or (cells_of b) j fill ≡ x → byte_of x ≡ byte_of (get_or (cells_of b) i fill)
byte_by b i j x e h = rw (e, h)

pub byte-start : (b : Block) (i : ℕ) → i ≡ 0 → image 12 ≡ byte_of (get_or (cells_of b) i fill)
byte-start b i e = byte_by b i 0 start e (symbol_start b)

pub byte-bits : (b : Block) (i : ℕ) → (i ≡ 0 → ⊥) → i < 5 → image (nibble_of (i - 1) b.head) ≡ byte_of (get_or (cells_of b) i fill)
byte-bits b i n h = byte_by b i (suc (i - 1)) (bits (nibble_of (i - 1) b.head)) (omega arith) (symbol_bits b (i - 1) (omega arith))

pub byte_raw :
    (l : List ℕ) (head from next i : ℕ) → 5 ≤ i → next ≤ length l → i - 5 < next - from
    → get_or l (from + (i - 5)) 0 ≡ byte_of (get_or (cells_of (block_at l head from next)) i fill)
byte_raw l head from next i g w h =
    let b = block_at l head from next in
    let n : length b.raw ≡ next - from = length-take-le (next - from) (drop from l) (omega (arith, length-drop from l)) in
    sym (get_or-take (next - from) (drop from l) (i - 5) 0 h ∙ get_or-drop from l (i - 5) 0)
    ∙ byte_by b i (i - 5 + 5) (raw (get_or b.raw (i - 5) 0)) (omega arith) (symbol_raw b (i - 5) (omega arith))

pub byte-fill :
    (l : List ℕ) (head from next i : ℕ) → 5 ≤ i → next ≤ length l → next - from ≤ i - 5
    → image 3 ≡ byte_of (get_or (cells_of (block_at l head from next)) i fill)
byte-fill l head from next i g w h =
    let b = block_at l head from next in
    let n : length b.raw ≡ next - from = length-take-le (next - from) (drop from l) (omega (arith, length-drop from l)) in
    byte_by b i (i - 5 + 5) fill (omega arith) (symbol_fill b (i - 5) (omega arith))

-- ---- what is sent of the record that stands at a place

pub block_at_lem :
    {l : List ℕ} {p head from next : ℕ} → Standing l p head from next → cells_of (block_at l head from next) ≡ cells_of (block_of (drop p l))
unfolding cells_of symbols
block_at_lem {l} {p} {head} {from} {next} s =
    let e : next - from ≡ size_of (head_of (drop p l)) = omega (arith, s.its_raw, s.its_next) in
    rw (s.its_head, e, s.its_raw, drop-drop head_length p l)

-- ---- what is left

pub rest-none : (l : List ℕ) (pen : Pen) → begins (drop pen.at l) ≡ false → rest_of l pen ≡ []
unfolding rest_of stream_of
rest-none l pen b = rw (blocks_not (drop pen.at l) b) (drop-nil pen.sent)

pub rest_at :
    {l : List ℕ} {p head from next : ℕ} → Standing l p head from next → (o : ℕ)
    → rest_of l (record { at = p; sent = o }) ≡ drop o (cells_of (block_of (drop p l)) ++ stream_of (blocks (drop next l)))
unfolding rest_of stream_of
rest_at {l} {p} s o = rw (blocks_at s)

-- the next symbol where a block is not yet sent whole
next_symbol : (xs ys : List Symbol) (o : ℕ) → o < length xs → get_or (drop o (xs ++ ys)) 0 fill ≡ get_or xs o fill
next_symbol (x ∷ xs) ys zero h = refl
next_symbol (x ∷ xs) ys (suc o) h = next_symbol xs ys o (le_of_suc-le-suc h)
next_symbol [] ys o h = absurd (not-suc-le-zero h)

-- only a block's first symbol is a start
after-lead : (l : List ℕ) (n i : ℕ) → is_start (get_or (map raw l ++ replicate n fill) i fill) ≡ false
after-lead [] n i = rw (fills-at n i)
after-lead (b ∷ l) n zero = refl
after-lead (b ∷ l) n (suc i) = after-lead l n i

starts_first : (b : Block) (o : ℕ) → is_start (get_or (cells_of b) o fill) ≡ eqb o 0
unfolding cells_of symbols
starts_first b zero = refl
starts_first b (suc zero) = refl
starts_first b (suc (suc zero)) = refl
starts_first b (suc (suc (suc zero))) = refl
starts_first b (suc (suc (suc (suc zero)))) = refl
starts_first b (suc (suc (suc (suc (suc i))))) =
    after-lead b.raw (length (symbols b) * 2 % cell) i ∙ sym (ne_eqb (suc (suc (suc (suc (suc i))))) 0 (λ e. omega arith))

-- any block has symbols
pub some_cells : (b : Block) → 0 < length (cells_of b)
some_cells b = omega (arith, cells_length b)

-- ---- one step

-- from a record
pub sent_symbol :
    (l : List ℕ) (pen : Pen) (head from next : ℕ) → Standing l pen.at head from next → (b : ℕ) (p : Pen)
    → b ≡ byte_of (get_or (cells_of (block_at l head from next)) pen.sent fill) → p ≡ moved_of pen (next - from) next
    → record { byte = b; starts = eqb pen.sent 0; pen = p } ≡ sent_of l pen
unfolding sent_of
sent_symbol l pen head from next s b p eb ep =
    let n : next - from ≡ size_of (head_of (drop pen.at l)) = omega (arith, s.its_raw, s.its_next) in
    rw (eb, ep, block_at_lem s, n, s.its_next, s.whole_there)

-- where there is none
pub sent-filler : (l : List ℕ) (pen : Pen) → begins (drop pen.at l) ≡ false → (r : Sent) → r ≡ filler_at pen → r ≡ sent_of l pen
unfolding sent_of
sent-filler l pen b r e = rw b e

pub end_not : (l : List ℕ) (p : ℕ) → p ≡ length l → begins (drop p l) ≡ false
end_not l p e = begins_not (drop p l) (omega (arith, length-drop p l))

-- ---- what is sent is the stream's next symbol, and the writer goes on behind it

module _ (l : List ℕ) (pen : Pen) (head from next : ℕ) (s : Standing l pen.at head from next) (w : Within l pen) where
  abbrev block : Block
  block = block_of (drop pen.at l)

  abbrev following : List Symbol
  following = stream_of (blocks (drop next l))

  lasts : length (cells_of block) ≡ (next - from + 7) / 3 * 3
  lasts = cells_length block ∙ ap (λ (n : ℕ). (n + 7) / 3 * 3) (raw_length s)

  pub unsent : pen.sent < (next - from + 7) / 3 * 3
  unsent = omega (arith, lasts, w.among s.whole_there)

  first : get_or (rest_of l pen) 0 fill ≡ get_or (cells_of block) pen.sent fill
  first =
      ap (λ (ss : List Symbol). get_or ss 0 fill) (rest_at s pen.sent)
      ∙ next_symbol (cells_of block) following pen.sent (w.among s.whole_there)

  moves_on : pen.sent + 1 < (next - from + 7) / 3 * 3 → Goes l pen 1 (record { at = pen.at; sent = pen.sent + 1 })
  unfolding rest_of
  moves-on h =
      record {
        rest = sym (drop-drop 1 pen.sent _);
        stands = record { among = λ t. omega (arith, lasts) };
      }

  moves-over : (next - from + 7) / 3 * 3 ≤ pen.sent + 1 → Goes l pen 1 (record { at = next; sent = 0 })
  unfolding rest_of
  moves-over h =
      let e : length (cells_of block) ≡ pen.sent + 1 = omega (arith, lasts, unsent) in
      record {
        rest =
            sym
            (ap (drop 1) (rest_at s pen.sent) ∙ drop-drop 1 pen.sent (cells_of block ++ following)
            ∙ drop_at (cells_of block) following (pen.sent + 1) e);
        stands = record { among = λ t. some_cells (block_of (drop next l)) };
      }

  moves : Goes l pen 1 (moved_of pen (next - from) next)
  moves =
      elim (dec_lt (pen.sent + 1) ((next - from + 7) / 3 * 3)) [
        | yes h ↦ rw (lt-ltb (pen.sent + 1) ((next - from + 7) / 3 * 3) h) (moves-on h)
        | no n ↦ let h : (next - from + 7) / 3 * 3 ≤ pen.sent + 1 = omega arith in rw (le-ltb (pen.sent + 1) ((next - from + 7) / 3 * 3) h) (moves-over h)
      ]

  sends-symbol :
      Sends l pen
      (record {
        byte = byte_of (get_or (cells_of (block_at l head from next)) pen.sent fill);
        starts = eqb pen.sent 0;
        pen = moved_of pen (next - from) next;
      })
  sends-symbol =
      record {
        its_byte = ap byte_of (ap (λ (ss : List Symbol). get_or ss pen.sent fill) (block_at_lem s) ∙ sym first);
        its_start = sym (ap is_start first ∙ starts_first block pen.sent);
        goes = moves;
      }

sends-filler : (l : List ℕ) (pen : Pen) → begins (drop pen.at l) ≡ false → Sends l pen (filler_at pen)
sends-filler l pen b =
    record {
      its_byte = rw (rest-none l pen b);
      its_start = rw (rest-none l pen b);
      goes =
          record {
            rest = rw (rest-none l pen b);
            stands = record { among = λ t. let z : ◌≡◌ {A = ℕ} 0 1 = cc in absurd (omega arith) };
          };
    }

-- a whole record that begins at p stands there
there : (l : List ℕ) (p : ℕ) → begins (drop p l) ≡ true → Standing l p (head_of (drop p l)) (p + head_length) (p + record_length (drop p l))
there l p b =
    record {
      whole_there = b;
      its_head = refl;
      its_raw = refl;
      its_next = refl;
      within = omega (arith, begins-head (drop p l) b, begins-fits (drop p l) b, length-drop p l);
    }

pub sends : (l : List ℕ) (pen : Pen) → Within l pen → (r : Sent) → r ≡ sent_of l pen → Sends l pen r
sends l pen w r e = rw e (go (begins (drop pen.at l)) refl)
  where
    go : (t : Bool) → begins (drop pen.at l) ≡ t → Sends l pen (sent_of l pen)
    go true b =
        let s = there l pen.at b in
        rw (← sent_symbol l pen _ _ _ s _ _ refl refl) (sends-symbol l pen _ _ _ s w)
    go false b = rw (← sent-filler l pen b (filler_at pen) refl) (sends-filler l pen b)
