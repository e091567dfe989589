-- The writer's stream from any place on: the rest of the block that is being sent there, with no start in it, and then the blocks that start
-- behind that place. Packet by packet, up to the first start. Assumes nothing.
use mathlib.Core.Path.{◌≡◌, ◌∙◌, refl, sym, ap, ap₂, subst}
use mathlib.Core.List.{List, [], ◌∷◌, ◌++◌, map, append-nil}
use Prim.Native.Nat.{ℕ, zero, suc, ◌+◌, ◌-◌, ◌*◌, ◌%◌, ◌≤◌, ◌<◌}
use native.Mathlib.Decide.{dec_lt}
use native.Mathlib.Omega.{arith}
use lib.ListN.{length, take, drop, replicate, length-drop, take-append-drop}
use lib.Seq.{drop-nil, drop-drop, drop-append-le, drop-append-add}
use Rattle.laws.specs.Each.{Each, nil, and}
use Rattle.laws.proofs.Eaches.{each_append, each_right}
use Rattle.blocks.specs.Block.{Block}
use Rattle.symbols.specs.Stream.{Symbol, fill, raw, byte_of, cell, per_packet, symbols, cells_of, stream_of, grab, before_start}
use Rattle.writer.proofs.Aligned.{Plain, fills, bit, byte, before-plain}
use Rattle.claims.specs.Damage.{Placed, Sending, sendings}
use Rattle.claims.specs.CutLine.{starting_from}
use Rattle.claims.proofs.Landing.{drop-grab}

-- n symbols with no start among them, and then the blocks bs
pub record Ahead (ss : List Symbol) (n : ℕ) (bs : List Block) : Type 0 where
  pub front : List Symbol
  pub plain : Each Plain front
  pub long : length front ≡ n
  pub whole : ss ≡ front ++ stream_of bs

-- the bytes of the blocks ahead
pub ahead_grab :
    (k : ℕ) {ss : List Symbol} {n : ℕ} {bs : List Block} → Ahead ss n bs → n ≤ k
    → drop n (map byte_of (grab k ss)) ≡ map byte_of (grab (k - n) (stream_of bs))
ahead_grab k {ss} {n} {bs} a h =
    ap (λ (l : List Symbol). drop n (map byte_of (grab k l))) a.whole
    ∙ subst (λ (i : ℕ). drop i (map byte_of (grab k (a.front ++ stream_of bs))) ≡ map byte_of (grab (k - i) (stream_of bs))) a.long
    (drop-grab a.front (stream_of bs) k (omega (arith, a.long)))

-- and their symbols, from any place behind the first start on
pub ahead_drop :
    (k : ℕ) {ss : List Symbol} {n : ℕ} {bs : List Block} → Ahead ss n bs → n ≤ k → drop k ss ≡ drop (k - n) (stream_of bs)
ahead_drop k {ss} {n} {bs} a h =
    let e : k ≡ length a.front + (k - n) = omega (arith, a.long) in
    ap (drop k) a.whole ∙ ap (λ (i : ℕ). drop i (a.front ++ stream_of bs)) e ∙ drop-append-add a.front (stream_of bs) (k - n)

plain-drop : (n : ℕ) (l : List Symbol) → Each Plain l → Each Plain (drop n l)
plain-drop n l r = each_right (take n l) (drop n l) (rw take-append-drop r)

-- ---- from any place on

plain_raws : (l : List ℕ) → Each Plain (map raw l)
plain_raws [] = nil
plain_raws (b ∷ l) = and byte (plain_raws l)

plain-fills : (n : ℕ) → Each Plain (replicate n fill)
plain-fills zero = nil
plain-fills (suc n) = and fills (plain-fills n)

-- a block's only start is its first symbol
cells_plain : (b : Block) (n : ℕ) → Each Plain (drop (suc n) (cells_of b))
unfolding cells_of symbols
cells_plain b n =
    plain-drop n _ (and bit (and bit (and bit (and bit (each_append (plain_raws b.raw) (plain-fills (length (symbols b) * 2 % cell)))))))

-- the blocks whose start stands at place n of their stream, or behind it
unfoldable pub starts_from : List Block → ℕ → List Block
starts_from [] n = []
starts_from (b ∷ bs) zero = b ∷ bs
starts_from (b ∷ bs) (suc n) = starts_from bs (suc n - length (cells_of b))

starts-all : (bs : List Block) → starts_from bs 0 ≡ bs
unfolding starts_from
starts-all [] = refl
starts-all (b ∷ bs) = refl

starting_all : (xs : List Sending) → starting_from xs 0 ≡ xs
unfolding starting_from
starting_all [] = refl
starting_all (x ∷ xs) = refl

pub each-starts : {P : Block → Type 0} {bs : List Block} (n : ℕ) → Each P bs → Each P (starts_from bs n)
unfolding starts_from
each-starts n nil = nil
each-starts zero (and p r) = and p r
each-starts (suc n) (and p r) = each-starts _ r

-- the stream from place n on: how far ahead the first of them starts, and where their bytes stand in the whole
pub record From (bs : List Block) (n : ℕ) : Type 0 where
  pub far : ℕ
  pub ahead : Ahead (drop n (stream_of bs)) far (starts_from bs n)
  pub bytes : (cs : List Placed) → starting_from (sendings bs cs) n ≡ sendings (starts_from bs n) (drop (n + far) cs)

pub from : (bs : List Block) (n : ℕ) → From bs n
unfolding starts_from starting_from stream_of sendings
from [] n =
    record {
      far = 0;
      ahead = record { front = []; plain = nil; long = refl; whole = drop-nil n };
      bytes = λ cs. refl;
    }
from (b ∷ bs) zero =
    record {
      far = 0;
      ahead = record { front = []; plain = nil; long = refl; whole = refl };
      bytes = λ cs. refl;
    }
from (b ∷ bs) (suc n) =
    let size = length (cells_of b) in
    elim (dec_lt size (suc n)) [
      | yes h ↦
          let left = suc n - size in
          let rest = from bs left in
          let e : suc n ≡ size + left = omega arith in
          let d : drop (suc n) (cells_of b ++ stream_of bs) ≡ drop left (stream_of bs) =
          ap (λ (i : ℕ). drop i (cells_of b ++ stream_of bs)) e ∙ drop-append-add (cells_of b) (stream_of bs) left in
          let f : size + (left + rest.far) ≡ suc n + rest.far = omega arith in
          record {
            far = rest.far;
            ahead = rw d rest.ahead;
            bytes =
                λ cs.
                rest.bytes (drop size cs)
                ∙ ap (sendings (starts_from bs left)) (drop-drop (left + rest.far) size cs ∙ ap (λ (i : ℕ). drop i cs) f);
          }
      | no h ↦
          let z : suc n - size ≡ 0 = omega arith in
          let f : suc n + (size - suc n) ≡ size = omega arith in
          record {
            far = size - suc n;
            ahead =
                record {
                  front = drop (suc n) (cells_of b);
                  plain = cells_plain b n;
                  long = length-drop (suc n) (cells_of b);
                  whole = drop-append-le (suc n) (cells_of b) (stream_of bs) (omega arith) ∙ rw (z, starts-all bs);
                };
            bytes =
                λ cs.
                ap (starting_from (sendings bs (drop size cs))) z
                ∙ starting_all (sendings bs (drop size cs))
                ∙ sym (ap₂ (λ (l : List Block) (i : ℕ). sendings l (drop i cs)) (ap (starts_from bs) z ∙ starts-all bs) f);
          }
    ]

-- ---- a packet's symbols

before-long : (n : ℕ) {front : List Symbol} (ts : List Symbol) → Each Plain front → n ≤ length front → before_start (grab n (front ++ ts)) ≡ n
unfolding grab before_start
before-long zero ts r h = refl
before-long (suc n) ts nil h = absurd (omega arith)
before-long (suc n) ts (and {l = front} p r) h = before-plain p (grab n (front ++ ts)) ∙ ap suc (before-long n ts r (omega arith))

before_start_lem :
    (n : ℕ) {front : List Symbol} (b : Block) (bs : List Block) → Each Plain front → length front < n
    → before_start (grab n (front ++ stream_of (b ∷ bs))) ≡ length front
unfolding grab before_start stream_of cells_of symbols
before_start_lem zero b bs r h = absurd (omega arith)
before_start_lem (suc n) b bs nil h = refl
before_start_lem (suc n) b bs (and {l = front} p r) h =
    before-plain p (grab n (front ++ stream_of (b ∷ bs))) ∙ ap suc (before_start_lem n b bs r (omega arith))

before-end : (n : ℕ) {front : List Symbol} → Each Plain front → before_start (grab n (front ++ [])) ≡ n
unfolding grab before_start
before-end zero r = refl
before-end (suc n) nil = ap suc (before-end n nil)
before-end (suc n) (and {l = front} p r) = before-plain p (grab n (front ++ [])) ∙ ap suc (before-end n r)

-- a packet has no start, and what is ahead is less by its bytes; or the first start stands in it
pub data Next (ss : List Symbol) (n : ℕ) (bs : List Block) : Type 0 where
  silent :
      {m : ℕ} → before_start (grab per_packet ss) ≡ per_packet → Ahead (drop per_packet ss) m bs
      → ((cs ds : List Placed) → length cs ≡ per_packet → sendings bs (drop n (cs ++ ds)) ≡ sendings bs (drop m ds)) → Next ss n bs
  starts : n < per_packet → before_start (grab per_packet ss) ≡ n → Next ss n bs

pub next : (ss : List Symbol) (n : ℕ) (bs : List Block) → Ahead ss n bs → Next ss n bs
unfolding stream_of sendings
next ss n [] a =
    let e : ss ≡ a.front ++ [] = a.whole in
    silent (rw e (before-end per_packet a.plain))
    (record {
      front = drop per_packet a.front;
      plain = plain-drop per_packet a.front a.plain;
      long = refl;
      whole = ap (drop per_packet) (e ∙ append-nil a.front) ∙ sym (append-nil (drop per_packet a.front));
    })
    (λ cs ds e. refl)
next ss n (b ∷ bs) a =
    elim (dec_lt n per_packet) [
      | yes h ↦ starts h (rw a.whole (before_start_lem per_packet b bs a.plain (omega (arith, a.long))) ∙ a.long)
      | no h ↦
          let far : per_packet ≤ length a.front = omega (arith, a.long) in
          silent (rw a.whole (before-long per_packet (stream_of (b ∷ bs)) a.plain far))
          (record {
            front = drop per_packet a.front;
            plain = plain-drop per_packet a.front a.plain;
            long = length-drop per_packet a.front ∙ ap (λ (i : ℕ). i - per_packet) a.long;
            whole = ap (drop per_packet) a.whole ∙ drop-append-le per_packet a.front (stream_of (b ∷ bs)) far;
          })
          (λ cs ds e. ap (sendings (b ∷ bs)) (past cs ds e h))
    ]
  where
    past : (cs ds : List Placed) → length cs ≡ per_packet → (n < per_packet → ⊥) → drop n (cs ++ ds) ≡ drop (n - per_packet) ds
    past cs ds e h =
        let m : n ≡ length cs + (n - per_packet) = omega arith in
        ap (λ (i : ℕ). drop i (cs ++ ds)) m ∙ drop-append-add cs ds (n - per_packet)
