-- Packets of a page, and pages, one after the other: what is stored, with what is still to be stored, is the whole.
-- Assumes nothing.
use mathlib.Core.Path.{◌≡◌, ◌∙◌, refl, sym, ap}
use mathlib.Core.List.{List, [], ◌∷◌, ◌++◌, append_assoc}
use Prim.Native.Nat.{ℕ, zero, suc, ◌+◌, ◌-◌, ◌*◌, ◌%◌, ◌<◌, ◌≤◌}
use native.Mathlib.Nat.{zero-mul, suc-mul, le_refl}
use native.Mathlib.Numerals.{add-one}
use native.Mathlib.Omega.{arith}
use lib.ListN.{length, drop, length-append, length-map}
use lib.Seq.{sets, length-sets, drop-drop}
use Rattle.laws.proofs.Stores.{sets_next}
use Rattle.blocks.specs.Block.{blocks, block_of}
use Rattle.packet.specs.declared.Setting.{Setting}
use Rattle.symbols.specs.declared.Pen.{Pen}
use Rattle.packet.specs.Packet.{packet_length, packet_zero, packet_of}
use Rattle.symbols.specs.Stream.{Symbol, byte_of, per_packet, stream_of, grab}
use Rattle.writer.specs.Cutting.{data_packet, data_packets, pages, joined}
use Rattle.symbols.specs.Internal.{rest_of, Within, Goes}
use Rattle.writer.specs.Internal.{page_of, page_length}
use Rattle.symbols.proofs.Sending.{some_cells}
use Rattle.writer.proofs.Filling.{length-grab}

pub zero_length : (s : Setting) (index n : ℕ) → length (packet_zero s index n) ≡ packet_length
unfolding packet_zero
zero_length s index n = refl

pub packet_length_lem : (s : Setting) (y : ℕ) (ss : List Symbol) → length (data_packet s y ss) ≡ packet_length
unfolding packet_of
packet_length_lem s y ss = omega (arith, length-map (grab per_packet ss) byte_of, length-grab per_packet ss)

-- ---- the packets of a page

-- the packets before y are stored, the next goes to `to`
pub record Rowed (s : Setting) (k : ℕ) (l : List ℕ) (pen : Pen) (entry : List ℕ) (q : ℕ) (out : List ℕ) (at : Pen) (to y : ℕ) : Type 0 where
  pub from_one : 1 ≤ y
  pub up_to : y ≤ suc k
  pub same : length out ≡ length entry
  pub place : to ≡ q + packet_length * (y - 1)
  pub goes : Goes l pen ((y - 1) * per_packet) at
  pub bytes : sets out to (joined (data_packets s (suc k - y) y (rest_of l at))) ≡ sets entry q (joined (data_packets s k 1 (rest_of l pen)))

pub rowed-none :
    (s : Setting) (k : ℕ) (l : List ℕ) (pen : Pen) (entry : List ℕ) (q : ℕ) → Within l pen
    → Rowed s k l pen entry q entry pen q 1
rowed-none s k l pen entry q w =
    record {
      from_one = le_refl 1;
      up_to = omega arith;
      same = refl;
      place = omega arith;
      goes = record { rest = refl; stands = w };
      bytes = let e : suc k - 1 ≡ k = omega arith in rw e;
    }

pub rowed-more :
    {s : Setting} {k : ℕ} {l : List ℕ} {pen : Pen} {entry : List ℕ} {q : ℕ} {out : List ℕ} {at : Pen} {to y : ℕ}
    → Rowed s k l pen entry q out at to y → y ≤ k → (out' : List ℕ) (at' : Pen) → out' ≡ sets out to (data_packet s y (rest_of l at))
    → Goes l at per_packet at' → Rowed s k l pen entry q out' at' (to + packet_length) (y + 1)
unfolding data_packets joined
rowed-more {s} {k} {l} {pen} {entry} {q} {out} {at} {to} {y} r h out' at' e g =
    record {
      from_one = omega arith;
      up_to = omega arith;
      same = ap length e ∙ length-sets out to (data_packet s y (rest_of l at)) ∙ r.same;
      place = omega (arith, r.from_one, r.place);
      goes =
          record {
            rest =
                let n : (y - 1) * per_packet + per_packet ≡ (y + 1 - 1) * per_packet = omega (arith, r.from_one) in
                rw (← n) (g.rest ∙ ap (drop per_packet) r.goes.rest ∙ drop-drop per_packet ((y - 1) * per_packet) (rest_of l pen));
            stands = g.stands;
          };
      bytes =
          let m : suc (suc k - suc y) ≡ suc k - y = omega arith in
          rw (add-one y, g.rest)
          (sets_next out out' to packet_length (data_packet s y (rest_of l at)) (joined (data_packets s (suc k - suc y) (suc y) (drop per_packet (rest_of l at)))) _ refl (packet_length_lem s y (rest_of l at)) e
          ∙ ap (λ (n : ℕ). sets out to (joined (data_packets s n y (rest_of l at)))) m ∙ r.bytes);
    }

pub rowed-all :
    {s : Setting} {k : ℕ} {l : List ℕ} {pen : Pen} {entry : List ℕ} {q : ℕ} {out : List ℕ} {at : Pen} {to y : ℕ}
    → Rowed s k l pen entry q out at to y → k < y
    → (out ≡ sets entry q (joined (data_packets s k 1 (rest_of l pen)))) × Goes l pen (k * per_packet) at
unfolding data_packets joined
rowed-all {s} {k} {l} {pen} {entry} {q} {out} {at} {to} {y} r h =
    let z : suc k - y ≡ 0 = omega (arith, r.up_to) in
    let e : y - 1 ≡ k = omega (arith, r.up_to) in
    (rw z at r.bytes, rw e at r.goes)

-- ---- a page

pub data_length : (s : Setting) (w y : ℕ) (ss : List Symbol) → length (joined (data_packets s w y ss)) ≡ packet_length * w
unfolding data_packets joined
data_length s zero y ss = refl
data_length s (suc w) y ss =
    length-append (data_packet s y ss) (joined (data_packets s w (suc y) (drop per_packet ss)))
    ∙ omega (arith, packet_length_lem s y ss, data_length s w (suc y) (drop per_packet ss))

pub page_length_lem : (s : Setting) (k index : ℕ) (ss : List Symbol) → length (joined (page_of s k index ss)) ≡ page_length k
unfolding joined
page_length_lem s k index ss =
    length-append (packet_zero s index k) (joined (data_packets s k 1 ss)) ∙ omega (arith, zero_length s index k, data_length s k 1 ss)

-- packet 0 and the packets behind it
pub page-laid :
    (s : Setting) (k index : ℕ) (ss : List Symbol) (entry m out : List ℕ) (q : ℕ) → m ≡ sets entry q (packet_zero s index k)
    → out ≡ sets m (q + packet_length) (joined (data_packets s k 1 ss)) → out ≡ sets entry q (joined (page_of s k index ss))
unfolding joined
page-laid s k index ss entry m out q em e =
    e ∙ sets_next entry m q packet_length (packet_zero s index k) (joined (data_packets s k 1 ss)) _ refl (zero_length s index k) em

-- ---- pages

pub joined-append : (ps qs : List (List ℕ)) → joined (ps ++ qs) ≡ joined ps ++ joined qs
unfolding joined
joined-append [] qs = refl
joined-append (p ∷ ps) qs = rw (joined-append ps qs) (sym (append_assoc p (joined ps) (joined qs)))

pub pages-length : (s : Setting) (k p index : ℕ) (ss : List Symbol) → length (joined (pages s k p index ss)) ≡ p * page_length k
unfolding pages joined
pages-length s k zero index ss = sym (zero-mul (page_length k))
pages-length s k (suc p) index ss =
    let others = pages s k p ((index + 1) % 16) (drop (k * per_packet) ss) in
    ap length (joined-append (page_of s k index ss) others)
    ∙ length-append (joined (page_of s k index ss)) (joined others)
    ∙ omega (arith, page_length_lem s k index ss, pages-length s k p ((index + 1) % 16) (drop (k * per_packet) ss), suc-mul p (page_length k))

-- so many pages are left to store, the next with the index `next` at `to`
pub record Paged (s : Setting) (k : ℕ) (l entry whole out : List ℕ) (at : Pen) (next to left : ℕ) : Type 0 where
  pub same : length out ≡ length entry
  pub fits : to + left * page_length k ≤ length entry
  pub low : next < 16
  pub stands : Within l at
  pub bytes : sets out to (joined (pages s k left next (rest_of l at))) ≡ sets entry 0 whole

-- the pen before the first record
abbrev fresh : Pen
fresh = record { at = 0; sent = 0 }

pub paged_none :
    (s : Setting) (k : ℕ) (l entry : List ℕ) (count index : ℕ) → index < 16 → count * page_length k ≤ length entry
    → Paged s k l entry (joined (pages s k count index (stream_of (blocks l)))) entry fresh index 0 count
unfolding rest_of
paged_none s k l entry count index low h =
    record {
      same = refl;
      fits = omega arith;
      low = low;
      stands = record { among = λ t. some_cells (block_of l) };
      bytes = refl;
    }

one_less : (left n : ℕ) → 0 < left → left * n ≡ (left - 1) * n + n
one_less left n h =
    let m : left ≡ suc (left - 1) = omega arith in
    ap (λ (i : ℕ). i * n) m ∙ suc-mul (left - 1) n

-- the next page has its room
pub page-room :
    {s : Setting} {k : ℕ} {l entry whole out : List ℕ} {at : Pen} {next to left : ℕ}
    → Paged s k l entry whole out at next to left → 0 < left → to + page_length k ≤ length out
page-room {k = k} {left = left} r h = omega (arith, r.same, r.fits, one_less left (page_length k) h)

pub paged_more :
    {s : Setting} {k : ℕ} {l entry whole out : List ℕ} {at : Pen} {next to left : ℕ}
    → Paged s k l entry whole out at next to left → 0 < left → (out' : List ℕ) (at' : Pen)
    → out' ≡ sets out to (joined (page_of s k next (rest_of l at))) → Goes l at (k * per_packet) at'
    → Paged s k l entry whole out' at' ((next + 1) % 16) (to + page_length k) (left - 1)
unfolding pages joined
paged_more {s} {k} {l} {entry} {whole} {out} {at} {next} {to} {left} r h out' at' e g =
    record {
      same = ap length e ∙ length-sets out to (joined (page_of s k next (rest_of l at))) ∙ r.same;
      fits = omega (arith, r.fits, one_less left (page_length k) h);
      low = omega arith;
      stands = g.stands;
      bytes =
          rw g.rest
          (sets_next out out' to (page_length k) (joined (page_of s k next (rest_of l at))) (joined others) _ refl (page_length_lem s k next (rest_of l at)) e
          ∙ ap (sets out to) (sym (joined-append (page_of s k next (rest_of l at)) others))
          ∙ ap (λ (i : ℕ). sets out to (joined (pages s k i next (rest_of l at)))) (sym m)
          ∙ r.bytes);
    }
  where
    others : List (List ℕ)
    others = pages s k (left - 1) ((next + 1) % 16) (drop (k * per_packet) (rest_of l at))

    m : left ≡ suc (left - 1)
    m = omega arith

pub paged_all :
    {s : Setting} {k : ℕ} {l entry whole out : List ℕ} {at : Pen} {next to left : ℕ}
    → Paged s k l entry whole out at next to left → left ≡ 0 → out ≡ sets entry 0 whole
unfolding pages joined
paged_all r z = rw z at r.bytes
