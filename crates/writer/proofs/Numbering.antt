-- The writer's packets by number: how many there are, that each is 42 bytes, which is packet y of page j, and where its bytes
-- stand. Assumes nothing.
use mathlib.Core.Path.{◌≡◌, ◌∙◌, refl, sym, ap, ap₂}
use mathlib.Core.List.{List, [], ◌∷◌, ◌++◌}
use Prim.Native.Nat.{ℕ, zero, suc, ◌+◌, ◌*◌, ◌%◌, ◌<◌, ◌≤◌}
use native.Mathlib.Nat.{add-zero, zero-mul, suc-mul, le_of_suc-le-suc, not-suc-le-zero}
use native.Mathlib.Omega.{arith}
use lib.ListN.{length, get_or, take, drop, length-append, get_or-append}
use lib.Seq.{drop-drop, get_or-append-add, take_at, drop_at}
use Rattle.octet.specs.Image.{image}
use Rattle.blocks.specs.Block.{blocks}
use Rattle.packet.specs.declared.Setting.{Setting}
use Rattle.packet.specs.Packet.{packet_length, address, packet_zero, packet_of}
use Rattle.symbols.specs.Stream.{Symbol, per_packet, stream_of}
use Rattle.writer.specs.Cutting.{data_packet, data_packets, pages, pages_for, packets, joined, FortyTwo, none, more, cut_bytes}
use Rattle.writer.specs.Internal.{page_of}
use Rattle.writer.specs.Order.{numbered}
use Rattle.writer.proofs.Paging.{zero_length, packet_length_lem}

-- ---- how many there are

pub data_count : (s : Setting) (w y : ℕ) (ss : List Symbol) → length (data_packets s w y ss) ≡ w
unfolding data_packets
data_count s zero y ss = refl
data_count s (suc w) y ss = ap suc (data_count s w (suc y) (drop per_packet ss))

page-count : (s : Setting) (k index : ℕ) (ss : List Symbol) → length (page_of s k index ss) ≡ suc k
page-count s k index ss = ap suc (data_count s k 1 ss)

pages-count : (s : Setting) (k p index : ℕ) (ss : List Symbol) → length (pages s k p index ss) ≡ p * (k + 1)
unfolding pages
pages-count s k zero index ss = sym (zero-mul (k + 1))
pages-count s k (suc p) index ss =
    length-append (page_of s k index ss) (pages s k p ((index + 1) % 16) (drop (k * per_packet) ss))
    ∙ omega (arith, page-count s k index ss, pages-count s k p ((index + 1) % 16) (drop (k * per_packet) ss), suc-mul p (k + 1))

pub packets-count :
    (s : Setting) (index k : ℕ) (l : List ℕ) → length (packets s index k l) ≡ pages_for k (length (stream_of (blocks l))) * (k + 1)
unfolding packets
packets-count s index k l = pages-count s k (pages_for k (length (stream_of (blocks l)))) index (stream_of (blocks l))

-- ---- which stands where

data_at :
    (s : Setting) (w y : ℕ) (ss : List Symbol) (i : ℕ) → i < w → get_or (data_packets s w y ss) i [] ≡ data_packet s (y + i) (drop (i * per_packet) ss)
unfolding data_packets
data_at s zero y ss i h = absurd (not-suc-le-zero h)
data_at s (suc w) y ss zero h = rw (add-zero y)
data_at s (suc w) y ss (suc i) h =
    let e : suc y + i ≡ y + suc i = omega arith in
    let f : per_packet + i * per_packet ≡ suc i * per_packet = omega arith in
    data_at s w (suc y) (drop per_packet ss) i (le_of_suc-le-suc h) ∙ rw (e, drop-drop (i * per_packet) per_packet ss, f)

-- in the first page
page_at_lem : (s : Setting) (k index : ℕ) (ss : List Symbol) (y : ℕ) → index < 16 → y ≤ k → get_or (page_of s k index ss) y [] ≡ numbered s index k ss 0 y
unfolding numbered
page_at_lem s k index ss zero low h = let e : (index + 0) % 16 ≡ index = omega arith in rw e
page_at_lem s k index ss (suc w) low h =
    let e : 1 + w ≡ suc w = omega arith in
    let f : 0 * k + w ≡ w = omega arith in
    data_at s k 1 ss w h ∙ rw (e, f)

-- a page on
numbered_next :
    (s : Setting) (index k : ℕ) (ss : List Symbol) (j y : ℕ)
    → numbered s ((index + 1) % 16) k (drop (k * per_packet) ss) j y ≡ numbered s index k ss (suc j) y
unfolding numbered
numbered_next s index k ss j zero = let e : ((index + 1) % 16 + j) % 16 ≡ (index + suc j) % 16 = omega arith in rw e
numbered_next s index k ss j (suc w) =
    let e : k * per_packet + (j * k + w) * per_packet ≡ (suc j * k + w) * per_packet = omega (arith, suc-mul j k) in
    rw (drop-drop ((j * k + w) * per_packet) (k * per_packet) ss, e)

pages-at :
    (s : Setting) (k p index : ℕ) (ss : List Symbol) (j y : ℕ) → index < 16 → j < p → y ≤ k
    → get_or (pages s k p index ss) (j * (k + 1) + y) [] ≡ numbered s index k ss j y
unfolding pages
pages-at s k zero index ss j y low hj hy = absurd (not-suc-le-zero hj)
pages-at s k (suc p) index ss zero y low hj hy =
    let e : 0 * (k + 1) + y ≡ y = omega arith in
    rw e
    (get_or-append (page_of s k index ss) (pages s k p ((index + 1) % 16) (drop (k * per_packet) ss)) [] y (omega (arith, page-count s k index ss))
    ∙ page_at_lem s k index ss y low hy)
pages-at s k (suc p) index ss (suc j) y low hj hy =
    let e : suc j * (k + 1) + y ≡ length (page_of s k index ss) + (j * (k + 1) + y) = omega (arith, suc-mul j (k + 1), page-count s k index ss) in
    rw e
    (get_or-append-add (page_of s k index ss) (pages s k p ((index + 1) % 16) (drop (k * per_packet) ss)) (j * (k + 1) + y) []
    ∙ pages-at s k p ((index + 1) % 16) (drop (k * per_packet) ss) j y (omega arith) (le_of_suc-le-suc hj) hy
    ∙ numbered_next s index k ss j y)

-- packet number j times k + 1, plus y, is packet y of page j
pub packets-at :
    (s : Setting) (index k : ℕ) (l : List ℕ) (j y : ℕ) → index < 16 → j < pages_for k (length (stream_of (blocks l))) → y ≤ k
    → get_or (packets s index k l) (j * (k + 1) + y) [] ≡ numbered s index k (stream_of (blocks l)) j y
unfolding packets
packets-at s index k l j y low hj hy = pages-at s k (pages_for k (length (stream_of (blocks l)))) index (stream_of (blocks l)) j y low hj hy

-- ---- what each is

-- each is rightly addressed: its first two bytes are the address of Y = y in the setting's magazine, both images
pub numbered-address :
    (s : Setting) (index k : ℕ) (ss : List Symbol) (j y : ℕ) → take 2 (numbered s index k ss j y) ≡ address s.magazine y
unfolding numbered packet_zero packet_of
numbered-address s index k ss j zero = refl
numbered-address s index k ss j (suc w) = refl

-- the index rises modulo 16: S1 of page j
pub numbered_index :
    (s : Setting) (index k : ℕ) (ss : List Symbol) (j : ℕ) → get_or (numbered s index k ss j 0) 4 0 ≡ image ((index + j) % 16)
unfolding numbered packet_zero
numbered_index s index k ss j = refl

-- ---- where its bytes stand

forty_append : {ps qs : List (List ℕ)} → FortyTwo ps → FortyTwo qs → FortyTwo (ps ++ qs)
forty_append none b = b
forty_append (more h a) b = more h (forty_append a b)

pub forty_front : (a b : List (List ℕ)) → FortyTwo (a ++ b) → FortyTwo a
forty_front [] b f = none
forty_front (p ∷ a) b (more l f) = more l (forty_front a b f)

pub forty_take : (n : ℕ) {ps : List (List ℕ)} → FortyTwo ps → FortyTwo (take n ps)
forty_take zero r = none
forty_take (suc n) none = none
forty_take (suc n) (more h r) = more h (forty_take n r)

pub forty_drop : (n : ℕ) {ps : List (List ℕ)} → FortyTwo ps → FortyTwo (drop n ps)
forty_drop zero r = r
forty_drop (suc n) none = none
forty_drop (suc n) (more h r) = forty_drop n r

data_forty : (s : Setting) (w y : ℕ) (ss : List Symbol) → FortyTwo (data_packets s w y ss)
unfolding data_packets
data_forty s zero y ss = none
data_forty s (suc w) y ss = more (packet_length_lem s y ss) (data_forty s w (suc y) (drop per_packet ss))

pages_forty : (s : Setting) (k p index : ℕ) (ss : List Symbol) → FortyTwo (pages s k p index ss)
unfolding pages
pages_forty s k zero index ss = none
pages_forty s k (suc p) index ss =
    more (zero_length s index k)
    (forty_append (data_forty s k 1 ss) (pages_forty s k p ((index + 1) % 16) (drop (k * per_packet) ss)))

-- every packet is 42 bytes
pub packets_forty : (s : Setting) (index k : ℕ) (l : List ℕ) → FortyTwo (packets s index k l)
unfolding packets
packets_forty s index k l = pages_forty s k (pages_for k (length (stream_of (blocks l)))) index (stream_of (blocks l))

pub joined_at :
    {ps : List (List ℕ)} → FortyTwo ps → (i : ℕ) → i < length ps → take packet_length (drop (i * packet_length) (joined ps)) ≡ get_or ps i []
unfolding joined
joined_at none i h = absurd (not-suc-le-zero h)
joined_at (more {p = p} {ps = ps} e f) zero h = take_at p (joined ps) packet_length e
joined_at (more {p = p} {ps = ps} e f) (suc i) h =
    let n : suc i * packet_length ≡ packet_length + i * packet_length = omega arith in
    rw (n, ← drop-drop (i * packet_length) packet_length (p ++ joined ps), drop_at p (joined ps) packet_length e)
    (joined_at f i (le_of_suc-le-suc h))

-- the same bytes are the same packets
pub joined_same : {ps qs : List (List ℕ)} → FortyTwo ps → FortyTwo qs → joined ps ≡ joined qs → ps ≡ qs
unfolding joined
joined_same none none e = refl
joined_same none (more {p = q} {ps = qs} h r) e = absurd (omega (arith, simp length-append at (ap length e)))
joined_same (more {p = p} {ps = ps} h r) none e = absurd (omega (arith, simp length-append at (ap length e)))
joined_same (more {p = p} {ps = ps} h r) (more {p = q} {ps = qs} k t) e =
    ap₂ (λ (x : List ℕ) (xs : List (List ℕ)). x ∷ xs)
    (sym (take_at p (joined ps) packet_length h) ∙ ap (take packet_length) e ∙ take_at q (joined qs) packet_length k)
    (joined_same r t (sym (drop_at p (joined ps) packet_length h) ∙ ap (drop packet_length) e ∙ drop_at q (joined qs) packet_length k))

-- the bytes of a cut are its packets, 42 bytes each
pub cut_at :
    (s : Setting) (index k : ℕ) (l : List ℕ) (i : ℕ) → i < length (packets s index k l)
    → take packet_length (drop (i * packet_length) (cut_bytes s index k l)) ≡ get_or (packets s index k l) i []
cut_at s index k l i h = joined_at (packets_forty s index k l) i h
