-- The bytes of our packets that carry blocks are near to those that were sent, and so are those of each sending; what of them was damaged.
-- Assumes nothing.
use mathlib.Core.Path.{◌≡◌, ◌∙◌, refl, sym, ap, ap₂, subst}
use mathlib.Core.Bool.{Bool, true, false, not}
use mathlib.Core.List.{List, [], ◌∷◌, ◌++◌, map, map-append, append_assoc}
use Prim.Native.Nat.{ℕ, zero, suc, ◌+◌, ◌-◌, ◌*◌, ◌≤◌}
use native.Mathlib.Nat.{zero-add, suc-add, zero-mul, suc-mul, add_comm, sub-zero}
use native.Mathlib.Omega.{arith}
use lib.Dec.{eqb}
use lib.ListN.{length, take, drop, length-append}
use lib.Seq.{drop-nil}
use borrow.Author.Tests.{eq-eqb}
use Rattle.laws.specs.Each.{Each, nil, and}
use Rattle.laws.specs.Pick.{pick}
use Rattle.laws.proofs.Maps.{map-take, map-drop}
use Rattle.blocks.specs.Block.{Block}
use Rattle.packet.specs.declared.Setting.{Setting}
use Rattle.packet.specs.Packet.{packet_of}
use Rattle.symbols.specs.Stream.{Symbol, fill, raw, byte_of, per_packet, symbols, fill_after, cells_of, stream_of, grab}
use Rattle.writer.specs.Cutting.{data_packet, data_packets, after_packets, pages}
use Rattle.claims.specs.Noise.{Near, none, more}
use Rattle.claims.specs.Lists.{Paired}
use Rattle.claims.specs.Lists
use Rattle.claims.specs.Damage.{unlike, Placed, placed, byte_in, carried_in, stream_in, Sending, sending_of, sendings, bytes_of, damage, lead_damage, second_byte, landed, unharmed}
use Rattle.claims.proofs.Losing.{near-append, near-drop, near-take}
use Rattle.claims.proofs.Telling.{bytes_placed}

-- ---- the stream that arrived

-- the 39 bytes of a packet
pub packet_bytes_lem :
    {R : ℕ → ℕ → Type 0} (s : Setting) (y : ℕ) (ss : List Symbol) (q : List ℕ) → Near R (data_packet s y ss) q
    → Near R (map byte_of (grab per_packet ss)) (drop 3 q)
unfolding packet_of
packet_bytes_lem s y ss q n = near-drop 3 n

grab-append : (a b : ℕ) (ss : List Symbol) → grab (a + b) ss ≡ grab a ss ++ grab b (drop a ss)
unfolding grab
grab-append zero b ss = rw (zero-add b)
grab-append (suc a) b [] = rw (suc-add a b) (ap (λ (l : List Symbol). fill ∷ l) (grab-append a b [] ∙ rw (drop-nil a)))
grab-append (suc a) b (s ∷ ss) = rw (suc-add a b) (ap (λ (l : List Symbol). s ∷ l) (grab-append a b ss))

-- the packets that are left of a page, and those after it
record Page (R : ℕ → ℕ → Type 0) (k x w : ℕ) (ss : List Symbol) (ps ours : List (List ℕ)) : Type 0 where
  bytes : List ℕ
  later : List (List ℕ)
  here : map byte_in (carried_in k x w ours) ≡ bytes ++ map byte_in (carried_in k x 0 later)
  near : Near R (map byte_of (grab (w * per_packet) ss)) bytes
  others : Paired (Near R) ps later

page :
    (R : ℕ → ℕ → Type 0) (s : Setting) (k x w y : ℕ) (ss : List Symbol) (ps ours : List (List ℕ))
    → Paired (Near R) (data_packets s w y ss ++ ps) ours → Page R k x w ss ps ours
unfolding data_packets carried_in grab
page R s k x zero y ss ps ours r = record { bytes = []; later = ours; here = refl; near = none; others = r }
page R s k x (suc w) y ss ps [] r = elim r [ ]
page R s k x (suc w) y ss ps (q ∷ ours) (Lists.with n r) =
    let t = page R s k x w (suc y) (drop per_packet ss) ps ours r in
    let e : suc w * per_packet ≡ per_packet + w * per_packet = omega arith in
    record {
      bytes = drop 3 q ++ t.bytes;
      later = t.later;
      here =
          map-append byte_in (map (placed x) (drop 3 q)) (carried_in k x w ours)
          ∙ ap₂ (λ (a b : List ℕ). a ++ b) (bytes_placed x (drop 3 q)) t.here
          ∙ sym (append_assoc (drop 3 q) t.bytes (map byte_in (carried_in k x 0 t.later)));
      near = rw (e, grab-append per_packet (w * per_packet) ss, map-append byte_of) (near-append (packet_bytes_lem s y ss q n) t.near);
      others = t.others;
    }

pages-near :
    (R : ℕ → ℕ → Type 0) (s : Setting) (k x p index : ℕ) (ss : List Symbol) (ours : List (List ℕ)) → Paired (Near R) (pages s k p index ss) ours
    → Near R (map byte_of (grab (p * (k * per_packet)) ss)) (map byte_in (carried_in k x 0 ours))
unfolding pages carried_in grab
pages-near R s k x zero index ss [] r = rw (zero-mul (k * per_packet)) none
pages-near R s k x zero index ss (q ∷ ours) r = elim r [ ]
pages-near R s k x (suc p) index ss [] r = elim r [ ]
pages-near R s k x (suc p) index ss (q ∷ ours) (Lists.with n r) =
    let t = page R s k (suc x) k 1 ss _ ours r in
    let e : suc p * (k * per_packet) ≡ k * per_packet + p * (k * per_packet) = suc-mul p (k * per_packet) ∙ add_comm _ _ in
    rw (t.here, e, grab-append (k * per_packet) (p * (k * per_packet)) ss, map-append byte_of)
    (near-append t.near (pages-near R s k (suc x) p _ (after_packets k ss) t.later t.others))

pub stream-near :
    {R : ℕ → ℕ → Type 0} (k index p : ℕ) (s : Setting) (ss : List Symbol) {ours : List (List ℕ)} → Paired (Near R) (pages s k p index ss) ours
    → Near R (map byte_of (grab (p * (k * per_packet)) ss)) (map byte_in (stream_in k ours))
stream-near {R} k index p s ss {ours} a = pages-near R s k 0 p index ss ours a

-- ---- each sending

take-grab : (ss ts : List Symbol) (n : ℕ) → length ss ≤ n → take (length ss) (map byte_of (grab n (ss ++ ts))) ≡ map byte_of ss
unfolding grab
take-grab [] ts n h = refl
take-grab (s ∷ ss) ts zero h = absurd (omega arith)
take-grab (s ∷ ss) ts (suc n) h = ap (λ (l : List ℕ). byte_of s ∷ l) (take-grab ss ts n (omega arith))

pub drop-grab :
    (ss ts : List Symbol) (n : ℕ) → length ss ≤ n → drop (length ss) (map byte_of (grab n (ss ++ ts))) ≡ map byte_of (grab (n - length ss) ts)
unfolding grab
drop-grab [] ts n h = rw (sub-zero n)
drop-grab (s ∷ ss) ts zero h = absurd (omega arith)
drop-grab (s ∷ ss) ts (suc n) h =
    let e : suc n - suc (length ss) ≡ n - length ss = omega arith in
    rw e (drop-grab ss ts n (omega arith))

-- the bytes that arrived of a sending are near to those that were sent
abbrev pub Heard : (ℕ → ℕ → Type 0) → Sending → Type 0
Heard R x = Near R (bytes_of x.block) x.came

pub sendings-near :
    {R : ℕ → ℕ → Type 0} (bs : List Block) (n : ℕ) (cs : List Placed) → length (stream_of bs) ≤ n
    → Near R (map byte_of (grab n (stream_of bs))) (map byte_in cs) → Each (Heard R) (sendings bs cs)
unfolding stream_of sendings cells_of
sendings-near [] n cs h r = nil
sendings-near {R} (b ∷ bs) n cs h r =
    let ss = symbols b in
    let behind = fill_after (length (symbols b)) in
    let whole : length (ss ++ behind ++ stream_of bs) ≡ length (ss ++ behind) + length (stream_of bs) = length-append (ss ++ behind) (stream_of bs) in
    let cells : length (ss ++ behind) ≡ length ss + length behind = length-append ss behind in
    let front : take (length ss) (map byte_of (grab n (ss ++ behind ++ stream_of bs))) ≡ map byte_of ss
    = ap (λ (l : List Symbol). take (length ss) (map byte_of (grab n l))) (append_assoc ss behind (stream_of bs))
    ∙ take-grab ss (behind ++ stream_of bs) n (omega arith) in
    let one : Heard R (sending_of b (take (length ss) cs)) =
    rw (map-take byte_in (length ss) cs) (subst (λ (l : List ℕ). Near R l (take (length ss) (map byte_in cs))) front (near-take (length ss) r)) in
    and one
    (sendings-near bs (n - length (ss ++ behind)) (drop (length (ss ++ behind)) cs) (omega arith)
    (rw (map-drop byte_in (length (ss ++ behind)) cs)
    (subst (λ (l : List ℕ). Near R l (drop (length (ss ++ behind)) (map byte_in cs))) (drop-grab (ss ++ behind) (stream_of bs) n (omega arith))
    (near-drop (length (ss ++ behind)) r))))

-- ---- what was damaged

pub unlike_self : (l : List ℕ) → unlike l l ≡ 0
unfolding unlike
unlike_self [] = refl
unlike_self (a ∷ l) = rw (eq-eqb a a refl, unlike_self l)

unlike_le : (l m : List ℕ) → unlike l m ≤ length l
unfolding unlike
unlike_le [] m = omega arith
unlike_le (a ∷ l) [] = omega arith
unlike_le (a ∷ l) (b ∷ m) = go (eqb a b) (unlike_le l m)
  where
    go : (t : Bool) → unlike l m ≤ length l → pick t 0 1 + unlike l m ≤ suc (length l)
    go true h = omega arith
    go false h = omega arith

-- a raw byte is sent as it is
pub raw_bytes : (l : List ℕ) → map byte_of (map raw l) ≡ l
raw_bytes [] = refl
raw_bytes (b ∷ l) = ap (λ (m : List ℕ). b ∷ m) (raw_bytes l)

-- a second byte is 0 or 1
pub second-one : (x : Sending) → second_byte x ≤ 1
second-one x = go (not (eqb x.first x.last))
  where
    go : (t : Bool) → pick t 1 0 ≤ 1
    go true = omega arith
    go false = omega arith

-- a start and a header are five bytes
pub lead-five : (x : Sending) → lead_damage x ≤ 5
unfolding symbols
lead-five x = unlike_le (take 5 (bytes_of x.block)) (take 5 x.came)

-- its raw bytes are near to those that were sent
pub raw_near : {R : ℕ → ℕ → Type 0} (x : Sending) → Heard R x → Near R x.block.raw (landed x).raw
unfolding symbols
raw_near {R} x n = subst (λ (l : List ℕ). Near R l (drop 5 x.came)) (raw_bytes x.block.raw) (near-drop 5 n)

-- five bytes in front
unlike-five :
    {R : ℕ → ℕ → Type 0} {a b c d e : ℕ} (l : List ℕ) {m : List ℕ} → Near R (a ∷ b ∷ c ∷ d ∷ e ∷ l) m
    → unlike (a ∷ b ∷ c ∷ d ∷ e ∷ l) m ≡ unlike (a ∷ b ∷ c ∷ d ∷ e ∷ []) (take 5 m) + unlike l (drop 5 m)
unfolding unlike
unlike-five l (more f (more g (more h (more i (more j r))))) = omega arith

-- what was damaged of it is its part, and what was damaged of its raw bytes
pub damage-parts : {R : ℕ → ℕ → Type 0} (x : Sending) → Heard R x → damage x ≡ lead_damage x + unlike x.block.raw (landed x).raw
unfolding symbols
damage-parts x n =
    unlike-five (map byte_of (map raw x.block.raw)) n
    ∙ ap (λ (l : List ℕ). lead_damage x + unlike l (landed x).raw) (raw_bytes x.block.raw)

pub same_bytes : {l m : List ℕ} → Near (λ a b. a ≡ b) l m → l ≡ m
same_bytes none = refl
same_bytes (more e r) = ap₂ (λ (x : ℕ) (xs : List ℕ). x ∷ xs) e (same_bytes r)

-- with no noise it lands as it was sent
pub landed-clean : (x : Sending) → Heard (λ a b. a ≡ b) x → landed x ≡ unharmed x
unfolding symbols
landed-clean x n =
    let e : bytes_of x.block ≡ x.came = same_bytes n in
    ap₂ (λ (part : ℕ) (l : List ℕ). record { head = x.block.head; part = part; second = second_byte x; raw = l })
    (ap (λ (l : List ℕ). unlike (take 5 (bytes_of x.block)) (take 5 l)) (sym e) ∙ unlike_self (take 5 (bytes_of x.block)))
    (ap (drop 5) (sym e) ∙ raw_bytes x.block.raw)
