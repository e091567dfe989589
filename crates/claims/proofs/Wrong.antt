-- Wrong programs that were tried against the third demand, and what shuts each out: our loader meets `Carries`, and a loader that
-- hands out nothing (by refusing everything, or by a feed that is idle), one that always hands out the same table, one that goes by the
-- first packet alone, and one that always says that nothing was mended do not (SCOPE 4.4). Our feed meets `Tells`; one that counts blocks without looking, and one that never tells of a
-- dropped block, do not. Assumes nothing.
use mathlib.Core.Path.{◌≡◌, ◌∙◌, refl, sym, ap, subst}
use mathlib.Core.Bool.{Bool, true, false}
use mathlib.Core.List.{List, [], ◌∷◌, ◌++◌, map}
use Prim.Native.Nat.{ℕ, zero, suc, ◌≤◌}
use native.Mathlib.Omega.{arith}
use lib.Dec.{lit<, lit≤}
use lib.ListN.{length, length-append, replicate, get_or, set, take, drop}
use Rattle.laws.specs.Each.{Each, nil, and}
use Rattle.laws.specs.Pick.{either}
use Rattle.laws.proofs.Tests.{either_true}
use mathlib.Core.Logic.{inl, inr}
use Rattle.walk.specs.Reading.{room}
use Rattle.octet.specs.Bits.{bits, number, differing, flips}
use Rattle.octet.specs.Image.{image, with_parity}
use Rattle.octet.specs.Decoding.{nib, nibble_from}
use Rattle.blocks.specs.Block.{Block, blocks, blocks_within}
use Rattle.fields.specs.Fields.{alike, width, laid, parts, fitting}
use Rattle.packet.specs.declared.Setting.{Setting}
use Rattle.packet.specs.Setting.{in_range}
use Rattle.packet.specs.Packet.{address, packet_zero, packet_of}
use Rattle.packet.specs.Address.{decodes, address_of}
use Rattle.symbols.specs.Stream.{symbols, cells_of, stream_of, grab, before_start}
use Rattle.writer.specs.Cutting.{data_packets, pages, packets, FortyTwo}
use Rattle.writer.proofs.Cases.{desk}
use Rattle.writer.proofs.Numbering.{packets_forty}
use Rattle.writer.specs.Cutting
use Rattle.pages.specs.declared.headers.Page.TheVariants.{Shut}
use Rattle.pages.specs.Headers.{junk, other}
use Rattle.pages.specs.Seen.{seen_as, see}
use Rattle.walk.specs.Mode.{running, heading}
use Rattle.state.specs.declared.Reader.{Reader}
use Rattle.state.specs.Acting.{State, act, handed, dropped}
use Rattle.state.specs.State.{reader_of, fresh_state, Sound}
use Rattle.state.proofs.Ranging.{sound-fresh, sound-after}
use Rattle.reader.specs.Taking.{Heard}
use Rattle.packet.specs.declared.two.Streams.{Streams}
use Rattle.packet.specs.Two.{first_of}
use Rattle.pages.specs.declared.two.Whose.TheVariants.{First, Second}
use Rattle.pages.specs.Two.{unreadable, seen_by_two_as, see_by_two}
use Rattle.state.specs.Two.{TwoState, state_for, dropped_of_two}
use Rattle.state.proofs.Beside.{dropped_beside}
use Rattle.reader.specs.Feeding.{feed_heard, feed_out}
use Rattle.reader.specs.Two.{feed_heard_of_two, feed_out_of_two}
use Rattle.forms.specs.Tables.{Table, per, loops, fields, fits, entire}
use Rattle.blocks.specs.Sums.{total, checksum}
use Rattle.kinds.specs.Kind.{sevens, fits as kind_fits}
use Rattle.kinds.specs.Block.{nibbles, checksum_of, block_with}
use Rattle.table.proofs.Cases.{G, H}
use Rattle.claims.specs.Noise.{Flipped, Near, none, more, Aired, ended, sent as aired_sent}
use Rattle.claims.specs.Carrying.{heard_blocks}
use Rattle.claims.specs.Feeding.{Call, packets_of, written_of, count_of, comes_out, dropped_of, feeder_for}
use Rattle.claims.specs.Damage.{unlike, carried_in, sendings, Counted, damaged}
use Rattle.claims.specs.Tables.{records_of, sent, sent_damaged, tables_of, received}
use Rattle.claims.specs.Carries.{Carries}
use Rattle.claims.specs.March
use Rattle.claims.specs.Tells.{Tells}
use Rattle.claims.proofs.Noise.{flips_self}
use Rattle.claims.proofs.Demands.{exactly, all-sent}
use Rattle.claims.specs.Two.{feeder_for_two, EitherRuns, TellsOfTwo}
use Rattle.claims.proofs.Rows as Rows
use Rattle.claims.proofs.Rows.{call_for, calls_for, packets_of_calls, call-tells}
use Rattle.claims.proofs.Fed.{works, call-blocks, call-drops, fed-blocks}
use Rattle.claims.proofs.FedTwo.{works_two}
use Rattle.claims.proofs.March.{unreadable_junk}

-- ---- ours

pub received_carries : Carries received
received_carries =
    record {
      exactly = λ d one s r index k h least most ts fit calls ours a. exactly d (omega arith) s r index k h least most ts fit calls ours a one;
    }

-- ---- packets that arrive as they were sent

near_itself : {d : ℕ} (l : List ℕ) → Near (Flipped d) l l
near_itself [] = none
near_itself {d} (a ∷ l) = let e : flips a a ≤ d = omega (arith, flips_self 8 a) in more e (near_itself l)

aired_itself : {d : ℕ} {s : Setting} (ps : List (List ℕ)) → Aired (Flipped d) s ps ps ps
aired_itself [] = ended
aired_itself (p ∷ ps) = aired_sent (near_itself p) (aired_itself ps)

-- the packets of one table, in a page of one packet
abbrev only : Table → List (List ℕ)
only t = sent desk 0 1 (t ∷ [])

desk-range : in_range desk ≡ true
unfolding in_range
desk-range = refl

-- the tables that come out of calls for them
abbrev tables : (Setting → List Call → List (Counted Table)) → List Call → List Table
tables f calls = map (λ c. c.what) (f desk calls)

given :
    (f : Setting → List Call → List (Counted Table)) → Carries f → (t : Table) → fits t ≡ true → tables f (calls_for (only t)) ≡ t ∷ []
given f c t e =
    let aired : Aired (Flipped 0) desk (only t) (only t) (packets_of (calls_for (only t))) =
    subst (λ (ps : List (List ℕ)). Aired (Flipped 0) desk (only t) (only t) ps) (sym (packets_of_calls room (only t))) (aired_itself (only t)) in
    ap (map (λ c. c.what))
    (c.exactly 0 (lit≤ tt) desk desk-range 0 1 (lit< tt) (lit≤ tt) (lit≤ tt) (t ∷ []) (and e nil) (calls_for (only t)) (only t) aired)
    ∙ all-sent 0 (lit≤ tt) desk desk-range 0 1 (lit< tt) (lit≤ tt) (lit≤ tt) (t ∷ []) (and e nil) (calls_for (only t)) (only t) aired

g_fits : fits G ≡ true
unfolding fits kind_fits sevens entire fitting fields loops per alike width
g_fits = refl

h_fits : fits H ≡ true
unfolding fits kind_fits sevens entire fitting fields loops per alike width
h_fits = refl

-- both begin with the same packet 0
first : List ℕ
first = packet_zero desk 0 1

firsts : (only G ≡ first ∷ drop 1 (only G)) × (only H ≡ first ∷ drop 1 (only H))
unfolding
    first
    records_of
    block_with
    laid
    parts
    alike
    width
    fields
    loops
    per
    nibbles
    checksum_of
    checksum
    total
    packets
    pages
    data_packets
    stream_of
    cells_of
    symbols
    grab
    before_start
    blocks_within
    image
    with_parity
    number
firsts = (refl, refl)

-- ---- the wrong ones

-- lists that begin with G and with H aren't equal: G has a descriptor, H has none
abbrev count : List Table → ℕ
count [] = 0
count (t ∷ ts) = length t.descriptors

not_both : (l : List Table) → l ≡ G ∷ [] → l ≡ H ∷ [] → ⊥
not_both l g h = let z : ◌≡◌ {A = ℕ} 1 0 = ap count (sym g ∙ h) in omega arith

-- one that refuses everything, or whose feed is idle
pub idle_shut_out : Carries (λ s calls. []) → ⊥
idle_shut_out c = let z : ◌≡◌ {A = ℕ} 0 1 = ap length (given (λ s calls. []) c G g_fits) in omega arith

-- one that always hands out the same list
pub fixed_shut_out : (ts : List (Counted Table)) → Carries (λ s calls. ts) → ⊥
fixed_shut_out ts c = not_both (map (λ c. c.what) ts) (given (λ s calls. ts) c G g_fits) (given (λ s calls. ts) c H h_fits)

-- one that hears its first packet and makes all of its answers of that (SCOPE 4.4)
pub first-only-shut_out :
    (f : Setting → List Call → List (Counted Table)) → ((s : Setting) (a : Call) (l m : List Call) → f s (a ∷ l) ≡ f s (a ∷ m)) → Carries f → ⊥
unfolding calls_for
first-only-shut_out f same c =
    not_both (tables f (call_for first ∷ []))
    (ap (map (λ c. c.what)) (same desk (call_for first) [] (calls_for (drop 1 (only G))))
    ∙ sym (ap (λ (ps : List (List ℕ)). tables f (calls_for ps)) firsts.0)
    ∙ given f c G g_fits)
    (ap (map (λ c. c.what)) (same desk (call_for first) [] (calls_for (drop 1 (only H))))
    ∙ sym (ap (λ (ps : List (List ℕ)). tables f (calls_for ps)) firsts.1)
    ∙ given f c H h_fits)

-- ---- counts

-- one byte that arrives otherwise
near-set : (l : List ℕ) (i b : ℕ) → flips (get_or l i 0) b ≤ 1 → Near (Flipped 1) l (set l i b)
near-set [] i b h = none
near-set (a ∷ l) zero b h = more h (near_itself l)
near-set (a ∷ l) (suc i) b h = let e : flips a a ≤ 1 = omega (arith, flips_self 8 a) in more e (near-set l i b h)

-- G's two packets, with one flip in the start of its block
abbrev rough : List (List ℕ)
rough = get_or (only G) 0 [] ∷ set (get_or (only G) 1 []) 3 0xA0 ∷ []

two_packets : only G ≡ get_or (only G) 0 [] ∷ get_or (only G) 1 [] ∷ []
unfolding
    records_of
    block_with
    laid
    parts
    alike
    width
    fields
    loops
    per
    nibbles
    checksum_of
    checksum
    total
    packets
    pages
    data_packets
    stream_of
    cells_of
    symbols
    grab
    before_start
    blocks_within
    image
    with_parity
    number
two_packets = refl

start-there : flips (get_or (get_or (only G) 1 []) 3 0) 0xA0 ≤ 1
unfolding
    records_of
    block_with
    laid
    parts
    alike
    width
    fields
    loops
    per
    nibbles
    checksum_of
    checksum
    total
    packets
    pages
    data_packets
    stream_of
    cells_of
    symbols
    grab
    before_start
    blocks_within
    image
    with_parity
    number
    packet_of
    differing
start-there = lit≤ tt

mended_once : map (λ c. c.mended) (sent_damaged desk 1 (G ∷ []) rough) ≡ 1 ∷ []
unfolding
    records_of
    block_with
    laid
    parts
    alike
    width
    fields
    loops
    per
    nibbles
    checksum_of
    checksum
    total
    packets
    pages
    data_packets
    stream_of
    cells_of
    symbols
    grab
    before_start
    blocks_within
    image
    with_parity
    number
    packet_of
    packet_zero
    carried_in
    sendings
    damaged
    unlike
mended_once = refl

no_count : {l : List (Counted Table)} → Each (λ c. c.mended ≡ 0) l → map (λ c. c.mended) l ≡ 1 ∷ [] → ⊥
no_count nil e = let z : ◌≡◌ {A = ℕ} 0 1 = ap length e in omega arith
no_count (and h r) e = let z : ◌≡◌ {A = ℕ} 0 1 = sym h ∙ ap (λ (l : List ℕ). get_or l 0 0) e in omega arith

-- one that always says that nothing was mended
pub never-mended-shut_out :
    (f : Setting → List Call → List (Counted Table)) → ((s : Setting) (calls : List Call) → Each (λ c. c.mended ≡ 0) (f s calls)) → Carries f → ⊥
never-mended-shut_out f never c =
    let aired : Aired (Flipped 1) desk (only G) rough rough =
    subst (λ (ps : List (List ℕ)). Aired (Flipped 1) desk ps rough rough) (sym two_packets)
    (aired_sent (near_itself (get_or (only G) 0 [])) (aired_sent (near-set (get_or (only G) 1 []) 3 0xA0 start-there) ended)) in
    let said =
    c.exactly 1 (lit≤ tt) desk desk-range 0 1 (lit< tt) (lit≤ tt) (lit≤ tt) (G ∷ []) (and g_fits nil) (calls_for rough) rough
    (subst (λ (ps : List (List ℕ)). Aired (Flipped 1) desk (only G) rough ps) (sym (packets_of_calls room rough)) aired) in
    no_count (never desk (calls_for rough)) (ap (map (λ c. c.mended)) said ∙ mended_once)

-- ---- answers

dropped_junk : (st : State) → dropped st junk ≡ running st.mode
unfolding dropped
dropped_junk st = go (running st.mode)
  where
    go : (t : Bool) → either t false ≡ t
    go true = refl
    go false = refl

-- ours counts the records that it writes, and says where a running block was dropped
pub feed_tells : Tells feed_heard feed_out
feed_tells s i =
    record {
      counts = λ st r c l. call-tells (feeder_for s) (works s i) st r c l;
      drops = λ st r c l e u. call-drops s i st r c l ∙ ap (dropped st) (unreadable_junk s c.packet l u) ∙ dropped_junk st ∙ e;
    }

-- and ours of two streams, where a block of either runs
seen-unreadable : (s : Streams) (p : List ℕ) → see (first_of s) p ≡ junk → see_by_two s p ≡ unreadable
unfolding see see_by_two seen_by_two_as
seen-unreadable s p e = rw e

dropped-unreadable : (st : TwoState) → EitherRuns st → dropped_of_two st unreadable ≡ true
dropped-unreadable st runs = dropped_beside st unreadable ∙ rw (dropped_junk (state_for First st), dropped_junk (state_for Second st)) (go runs)
  where
    go : EitherRuns st → either (running st.first.mode) (running st.second.mode) ≡ true
    go (inl e) = rw e
    go (inr e) = rw (e, either_true)

pub feed_tells_of_two : TellsOfTwo feed_heard_of_two feed_out_of_two
feed_tells_of_two s i =
    record {
      counts = λ st r c l. call-tells (feeder_for_two s) (works_two s i) st r c l;
      drops =
          λ st r c l e u.
          Rows.call-drops (feeder_for_two s) (works_two s i) st r c l
          ∙ ap (dropped_of_two st) (seen-unreadable s c.packet (unreadable_junk (first_of s) c.packet l u))
          ∙ dropped-unreadable st e;
    }

-- a packet rightly addressed to magazine 2
away : List ℕ
away = address 2 0 ++ replicate 40 0x20

away-seen : see desk away ≡ other
unfolding see seen_as address_of away decodes nib nibble_from image with_parity differing number bits
away-seen = refl

handed-away : (st : State) → handed st (see desk away) ≡ []
unfolding handed
handed-away st = ap (handed st) away-seen

no_tables : (bs : List Block) → length bs ≡ 0 → tables_of 1 bs ≡ []
unfolding tables_of
no_tables [] e = refl
no_tables (b ∷ bs) e = absurd (omega arith)

-- one that writes what ours does, and whose count is made up: it is told without a look at the packet
module _ (heard : Setting → Reader → List ℕ → List ℕ → Heard) (tells : Tells heard feed_out)
    (alike : (s : Setting) (r : Reader) (p old : List ℕ) → written_of (heard s r p old) ≡ written_of (feed_heard s r p old))
    (count : Setting → Reader → ℕ)
    (made_up : (s : Setting) (r : Reader) (p old : List ℕ) → count_of (heard s r p old) ≡ count s r) where
  -- the number of blocks that a packet gives is the one told
  told : (st : State) → Sound st → (c : Call) → length c.packet ≡ 42 → count desk (reader_of st) ≡ length (handed st (see desk c.packet))
  told st r c l =
      sym (made_up desk (reader_of st) c.packet c.lent)
      ∙ (tells desk desk-range).counts st r c l
      ∙ ap (λ (n : ℕ). length (blocks (take n (feed_out desk (reader_of st) c.packet c.lent)))) (alike desk (reader_of st) c.packet c.lent)
      ∙ ap length (call-blocks desk desk-range st r c l)

  -- and so that of a packet that gives none
  none_told : (st : State) → Sound st → (p : List ℕ) → length p ≡ 42 → length (handed st (see desk p)) ≡ 0
  unfolding away
  none_told st r p l = sym (told st r (call_for p) l) ∙ told st r (call_for away) refl ∙ ap length (handed-away st)

  none-heard : (st : State) → Sound st → {ps : List (List ℕ)} → FortyTwo ps → length (heard_blocks desk st ps) ≡ 0
  unfolding heard_blocks
  none-heard st r Cutting.none = refl
  none-heard st r (Cutting.more {p = p} l e) =
      length-append (handed st (see desk p)) _
      ∙ omega (arith, none_told st r p l, none-heard (act st (see desk p)) (sound-after desk st p r) e)

  pub made-up-shut-out : ⊥
  made-up-shut-out =
      let bs = comes_out desk (reader_of fresh_state) (calls_for (only G)) in
      let heard-none : length bs ≡ 0 =
      ap length (fed-blocks desk desk-range fresh_state sound-fresh (calls_for (only G)) (subst FortyTwo (sym (packets_of_calls room (only G))) forty))
      ∙ ap (λ (ps : List (List ℕ)). length (heard_blocks desk fresh_state ps)) (packets_of_calls room (only G))
      ∙ none-heard fresh_state sound-fresh forty in
      let z : ◌≡◌ {A = ℕ} 0 1 =
      sym (ap (λ (l : List (Counted Table)). length (map (λ c. c.what) l)) (no_tables bs heard-none)) ∙ ap length (given received received_carries G g_fits) in
      omega arith
    where
      forty : FortyTwo (only G)
      forty = packets_forty desk 0 1 (records_of 1 (G ∷ []))

-- one whose `dropped` is always false
pub never-drops-shut_out :
    (heard : Setting → Reader → List ℕ → List ℕ → Heard) (out : Setting → Reader → List ℕ → List ℕ → List ℕ)
    → ((s : Setting) (r : Reader) (p old : List ℕ) → dropped_of (heard s r p old) ≡ false) → Tells heard out → ⊥
unfolding decodes nib nibble_from image with_parity differing number bits
never-drops-shut_out heard out never tells =
    let c : Call = call_for (replicate 42 0x16) in
    let st : State = record { page = Shut; index = 0; mode = heading 0 0 0; joined = false } in
    let r : Sound st =
    record {
      page = refl;
      index = omega arith;
      mode = record { got = omega arith; small = omega arith; only = refl; counted = omega arith };
      joined = λ e. refl;
    } in
    let d = (tells desk desk-range).drops st r c refl refl (March.address refl) in
    let n = never desk (reader_of st) c.packet c.lent in
    let z : ◌≡◌ {A = ℕ} 0 1 = cc in
    omega arith
