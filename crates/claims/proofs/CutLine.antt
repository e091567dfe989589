-- After a cut line: whatever packets were lost, once packets of one run of our writer arrive undamaged from one of its packets 0 on, with nothing
-- between but packets that can be read, every block whose start stands among them comes out, in order; before them at most one other does, the
-- one that was running. Assumes nothing.
use mathlib.Core.Path.{◌≡◌, ◌∙◌, refl, sym, ap, ap₂}
use mathlib.Core.Bool.{true, false}
use mathlib.Core.Logic.{inl}
use mathlib.Core.List.{List, ◌∷◌, ◌++◌, map}
use Prim.Native.Nat.{ℕ, zero, suc, ◌+◌, ◌-◌, ◌*◌, ◌%◌, ◌≤◌, ◌<◌}
use native.Mathlib.Nat.{mod-eq_of_lt, mul_assoc, mul-sub, mul_comm, sub-zero, zero-sub, suc-mul, zero-mul, add-zero}
use native.Mathlib.Omega.{arith}
use lib.ListN.{length, drop, length-append, length-drop, length-map}
use lib.Seq.{drop-nil, drop-append-add, drop-drop, get_or-drop}
use borrow.Author.Tests.{eq-eqb, ne_eqb}
use Rattle.laws.specs.Each.{Each}
use Rattle.laws.proofs.Maps.{map-drop}
use Rattle.octet.specs.Decoding.{nib}
use Rattle.octet.proofs.Laws.{nib-image}
use Rattle.blocks.specs.Block.{Block, blocks}
use Rattle.packet.specs.declared.Setting.{Setting}
use Rattle.packet.specs.Setting.{in_range}
use Rattle.packet.specs.Packet.{packet_zero}
use Rattle.packet.specs.Address.{decodes}
use Rattle.symbols.specs.Stream.{Symbol, byte_of, per_packet, stream_of, grab}
use Rattle.writer.specs.Cutting.{data_packets, after_packets, pages, pages_for, packets}
use Rattle.writer.proofs.Aligned.{Celled, stream_celled, after_celled}
use Rattle.writer.proofs.Counting.{covered}
use Rattle.writer.proofs.Filling.{length-grab}
use Rattle.writer.proofs.Numbering.{data_count, packets_forty}
use Rattle.pages.specs.Headers.{foreign, see_zero}
use Rattle.pages.specs.Seen.{see, see_y}
use Rattle.pages.proofs.Judged.{sees}
use Rattle.walk.specs.Mode.{Mode}
use Rattle.state.specs.Acting.{State}
use Rattle.claims.specs.Noise.{Hears, Near, Fits}
use Rattle.claims.specs.Mingled.{Kind, elsewhere, header, row, Mingled}
use Rattle.claims.specs.Lists.{Paired, both_end, with}
use Rattle.claims.specs.Damage.{byte_in, stream_in, sendings, unharmed}
use Rattle.claims.specs.Carrying.{heard_blocks}
use Rattle.claims.specs.CutLine.{magazine_in, number_in, page_in, number_of_stream, Readable, of_other, of-header, of_row, before_page, from_there, Resumed, Behind, alone, after, unjoined}
use Rattle.claims.proofs.Losing.{near-length, near-drop, came-exactly}
use Rattle.claims.proofs.Landing.{same_bytes, stream-near, sendings-near}
use Rattle.claims.proofs.Hearing.{not_both, Beside, passed, named, beside_row}
use Rattle.claims.proofs.Mingling.{mingled-paired}
use Rattle.claims.proofs.Blocks.{range, all-clean}
use Rattle.claims.proofs.Apart.{stilled}
use Rattle.claims.proofs.Starting.{ahead_grab, starts_from, each-starts, from}
use Rattle.claims.proofs.Tail.{sendings_tail}
use Rattle.claims.proofs.Silent.{Idle, pages-silent}
use Rattle.claims.proofs.Resuming.{resumes}

-- ---- what can be read is seen as what it is

pub header-seen :
    (s : Setting) (q : List ℕ) → decodes 6 (drop 2 q) ≡ true → ((page_in q ≡ s.page) × (number_of_stream q ≡ s.stream) → ⊥)
    → see_y s 0 q ≡ foreign
unfolding see_y see_zero
header-seen s q e z =
    rw (e, get_or-drop 2 q 0 0, get_or-drop 2 q 1 0, get_or-drop 2 q 4 0, not_both (page_in q) s.page (number_of_stream q) s.stream z)

readable-seen : (s : Setting) (kind : Kind) (q : List ℕ) → Readable s q kind → Beside ⊥ kind (see s q)
readable-seen s elsewhere q (of_other long e z) = rw (sees s q long, e, ne_eqb (magazine_in q) (s.magazine % 8) z) passed
readable-seen s header q (of-header long e m y six z) =
    rw (sees s q long, e, eq-eqb (magazine_in q) (s.magazine % 8) m, y, header-seen s q six z) named
readable-seen s row q (of_row long e m y) =
    rw (sees s q long, e, eq-eqb (magazine_in q) (s.magazine % 8) m) (beside_row ⊥ s (number_in q) q y)

-- ---- what is left of a run

pub drop-pages :
    (s : Setting) (k p index : ℕ) (ss : List Symbol) (j : ℕ) → index < 16
    → drop (j * (k + 1)) (pages s k p index ss) ≡ pages s k (p - j) ((index + j) % 16) (drop (before_page k j) ss)
unfolding pages
drop-pages s k p index ss zero low = rw (zero-mul (k + 1), zero-mul (k * per_packet), sub-zero p, add-zero index, mod-eq_of_lt low)
drop-pages s k zero index ss (suc j) low = drop-nil (suc j * (k + 1)) ∙ rw (zero-sub (suc j))
drop-pages s k (suc p) index ss (suc j) low =
    let page : List (List ℕ) = packet_zero s index k ∷ data_packets s k 1 ss in
    let others : List (List ℕ) = pages s k p ((index + 1) % 16) (after_packets k ss) in
    let past : suc j * (k + 1) ≡ length page + j * (k + 1) = omega (arith, suc-mul j (k + 1), data_count s k 1 ss) in
    let bytes : suc j * (k * per_packet) ≡ k * per_packet + j * (k * per_packet) = omega (arith, suc-mul j (k * per_packet)) in
    let number : (index + suc j) % 16 ≡ ((index + 1) % 16 + j) % 16 = omega arith in
    let left : suc p - suc j ≡ p - j = omega arith in
    ap (λ (i : ℕ). drop i (page ++ others)) past
    ∙ drop-append-add page others (j * (k + 1))
    ∙ drop-pages s k p ((index + 1) % 16) (after_packets k ss) j (omega arith)
    ∙ rw (left, number, bytes, drop-drop (j * (k * per_packet)) (k * per_packet) ss)

-- undamaged packets are those that were sent
same-packets : {ps ours : List (List ℕ)} → Paired (Near (λ a b. a ≡ b)) ps ours → ps ≡ ours
same-packets both_end = refl
same-packets (with n r) = ap₂ (λ (p : List ℕ) (ps : List (List ℕ)). p ∷ ps) (same_bytes n) (same-packets r)

-- so many pages less of what is covered
left-covered : (n p j x : ℕ) → n ≤ p * x → n - j * x ≤ (p - j) * x
left-covered n p j x h = rw (mul_comm (p - j) x, mul-sub x p j, mul_comm x p, mul_comm x j) (omega arith)

-- ---- the theorem

abbrev pub Clean : ℕ → ℕ → Type 0
Clean a b = a ≡ b

pub clean : Hears Clean ⊥
clean n b h e = inl (ap nib (sym e) ∙ nib-image n ∙ mod-eq_of_lt h)

module _ (s : Setting) (within : in_range s ≡ true) (index k : ℕ) (low : index < 16) (least : 1 ≤ k) (most : k ≤ 25)
    (records : List ℕ) (fit : Each Fits (blocks records)) (j : ℕ) (ours qs : List (List ℕ)) (resumed : Resumed s k j (packets s index k records) ours qs) where
  abbrev bs : List Block
  bs = blocks records

  -- how many pages there are, and how many symbols stand in those from page j on
  abbrev p : ℕ
  p = pages_for k (length (stream_of bs))

  abbrev tail : List Symbol
  tail = drop (before_page k j) (stream_of bs)

  as-pages : Mingled Clean (λ kind q. Readable s q kind) k 0 false (pages s k (p - j) ((index + j) % 16) tail) ours qs
  unfolding packets
  as-pages = rw (drop-pages s k p index (stream_of bs) j low) at resumed

  -- a reader with nothing running hands out the blocks whose starts stand in the tail
  from-silence : (st : State) → Idle st → heard_blocks s st qs ≡ from_there s index k j records
  from-silence st idle =
      let there = from bs (before_page k j) in
      let started = starts_from bs (before_page k j) in
      let n = there.far in
      let r = range s within in
      let pages-left = p - j in
      let near = stream-near k ((index + j) % 16) pages-left s tail (mingled-paired as-pages) in
      let room = pages-left * (k * per_packet) in
      let long : length (stream_in k ours) ≡ room =
      sym (length-map (stream_in k ours) byte_in) ∙ sym (near-length near) ∙ length-map (grab _ tail) byte_of ∙ length-grab _ tail in
      let whole : length tail ≤ room =
      rw (length-drop (before_page k j) (stream_of bs)) (left-covered (length (stream_of bs)) p j (k * per_packet) (covered bs k least)) in
      let parts : length tail ≡ n + length (stream_of started) =
      ap length there.ahead.whole ∙ length-append there.ahead.front (stream_of started)
      ∙ ap (λ (i : ℕ). i + length (stream_of started)) there.ahead.long in
      let cells : Celled tail = rw (← mul_assoc j k per_packet) (after_celled (j * k) (stream_celled bs)) in
      let heard = pages-silent Clean clean s k r.page r.stream most (λ kind q. Readable s q kind) (readable-seen s) started
      (each-starts (before_page k j) fit) pages-left ((index + j) % 16) (omega arith) 0 tail n ours st qs cells there.ahead (omega arith) idle as-pages in
      let arrived = drop n (stream_in k ours) in
      let come : Near Clean (map byte_of (grab (room - n) (stream_of started))) (map byte_in arrived) =
      rw (map-drop byte_in n (stream_in k ours)) (rw (ahead_grab room there.ahead (omega arith)) at (near-drop n near)) in
      came-exactly (λ a b e. e) (λ x. x) heard
      ∙ all-clean (sendings-near started (room - n) arrived (omega arith) come)
      ∙ ap (λ (ps : List (List ℕ)). map unharmed (sendings started (drop n (stream_in k ps)))) (sym (same-packets (mingled-paired resumed)))
      ∙ sendings_tail k j n started (packets_forty s index k records)
      ∙ ap (map unharmed) (sym (there.bytes (stream_in k (packets s index k records))))

  -- from any state whatever: those blocks, and before them none, or the one that was running, with a second byte 1
  pub after-cut-line : (st : State) → Behind st.mode (from_there s index k j records) (heard_blocks s st qs)
  after-cut-line st =
      let r = range s within in
      rw (← from-silence (stilled st) (record { mode = refl; joined = refl }))
      (resumes s (λ kind q. Readable s q kind) (readable-seen s) Clean clean r.page r.stream k most (p - j) ((index + j) % 16) (omega arith)
      tail ours qs st as-pages)

-- ---- the second byte

-- every block that comes out with a second byte 0 is as it was sent
pub behind_zero : {m : Mode} {bs out : List Block} → Behind m bs out → unjoined out ≡ unjoined bs
unfolding unjoined
behind_zero alone = refl
behind_zero (after r) = refl
