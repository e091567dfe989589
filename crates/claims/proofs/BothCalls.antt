-- What is promised of two streams, of the calls: whatever the contracts allow, by `feed` and `feed_all` of two streams in any mixture, each call with
-- room. Each stream's blocks are those of a reader of it alone. What stands in one stream's pages doesn't reach the other. After a packet that can't be
-- read the reader is as a fresh one. The third demand holds of each stream, and after a cut line the blocks of each come out again. Assumes nothing.
use mathlib.Core.Path.{◌≡◌, ◌∙◌, refl, sym, ap, subst}
use mathlib.Core.Bool.{true, false}
use mathlib.Core.List.{List, ◌∷◌, map}
use Prim.Native.Nat.{ℕ, ◌*◌, ◌+◌, ◌≤◌, ◌<◌}
use native.Mathlib.Omega.{arith}
use Rattle.laws.specs.Each.{Each}
use Rattle.blocks.specs.Block.{Block, blocks}
use Rattle.packet.specs.declared.two.Streams.{Streams}
use Rattle.packet.specs.Two.{in_range_of_two}
use Rattle.writer.specs.Cutting.{packets, FortyTwo, more}
use Rattle.writer.proofs.Numbering.{packets_forty, forty_drop}
use Rattle.pages.specs.declared.two.Whose.{Whose}
use Rattle.pages.specs.declared.two.Whose.TheVariants.{First, Second}
use Rattle.pages.specs.Two.{setting_for}
use Rattle.state.specs.declared.Reader.{Reader}
use Rattle.state.specs.declared.two.Readers.{Readers}
use Rattle.state.specs.Two.{TwoState, Handed, state_for, fresh_of_two, readers_of, blocks_for, SoundOfTwo}
use Rattle.state.proofs.BothRanging.{both-sound-fresh, both-sound-after, both-held}
use Rattle.reader.specs.Two.{tuned_to_two}
use Rattle.forms.specs.Tables.{Table, fits}
use Rattle.forms.specs.Form.{form}
use Rattle.claims.specs.Noise.{Flipped, Hears, Fits}
use Rattle.claims.specs.Damage.{Counted}
use Rattle.claims.specs.Lists.{Among}
use Rattle.claims.specs.March.{Unreadable}
use Rattle.claims.specs.Tables.{records_of, sent}
use Rattle.claims.specs.Calls.{Fed, MadeWhole, counted_forms}
use Rattle.claims.specs.CutLine.{Held, from_page, Delivered, AfterOne}
use Rattle.claims.specs.Two as Two
use Rattle.claims.specs.Two.{StartsTwo, FeedsTwo, FeedsAllTwo, FedOfTwo, heard_by_two}
use Rattle.claims.specs.Differing.{the_other, Differing}
use Rattle.claims.specs.Woven.{cut_for, BothShared, BothClean}
use Rattle.claims.specs.Both.{ThroughBoth, DeliversBoth, HeldOfTwo, LeavesOfTwo, ResumedFor, coming_for}
use Rattle.claims.proofs.Noise.{near}
use Rattle.claims.proofs.Losing.{came-exactly, came-among, among-map}
use Rattle.claims.proofs.Mingling.{mingled-long, rightly_long}
use Rattle.claims.proofs.Tables.{all_fit, blocks-written}
use Rattle.claims.proofs.Handing.{fed_of-one, feeds_two, feeds-all_two, fed_of_two}
use Rattle.claims.proofs.Calls.{made-records, made-whole, all-counted, read_again}
use Rattle.claims.proofs.CutLineCalls.{readable-long, at_most_one}
use Rattle.claims.proofs.Leaving.{Holds, leaves-held}
use Rattle.claims.proofs.Beside.{each-in-range, heard_beside, both-after-unread, seen-unreadable, other_unmoved, differing-long}
use Rattle.claims.proofs.Woven.{each_shared, each-resumed}
use Rattle.claims.proofs.EachStream.{each-landed, each-carried, each-after-cut-line}

pub starts_two : {r : Readers} → StartsTwo r → r ≡ readers_of fresh_of_two
starts_two (Two.fresh κs a x t post) = post

-- a fresh reader's chain of calls
fresh_fed :
    (s : Streams) → in_range_of_two s ≡ true → {r : Readers} {qs : List (List ℕ)} {numbers : List ℕ} {out : List Handed} → StartsTwo r
    → FedOfTwo s r qs numbers out → FortyTwo qs → out ≡ heard_by_two s fresh_of_two qs
fresh_fed s within start fed long = (fed_of_two s within fed fresh_of_two both-sound-fresh (starts_two start) long).1

-- ---- side by side

-- the blocks of a stream are those that a reader set to that stream alone gives of the same packets, each by whatever calls
pub calls_beside :
    (s : Streams) → in_range_of_two s ≡ true → (w : Whose) (st : TwoState) {r : Readers} → HeldOfTwo r st → {one : Reader} → Held one (state_for w st)
    → {qs : List (List ℕ)} → FortyTwo qs → {ms ns : List ℕ} {out : List Handed} {bs : List Block} → FedOfTwo s r qs ms out → Fed (setting_for w s) one qs ns bs
    → blocks_for w out ≡ bs
calls_beside s within w st h g {qs} long fed alone =
    ap (blocks_for w) (fed_of_two s within fed st h.sound h.whole long).1
    ∙ heard_beside s within w st qs
    ∙ sym (fed_of-one (setting_for w s) (each-in-range s within w) alone (state_for w st) g.sound g.whole long).1

-- ---- what stands in one stream's pages doesn't reach the other

-- of two lists of packets that differ in one stream's pages alone, fed to fresh readers, the blocks of the other stream are the same
pub streams_apart :
    (s : Streams) → in_range_of_two s ≡ true → (w : Whose) {qs rs : List (List ℕ)} → Differing (setting_for w s) false qs rs
    → {a b : Readers} {ms ns : List ℕ} {out other : List Handed} → StartsTwo a → FedOfTwo s a qs ms out → StartsTwo b → FedOfTwo s b rs ns other
    → blocks_for (the_other w) out ≡ blocks_for (the_other w) other
streams_apart s within w {qs} {rs} d a first b second =
    let long = differing-long d in
    rw (fresh_fed s within a first long.0, fresh_fed s within b second long.1) (other_unmoved s within w d)

-- ---- the fault of March

-- whatever a reader of two holds, once a packet can't be read its calls write what a fresh one's would, whatever comes
pub march-of_two :
    (s : Streams) → in_range_of_two s ≡ true → (st : TwoState) {r : Readers} → HeldOfTwo r st → (w : Whose) {q : List ℕ} → Unreadable (setting_for w s) q
    → {qs : List (List ℕ)} → FortyTwo (q ∷ qs) → {t : Readers} {ms ns : List ℕ} {out other : List Handed} → FedOfTwo s r (q ∷ qs) ms out
    → StartsTwo t → FedOfTwo s t qs ns other → out ≡ other
march-of_two s within st h w {q} u {qs} (more l f) fed start again =
    (fed_of_two s within fed st h.sound h.whole (more l f)).1
    ∙ both-after-unread s st q (seen-unreadable s w q l u) qs
    ∙ sym (fresh_fed s within start again f)

-- ---- the third demand, of each stream

module _ (d : ℕ) (small : d ≤ 2) (s : Streams) (within : in_range_of_two s ≡ true) (index k : Whose → ℕ) (low : (w : Whose) → index w < 16)
    (least : (w : Whose) → 1 ≤ k w) (most : (w : Whose) → k w ≤ 25) (ts : Whose → List Table) (fit : (w : Whose) → Each (λ t. fits t ≡ true) (ts w))
    {forms : Whose → List (Counted (List ℕ))} (c : ThroughBoth (Flipped d) s index k ts forms) where
  -- the forms handed in for a stream, each with the number of bytes of its sending that arrived other than they were sent
  abbrev pub handed_in_for : Whose → List (Counted (List ℕ))
  handed_in_for w = counted_forms (k w) (ts w) (c.made w).records (c.ours w)

  hears : Hears (Flipped d) (2 ≤ d)
  hears n b h f = near d n b small h f

  whole-for : (w : Whose) → MadeWhole (c.made w)
  whole-for w = made-whole (setting_for w s) (each-in-range s within w) (index w) (k w) (low w) (least w) (most w) (ts w) (fit w) (c.made w)

  records-for : (w : Whose) → (c.made w).records ≡ records_of (setting_for w s).application (ts w)
  records-for w = made-records (setting_for w s) (each-in-range s within w) (index w) (k w) (low w) (least w) (most w) (ts w) (fit w) (c.made w)

  fits-for : (w : Whose) → Each Fits (blocks (records_of (setting_for w s).application (ts w)))
  fits-for w =
      let app = (setting_for w s).application in
      subst (Each Fits) (sym (blocks-written app (fit w))) (all_fit app (fit w))

  as-sent : BothShared (Flipped d) s k (λ w. sent (setting_for w s) (index w) (k w) (ts w)) c.ours c.arrived
  as-sent = rw ((whole-for First).packets, (whole-for Second).packets) at c.aired

  long-all : FortyTwo c.arrived
  long-all =
      let one = setting_for First s in
      let records : Whose → List ℕ = λ w. records_of (setting_for w s).application (ts w) in
      mingled-long (rightly_long (Flipped d) one) (packets_forty one (index First) (k First) (records First))
      (each_shared s within k most index low records (Flipped d) c.ours as-sent First)

  pub calls-carried-of-two : DeliversBoth (2 ≤ d) c
  calls-carried-of-two =
      let fed = fed_of_two s within c.fed fresh_of_two both-sound-fresh (starts_two c.starts) long-all in
      let records : Whose → List ℕ = λ w. records_of (setting_for w s).application (ts w) in
      record {
        made = whole-for;
        taken = fed.0;
        blocks =
            λ w.
            rw (records-for w, fed.1)
            (each-landed s within index k low least most records fits-for c.ours c.arrived (Flipped d) (2 ≤ d) hears as-sent w);
        came =
            λ w.
            read_again (setting_for w s) (each-in-range s within w) (index w) (k w) (low w) (least w) (most w) (ts w) (fit w) (c.made w) (c.ours w)
            (rw fed.1 (each-carried s within index k low least most d small ts fit c.ours c.arrived as-sent w)) (c.again w);
      }

  -- at most one flipped bit in each byte: of each stream exactly the forms handed in for it, with exactly those counts
  pub calls-exactly-of-two : d ≤ 1 → (w : Whose) → forms w ≡ handed_in_for w
  calls-exactly-of-two one w = came-exactly (λ a b e. e) (λ x. omega arith) (calls-carried-of-two.came w)

  -- up to two: only forms that were handed in for it, in order, each at most once, and each with its own count
  pub calls-never-wrong-of-two : (w : Whose) → Among (forms w) (handed_in_for w)
  calls-never-wrong-of-two w = came-among (λ a b e. e) (calls-carried-of-two.came w)

  -- those are the forms that were handed in, all of them and no other
  pub all-handed-of-two : (w : Whose) → map (λ x. x.what) (handed_in_for w) ≡ map form (ts w)
  all-handed-of-two w =
      all-counted (setting_for w s) (each-in-range s within w) (index w) (k w) (low w) (least w) (most w) (ts w) (fit w) (c.made w) (c.ours w)

  pub calls-exactly-forms-of-two : d ≤ 1 → (w : Whose) → map (λ x. x.what) (forms w) ≡ map form (ts w)
  calls-exactly-forms-of-two one w = ap (map (λ x. x.what)) (calls-exactly-of-two one w) ∙ all-handed-of-two w

  pub calls-never-wrong-forms-of-two : (w : Whose) → Among (map (λ x. x.what) (forms w)) (map form (ts w))
  calls-never-wrong-forms-of-two w =
      subst (Among (map (λ x. x.what) (forms w))) (all-handed-of-two w) (among-map (λ x. x.what) (calls-never-wrong-of-two w))

-- ---- after a cut line

leaves-held_of_two : {r left : Readers} → LeavesOfTwo r left → Holds SoundOfTwo readers_of r → Holds SoundOfTwo readers_of left
leaves-held_of_two =
    leaves-held tuned_to_two SoundOfTwo readers_of (λ s. both-held) (λ s st. refl) both-sound-after FeedsTwo FeedsAllTwo
    (λ s r next q old out h call. (feeds_two call).1) (λ s r next l old out h call. (feeds-all_two call).1)

module _ (s : Streams) (within : in_range_of_two s ≡ true) (index k : Whose → ℕ) (low : (w : Whose) → index w < 16) (least : (w : Whose) → 1 ≤ k w)
    (most : (w : Whose) → k w ≤ 25) (records : Whose → List ℕ) (fit : (w : Whose) → Each Fits (blocks (records w))) (ours : Whose → List (List ℕ))
    (qs : List (List ℕ)) {r : Readers} {numbers : List ℕ} {out : List Handed} (fed : FedOfTwo s r qs numbers out) where
  -- from any reader of two in range, of one stream: where its run goes on, undamaged, with nothing between but packets that can be read, whatever the
  -- other stream's are
  pub after-cut-line-either :
      (st : TwoState) → HeldOfTwo r st → (w : Whose) (j : ℕ) → ResumedFor s index k records ours qs w j → Delivered (state_for w st).mode (coming_for s index k records w j) numbers (blocks_for w out)
  after-cut-line-either st h w j resumed =
      let one = setting_for w s in
      let long = mingled-long (readable-long one) (forty_drop (j * (k w + 1)) (packets_forty one (index w) (k w) (records w))) resumed in
      let said = fed_of_two s within fed st h.sound h.whole long in
      record {
        taken = said.0;
        comes = rw said.1 (each-after-cut-line s within index k low least most records fit ours qs st w j resumed);
      }

  -- of both, where both runs go on
  pub after-cut-line-of-two :
      (st : TwoState) → HeldOfTwo r st → (j : Whose → ℕ)
      → BothClean s k (λ w. from_page (k w) (j w) (cut_for s index k records w)) ours qs
      → (w : Whose) → Delivered (state_for w st).mode (coming_for s index k records w (j w)) numbers (blocks_for w out)
  after-cut-line-of-two st h j clean w =
      after-cut-line-either st h w (j w) (each-resumed s within k most index low records j ours clean w)

  -- from any that calls can leave, begun from a fresh one
  pub after-cut-line-fresh-of-two :
      {fresh : Readers} → StartsTwo fresh → LeavesOfTwo fresh r → (w : Whose) (j : ℕ) → ResumedFor s index k records ours qs w j → AfterOne (coming_for s index k records w j) numbers (blocks_for w out)
  after-cut-line-fresh-of-two start leaves w j resumed =
      let held = leaves-held_of_two leaves (fresh_of_two, record { sound = both-sound-fresh; whole = starts_two start }) in
      let d = after-cut-line-either held.0 held.1 w j resumed in
      at_most_one d.taken d.comes
