-- The calls from end to end can be made, so what is said of them isn't empty: whatever tables fit and whatever arrives of their packets,
-- there are outcomes that the contracts allow, one call after the other. Assumes nothing.
use mathlib.Core.Path.{◌≡◌, ◌∙◌, refl, sym, ap, subst}
use mathlib.Core.Bool.{true}
use mathlib.Core.List.{List, [], ◌∷◌}
use Prim.Native.Nat.{ℕ, ◌+◌, ◌≤◌, ◌<◌}
use native.Mathlib.Nat.{le_refl}
use native.Mathlib.Omega.{arith}
use lib.ListN.{length, replicate, length-replicate}
use denote.Bor.{Bor}
use denote.MutBor.{MutBor}
use Rattle.laws.specs.Each.{Each, nil, and}
use Rattle.laws.proofs.Eaches.{each_all}
use Rattle.answer.specs.Answer.{Answer}
use Rattle.answer.specs.Writing.{answered, left}
use Rattle.blocks.specs.Block.{Block, whole, record_of as block_record_of}
use Rattle.packet.specs.declared.Setting.{Setting}
use Rattle.packet.specs.Setting.{in_range}
use Rattle.writer.specs.Cutting.{packets, cut_bytes, cut_rules}
use Rattle.writer.proofs.Numbering.{packets_forty}
use Rattle.state.specs.declared.Reader.{Reader}
use Rattle.state.specs.State.{reader_of, fresh_state}
use Rattle.packet.specs.declared.two.Streams.{Streams}
use Rattle.state.specs.declared.two.Readers.{Readers}
use Rattle.packet.specs.Two.{in_range_of_two}
use Rattle.pages.specs.declared.two.Whose.{Whose}
use Rattle.pages.specs.declared.two.Whose.TheVariants.{First, Second}
use Rattle.pages.specs.Two.{setting_for}
use Rattle.state.specs.Two.{Handed, fresh_of_two, readers_of, blocks_for}
use Rattle.reader.specs.Feeding.{feed_heard, feed_reader, feed_out}
use Rattle.reader.specs.Two.{feed_heard_of_two, feed_readers_of_two, feed_out_of_two}
use Rattle.forms.specs.Tables.{Table, fits}
use Rattle.forms.specs.Form.{form, table_in}
use Rattle.forms.specs.Writing.{write_rules}
use Rattle.blocks.specs.Parts.{mended_in}
use Rattle.forms.specs.Block.{record_of}
use Rattle.blocks.specs.Values.{counted}
use Rattle.table.specs.Reading.{read_rules, table_read}
use Rattle.claims.specs.Noise.{Aired}
use Rattle.claims.specs.Damage.{Counted}
use Rattle.claims.specs.Tables.{sent}
use Rattle.claims.specs.Calls.{Writes, write-block, Cuts, cut-pages, Starts, fresh, Feeds, feed, Reads, read-block, Written, no_table, table, Fed, ReadOut, no_block, block, Made, ReadAgain, Through}
use Rattle.claims.specs.Feeding.{feeder_for}
use Rattle.claims.specs.Two as Two
use Rattle.claims.specs.Two.{feeder_for_two, StartsTwo, FeedsTwo, FedOfTwo}
use Rattle.claims.proofs.Rows as Rows
use Rattle.claims.specs.Woven.{BothShared}
use Rattle.claims.specs.Both.{ThroughBoth}
use Rattle.claims.proofs.Blocks.{range}
use Rattle.claims.proofs.Beside.{each-in-range}
use Rattle.claims.proofs.Calls.{its_bytes, tables-written, all_whole, cut_holds}

-- ---- each call

-- a lent slice, somewhere
abbrev pub lend : List ℕ → Bor (List ℕ)
lend l = record { ref_ptr = (0, 0); now = l }

-- one that a call may write to
abbrev pub lend_out : List ℕ → MutBor (List ℕ)
lend_out l = record { ref_ptr = (0, 0); ghost_name = 0; now = l }

module _ (application : ℕ) (l old : List ℕ) where
  can_write :
      Writes application l old (answered (write_rules application l) (record_of application (table_in l)) old)
      (left (write_rules application l) (record_of application (table_in l)) old)
  can_write = write-block ([], ([], tt)) (application, (lend l, (lend_out old, tt))) _ (application, (lend l, (lend_out _, tt))) (refl, refl)

  can-read :
      Reads application l old (counted (mended_in l) (answered (read_rules application l) (form (table_read l)) old))
      (left (read_rules application l) (form (table_read l)) old)
  can-read = read-block ([], ([], tt)) (application, (lend l, (lend_out old, tt))) _ (application, (lend l, (lend_out _, tt))) (refl, refl)

can_cut :
    (s : Setting) (index k : ℕ) (records old : List ℕ)
    → Cuts s index k records old (answered (cut_rules s index k records) (cut_bytes s index k records) old)
    (left (cut_rules s index k records) (cut_bytes s index k records) old)
can_cut s index k records old =
    cut-pages ([], ([], tt)) (s, (index, (k, (lend records, (lend_out old, tt))))) _ (s, (index, (k, (lend records, (lend_out _, tt))))) (refl, refl)

can_start : Starts (reader_of fresh_state)
can_start = fresh tt tt (reader_of fresh_state) tt refl

can_feed :
    (s : Setting) (r : Reader) (p old : List ℕ) → Feeds s r p old (feed_heard s r p old) (feed_reader s r p old) (feed_out s r p old)
can_feed s r p old =
    feed ([], ([], tt)) (s, (r, (lend p, (lend_out old, tt))))
    (record { heard = feed_heard s r p old; reader = feed_reader s r p old })
    (s, (r, (lend p, (lend_out (feed_out s r p old), tt))))
    (refl, (refl, refl))

-- the same of two streams
can_start_two : StartsTwo (readers_of fresh_of_two)
can_start_two = Two.fresh tt tt (readers_of fresh_of_two) tt refl

can_feed_two :
    (s : Streams) (r : Readers) (p old : List ℕ)
    → FeedsTwo s r p old (feed_heard_of_two s r p old) (feed_readers_of_two s r p old) (feed_out_of_two s r p old)
can_feed_two s r p old =
    Two.feed ([], ([], tt)) (s, (r, (lend p, (lend_out old, tt))))
    (record { heard = feed_heard_of_two s r p old; reader = feed_readers_of_two s r p old })
    (s, (r, (lend p, (lend_out (feed_out_of_two s r p old), tt))))
    (refl, (refl, refl))

-- ---- calls in a row

can_write_all : (application : ℕ) (ts : List Table) → (xs : List Answer) × (records : List ℕ) × Written application ts xs records
can_write_all application [] = ([], [], no_table)
can_write_all application (t ∷ ts) =
    let rest = can_write_all application ts in
    (_, _, table (le_refl (length (record_of application t))) (can_write application (form t) (record_of application t)) rest.2)

can_feed_all : (s : Setting) (r : Reader) (qs : List (List ℕ)) → (numbers : List ℕ) × (bs : List Block) × Fed s r qs numbers bs
can_feed_all s = Rows.can_feed_all (feeder_for s) (can_feed s)

-- whatever packets come, calls of two streams can be made for them, from a fresh state on
pub fed_happens_of_two :
    (s : Streams) (qs : List (List ℕ)) → (r : Readers) × StartsTwo r × (numbers : List ℕ) × (bs : List Handed) × FedOfTwo s r qs numbers bs
fed_happens_of_two s qs =
    let fed = Rows.can_feed_all (feeder_for_two s) (can_feed_two s) (readers_of fresh_of_two) qs in
    (readers_of fresh_of_two, can_start_two, fed.0, fed.1, fed.2)

can_read-all : (application most : ℕ) (bs : List Block) → (forms : List (Counted (List ℕ))) × ReadOut application most bs forms
can_read-all application most [] = ([], no_block)
can_read-all application most (b ∷ bs) =
    let old : List ℕ = replicate most 0 in
    let enough : most ≤ length old = rw length-replicate (le_refl most) in
    (_, block enough (can-read application (block_record_of b) old) (can_read-all application most bs).1)

-- no form is longer than all of them
all_short : (ts : List Table) → (most : ℕ) × Each (λ t. length (form t) ≤ most) ts
all_short [] = (0, nil)
all_short (t ∷ ts) =
    let rest = all_short ts in
    let most = length (form t) + rest.0 in
    let h : length (form t) ≤ most = omega arith in
    (most, and h (each_all (λ u h. omega arith) rest.1))

-- ---- from end to end

pub can_read_again :
    (application : ℕ) (ts : List Table) (bs : List Block) → (forms : List (Counted (List ℕ))) × ReadAgain application ts bs forms
can_read_again application ts bs =
    let short = all_short ts in
    let read = can_read-all application short.0 bs in
    (read.0, record { most = short.0; short = short.1; read = read.1 })

module _ (s : Setting) (within : in_range s ≡ true) (index k : ℕ) (low : index < 16) (least : 1 ≤ k) (most : k ≤ 25)
    (ts : List Table) (fit : Each (λ t. fits t ≡ true) ts) where
  -- tables can be made into their packets
  pub can-make : (m : Made s index k ts) × (m.sent ≡ sent s index k ts)
  can-make =
      let app = s.application in
      let made = can_write_all app ts in
      let records = made.1 in
      let e = (tables-written app (range s within).application made.2 fit).1 in
      let call = can_cut s index k records (cut_bytes s index k records) in
      let holds = cut_holds s index k records within low least most (ap whole e ∙ all_whole app fit) in
      let done = its_bytes (cut_rules s index k records) (cut_bytes s index k records) (cut_bytes s index k records) refl refl holds (le_refl _) in (
        record {
          answers = made.0;
          records = records;
          written = made.2;
          lent = cut_bytes s index k records;
          left = _;
          answer = _;
          enough = le_refl _;
          cuts = call;
          sent = packets s index k records;
          long = packets_forty s index k records;
          whole = sym done.1;
        },
        ap (packets s index k) e,
      )

  pub calls-happen :
      (R : ℕ → ℕ → Type 0) (ours arrived : List (List ℕ)) → Aired R s (sent s index k ts) ours arrived
      → (forms : List (Counted (List ℕ))) × Through R s index k ts forms
  calls-happen R ours arrived aired =
      let fed = can_feed_all s (reader_of fresh_state) arrived in
      let again = can_read_again s.application ts fed.1 in (
        again.0,
        record {
          made = can-make.0;
          ours = ours;
          arrived = arrived;
          aired = subst (λ (ps : List (List ℕ)). Aired R s ps ours arrived) (sym can-make.1) aired;
          reader = reader_of fresh_state;
          starts = can_start;
          numbers = fed.0;
          blocks = fed.1;
          fed = fed.2;
          again = again.1;
        },
      )

module _ (s : Streams) (within : in_range_of_two s ≡ true) (index k : Whose → ℕ) (low : (w : Whose) → index w < 16) (least : (w : Whose) → 1 ≤ k w)
    (most : (w : Whose) → k w ≤ 25) (ts : Whose → List Table) (fit : (w : Whose) → Each (λ t. fits t ≡ true) (ts w)) where
  -- so of two streams
  pub calls-happen-of-two :
      (R : ℕ → ℕ → Type 0) (ours : Whose → List (List ℕ)) (arrived : List (List ℕ))
      → BothShared R s k (λ w. sent (setting_for w s) (index w) (k w) (ts w)) ours arrived
      → (forms : Whose → List (Counted (List ℕ))) × ThroughBoth R s index k ts forms
  calls-happen-of-two R ours arrived aired =
      let made : (w : Whose) → (m : Made (setting_for w s) (index w) (k w) (ts w)) × (m.sent ≡ sent (setting_for w s) (index w) (k w) (ts w)) =
      λ w. can-make (setting_for w s) (each-in-range s within w) (index w) (k w) (low w) (least w) (most w) (ts w) (fit w) in
      let fed = fed_happens_of_two s arrived in
      let handed = fed.3 in
      let again : (w : Whose) → (forms : List (Counted (List ℕ))) × ReadAgain (setting_for w s).application (ts w) (blocks_for w handed) forms =
      λ w. can_read_again (setting_for w s).application (ts w) (blocks_for w handed) in (
        λ w. (again w).0,
        record {
          made = λ w. (made w).0;
          ours = ours;
          arrived = arrived;
          aired = rw ((made First).1, (made Second).1) aired;
          reader = fed.0;
          starts = fed.1;
          numbers = fed.2;
          handed = handed;
          fed = fed.4;
          again = λ w. (again w).1;
        },
      )
