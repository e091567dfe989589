-- The third demand, of the calls themselves: tables that fit go through `write_block` and `cut_pages`, the packets arrive with noise and
-- go to a fresh reader by `feed` or `feed_all`, and each record that comes out goes to `read_block`. Whatever the contracts allow, all is
-- accepted, and the forms that come out are those handed in: all of them where at most one bit of each byte is flipped, and some of them,
-- in order and each at most once, where up to two are; and each with the number of bytes of its sending that arrived other than they were
-- sent. One theorem over the number of flips, and its two corollaries. Assumes nothing.
use mathlib.Core.Path.{◌≡◌, ◌∙◌, refl, sym, ap, ap₂, subst, subst₂}
use mathlib.Core.Bool.{true}
use mathlib.Core.Logic.{◌⊎◌, inl, inr}
use mathlib.Core.List.{List, [], ◌∷◌, ◌++◌, map, map-append}
use Prim.Native.Nat.{ℕ, ◌≤◌, ◌<◌}
use native.Mathlib.Omega.{arith}
use lib.Dec.{leb}
use lib.ListN.{length, drop, length-map}
use lib.Seq.{take-append_seam}
use borrow.Author.Tests.{le-leb}
use Rattle.std.specs.declared.result.Result.TheVariants.{Ok}
use Rattle.laws.specs.Each.{Each, nil, and}
use Rattle.laws.proofs.Eaches.{each_first, each_left, each_right, each_all}
use Rattle.laws.specs.Pick.{both}
use Rattle.answer.specs.Answer.{Answer}
use Rattle.answer.specs.Rules.{Rule, Every, none as rules_none, more as rules_more, First}
use Rattle.answer.specs.Values.{refused}
use Rattle.answer.specs.Writing.{answered, left}
use Rattle.answer.proofs.Judging.{decided, passes, refuses, first-append}
use Rattle.answer.proofs.Lent.{lent-accepted}
use Rattle.blocks.specs.Block.{Block, blocks as block_blocks, record_of as block_record_of, whole}
use Rattle.blocks.proofs.Round.{whole_records}
use Rattle.packet.specs.declared.Setting.{Setting}
use Rattle.packet.specs.Setting.{in_range}
use Rattle.writer.specs.Cutting.{packets, cut_bytes, cut_rules}
use Rattle.writer.proofs.Numbering.{packets_forty, joined_same}
use Rattle.state.specs.State.{reader_of, fresh_state}
use Rattle.state.specs.declared.Reader.{Reader}
use Rattle.state.proofs.Ranging.{sound-fresh}
use Rattle.forms.specs.Tables.{Table, fits}
use Rattle.forms.specs.Form.{form, table_in}
use Rattle.forms.specs.Writing.{write_rules}
use Rattle.blocks.specs.Parts.{mended_in}
use Rattle.forms.specs.Block.{record_of}
use Rattle.table.specs.Reading.{Outcome, accepted as reading_accepted, refused as reading_refused, read_rules, table_read, read_block}
use Rattle.blocks.specs.Taking.{Read}
use Rattle.blocks.specs.Values.{counted}
use Rattle.table.proofs.Exact.{read_as_lem}
use Rattle.table.proofs.Back.{writes-back, accepted-writable}
use Rattle.claims.specs.Noise.{Flipped, Aired, Came}
use Rattle.claims.specs.Damage.{stream_in, Sending, sendings, damage, Counted, damaged}
use Rattle.claims.specs.Lists.{Among}
use Rattle.claims.specs.Feeding.{packets_of}
use Rattle.claims.specs.Tables.{records_of, sent, sent_damaged, taken, tables_of}
use Rattle.claims.specs.Calls.{Writes, write-block, Cuts, cut-pages, cut, Starts, fresh, Reads, read-block, reported, accepted, Written, no_table, table, ReadOut, no_block, block, Made, MadeWhole, ReadAgain, counted_forms, Through, Delivers}
use Rattle.claims.proofs.Losing.{came_each, came_map, came-exactly, came-among, among-map}
use Rattle.claims.proofs.Blocks.{range, aired_long}
use Rattle.claims.proofs.Tables.{table_block, all_fit, all-sized, records_same, blocks-written}
use Rattle.claims.proofs.Demands.{damaged_what, carried}
use Rattle.claims.proofs.Handing.{as_ones}

-- ---- what each call says

pub writes :
    {application : ℕ} {f old out : List ℕ} {x : Answer} → Writes application f old x out
    → (x ≡ answered (write_rules application f) (record_of application (table_in f)) old)
    × (out ≡ left (write_rules application f) (record_of application (table_in f)) old)
writes (write-block κs a x t post) = post

cuts :
    {s : Setting} {index k : ℕ} {records old out : List ℕ} {x : Answer} → Cuts s index k records old x out
    → (x ≡ answered (cut_rules s index k records) (cut_bytes s index k records) old)
    × (out ≡ left (cut_rules s index k records) (cut_bytes s index k records) old)
cuts (cut-pages κs a x t post) = post
cuts (cut κs a x t post) = post

pub starts : {r : Reader} → Starts r → r ≡ reader_of fresh_state
starts (fresh κs a x t post) = post

pub reads :
    {application : ℕ} {r old out : List ℕ} {x : Read} → Reads application r old x out
    → (x ≡ counted (mended_in r) (answered (read_rules application r) (form (table_read r)) old))
    × (out ≡ left (read_rules application r) (form (table_read r)) old)
reads (read-block κs a x t post) = post

-- a table's form, with the same count
abbrev formed : Counted Table → Counted (List ℕ)
formed c = record { what = form c.what; mended = c.mended }

-- of a call that is accepted, what it reports as written is its bytes
pub its_bytes :
    (rules : List Rule) (bytes old : List ℕ) {x : Answer} {out : List ℕ} → x ≡ answered rules bytes old → out ≡ left rules bytes old
    → Every rules → length bytes ≤ length old → (x ≡ Ok (length bytes)) × (reported x out ≡ bytes)
its_bytes rules bytes old {x} {out} e f every enough =
    let p = lent-accepted rules bytes old every enough in
    let a = e ∙ p.0 in
    let o = f ∙ p.1 in
    (a, ap₂ reported a o ∙ take-append_seam bytes (drop (length bytes) old))

-- ---- every table is written

-- its form is one that writing takes, and stands for it
pub writable : (application : ℕ) (t : Table) → application < 32 → fits t ≡ true → Every (write_rules application (form t)) × (table_in (form t) ≡ t)
writable application t a f = accepted-writable application (record_of application t) t 0 (writes-back application t a f)

pub tables-written :
    (application : ℕ) → application < 32 → {ts : List Table} {xs : List Answer} {records : List ℕ} → Written application ts xs records
    → Each (λ t. fits t ≡ true) ts
    → (xs ≡ map (λ t. Ok (length (record_of application t))) ts) × (records ≡ records_of application ts)
unfolding records_of
tables-written application a no_table nil = (refl, refl)
tables-written application a (table {t = t} {old = old} enough call rest) (and f r) =
    let w = writable application t a f in
    let said = rw w.1 at (writes call) in
    let p = its_bytes (write_rules application (form t)) (record_of application t) old said.0 said.1 w.0 enough in
    let q = tables-written application a rest r in
    (ap₂ (λ (x : Answer) (xs : List Answer). x ∷ xs) p.0 q.0, ap₂ (λ (a b : List ℕ). a ++ b) p.1 q.1)

-- ---- their records are cut

pub all_whole : (application : ℕ) {ts : List Table} → Each (λ t. fits t ≡ true) ts → whole (records_of application ts) ≡ true
all_whole application {ts} f = ap whole (records_same application ts) ∙ whole_records (all-sized (all_fit application f))

pub cut_holds :
    (s : Setting) (index k : ℕ) (records : List ℕ) → in_range s ≡ true → index < 16 → 1 ≤ k → k ≤ 25 → whole records ≡ true
    → Every (cut_rules s index k records)
cut_holds s index k records i low least most w =
    let h : both (in_range s) (both (leb index 15) (both (leb 1 k) (leb k 25))) ≡ true =
    rw (i, le-leb index 15 (omega arith), le-leb 1 k least, le-leb k 25 most) in
    rules_more h (rules_more w rules_none)

-- ---- what comes out is read

module _ (application : ℕ) where
  read-holds : (r : List ℕ) → Every (read_rules application r) → read_block application r ≡ reading_accepted (table_read r) (mended_in r)
  read-holds r every = read_as_lem application r ∙ passes reading_refused (reading_accepted (table_read r) (mended_in r)) every

  read-fails : (r : List ℕ) {q : Rule} → First q (read_rules application r) → read_block application r ≡ reading_refused q.number q.offset
  read-fails r first = read_as_lem application r ∙ refuses reading_refused (reading_accepted (table_read r) (mended_in r)) first

  -- a record, with room for the table's form where it is read as one
  record-read :
      (r : List ℕ) {old out : List ℕ} {x : Read} → Reads application r old x out
      → Each (λ c. length (form c.what) ≤ length old) (taken (read_block application r))
      → accepted x out ≡ map formed (taken (read_block application r))
  record-read r {old} {out} {x} call enough = go (decided (read_rules application r))
    where
      go :
          Every (read_rules application r) ⊎ ((q : Rule) × First q (read_rules application r))
          → accepted x out ≡ map formed (taken (read_block application r))
      go (inl every) =
          let e = read-holds r every in
          let said = reads call in
          let bytes = form (table_read r) in
          let p = lent-accepted (read_rules application r) bytes old every (each_first (rw e at enough)) in
          ap₂ accepted (said.0 ∙ ap (counted (mended_in r)) p.0) (said.1 ∙ p.1)
          ∙ ap (λ (l : List ℕ). record { what = l; mended = mended_in r } ∷ []) (take-append_seam bytes (drop (length bytes) old))
          ∙ sym (ap (λ (o : Outcome Table). map formed (taken o)) e)
      go (inr (q, first)) =
          ap (λ (y : Read). accepted y out)
          ((reads call).0
          ∙ ap (counted (mended_in r)) (refuses refused (Ok (length (form (table_read r)))) (first-append _ first)))
          ∙ sym (ap (λ (o : Outcome Table). map formed (taken o)) (read-fails r first))

  all_read :
      (most : ℕ) {bs : List Block} {forms : List (Counted (List ℕ))} → ReadOut application most bs forms
      → Each (λ c. length (form c.what) ≤ most) (tables_of application bs) → forms ≡ map formed (tables_of application bs)
  unfolding tables_of
  all_read most no_block short = refl
  all_read most (block {b = b} {bs = bs} enough call rest) short =
      let here = taken (read_block application (block_record_of b)) in
      ap₂ (λ (a l : List (Counted (List ℕ))). a ++ l)
      (record-read (block_record_of b) call (each_all (λ t h. omega arith) (each_left here (tables_of application bs) short)))
      (all_read most rest (each_right here (tables_of application bs) short))
      ∙ sym (map-append formed (taken (read_block application (block_record_of b))) (tables_of application bs))

-- what is true of each table is true of each with its count
damaged-each : (P : Table → Type 0) {ts : List Table} (xs : List Sending) → Each P ts → Each (λ c. P c.what) (damaged ts xs)
unfolding damaged
damaged-each P xs nil = nil
damaged-each P [] (and p r) = nil
damaged-each P (x ∷ xs) (and p r) = and p (damaged-each P xs r)

-- their forms, with the same counts
damaged-formed : (ts : List Table) (xs : List Sending) → map formed (damaged ts xs) ≡ damaged (map form ts) xs
unfolding damaged
damaged-formed [] xs = refl
damaged-formed (t ∷ ts) [] = refl
damaged-formed (t ∷ ts) (x ∷ xs) =
    ap (λ (l : List (Counted (List ℕ))). record { what = form t; mended = damage x } ∷ l) (damaged-formed ts xs)

-- ---- from end to end

module _ (s : Setting) (within : in_range s ≡ true) (index k : ℕ) (low : index < 16) (least : 1 ≤ k) (most : k ≤ 25)
    (ts : List Table) (fit : Each (λ t. fits t ≡ true) ts) (m : Made s index k ts) where
  pub made-records : m.records ≡ records_of s.application ts
  made-records = (tables-written s.application (range s within).application m.written fit).1

  pub made-whole : MadeWhole m
  made-whole =
      let app = s.application in
      let records = m.records in
      let holds = cut_holds s index k records within low least most (ap whole made-records ∙ all_whole app fit) in
      let said = cuts m.cuts in
      let done = its_bytes (cut_rules s index k records) (cut_bytes s index k records) m.lent said.0 said.1 holds m.enough in
      record {
        written = (tables-written app (range s within).application m.written fit).0;
        cut = done.0 ∙ ap (λ (l : List ℕ). Ok (length l)) (sym (m.whole ∙ done.1));
        packets = joined_same m.long (packets_forty s index k records) (m.whole ∙ done.1) ∙ ap (packets s index k) made-records;
      }

  -- those are the forms that were handed in, all of them and no other
  pub all-counted : (ours : List (List ℕ)) → map (λ x. x.what) (counted_forms k ts m.records ours) ≡ map form ts
  all-counted ours =
      let app = s.application in
      let made = ap block_blocks made-records ∙ blocks-written app fit in
      damaged_what (map form ts) (block_blocks m.records) (stream_in k ours)
      (length-map ts form ∙ sym (length-map ts (table_block app)) ∙ sym (ap length made))

  -- tables that come of blocks, read again
  pub read_again :
      {L : Type 0} (ours : List (List ℕ)) {bs : List Block} {forms : List (Counted (List ℕ))}
      → Came L ◌≡◌ (sent_damaged s k ts ours) (tables_of s.application bs) → ReadAgain s.application ts bs forms
      → Came L ◌≡◌ (counted_forms k ts m.records ours) forms
  read_again {L} ours {bs} {forms} came r =
      let app = s.application in
      let xs = sendings (block_blocks (records_of app ts)) (stream_in k ours) in
      let out = all_read app r.most r.read
      (came_each (λ x. length (form x.what) ≤ r.most) came (damaged-each (λ t. length (form t) ≤ r.most) xs r.short)) in
      rw made-records
      (subst₂ (λ (a b : List (Counted (List ℕ))). Came L ◌≡◌ a b) (damaged-formed ts xs) (sym out) (came_map formed came))

module _ (d : ℕ) (small : d ≤ 2) (s : Setting) (within : in_range s ≡ true) (index k : ℕ) (low : index < 16) (least : 1 ≤ k) (most : k ≤ 25)
    (ts : List Table) (fit : Each (λ t. fits t ≡ true) ts) {forms : List (Counted (List ℕ))} (c : Through (Flipped d) s index k ts forms) where
  -- the forms handed in, each with the number of bytes of its sending that arrived other than they were sent
  abbrev pub handed_in : List (Counted (List ℕ))
  handed_in = counted_forms k ts c.made.records c.ours

  pub calls-carried : Delivers (2 ≤ d) c
  calls-carried =
      let whole = made-whole s within index k low least most ts fit c.made in
      let on = as_ones s within c.fed fresh_state sound-fresh (starts c.starts) (aired_long c.made.long c.aired) in
      let aired : Aired (Flipped d) s (sent s index k ts) c.ours (packets_of on.calls) =
      subst₂ (λ (ps qs : List (List ℕ)). Aired (Flipped d) s ps c.ours qs) whole.packets (sym on.packets) c.aired in
      let came : Came (2 ≤ d) ◌≡◌ (sent_damaged s k ts c.ours) (tables_of s.application c.blocks) =
      subst (λ (bs : List Block). Came (2 ≤ d) ◌≡◌ (sent_damaged s k ts c.ours) (tables_of s.application bs)) (sym on.gives)
      (carried d small s within index k low least most ts fit on.calls c.ours aired) in
      record {
        made = whole;
        taken = on.taken;
        came = read_again s within index k low least most ts fit c.made c.ours came c.again;
      }

  -- at most one flipped bit in each byte: exactly the forms handed in, with exactly those counts
  pub calls-exactly : d ≤ 1 → forms ≡ handed_in
  calls-exactly one = came-exactly (λ a b e. e) (λ x. omega arith) calls-carried.came

  -- up to two: only forms that were handed in, in order, each at most once, and each with its own count
  pub calls-never-wrong : Among forms handed_in
  calls-never-wrong = came-among (λ a b e. e) calls-carried.came

  -- those are the forms that were handed in, all of them and no other
  pub all-handed : map (λ x. x.what) handed_in ≡ map form ts
  all-handed = all-counted s within index k low least most ts fit c.made c.ours

  pub calls-exactly-forms : d ≤ 1 → map (λ x. x.what) forms ≡ map form ts
  calls-exactly-forms one = ap (map (λ x. x.what)) (calls-exactly one) ∙ all-handed

  pub calls-never-wrong-forms : Among (map (λ x. x.what) forms) (map form ts)
  calls-never-wrong-forms = subst (Among (map (λ x. x.what) forms)) all-handed (among-map (λ x. x.what) calls-never-wrong)
