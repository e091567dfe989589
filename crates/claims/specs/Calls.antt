-- The loader's calls one after the other, from tables to packets and back to tables. Each stands here as its contract has it: called with
-- these arguments, it may answer, hand back and leave this. `Post` is a contract as the checker reads it, of the arguments (a), the result
-- (x) and the parameters at exit (t); `now` is what a lent slice holds.
use Rattle.std.specs.declared.result.Result.TheVariants.{Ok, Err}
use Rattle.std.specs.Prelude.{◌≡◌, List, [], ◌∷◌, ◌++◌, map, ℕ, ◌≤◌, length, take}
use Rattle.laws.specs.Each.{Each}
use Rattle.answer.specs.Answer.{Answer}
use Rattle.blocks.specs.Block.{Block, blocks as block_blocks, record_of as block_record_of}
use Rattle.packet.specs.declared.Setting.{Setting}
use Rattle.writer.specs.Cutting.{joined, cut_bytes, usual_page, FortyTwo}
use Rattle.walk.specs.Reading.{room}
use Rattle.state.specs.declared.Reader.{Reader}
use Rattle.reader.specs.Taking.{Heard, HeardAll}
use Rattle.forms.specs.Tables.{Table}
use Rattle.forms.specs.Form.{form}
use Rattle.forms.specs.Block.{record_of}
use Rattle.table_writer.proofs.write_block.Reads as table_writer-write_block
use Rattle.writer.proofs.cut.Reads as writer-cut
use Rattle.writer.proofs.cut_pages.Reads as writer-cut_pages
use Rattle.state.proofs.fresh.Reads as reader-fresh
use Rattle.reader.proofs.feed.Reads as reader-feed
use Rattle.reader.proofs.many.feed_all.Reads as reader-feed_all
use Rattle.blocks.specs.Taking.{Read}
use Rattle.blocks.specs.Taking.{taken}
use Rattle.table.proofs.read_block.Reads as table-read_block
use Rattle.menu_reader.proofs.read_menu.Reads as menu_reader-read_menu
use Rattle.menu_writer.proofs.write_menu.Reads as menu_writer-write_menu
use Rattle.information.proofs.read_information.Reads as information-read_information
use Rattle.information_writer.proofs.write_information.Reads as information_writer-write_information
use Rattle.claims.specs.Noise.{Aired, Came}
use Rattle.claims.specs.Damage.{stream_in, sendings, Counted, damaged}
use Rattle.claims.specs.Rows.{Fed as Rows-as-Fed}
use Rattle.claims.specs.Tables.{sent as tables_sent}

-- ---- each call

-- application, form and lent output; the answer, and the output afterwards
pub data Writes : ℕ → List ℕ → List ℕ → Answer → List ℕ → Type 0 where
  write-block :
      (κs : _) (a : _) (x : _) (t : _) → table_writer-write_block.Post κs a x t
      → Writes a.0 a.1.0.now a.1.1.0.now x t.1.1.0.now

-- setting, index, packets of a page, records and lent output; the answer, and the output afterwards
pub data Cuts : Setting → ℕ → ℕ → List ℕ → List ℕ → Answer → List ℕ → Type 0 where
  cut-pages :
      (κs : _) (a : _) (x : _) (t : _) → writer-cut_pages.Post κs a x t
      → Cuts a.0 a.1.0 a.1.1.0 a.1.1.1.0.now a.1.1.1.1.0.now x t.1.1.1.1.0.now
  cut :
      (κs : _) (a : _) (x : _) (t : _) → writer-cut.Post κs a x t
      → Cuts a.0 a.1.0 usual_page a.1.1.0.now a.1.1.1.0.now x t.1.1.1.0.now

-- the reader that comes back
pub data Starts : Reader → Type 0 where
  fresh : (κs : _) (a : _) (x : _) (t : _) → reader-fresh.Post κs a x t → Starts x

-- setting, reader, packet and lent output; the answer, the reader that comes back, and the output afterwards
pub data Feeds : Setting → Reader → List ℕ → List ℕ → Heard → Reader → List ℕ → Type 0 where
  feed :
      (κs : _) (a : _) (x : _) (t : _) → reader-feed.Post κs a x t
      → Feeds a.0 a.1.0 a.1.1.0.now a.1.1.1.0.now x.heard x.reader t.1.1.1.0.now

-- the same for a list of packets
pub data FeedsAll : Setting → Reader → List ℕ → List ℕ → HeardAll → Reader → List ℕ → Type 0 where
  feed-all :
      (κs : _) (a : _) (x : _) (t : _) → reader-feed_all.Post κs a x t
      → FeedsAll a.0 a.1.0 a.1.1.0.now a.1.1.1.0.now x.heard x.reader t.1.1.1.0.now

-- application, record and lent output; the answer, and the output afterwards
pub data Reads : ℕ → List ℕ → List ℕ → Read → List ℕ → Type 0 where
  read-block :
      (κs : _) (a : _) (x : _) (t : _) → table-read_block.Post κs a x t
      → Reads a.0 a.1.0.now a.1.1.0.now x t.1.1.0.now

-- the same of menu writing and of menu reading
pub data WritesMenu : ℕ → List ℕ → List ℕ → Answer → List ℕ → Type 0 where
  write-menu :
      (κs : _) (a : _) (x : _) (t : _) → menu_writer-write_menu.Post κs a x t
      → WritesMenu a.0 a.1.0.now a.1.1.0.now x t.1.1.0.now

pub data ReadsMenu : ℕ → List ℕ → List ℕ → Read → List ℕ → Type 0 where
  read-menu :
      (κs : _) (a : _) (x : _) (t : _) → menu_reader-read_menu.Post κs a x t
      → ReadsMenu a.0 a.1.0.now a.1.1.0.now x t.1.1.0.now

-- and of Application Information
pub data WritesInformation : ℕ → List ℕ → List ℕ → Answer → List ℕ → Type 0 where
  write-information :
      (κs : _) (a : _) (x : _) (t : _) → information_writer-write_information.Post κs a x t
      → WritesInformation a.0 a.1.0.now a.1.1.0.now x t.1.1.0.now

pub data ReadsInformation : ℕ → List ℕ → List ℕ → Read → List ℕ → Type 0 where
  read-information :
      (κs : _) (a : _) (x : _) (t : _) → information-read_information.Post κs a x t
      → ReadsInformation a.0 a.1.0.now a.1.1.0.now x t.1.1.0.now

-- ---- what their answers say

-- the bytes that an answer reports as written, of the output afterwards
abbrev pub reported : Answer → List ℕ → List ℕ
reported (Ok n) out = take n out
reported (Err r) out = []

-- the same of block reading, with its count: nothing is reported by a refusal
abbrev pub accepted : Read → List ℕ → List (Counted (List ℕ))
accepted (Ok t) out = record { what = take t.written out; mended = t.mended } ∷ []
accepted (Err r) out = []

-- ---- calls in a row

-- each table's form is handed to `write_block`, with room for its record: the answers, and the records one after the other
pub data Written (application : ℕ) : List Table → List Answer → List ℕ → Type 0 where
  no_table : Written application [] [] []
  table :
      {t : Table} {ts : List Table} {old out records : List ℕ} {x : Answer} {xs : List Answer}
      → length (record_of application t) ≤ length old → Writes application (form t) old x out → Written application ts xs records
      → Written application (t ∷ ts) (x ∷ xs) (reported x out ++ records)

-- packets are fed in order, the reader handed on from call to call, each call with room: the answers' numbers, and the blocks whose
-- records the calls write
abbrev pub Fed : Setting → Reader → List (List ℕ) → List ℕ → List Block → Type 0
Fed s = Rows-as-Fed room block_blocks (Feeds s) (FeedsAll s)

-- each block's record is handed to `read_block`, with an output of at least so many bytes: the forms that it writes, with their counts
pub data ReadOut (application most : ℕ) : List Block → List (Counted (List ℕ)) → Type 0 where
  no_block : ReadOut application most [] []
  block :
      {b : Block} {bs : List Block} {old out : List ℕ} {x : Read} {forms : List (Counted (List ℕ))}
      → most ≤ length old → Reads application (block_record_of b) old x out → ReadOut application most bs forms
      → ReadOut application most (b ∷ bs) (accepted x out ++ forms)

-- ---- from end to end

-- tables become packets by our calls
pub record Made (s : Setting) (index k : ℕ) (ts : List Table) : Type 0 where
  -- their forms are written as records
  pub answers : List Answer
  pub records : List ℕ
  pub written : Written s.application ts answers records
  -- the records are cut, with room for their packets
  pub lent : List ℕ
  pub left : List ℕ
  pub answer : Answer
  pub enough : length (cut_bytes s index k records) ≤ length lent
  pub cuts : Cuts s index k records lent answer left
  -- what the writer reports as written is packets of 42 bytes, one after the other
  pub sent : List (List ℕ)
  pub long : FortyTwo sent
  pub whole : joined sent ≡ reported answer left

-- what is owed of that
pub record MadeWhole {s : Setting} {index k : ℕ} {ts : List Table} (m : Made s index k ts) : Type 0 where
  -- every table is accepted, as its record
  pub written : m.answers ≡ map (λ t. Ok (length (record_of s.application t))) ts
  -- the records are accepted, and their packets are written, all of them and nothing else
  pub cut : m.answer ≡ Ok (length (joined m.sent))
  pub packets : m.sent ≡ tables_sent s index k ts

-- each record that comes out is read, with room for the longest of the tables' forms, and these forms come of it with their counts
pub record ReadAgain (application : ℕ) (ts : List Table) (bs : List Block) (forms : List (Counted (List ℕ))) : Type 0 where
  pub most : ℕ
  pub short : Each (λ t. length (form t) ≤ most) ts
  pub read : ReadOut application most bs forms

-- the tables' forms, each with the number of bytes of its sending that arrived other than they were sent: of the records as they were written and
-- of our packets as they arrived, in pages of k packets
abbrev pub counted_forms : ℕ → List Table → List ℕ → List (List ℕ) → List (Counted (List ℕ))
counted_forms k ts records ours = damaged (map form ts) (sendings (block_blocks records) (stream_in k ours))

-- tables go through our calls, and these forms come out of them with their counts; noise does to each byte what R says
pub record Through (R : ℕ → ℕ → Type 0) (s : Setting) (index k : ℕ) (ts : List Table) (forms : List (Counted (List ℕ))) : Type 0 where
  pub made : Made s index k ts
  -- the packets arrive, with noise and with packets of other magazines between, and are fed to a fresh reader
  pub ours : List (List ℕ)
  pub arrived : List (List ℕ)
  pub aired : Aired R s made.sent ours arrived
  pub reader : Reader
  pub starts : Starts reader
  pub numbers : List ℕ
  pub blocks : List Block
  pub fed : Fed s reader arrived numbers blocks
  pub again : ReadAgain s.application ts blocks forms

-- what is owed of them
pub record Delivers {R : ℕ → ℕ → Type 0} {s : Setting} {index k : ℕ} {ts : List Table} {forms : List (Counted (List ℕ))} (L : Type 0)
    (c : Through R s index k ts forms) : Type 0 where
  pub made : MadeWhole c.made
  -- every packet that arrives is accepted
  pub taken : Each (λ number. number ≡ 0) c.numbers
  -- each form comes out once and in order, or is lost where L allows it, with its count
  pub came : Came L ◌≡◌ (counted_forms k ts c.made.records c.ours) forms
