-- Tables come through noise: a table's block is all images, so with noise it is read as the same table, or, where two flips are
-- allowed, not at all. Assumes nothing.
use mathlib.Core.Path.{◌≡◌, ◌∙◌, refl, sym, ap, ap₂, subst}
use mathlib.Core.Bool.{true}
use mathlib.Core.Logic.{◌⊎◌, inl, inr}
use mathlib.Core.List.{List, [], ◌∷◌, ◌++◌, map}
use Prim.Native.Nat.{ℕ, zero, suc, ◌+◌, ◌/◌, ◌%◌, ◌≤◌, ◌<◌}
use native.Mathlib.Omega.{arith}
use lib.ListN.{length, length-map, get_or, drop, take}
use borrow.Author.Tests.{le-leb}
use Rattle.laws.specs.Each.{Each, nil, and}
use Rattle.laws.proofs.Eaches.{each_all, each_map}
use Rattle.laws.proofs.Tests.{both-holds}
use Rattle.octet.specs.Image.{image}
use Rattle.octet.specs.Decoding.{nib, undecodable}
use Rattle.octet.specs.Hearing.{harms}
use Rattle.octet.proofs.Hearing.{harm-sent}
use Rattle.symbols.specs.Stream.{symbols}
use Rattle.blocks.specs.Block.{Block, blocks, record_of as block_record_of, records_of as block_records_of, nibbles_of}
use Rattle.blocks.specs.Sizes.{Sized}
use Rattle.blocks.proofs.Round.{blocks_records}
use Rattle.fields.specs.Fields.{parts}
use Rattle.fields.proofs.Laid.{length-parts}
use Rattle.kinds.specs.Block.{block_with as kind_block_with}
use Rattle.kinds.proofs.Laying.{nibbles-again}
use Rattle.forms.specs.Tables.{Table, tables, content, fits, size}
use Rattle.blocks.specs.Parts.{part_most, mended_in}
use Rattle.forms.specs.Block.{nibbles, checksum_of, block_with, record_of}
use Rattle.table.specs.Reading.{Outcome, accepted, refused, read_block}
use Rattle.forms.proofs.Sendable.{sendable}
use Rattle.forms.proofs.Blocks.{head-any, nibbles-any, raw-any}
use Rattle.blocks.proofs.Framed.{header-lt, header-size}
use Rattle.table.proofs.Back.{writes-back}
use Rattle.table.proofs.Noise.{reads-alike, broken-refused}
use Rattle.claims.specs.Noise.{Hears, Near, none, more, Came, over, kept, lost, Fits}
use Rattle.claims.specs.Damage.{unlike, Placed, Sending, sending_of, sendings, damage, lead_damage, landed, Counted, damaged}
use Rattle.claims.specs.Tables.{records_of, taken, tables_of}
use Rattle.claims.proofs.Telling.{eqb_turned}
use Rattle.claims.proofs.Landing.{Heard, lead-five, second-one, raw_near, damage-parts}

-- the nibbles of a table's block as it is written
abbrev nibbles_for : ℕ → Table → List ℕ
nibbles_for application t = nibbles (checksum_of application 0 0 t) 0 0 t

-- the block of a table
abbrev pub table_block : ℕ → Table → Block
table_block application t = block_with application 0 0 t

-- ---- it is a block, and its record is the one written

nibbles-length : (application : ℕ) (t : Table) → length (nibbles_for application t) ≡ size t
nibbles-length application t = ap length (nibbles-any 0 t (checksum_of application 0 0 t) 0) ∙ length-parts 4 (size t) _

pub table_fits : (application : ℕ) (t : Table) → fits t ≡ true → Fits (table_block application t)
unfolding kind_block_with
table_fits application t f =
    let c = (sendable t f).control_fits in
    record {
      head = header-lt application _;
      size =
          ap length (raw-any 0 t application 0)
          ∙ length-map (nibbles_for application t) image
          ∙ nibbles-length application t
          ∙ sym (ap (λ (h : ℕ). h / 32) (head-any 0 t application) ∙ header-size application (size t) (omega arith));
    }

pub all_fit : (application : ℕ) {ts : List Table} → Each (λ t. fits t ≡ true) ts → Each Fits (map (table_block application) ts)
all_fit application e = each_map (table_block application) (table_fits application) e

pub all-sized : {bs : List Block} → Each Fits bs → Each Sized bs
all-sized e = each_all (λ b f. sym f.size) e

pub records_same : (application : ℕ) (ts : List Table) → records_of application ts ≡ block_records_of (map (table_block application) ts)
unfolding records_of block_records_of
records_same application [] = refl
records_same application (t ∷ ts) = ap (λ (l : List ℕ). record_of application t ++ l) (records_same application ts)

-- the blocks of the records that are written
pub blocks-written :
    (application : ℕ) {ts : List Table} → Each (λ t. fits t ≡ true) ts
    → blocks (records_of application ts) ≡ map (table_block application) ts
blocks-written application {ts} f = ap blocks (records_same application ts) ∙ blocks_records (all-sized (all_fit application f))

-- ---- with noise

-- the nibbles of what arrives are those that were sent, or one of them can't be had
data Nibbles (L : Type 0) (ns cs : List ℕ) : Type 0 where
  right : map nib cs ≡ ns → Nibbles L ns cs
  broken : L → (j : ℕ) → j < length (map nib cs) → 16 ≤ get_or (map nib cs) j 0 → Nibbles L ns cs

module _ (R : ℕ → ℕ → Type 0) (L : Type 0) (hears : Hears R L) where
  parts-heard : (k n : ℕ) {cs : List ℕ} → Near R (map image (parts 4 k n)) cs → Nibbles L (parts 4 k n) cs
  unfolding parts
  parts-heard zero n none = right refl
  parts-heard (suc k) n (more {b = c} {m = cs} f r) = go (hears (n % 16) c (omega arith) f) (parts-heard k (n / 16) r)
    where
      go :
          (nib c ≡ n % 16) ⊎ ((nib c ≡ undecodable) × L) → Nibbles L (parts 4 k (n / 16)) cs
          → Nibbles L (n % 16 ∷ parts 4 k (n / 16)) (c ∷ cs)
      go (inr w) r = broken w.1 0 (omega arith) (rw w.0 (omega arith))
      go (inl e) (right q) = right (ap₂ (λ (x : ℕ) (l : List ℕ). x ∷ l) e q)
      go (inl e) (broken x j h b) = broken x (suc j) (omega arith) b

  -- what is read of a table's block that landed
  data Read (application : ℕ) (t : Table) (x : Sending) : Type 0 where
    itself : read_block application (block_record_of (landed x)) ≡ accepted t (damage x) → Read application t x
    refuses : L → ((u : Table) (c : ℕ) → read_block application (block_record_of (landed x)) ≡ accepted u c → ⊥) → Read application t x

  -- where each byte decodes to what was sent, those that are mended are those that were damaged
  mended-damaged : (ns cs : List ℕ) → map nib cs ≡ ns → harms cs ≡ unlike (map image ns) cs
  unfolding harms unlike
  mended-damaged [] [] e = refl
  mended-damaged [] (c ∷ cs) e = let z : ◌≡◌ {A = ℕ} 0 1 = cc in absurd (omega arith)
  mended-damaged (n ∷ ns) [] e = let z : ◌≡◌ {A = ℕ} 0 1 = cc in absurd (omega arith)
  mended-damaged (n ∷ ns) (c ∷ cs) e =
      let first : nib c ≡ n = ap (λ (l : List ℕ). get_or l 0 0) e in
      let rest : map nib cs ≡ ns = ap (drop 1) e in
      ap₂ (λ (a b : ℕ). a + b) (harm-sent n c first ∙ rw (eqb_turned (image n) c)) (mended-damaged ns cs rest)

  -- of a table's block with these bytes
  module _ (application : ℕ) (t : Table) (cs : List Placed) (n : Heard R (sending_of (table_block application t) cs)) where
    abbrev x : Sending
    x = sending_of (table_block application t) cs

    blocked : Near R (table_block application t).raw (landed x).raw → Nibbles L (nibbles_for application t) (landed x).raw
    blocked r =
        let e = nibbles-any 0 t (checksum_of application 0 0 t) 0 in
        subst (λ (ns : List ℕ). Nibbles L ns (landed x).raw) (sym e)
        (parts-heard (size t) _ (subst (λ (l : List ℕ). Near R l (landed x).raw) (raw-any 0 t application 0 ∙ ap (map image) e) r))

    counts : map nib (landed x).raw ≡ nibbles_for application t → mended_in (block_record_of (landed x)) ≡ damage x
    unfolding mended_in
    counts e =
        ap (λ (k : ℕ). lead_damage x + k) (mended-damaged (nibbles_for application t) (landed x).raw e)
        ∙ ap (λ (l : List ℕ). lead_damage x + unlike l (landed x).raw) (sym (raw-any 0 t application 0))
        ∙ sym (damage-parts x n)

    again : map nib (landed x).raw ≡ nibbles_for application t → nibbles_of (block_record_of (landed x)) ≡ nibbles_of (record_of application t)
    unfolding nibbles_of
    again e = e ∙ sym (ap (map nib) (raw-any 0 t application 0) ∙ nibbles-again tables (checksum_of application 0 0 t) 0 (content 0 t))

    breaks :
        (j : ℕ) → j < length (map nib (landed x).raw) → 16 ≤ get_or (map nib (landed x).raw) j 0 → (u : Table) (c : ℕ)
        → read_block application (block_record_of (landed x)) ≡ accepted u c → ⊥
    unfolding nibbles_of
    breaks j h b u c e = broken-refused application j (block_record_of (landed x)) u c h b e

    read-heard : application < 32 → fits t ≡ true → Read application t x
    read-heard a f = go (blocked (raw_near x n))
      where
        go : Nibbles L (nibbles_for application t) (landed x).raw → Read application t x
        go (broken y j h b) = refuses y (breaks j h b)
        go (right e) =
            itself
            (reads-alike application (block_record_of (landed x)) (record_of application t) t 0
            (both-holds _ _ (le-leb _ part_most (lead-five x)) (le-leb _ 1 (second-one x))) refl (again e) (writes-back application t a f)
            ∙ ap (accepted t) (counts e))

  not_taken : (o : Outcome Table) → ((u : Table) (c : ℕ) → o ≡ accepted u c → ⊥) → taken o ≡ []
  not_taken (accepted u c) z = absurd (z u c refl)
  not_taken (refused number offset) z = refl

  -- one more table
  table-came :
      (application : ℕ) (t : Table) (x : Sending) {b : Block} → landed x ≡ b → {l us : List (Counted Table)} → Read application t x
      → Came L ◌≡◌ l us
      → Came L ◌≡◌ (record { what = t; mended = damage x } ∷ l) (taken (read_block application (block_record_of b)) ++ us)
  table-came application t x e (itself q) c = rw (← e, q) (kept refl c)
  table-came application t x e (refuses y z) c = rw (← e, not_taken (read_block application (block_record_of (landed x))) z) (lost y c)

  -- blocks that land are read as the tables that were sent, each with its damage, or, where two flips are allowed, are lost
  pub tables-came :
      (application : ℕ) → application < 32 → (ts : List Table) (cs : List Placed) {bs : List Block} → Each (λ t. fits t ≡ true) ts
      → Each (Heard R) (sendings (map (table_block application) ts) cs)
      → Came L ◌≡◌ (map landed (sendings (map (table_block application) ts) cs)) bs
      → Came L ◌≡◌ (damaged ts (sendings (map (table_block application) ts) cs)) (tables_of application bs)
  unfolding tables_of sendings damaged
  tables-came application a [] cs nil nil over = over
  tables-came application a (t ∷ ts) cs (and f r) (and n m) (kept {b = b} e c) =
      table-came application t _ e (read-heard application t (take (length (symbols (table_block application t))) cs) n a f)
      (tables-came application a ts _ r m c)
  tables-came application a (t ∷ ts) cs (and f r) (and n m) (lost y c) = lost y (tables-came application a ts _ r m c)
