-- What a table that can be sent has, each value by itself. Assumes nothing.
use mathlib.Core.Path.{◌≡◌, ◌∙◌, refl, sym, ap}
use mathlib.Core.Bool.{true}
use mathlib.Core.List.{List, ◌∷◌}
use Prim.Native.Nat.{ℕ, ◌*◌, ◌^◌, ◌≤◌, ◌<◌}
use native.Mathlib.Omega.{arith}
use borrow.Author.Tests.{ltb-true, lt-ltb, le-ltb, eqb-true, eq-eqb}
use lib.Dec.{ltb, eqb}
use lib.ListN.{length}
use Rattle.laws.proofs.Tests.{both_true, either_true}
use Rattle.fields.specs.Fields.{alike, width, fitting}
use Rattle.fields.proofs.Laid.{fitting-append}
use Rattle.kinds.specs.Kind.{Content, sevens, size as kind_size, fits as kind_fits}
use Rattle.kinds.proofs.Sendable.{Sendable as Kind-as-Sendable, sendable as kind_sendable, sends as kind_sends}
use Rattle.forms.specs.Tables.{Descriptor, Table, Body, known, numbered, block_numbered, per, entries, tables, content, table_sent, fields, loops, control, entire, fits}
use Rattle.forms.proofs.Measures.{bits_of}
use Rattle.forms.proofs.Formats.{no_strings}

-- what a table that can be sent has
pub record Sendable (t : Table) : Type 0 where
  pub kind_known : known t.kind ≡ true
  pub edition : numbered t.block ≡ true
  pub entire_all : entire t.kind t.descriptors ≡ true
  pub control_fits : control t < 1024
  pub kind_fits : t.kind < 64
  pub copyright_fits : t.copyright < 2
  pub block_fits : t.block < 65536
  pub network_fits : t.network < 256
  pub count_fits : length t.descriptors < 64
  pub loops_fit : fitting (loops t.kind t.descriptors) ≡ true

-- control data has seven bytes at least, and no strings follow it
held : (t : Table) → 12 ≤ kind_size tables (content 0 t)
unfolding fields
held t = omega (arith, bits_of t)

-- a block that holds its number
held_number : (block_size block : ℕ) → 12 ≤ block_size → block_numbered block_size block ≡ true → numbered block ≡ true
held_number block_size block h e = rw (le-ltb block_size 12 h) at e

-- the values of a content that fit
pub fitted_parts :
    (c : Content Body) → Kind-as-Sendable tables c → Sendable (table_sent c)
unfolding fitting entire loops fields width
fitted_parts x k =
    let t = table_sent x in
    let c = control t in
    let w = both_true (eqb (length t.descriptors) (length t.descriptors)) (entire t.kind t.descriptors) k.entire in
    let u = both_true (ltb c (2 ^ 10)) _ k.fitted in
    let d = both_true (ltb t.kind (2 ^ 6)) _ u.1 in
    let y = both_true (ltb t.copyright (2 ^ 1)) _ d.1 in
    let r = both_true (ltb x.reserved (2 ^ 1)) _ y.1 in
    let f = both_true (ltb t.block (2 ^ 16)) _ r.1 in
    let g = both_true (ltb t.network (2 ^ 8)) _ f.1 in
    let i = both_true (ltb (length t.descriptors) (2 ^ 6)) _ g.1 in
    record {
      kind_known = k.asked;
      edition = held_number (kind_size tables x) t.block (held t) k.fine;
      entire_all = w.1;
      control_fits = ltb-true c 1024 u.0;
      kind_fits = ltb-true t.kind 64 d.0;
      copyright_fits = ltb-true t.copyright 2 y.0;
      block_fits = ltb-true t.block 65536 f.0;
      network_fits = ltb-true t.network 256 g.0;
      count_fits = ltb-true (length t.descriptors) 64 i.0;
      loops_fit = i.1;
    }

pub sendable : (t : Table) → fits t ≡ true → Sendable t
unfolding fits
sendable t h = fitted_parts (content 0 t) (kind_sendable tables (content 0 t) h)

-- such a table can be sent with any reserved bit
pub content-sends : (reserved : ℕ) (t : Table) → Sendable t → reserved < 2 → kind_fits tables (content reserved t) ≡ true
unfolding fitting entire loops fields width sevens
content-sends reserved t s hr =
    let c = content reserved t in
    let none = ap length (no_strings c) in
    kind_sends tables c
    (record {
      asked = s.kind_known;
      fine = rw s.edition (either_true (ltb (kind_size tables c) 12));
      entire = rw (eq-eqb (length t.descriptors) (length t.descriptors) refl) s.entire_all;
      fitted =
          rw (
            lt-ltb (control t) 1024 s.control_fits,
            lt-ltb t.kind 64 s.kind_fits,
            lt-ltb t.copyright 2 s.copyright_fits,
            lt-ltb reserved 2 hr,
            lt-ltb t.block 65536 s.block_fits,
            lt-ltb t.network 256 s.network_fits,
            lt-ltb (length t.descriptors) 64 s.count_fits,
          )
          s.loops_fit;
      seven = ap sevens (no_strings c);
      small = omega (arith, s.control_fits, none);
    })

pub sends : (t : Table) → Sendable t → fits t ≡ true
unfolding fits
sends t s = content-sends 0 t s (omega arith)

-- ---- descriptors

-- what a descriptor of such a table has
pub record Sound (kind : ℕ) (d : Descriptor) : Type 0 where
  pub whole_entries : per kind * entries kind d.words ≡ length d.words
  pub id_fits : d.id < 64
  pub entries_fit : entries kind d.words < 16
  pub words_fit : fitting (alike 24 d.words) ≡ true

-- the first one, and the others
pub parted :
    (kind : ℕ) (d : Descriptor) (ds : List Descriptor) → entire kind (d ∷ ds) ≡ true → fitting (loops kind (d ∷ ds)) ≡ true
    → Sound kind d × (entire kind ds ≡ true) × (fitting (loops kind ds) ≡ true)
unfolding entire loops fitting
parted kind d ds h k =
    let c = entries kind d.words in
    let e = both_true (eqb (length d.words) (per kind * c)) (entire kind ds) h in
    let i = both_true (ltb d.id (2 ^ 6)) _ k in
    let n = both_true (ltb c (2 ^ 4)) _ i.1 in
    let w =
    both_true (fitting (alike 24 d.words)) (fitting (loops kind ds))
    (sym (fitting-append (alike 24 d.words) (loops kind ds)) ∙ n.1) in
    let sound : Sound kind d =
    record {
      whole_entries = sym (eqb-true (length d.words) (per kind * c) e.0);
      id_fits = ltb-true d.id 64 i.0;
      entries_fit = ltb-true c 16 n.0;
      words_fit = w.0;
    } in
    (sound, e.1, w.1)
