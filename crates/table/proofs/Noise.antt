-- What damage to a record's bytes can do: the table goes by the 16 bits and by what the bytes behind the head decode to, and a byte that
-- can't be decoded is never passed over. Assumes nothing.
use mathlib.Core.Path.{◌≡◌, ◌∙◌, sym, ap}
use mathlib.Core.List.{List, [], map}
use Prim.Native.Nat.{ℕ, ◌*◌, ◌≤◌, ◌<◌}
use native.Mathlib.Omega.{arith}
use lib.ListN.{length, get_or, take, drop, length-map, length-drop, drop_of_length-le}
use Rattle.laws.proofs.Maps.{map-take}
use Rattle.octet.specs.Decoding.{nib}
use Rattle.parity.specs.Parity.{letter}
use Rattle.blocks.specs.Block.{head_of, nibbles_of}
use Rattle.blocks.specs.Parts.{mended_in, InRange}
use Rattle.kinds.specs.Kind.{control}
use Rattle.kinds.proofs.Noise as Kinds
use Rattle.forms.specs.Tables.{Table, tables, table_sent}
use Rattle.forms.proofs.Formats.{owed, no_strings}
use Rattle.table.specs.Reading.{accepted, read_block}
use Rattle.table.proofs.Exact.{accepted-says, says-accepted}

-- a record with the same 16 bits as one that is accepted, each byte behind its head decoding alike: the same table, with its own count
pub reads-alike :
    (application : ℕ) (r r' : List ℕ) (t : Table) (c : ℕ) → InRange r → head_of r ≡ head_of r' → nibbles_of r ≡ nibbles_of r'
    → read_block application r' ≡ accepted t c
    → read_block application r ≡ accepted t (mended_in r)
unfolding nibbles_of
reads-alike application r r' t c i h n e =
    let s = (accepted-says application r' t c e).0 in
    let k = 2 * control tables s.content in
    let none : drop k (drop 4 r') ≡ [] = s.says.codes ∙ ap (map letter) (no_strings s.content) in
    let long : length (drop 4 r) ≡ length (drop 4 r') = sym (length-map (drop 4 r) nib) ∙ ap length n ∙ length-map (drop 4 r') nib in
    let past : drop k (drop 4 r) ≡ [] = drop_of_length-le (drop 4 r) {i = k} (omega (arith, long, length-drop k (drop 4 r'), ap length none)) in
    says-accepted application r t
    (record {
      content = s.content;
      filling = s.filling;
      says =
          Kinds.says-alike tables application r r' s.content s.filling i h
          (map-take nib k (drop 4 r) ∙ ap (take k) n ∙ sym (map-take nib k (drop 4 r'))) (past ∙ sym none) s.says;
      meant = s.meant;
    })

-- a record with a byte behind its head that can't be decoded is never accepted
pub broken-refused :
    (application k : ℕ) (r : List ℕ) (t : Table) (c : ℕ) → k < length (nibbles_of r) → 16 ≤ get_or (nibbles_of r) k 0
    → read_block application r ≡ accepted t c
    → ⊥
unfolding nibbles_of
broken-refused application k r t c h b e = Kinds.broken-refused tables owed table_sent application k r t c e h b
