-- The network that stands at its place in the raw bytes is the one that reading gives. Assumes nothing.
use mathlib.Core.Path.{◌≡◌, ◌∙◌, sym, ap}
use mathlib.Core.Bool.{Bool, true, false}
use mathlib.Core.List.{List, map}
use Prim.Native.Nat.{ℕ, ◌*◌, ◌/◌, ◌^◌, ◌≤◌, ◌<◌}
use native.Mathlib.Omega.{arith}
use lib.Dec.{eqb}
use lib.ListN.{take, drop, length-take}
use Rattle.laws.specs.Pick.{pick}
use Rattle.laws.proofs.Maps.{map-take}
use Rattle.octet.specs.Decoding.{nib}
use Rattle.fields.specs.Fields.{width, field, whole}
use Rattle.fields.specs.Compound.{compound}
use Rattle.fields.specs.declared.Opening.{Opening}
use Rattle.fields.proofs.Laid.{field_lt, field_in, field_past}
use Rattle.codecs.specs.Rows.{rowed}
use Rattle.codecs.proofs.Lawful.{value_at_lem}
use Rattle.blocks.specs.Block.{nibbles_of, head_length}
use Rattle.forms.specs.Kinds.{known}
use Rattle.kinds.specs.Reading.{control_length, control_part, sent_in, content_in}
use Rattle.kinds.proofs.Places.{whole_take}
use Rattle.kinds.proofs.Exact.{control-read}
use Rattle.table.specs.Control.{table_of}
use Rattle.table.specs.Reading.{table_read}
use Rattle.table.proofs.Places.{opening-at}
use Rattle.information_forms.specs.Information.{opening_widths, this_network}
use Rattle.information_forms.specs.Kind.{information}
use Rattle.information_forms.proofs.Sending.{owed}
use Rattle.information_forms.proofs.Sizes.{control-least}
use Rattle.information.specs.Reading.{read_rules as information_rules, information_read}
use Rattle.broadcast.specs.Counting.{AI, holding, is_read, network_of}
use Rattle.broadcast.specs.Internal.{network_in}
use Rattle.broadcast.proofs.Accepting.{holding_every}

-- of a table
table-network : (r : List ℕ) → (table_read r).network ≡ field 44 8 (compound (drop head_length r))
unfolding nibbles_of table_of
table-network r = sym (ap (λ (o : Opening). o.network) (opening-at (compound (drop head_length r))))

-- of information, by the nibbles of its control data
opening-network : (ns codes : List ℕ) → this_network (sent_in information ns codes).1.0 ≡ field 144 8 (whole 4 ns)
unfolding sent_in rowed width
opening-network ns codes = value_at_lem opening_widths (whole 4 ns / 2 ^ 28) 9 (omega arith) ∙ field_past 116 8 28 (whole 4 ns)

-- bits that lie within the first bytes
field-front : (k : ℕ) (raw : List ℕ) → 38 ≤ k → field 144 8 (compound (take k raw)) ≡ field 144 8 (compound raw)
field-front k raw h =
    ap (λ (ns : List ℕ). field 144 8 (whole 4 ns)) (map-take nib k raw)
    ∙ ap (field 144 8) (whole_take 4 k (map nib raw))
    ∙ field_in 144 8 (k * 4) (compound raw) (omega arith)

-- where reading accepts it, its control bytes reach so far
information-network :
    (application : ℕ) (r : List ℕ) → holding (information_rules application r) ≡ true
    → this_network (information_read (drop head_length r)).opening ≡ field 144 8 (compound (drop head_length r))
information-network application r h =
    let raw = drop head_length r in
    let long = control-read information owed application r (holding_every (information_rules application r) h) in
    let far : 38 ≤ control_length raw = omega (arith, long, control-least (content_in information raw), length-take (control_length raw) raw) in
    opening-network (map nib (control_part true raw)) _ ∙ field-front (control_length raw) raw far

module _ (application kind : ℕ) (r : List ℕ) where
  pub network-read : is_read application kind r ≡ true → network_in kind (drop head_length r) ≡ network_of kind r
  unfolding is_read network_of
  network-read h = go (eqb kind AI) _ h
    where
      go :
          (t rest : Bool) → pick t (holding (information_rules application r)) rest ≡ true
          → pick t (field 144 8 (compound (drop head_length r))) (pick (known kind) (field 44 8 (compound (drop head_length r))) 0)
          ≡ pick t (this_network (information_read (drop head_length r)).opening) (pick (known kind) (table_read r).network 0)
      go true rest e = sym (information-network application r e)
      go false rest e = ap (λ (n : ℕ). pick (known kind) n 0) (sym (table-network r))

-- it has eight bits
pub network_lt : (kind : ℕ) (raw : List ℕ) → network_in kind raw < 256
network_lt kind raw = go (eqb kind AI) (known kind)
  where
    go : (t u : Bool) → pick t (field 144 8 (compound raw)) (pick u (field 44 8 (compound raw)) 0) < 256
    go true u = field_lt 144 8 (compound raw)
    go false true = field_lt 44 8 (compound raw)
    go false false = omega arith
