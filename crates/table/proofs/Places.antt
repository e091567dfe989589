-- Where the fields of tables 15 and 17 stand. Assumes nothing.
use mathlib.Core.Path.{◌≡◌, ◌∙◌, sym, ap, ap₂, subst}
use mathlib.Core.List.{[], ◌∷◌}
use Prim.Native.Nat.{ℕ, suc, ◌+◌, ◌*◌, ◌/◌, ◌^◌}
use native.Mathlib.Omega.{arith}
use lib.ListN.{length}
use lib.Pow.{shr-shr}
use Rattle.fields.specs.Fields.{width, field, parts}
use Rattle.fields.specs.Opening.{opening_in}
use Rattle.fields.proofs.Laid.{field_past, length-parts, width-row}
use Rattle.codecs.proofs.Lawful.{row-length}
use Rattle.kinds.specs.Kind.{Sent, content_of}
use Rattle.forms.specs.Tables.{Descriptor, Body, per, descriptor, table_sent, sent_in}
use Rattle.table.specs.Control.{descriptors_of}
use Rattle.table.specs.Internal.{opening_by}

heading_words : (words : ℕ) → 6 + (4 + words * 24) ≡ 10 + 24 * words
heading_words words = omega arith

-- one descriptor, and where the next begins
pub descriptors_on :
    (each k n : ℕ)
    → let words = each * field 6 4 n in
    descriptors_of each (suc k) n ≡ record { id = field 0 6 n; words = parts 24 words (n / 2 ^ 10) } ∷ descriptors_of each k (n / 2 ^ (10 + 24 * words))
unfolding descriptors_of width
descriptors_on each k n =
    let words = each * field 6 4 n in
    let d : Descriptor = record { id = field 0 6 n; words = parts 24 words (n / 2 ^ 10) } in
    let one : (descriptor each).read n [] ≡ d = rw (field_past 0 4 6 n, shr-shr n 6 4) in
    let wide : width ((descriptor each).fields d) ≡ 10 + 24 * words = rw (width-row, length-parts) (heading_words words) in
    ap₂ (λ (x : Descriptor) (y : ℕ). x ∷ descriptors_of each k (n / 2 ^ y)) one (ap (λ (x : Descriptor). width ((descriptor each).fields x)) one ∙ wide)

length_descriptors : (each k n : ℕ) → length (descriptors_of each k n) ≡ k
unfolding descriptors_of
length_descriptors each k n = row-length (descriptor each) k n []

-- the fields of control data, each at its place
pub read_at :
    (n : ℕ)
    → sent_in n
    ≡ (
      record {
        checksum = field 0 8 n;
        control = field 8 10 n;
        kind = field 18 6 n;
        access = field 24 2 n;
        copyright = field 26 1 n;
        reserved = field 27 1 n;
      },
      record {
        block = field 28 16 n;
        network = field 44 8 n;
        descriptors = descriptors_of (per (field 18 6 n)) (field 52 6 n) (n / 2 ^ 58);
      },
    )
unfolding descriptors_of width
read_at n = simp (shr-shr, field_past)

-- and so those that a block opens with
pub opening-at : (n : ℕ) → opening_in n ≡ opening_by (sent_in n)
opening-at n = sym (ap opening_by (read_at n) ∙ (rw length_descriptors))

-- the loops go by them
pub loops-at :
    (n : ℕ)
    → let t = table_sent (content_of (sent_in n)) in
    t.descriptors ≡ descriptors_of (per t.kind) (length t.descriptors) (n / 2 ^ 58)
loops-at n =
    let k = per (field 18 6 n) in
    let c = field 52 6 n in
    subst (λ (s : Sent Body). s.1.descriptors ≡ descriptors_of (per s.0.kind) (length s.1.descriptors) (n / 2 ^ 58)) (sym (read_at n))
    (ap (λ (x : ℕ). descriptors_of k x (n / 2 ^ 58)) (sym (length_descriptors k c (n / 2 ^ 58))))
