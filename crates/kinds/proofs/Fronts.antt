-- The format of a kind is lawful where what stands behind its opening fields is, and what these fields take. Assumes nothing.
use mathlib.Core.Path.{◌≡◌, ◌∙◌, refl, sym, ap}
use mathlib.Core.Bool.{false}
use mathlib.Core.List.{List, []}
use Prim.Native.Nat.{ℕ, ◌+◌, ◌*◌, ◌≤◌, ◌<◌}
use native.Mathlib.Omega.{arith}
use lib.ListN.{take}
use lib.Pow.{shr-shr}
use Rattle.fields.specs.Fields.{width, field, whole}
use Rattle.fields.proofs.Laid.{field_lt, field_past, field_in}
use Rattle.codecs.proofs.Lawful.{Lawful, number-lawful, then-lawful, seen-lawful}
use Rattle.kinds.specs.Front.{Front, opened, named, front}
use Rattle.kinds.specs.Kind.{Kind, Content, Sent, content_of, format, bits, control, strings}
use Rattle.kinds.specs.Reading.{front_in}
use Rattle.kinds.proofs.Places.{whole_take}

pub front-lawful : Lawful front
front-lawful =
    seen-lawful opened named
    (then-lawful (number-lawful _) (λ checksum. then-lawful (number-lawful _) (λ control. then-lawful (number-lawful _) (λ kind.
    then-lawful (number-lawful _) (λ access. then-lawful (number-lawful _) (λ copyright. number-lawful _))))))
    (λ f. refl) (λ r e. refl)

-- what a kind owes: its format's law, and no strings where none follow
pub record Owed {B : Type 0} (k : Kind B) : Type 0 where
  pub lawful : (kind : ℕ) → Lawful (k.behind kind)
  pub silent : k.spoken ≡ false → (c : Content B) → strings k c ≡ []

module _ {B : Type 0} (k : Kind B) where
  pub format-lawful : Owed k → Lawful (format k)
  format-lawful o = then-lawful front-lawful (λ f. o.lawful f.kind)

  -- the width goes by the content alone
  pub bits-any : (s : Sent B) → width ((format k).fields s) ≡ bits k (content_of s)
  unfolding width
  bits-any s = refl

  -- the opening fields take 28 bits, so control data has four bytes at least
  pub bits_of : (c : Content B) → bits k c ≡ 28 + width ((k.behind c.kind).fields c.body)
  unfolding width
  bits_of c = omega arith

  pub four : (c : Content B) → 4 ≤ control k c
  four c = omega (arith, bits_of c)

-- ---- the fields at their places

pub front_at :
    (ns : List ℕ)
    → front_in ns
    ≡ record {
      checksum = field 0 8 (whole 4 ns);
      control = field 8 10 (whole 4 ns);
      kind = field 18 6 (whole 4 ns);
      access = field 24 2 (whole 4 ns);
      copyright = field 26 1 (whole 4 ns);
      reserved = field 27 1 (whole 4 ns);
    }
unfolding front_in width
front_at ns = simp (shr-shr, field_past)

-- the control size that the first eight nibbles say is that of all
pub control-front : (ns : List ℕ) (n : ℕ) → 8 ≤ n → (front_in (take 8 ns)).control ≡ (front_in (take n ns)).control
control-front ns n h =
    ap (λ (f : Front). f.control) (front_at (take 8 ns))
    ∙ ap (field 8 10) (whole_take 4 8 ns)
    ∙ field_in 8 10 32 (whole 4 ns) (omega arith)
    ∙ sym (field_in 8 10 (n * 4) (whole 4 ns) (omega arith))
    ∙ ap (field 8 10) (sym (whole_take 4 n ns))
    ∙ sym (ap (λ (f : Front). f.control) (front_at (take n ns)))

pub control_lt : (ns : List ℕ) → (front_in ns).control < 1024
unfolding front_in
control_lt ns = field_lt 0 10 _
