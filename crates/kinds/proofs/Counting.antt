-- How many control bytes a block has, for each way that the code goes, and what its first 24 bits hold. Assumes nothing.
use mathlib.Core.Path.{◌≡◌, ◌∙◌, refl, sym, ap}
use mathlib.Core.Bool.{Bool, true, false}
use mathlib.Core.List.{List, map}
use Prim.Native.Nat.{ℕ, ◌*◌, ◌/◌, ◌%◌, ◌^◌, ◌≤◌, ◌<◌, max, min}
use native.Mathlib.Nat.{mod-eq_of_lt}
use native.Mathlib.Omega.{arith}
use lib.ListN.{length, take, drop, length-take, drop_of_length-le}
use lib.Seq.{take_all}
use Rattle.octet.specs.Decoding.{nib}
use Rattle.fields.specs.Fields.{field, whole}
use Rattle.fields.specs.Compound.{compound}
use Rattle.fields.proofs.Laid.{field-first, field_in}
use Rattle.kinds.specs.Front.{Front}
use Rattle.kinds.specs.Reading.{front_in, control_length, control_part, string_part}
use Rattle.kinds.proofs.Fronts.{front_at}

-- ---- how many control bytes there are

pub count-silent : (spoken : Bool) (raw : List ℕ) → spoken ≡ false → length raw ≡ length (control_part spoken raw)
count-silent spoken raw e = ap (λ (t : Bool). length (control_part t raw)) (sym e)

module _ (spoken : Bool) (raw : List ℕ) (s : ℕ) (t : spoken ≡ true) (e : s ≡ field 8 10 (compound (take 8 raw))) (h : 8 ≤ length raw) where
  said : (front_in (map nib (take 8 raw))).control ≡ s
  said = ap (λ (f : Front). f.control) (front_at (map nib (take 8 raw))) ∙ sym e

  counted : (n : ℕ) → n ≡ control_length raw → n ≤ length raw → n ≡ length (control_part spoken raw)
  counted n c l =
      let m : n ≡ length (take (control_length raw) raw) = sym (length-take (control_length raw) raw ∙ (omega (arith, c))) in
      m ∙ ap (λ (b : Bool). length (control_part b raw)) (sym t)

  pub count-said : (n : ℕ) → n ≡ max 8 (min (2 * s) (length raw)) → n ≡ length (control_part spoken raw)
  count-said n c = counted n (c ∙ ap (λ (k : ℕ). max 8 (min (2 * k) (length raw))) (sym said)) (omega (arith, c))

-- a block cut where they end
ends : (raw : List ℕ) (n : ℕ) → 8 ≤ length raw → n ≡ length (take (control_length raw) raw) → n ≡ control_length raw
ends raw n h e = e ∙ length-take (control_length raw) raw ∙ (omega arith)

pub cut-control : (spoken : Bool) (raw : List ℕ) (n : ℕ) → 8 ≤ length raw → n ≡ length (control_part spoken raw) → take n raw ≡ control_part spoken raw
cut-control true raw n h e = ap (λ (k : ℕ). take k raw) (ends raw n h e)
cut-control false raw n h e = take_all n raw (omega arith)

pub cut-strings : (spoken : Bool) (raw : List ℕ) (n : ℕ) → 8 ≤ length raw → n ≡ length (control_part spoken raw) → drop n raw ≡ string_part spoken raw
cut-strings true raw n h e = ap (λ (k : ℕ). drop k raw) (ends raw n h e)
cut-strings false raw n h e = let l : length raw ≤ n = omega arith in drop_of_length-le raw l

-- ---- what the first 24 bits hold

module _ (ns : List ℕ) (w : ℕ) (e : w ≡ field 0 24 (whole 4 ns)) where
  low : w ≡ whole 4 ns % 2 ^ 24
  low = e ∙ field-first 24 (whole 4 ns)

  pub sum-held : w % 256 ≡ (front_in ns).checksum
  sum-held =
      sym (field-first 8 w) ∙ ap (field 0 8) low ∙ field_in 0 8 24 (whole 4 ns) (omega arith) ∙ sym (ap (λ (f : Front). f.checksum) (front_at ns))

  pub kind-held : w < 2 ^ 24 → w / 262144 ≡ (front_in ns).kind
  kind-held h =
      let small : w / 262144 < 2 ^ 6 = omega arith in
      let one : w / 262144 % 2 ^ 6 ≡ field 18 6 w = unfold field in refl in
      sym (mod-eq_of_lt small) ∙ one ∙ ap (field 18 6) low ∙ field_in 18 6 24 (whole 4 ns) (omega arith)
      ∙ sym (ap (λ (f : Front). f.kind) (front_at ns))
