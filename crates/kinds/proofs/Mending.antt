-- The count of mended bytes is that of the record up to its last control byte. Assumes nothing.
use mathlib.Core.Path.{◌≡◌, ◌∙◌, sym, ap, ap₂}
use mathlib.Core.Bool.{Bool, true, false}
use mathlib.Core.List.{List}
use Prim.Native.Nat.{ℕ, ◌+◌, ◌≤◌, ◌<◌}
use native.Mathlib.Omega.{arith}
use lib.ListN.{length, get_or, take, drop, length-drop}
use lib.Seq.{get_or-take, take-add, take_all, drop_at, length-take-le}
use Rattle.octet.specs.Hearing.{harms}
use Rattle.blocks.specs.Parts.{mended_in}
use Rattle.kinds.specs.Reading.{control_length, control_part, mended_of}
use Rattle.kinds.proofs.Counting.{cut-control}

pub mended-silent : (spoken : Bool) (r : List ℕ) → spoken ≡ false → mended_in r ≡ mended_of spoken r
unfolding mended_in mended_of
mended-silent spoken r e = ap (λ (t : Bool). get_or r 2 0 + harms (control_part t (drop 4 r))) (sym e)

-- a block of less than eight bytes has no others
pub mended-short : (spoken : Bool) (r : List ℕ) → spoken ≡ true → length r < 12 → mended_in r ≡ mended_of spoken r
unfolding mended_in mended_of
mended-short spoken r e h =
    let all : drop 4 r ≡ control_part true (drop 4 r) = sym (take_all (control_length (drop 4 r)) (drop 4 r) (omega (arith, length-drop 4 r))) in
    ap (λ (l : List ℕ). get_or r 2 0 + harms l) (all ∙ ap (λ (t : Bool). control_part t (drop 4 r)) (sym e))

pub mended-part :
    (spoken : Bool) (r : List ℕ) (n : ℕ) → 12 ≤ length r → n ≡ length (control_part spoken (drop 4 r))
    → mended_in (take (4 + n) r) ≡ mended_of spoken r
unfolding mended_in mended_of
mended-part spoken r n h e =
    let part : get_or (take (4 + n) r) 2 0 ≡ get_or r 2 0 = get_or-take (4 + n) r 2 0 (omega arith) in
    let raw : drop 4 (take (4 + n) r) ≡ take n (drop 4 r) =
    ap (drop 4) (take-add 4 n r) ∙ drop_at (take 4 r) (take n (drop 4 r)) 4 (length-take-le 4 r (omega arith)) in
    ap₂ (λ (x : ℕ) (l : List ℕ). x + harms l) part (raw ∙ cut-control spoken (drop 4 r) n (omega (arith, length-drop 4 r)) e)
