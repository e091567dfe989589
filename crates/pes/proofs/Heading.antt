-- What a header tells that passes its rules: how long the packet is. Assumes nothing.
use mathlib.Core.Path.{◌≡◌, refl}
use mathlib.Core.Bool.{true}
use mathlib.Core.List.{List}
use Prim.Native.Nat.{ℕ, ◌+◌, ◌-◌, ◌*◌, ◌/◌, ◌≤◌}
use native.Mathlib.Omega.{arith}
use lib.Dec.{eqb, leb}
use lib.ListN.{length}
use borrow.Author.Tests.{le-leb, leb-true, eq-eqb, eqb-true}
use Rattle.laws.specs.Pick.{both}
use Rattle.laws.proofs.Tests.{both_first, both-second}
use Rattle.pes.specs.Header.{starts_right, pes_length, length_fits}

pub started : (pes : List ℕ) → both (leb 45 (length pes)) (starts_right pes) ≡ true → 45 ≤ length pes
started pes h = leb-true 45 (length pes) (both_first _ (starts_right pes) h)

-- a packet is N×184 bytes long
pub record Sized (whole : ℕ) : Type 0 where
  pub least : 184 ≤ whole
  pub most : whole ≤ 65504
  pub packets : whole / 184 * 184 ≡ whole

pub sized : (l whole : ℕ) → both (length_fits l) (eqb (l + 6) whole) ≡ true → Sized whole
sized l whole h =
    let n = (l + 6) / 184 in
    let f = both_first (length_fits l) _ h in
    let w : l + 6 ≡ whole = eqb-true (l + 6) whole (both-second (length_fits l) _ h) in
    let a : 1 ≤ n = leb-true 1 n (both_first (leb 1 n) _ f) in
    let g = both-second (leb 1 n) (both (leb n 356) (eqb l (n * 184 - 6))) f in
    let b : n ≤ 356 = leb-true n 356 (both_first (leb n 356) _ g) in
    let e : l ≡ n * 184 - 6 = eqb-true l (n * 184 - 6) (both-second (leb n 356) _ g) in
    record { least = omega arith; most = omega arith; packets = omega arith }

-- so it has all of its header
pub long_enough : (pes : List ℕ) → both (length_fits (pes_length pes)) (eqb (pes_length pes + 6) (length pes)) ≡ true → 184 ≤ length pes
long_enough pes h = (sized (pes_length pes) (length pes) h).least

-- and the other way round, as a writer sets it
pub sized-holds : (n whole : ℕ) → 1 ≤ n → n ≤ 356 → whole ≡ n * 184 → both (length_fits (n * 184 - 6)) (eqb (n * 184 - 6 + 6) whole) ≡ true
sized-holds n whole a b e =
    let k : (n * 184 - 6 + 6) / 184 ≡ n = omega arith in
    rw (k, le-leb 1 n a, le-leb n 356 b, eq-eqb (n * 184 - 6) (n * 184 - 6) refl, eq-eqb (n * 184 - 6 + 6) whole (omega arith))
