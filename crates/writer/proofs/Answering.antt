-- What a cut answers and leaves, by the tests that tell: what is taken, whether the records are whole, and the room. The room is
-- judged by dividing, so that no product can wrap. Assumes nothing.
use Rattle.std.proofs.Common.{Some, None}
use mathlib.Core.Path.{◌≡◌, ◌∙◌, refl}
use mathlib.Core.Bool.{Bool, true, false}
use mathlib.Core.List.{List, []}
use Prim.Native.Nat.{ℕ, ◌*◌, ◌/◌, ◌<◌, ◌≤◌}
use native.Mathlib.Nat.{le-div_iff_mul-le, div-lt_iff_lt-mul}
use native.Mathlib.Omega.{arith}
use lib.Dec.{leb}
use lib.ListN.{length}
use lib.Seq.{sets}
use borrow.Author.Tests.{leb-true}
use Rattle.std.specs.declared.result.Result.TheVariants.{Ok}
use Rattle.laws.specs.Pick.{both}
use Rattle.answer.specs.Answer.{Answer}
use Rattle.answer.specs.Values.{refused}
use Rattle.answer.proofs.Lent.{lent-short, lent-done}
use Rattle.answer.specs.Writing.{answered, left}
use Rattle.blocks.specs.Block.{whole, blocks}
use Rattle.packet.specs.declared.Setting.{Setting}
use Rattle.packet.specs.Setting.{in_range}
use Rattle.symbols.specs.Stream.{cell, stream_of}
use Rattle.writer.specs.Cutting.{pages_for, packets, cut_bytes, cut_rules, takes_of}
use Rattle.writer.specs.Internal.{measure_of, pages_bytes}

-- ---- the room

pub short-of-room :
    (bytes old : List ℕ) (count size : ℕ) → length bytes ≡ count * size → 0 < size → length old / size < count
    → (refused 1 0 ≡ answered [] bytes old) × (old ≡ left [] bytes old)
short-of-room bytes old count size n p h =
    lent-short [] bytes old (length bytes) {first = Ok (length bytes)} refl refl (omega (arith, (div-lt_iff_lt-mul p).0 h))

pub fits-room : (n count size : ℕ) → 0 < size → count ≤ n / size → count * size ≤ n
fits-room n count size p h = (le-div_iff_mul-le p).0 h

pub room-enough :
    (bytes old out : List ℕ) (count size : ℕ) → length bytes ≡ count * size → 0 < size → count ≤ length old / size
    → out ≡ sets old 0 bytes → (Ok (count * size) ≡ answered [] bytes old) × (out ≡ left [] bytes old)
room-enough bytes old out count size n p h e =
    let d = lent-done [] bytes old (length bytes) {first = Ok (length bytes)} refl refl (omega (arith, fits-room (length old) count size p h)) in
    (rw (← n) d.0, e ∙ d.1)

-- ---- the records

pub measured-broken : (l : List ℕ) → measure_of l ≡ None → whole l ≡ false
measured-broken l e = go (whole l) refl
  where
    go : (t : Bool) → whole l ≡ t → whole l ≡ false
    go true h = let z : ◌≡◌ {A = ℕ} 0 1 = cc in absurd (omega arith)
    go false h = h

pub measured_cells : (l : List ℕ) (n : ℕ) → measure_of l ≡ Some n → (whole l ≡ true) × (n ≡ length (stream_of (blocks l)) / cell)
measured_cells l n e = go (whole l) refl
  where
    go : (t : Bool) → whole l ≡ t → (whole l ≡ true) × (n ≡ length (stream_of (blocks l)) / cell)
    go true h = (h, cc)
    go false h = let z : ◌≡◌ {A = ℕ} 0 1 = cc in absurd (omega arith)

-- ---- what is taken

pub record Taken (index k : ℕ) : Type 0 where
  pub low : index < 16
  pub some : 1 ≤ k
  pub few : k ≤ 25

pub taken : (s : Setting) (index k : ℕ) → takes_of s index k ≡ true → Taken index k
taken s index k e = go (in_range s) (leb index 15) refl (leb 1 k) refl (leb k 25) refl e
  where
    go :
        (r a : Bool) → leb index 15 ≡ a → (b : Bool) → leb 1 k ≡ b → (c : Bool) → leb k 25 ≡ c → both r (both a (both b c)) ≡ true
        → Taken index k
    go true true ea true eb true ec t =
        record { low = omega (arith, leb-true index 15 ea); some = leb-true 1 k eb; few = leb-true k 25 ec }
    go true true ea true eb false ec t = let z : ◌≡◌ {A = ℕ} 0 1 = cc in absurd (omega arith)
    go true true ea false eb c ec t = let z : ◌≡◌ {A = ℕ} 0 1 = cc in absurd (omega arith)
    go true false ea b eb c ec t = let z : ◌≡◌ {A = ℕ} 0 1 = cc in absurd (omega arith)
    go false a ea b eb c ec t = let z : ◌≡◌ {A = ℕ} 0 1 = cc in absurd (omega arith)

-- ---- the cut

module _ (s : Setting) (index k : ℕ) (l old : List ℕ) where
  pub cut-out-of-range :
      takes_of s index k ≡ false
      → (refused 16 0 ≡ answered (cut_rules s index k l) (cut_bytes s index k l) old)
      × (old ≡ left (cut_rules s index k l) (cut_bytes s index k l) old)
  cut-out-of-range e = (rw e, rw e)

  pub cut-broken :
      takes_of s index k ≡ true → whole l ≡ false
      → (refused 13 0 ≡ answered (cut_rules s index k l) (cut_bytes s index k l) old)
      × (old ≡ left (cut_rules s index k l) (cut_bytes s index k l) old)
  cut-broken e w = (rw (e, w), rw (e, w))

  pub cut-written :
      takes_of s index k ≡ true → whole l ≡ true → (count : ℕ) → count ≡ pages_for k (length (stream_of (blocks l))) → (r : Answer) (out : List ℕ)
      → r ≡ answered [] (pages_bytes s index k count l) old → out ≡ left [] (pages_bytes s index k count l) old
      → (r ≡ answered (cut_rules s index k l) (cut_bytes s index k l) old) × (out ≡ left (cut_rules s index k l) (cut_bytes s index k l) old)
  unfolding packets
  cut-written e w count ec r out er eo =
      let b : pages_bytes s index k count l ≡ cut_bytes s index k l = rw ec in
      (rw (e, w, ← b) er, rw (e, w, ← b) eo)
