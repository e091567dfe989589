-- Bytes that a loop stores turned, one after the other; and what the whole store is where both places have room. Assumes nothing.
use mathlib.Core.Path.{◌≡◌}
use mathlib.Core.Bool.{false}
use mathlib.Core.List.{List, map}
use Prim.Native.Nat.{ℕ, suc, ◌+◌, ◌-◌, ◌<◌, ◌≤◌}
use native.Mathlib.Nat.{add-zero}
use native.Mathlib.Omega.{arith}
use lib.ListN.{length, get_or, take, drop, set}
use lib.Seq.{sets, drop-cons}
use lib.Dec.{leb}
use borrow.Author.Tests.{le-leb}
use Rattle.laws.proofs.Tests.{both_false}
use Rattle.octet.specs.Turning.{turned}
use Rattle.pes.specs.Texts.{text_bytes, text_of, with_text}

-- after i of n stores: what is still to be stored
abbrev pub run_left : ℕ → ℕ → ℕ → List ℕ → ℕ → List ℕ → List ℕ
run_left n i from src to out = sets out (to + i) (map turned (take (n - i) (drop (from + i) src)))

pub run_step :
    (n i from : ℕ) (src : List ℕ) (to b : ℕ) (out : List ℕ) → i < n → from + n ≤ length src → b ≡ turned (get_or src (from + i) 0)
    → run_left n (i + 1) from src to (set out (to + i) b) ≡ run_left n i from src to out
run_step n i from src to b out h f e =
    let k : n - i ≡ suc (n - (i + 1)) = omega arith in
    let p : from + (i + 1) ≡ suc (from + i) = omega arith in
    let q : to + (i + 1) ≡ suc (to + i) = omega arith in
    let w : from + i < length src = omega arith in
    rw (e, p, q, k, drop-cons src (from + i) 0 w)

-- after all of them: the whole is stored
pub run-whole :
    (n i from : ℕ) (src : List ℕ) (to : ℕ) (out old : List ℕ) → n ≤ i → run_left n i from src to out ≡ run_left n 0 from src to old
    → out ≡ sets old to (map turned (take n (drop from src)))
run-whole n i from src to out old h e =
    let k : n - i ≡ 0 = omega arith in
    let z : n - 0 ≡ n = omega arith in
    rw (k, z, add-zero from, add-zero to) at e

-- ---- the whole run

-- both have room
pub text-fits :
    (src : List ℕ) (from : ℕ) (out : List ℕ) (to : ℕ) → from + text_bytes ≤ length src → to + text_bytes ≤ length out
    → with_text src from out to ≡ sets out to (text_of src from)
unfolding with_text
text-fits src from out to f t = rw (le-leb (from + text_bytes) (length src) f, le-leb (to + text_bytes) (length out) t)

-- the first has no 42 bytes there, or the second no room
pub text-short :
    (src : List ℕ) (from : ℕ) (out : List ℕ) (to : ℕ) → leb (from + text_bytes) (length src) ≡ false → with_text src from out to ≡ out
unfolding with_text
text-short src from out to f = rw f

pub text-no_room :
    (src : List ℕ) (from : ℕ) (out : List ℕ) (to : ℕ) → leb (to + text_bytes) (length out) ≡ false → with_text src from out to ≡ out
unfolding with_text
text-no_room src from out to t = rw (t, both_false)
