-- What is put within reach, and past it. Assumes nothing.
use mathlib.Core.Path.{sym}
use mathlib.Core.List.{List, ◌++◌, append_assoc}
use Prim.Native.Nat.{ℕ, ◌+◌, ◌≤◌, ◌<◌}
use borrow.Author.Tests.{le-leb, lt-leb}
use lib.ListN.{length}
use Rattle.text_lines.specs.Put.{last, placed}
use Rattle.text_lines.proofs.Putting.{put-at}
use Rattle.text_lines.specs.Putting.{Put, reach, within}
pub use Rattle.text_lines.proofs.Putting.{then, put-none, Left, left-start, left-on, left_end, put_as}

pub put-within : {out out' xs : List ℕ} {q q' : ℕ} → q ≤ reach → Put out q xs out' q' → Put out q (within q xs) out' q'
put-within {q = q} h p = rw (le-leb q reach h) p

pub put-there : {out out' xs : List ℕ} {q q' : ℕ} → q ≤ reach → Put out q (within q xs) out' q' → Put out q xs out' q'
put-there {q = q} h p = rw (le-leb q reach h) at p

pub put-past : (out : List ℕ) (q : ℕ) (xs : List ℕ) → reach < q → Put out q (within q xs) out q
put-past out q xs h = rw (lt-leb q reach h) (put-none out q)

-- ---- a line within reach: a name, then what is behind it with the line's end

pub put_line :
    (name rest end : List ℕ) {out out₁ out₂ : List ℕ} {q q₁ q₂ : ℕ} → q ≤ reach → q + length name ≤ last → Put out q (placed q name) out₁ q₁
    → Put out₁ q₁ (rest ++ end) out₂ q₂
    → Put out q (within q (name ++ rest ++ end)) out₂ q₂
put_line name rest end h k a b = put-within h (put_as (sym (append_assoc name rest end)) (then {xs = name} (put-at k a) b))
