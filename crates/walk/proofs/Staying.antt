-- A running block that is held whole, up to the pointed byte: where no start is pointed at it stays, else over filler alone. By
-- induction along the bytes. Assumes nothing.
use mathlib.Core.Path.{◌≡◌, refl}
use mathlib.Core.Bool.{Bool, true, false}
use mathlib.Core.List.{List, [], ◌∷◌}
use Prim.Native.Nat.{ℕ, suc, ◌≤◌, ◌<◌}
use native.Mathlib.Omega.{arith}
use lib.ListN.{length}
use borrow.Author.Tests.{le-leb}
use Rattle.laws.specs.Pick.{pick}
use Rattle.blocks.specs.Block.{size_of}
use Rattle.walk.specs.Mode.{off, body, filler, goes_on, continues}
use Rattle.walk.specs.Places.{fillers}

-- nothing runs again before the pointed byte
pub continues_off : (p : Bool) (l : List ℕ) → continues p off l ≡ off
unfolding continues goes_on
continues_off p [] = refl
continues_off p (b ∷ bs) = continues_off p bs

-- a block that is held whole stays where no start is pointed at
pub stays : (h part : ℕ) (held l : List ℕ) → size_of h ≤ length held → continues false (body h part held) l ≡ body h part held
unfolding continues goes_on
stays h part held [] e = refl
stays h part held (b ∷ bs) e = rw (le-leb _ _ e) (stays h part held bs e)

-- where a start is pointed at it stays over filler alone
pub waits :
    (h part : ℕ) (held l : List ℕ) → size_of h ≤ length held → length l ≤ fillers l → continues true (body h part held) l ≡ body h part held
unfolding continues goes_on fillers
waits h part held [] e k = refl
waits h part held (b ∷ bs) e k = rw (le-leb _ _ e) (go (filler b) (waits h part held bs e) k)
  where
    go :
        (t : Bool) → (length bs ≤ fillers bs → continues true (body h part held) bs ≡ body h part held)
        → suc (length bs) ≤ pick t (suc (fillers bs)) 0 → continues true (pick t (body h part held) off) bs ≡ body h part held
    go true r k = r (omega arith)
    go false r k = absurd (omega arith)

pub breaks_off :
    (h part : ℕ) (held l : List ℕ) → size_of h ≤ length held → fillers l < length l → continues true (body h part held) l ≡ off
unfolding continues goes_on fillers
breaks_off h part held [] e k = absurd (omega arith)
breaks_off h part held (b ∷ bs) e k = rw (le-leb _ _ e) (go (filler b) (breaks_off h part held bs e) k)
  where
    go :
        (t : Bool) → (fillers bs < length bs → continues true (body h part held) bs ≡ off)
        → pick t (suc (fillers bs)) 0 < suc (length bs) → continues true (pick t (body h part held) off) bs ≡ off
    go true r k = r (omega arith)
    go false r k = continues_off true bs
