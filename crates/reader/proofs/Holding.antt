-- Where the run is no block's, nothing is full and the store is clear; and a test as a byte. Assumes nothing.
use mathlib.Core.Path.{◌≡◌, refl}
use mathlib.Core.Bool.{Bool, true, false}
use mathlib.Core.List.{List, []}
use Prim.Native.Nat.{ℕ}
use mir.Val.{bool_byte}
use Rattle.laws.specs.Pick.{pick}
use Rattle.walk.specs.declared.Run.{Run}
use Rattle.walk.specs.declared.Run.TheVariants.{Idle, Head, Body}
use Rattle.walk.specs.Mode.{is_full}
use Rattle.walk.specs.Store.{zeroed, mode_of}
use Rattle.walk.specs.Internal.{Kept}
use Rattle.walk.proofs.Keeping.{kept-idle, kept-head}

abbrev pub NoBlock : Run → Type 0
NoBlock r = (head part held : ℕ) → r ≡ Body head part held → ⊥

pub none_full : (r : Run) (store : List ℕ) → NoBlock r → is_full (mode_of r store) ≡ false
none_full Idle store n = refl
none_full (Head got bits part) store n = refl
none_full (Body head part held) store n = absurd (n head part held refl)

pub none_held : (r : Run) (store : List ℕ) → Kept r store → NoBlock r → store ≡ zeroed []
none_held Idle store k n = kept-idle k refl
none_held (Head got bits part) store k n = kept-head k refl
none_held (Body head part held) store k n = absurd (n head part held refl)

pub byte_picked : (b : Bool) → bool_byte b ≡ pick b 1 0
byte_picked true = refl
byte_picked false = refl
