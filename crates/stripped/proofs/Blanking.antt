-- One value from the front on, stored where it has room. Assumes nothing.
use mathlib.Core.Path.{◌≡◌, ◌∙◌, sym, ap}
use mathlib.Core.List.{List, ◌++◌}
use Prim.Native.Nat.{ℕ, ◌≤◌, ◌<◌}
use native.Mathlib.Omega.{arith}
use lib.ListN.{length, take, drop, replicate, length-take}
use lib.Seq.{sets}
use borrow.Author.Tests.{le-leb, lt-leb}
use Rattle.laws.proofs.Lists.{sets-front}
use Rattle.stripped.specs.Loss.{unreadable, blanked}

pub blank-fits : (packets : List ℕ) → 42 ≤ length packets → blanked packets ≡ sets packets 0 unreadable
unfolding blanked
blank-fits packets h = rw (le-leb 42 (length packets) h)

pub blank-no_room : (packets : List ℕ) → length packets < 42 → blanked packets ≡ packets
unfolding blanked
blank-no_room packets h = rw (lt-leb 42 (length packets) h)

-- the front as the library fills it
pub front-filled :
    (packets : List ℕ) {ys : List ℕ} → 42 ≤ length packets → ys ≡ replicate (length (take 42 packets)) 0x16
    → ys ++ drop 42 packets ≡ blanked packets
front-filled packets {ys} h e =
    let long : length (take 42 packets) ≡ 42 = rw length-take (omega arith) in
    let f : ys ≡ unreadable = rw long at e in
    ap (λ (front : List ℕ). front ++ drop 42 packets) f ∙ sym (sets-front packets unreadable h) ∙ sym (blank-fits packets h)
