-- A state in range, as the code holds it, and back: what is read off a reader and held again is that reader. Assumes nothing.
use mathlib.Core.Path.{◌≡◌, ◌∙◌, refl, sym}
use mathlib.Core.Bool.{Bool, true}
use mathlib.Core.List.{List, [], ◌∷◌, ◌++◌}
use Prim.Native.Nat.{ℕ, suc, ◌-◌, ◌≤◌}
use native.Mathlib.Omega.{arith}
use lib.Dec.{eqb, leb}
use lib.ListN.{length, take, drop, replicate, length-drop, take-append-drop}
use lib.Seq.{length-take-le}
use borrow.Author.Tests.{leb-true, eqb-true}
use Rattle.laws.specs.Pick.{both}
use Rattle.laws.proofs.Tests.{both_first, both-second}
use Rattle.blocks.specs.Block.{size_of}
use Rattle.packet.specs.declared.Setting.{Setting}
use Rattle.packet.specs.Setting.{in_range}
use Rattle.walk.specs.declared.Run.{Run}
use Rattle.walk.specs.declared.Run.TheVariants.{Idle, Head, Body}
use Rattle.state.specs.declared.Reader.{Reader}
use Rattle.walk.specs.Store.{store_length, zeroed}
use Rattle.state.specs.State.{zeros, page_in_range, run_in_range, joined_in_range, held_by, reader_in_range, Sixteen}
use Rattle.walk.specs.Internal.{Kept}
use Rattle.walk.specs.Mode.{Bits}

zeros-all : (l : List ℕ) → zeros l ≡ true → l ≡ replicate (length l) 0
unfolding zeros
zeros-all [] e = refl
zeros-all (b ∷ bs) e =
    let h : b ≡ 0 = eqb-true b 0 (both_first (eqb b 0) (zeros bs) e) in
    rw (h, ← zeros-all bs (both-second (eqb b 0) (zeros bs) e))

padded : (N n : ℕ) (l : List ℕ) → n ≤ N → length l ≡ N → zeros (drop n l) ≡ true → l ≡ take n l ++ replicate (N - length (take n l)) 0
padded N n l h k e =
    let a : length (take n l) ≡ n = length-take-le n l (omega arith) in
    let b : drop n l ≡ replicate (N - n) 0 = zeros-all (drop n l) e ∙ rw (length-drop, k) in
    sym (take-append-drop n l) ∙ rw (a, ← b)

-- a store in range holds the bytes of its running block, and zeros past them
store-zeroed : (n : ℕ) (l : List ℕ) → n ≤ store_length → length l ≡ store_length → zeros (drop n l) ≡ true → l ≡ zeroed (take n l)
unfolding zeroed
store-zeroed n l h k e = padded store_length n l h k e

run-kept :
    (r : Run) (l : List ℕ) → run_in_range r ≡ true → Sixteen r → length l ≡ store_length → zeros (drop (held_by r) l) ≡ true → Kept r l
run-kept Idle l e w k z = record { good = tt; run = refl; kept = store-zeroed 0 l (omega arith) k z }
run-kept (Head g v part) l e w k z =
    let f = both-second (leb g 3) _ e in
    let bits : Bits g v part =
    record {
      got = leb-true g 3 (both_first _ _ e);
      small = w;
      only = eqb-true _ 0 (both-second (leb part (suc g)) _ f);
      counted = leb-true part (suc g) (both_first _ _ f);
    } in
    record { good = bits; run = refl; kept = store-zeroed 0 l (omega arith) k z }
run-kept (Body h part n) l e w k z =
    let f : n ≤ size_of h = leb-true n (size_of h) (both-second (leb part 5) _ e) in
    let a : length (take n l) ≡ n = length-take-le n l (omega arith) in
    record { good = (w, leb-true part 5 (both_first _ _ e), rw a f); run = rw a; kept = store-zeroed n l (omega arith) k z }

pub kept_in-range :
    (r : Reader) → reader_in_range r ≡ true → Sixteen r.run → length r.store ≡ store_length → Kept r.run r.store
unfolding reader_in_range
kept_in-range r e w k =
    let i = both-second (page_in_range r.page) _ e in
    let u = both-second (leb r.index 15) _ i in
    let j = both-second (run_in_range r.run) _ u in
    run-kept r.run r.store (both_first (run_in_range r.run) _ u) w k (both-second (joined_in_range r.joined r.run) _ j)

-- where a call goes on, the state is held
pub ready-kept :
    (s : Setting) (r : Reader) {b : Bool} → b ≡ both (in_range s) (reader_in_range r) → b ≡ true → Sixteen r.run → length r.store ≡ store_length
    → Kept r.run r.store
ready-kept s r x y = kept_in-range r (both-second (in_range s) (reader_in_range r) (sym x ∙ y))
