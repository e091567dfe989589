-- Records copied one after the other, each behind the number of its stream: what is left from here makes what was to be put. Assumes nothing.
use mathlib.Core.Path.{◌≡◌, ◌∙◌, refl, sym, ap}
use mathlib.Core.List.{List, [], ◌∷◌, ◌++◌, append_assoc, map}
use Prim.Native.Nat.{ℕ, suc, ◌+◌, ◌*◌, ◌/◌, ◌%◌, ◌≤◌, ◌<◌}
use native.Mathlib.Nat.{add-zero}
use native.Mathlib.Omega.{arith}
use lib.ListN.{length, get_or, take, drop, set, length-append, length-set}
use lib.Seq.{sets, get_or-drop, drop-drop, take_at, drop_at, length-sets}
use Rattle.laws.specs.Each.{Each, and}
use Rattle.laws.proofs.Lists.{sets-append}
use Rattle.blocks.specs.Block.{Block, head_length, record_of, records_of, blocks}
use Rattle.blocks.specs.Sizes.{Sized}
use Rattle.blocks.proofs.Round.{blocks_records}
use Rattle.packet.specs.declared.two.Streams.{Streams}
use Rattle.pages.specs.declared.two.Whose.{Whose}
use Rattle.state.specs.Two.{Handed, handed_from}
use Rattle.reader.specs.Two.{stream_for, marked_all}
use Rattle.reader.specs.InternalTwo.{tagged, long_at, Laid}

-- the number of its stream is one byte more a block
pub tagged-length : (k : ℕ) (bs : List Block) → length (tagged k bs) ≡ length (records_of bs) + length bs
unfolding tagged records_of
tagged-length k [] = refl
tagged-length k (b ∷ bs) =
    let h : length (tagged k bs) ≡ length (records_of bs) + length bs = tagged-length k bs in simp length-append (omega arith)

-- one stream's blocks among those of two
pub tagged-marked : (s : Streams) (w : Whose) (bs : List Block) → marked_all s (map (handed_from w) bs) ≡ tagged (stream_for w s) bs
unfolding tagged marked_all
tagged-marked s w [] = refl
tagged-marked s w (b ∷ bs) = rw (tagged-marked s w bs)

pub marked_append : (s : Streams) (xs ys : List Handed) → marked_all s (xs ++ ys) ≡ marked_all s xs ++ marked_all s ys
unfolding marked_all
marked_append s [] ys = refl
marked_append s (h ∷ xs) ys = rw (marked_append s xs ys, append_assoc)

module _ (k : ℕ) (l : List ℕ) (n : ℕ) (out₀ : List ℕ) (to : ℕ) where
  -- what is left from the place p makes all of it
  abbrev pub Left : ℕ → List ℕ → ℕ → Type 0
  Left p out q =
      (bs : List Block) × (rest : List ℕ) × Each Sized bs × (drop p l ≡ records_of bs ++ rest) × (n ≡ p + length (records_of bs))
      × (q + length (tagged k bs) ≤ length out) × (sets out q (tagged k bs) ≡ sets out₀ to (tagged k (blocks (take n l))))

  pub left-all : Laid k l n to out₀ → (n ≤ length l) × Left 0 out₀ to
  left-all (bs, rest, s, e, f, g) =
      let t : take n l ≡ records_of bs = rw e (take_at (records_of bs) rest n (sym f)) in
      let d : length l ≡ length (records_of bs) + length rest = rw e (length-append (records_of bs) rest) in
      (omega arith, (bs, rest, s, e, omega arith, g, rw (t, blocks_records s)))

  pub left-none : (p : ℕ) (out : List ℕ) (q : ℕ) → n ≤ p → Left p out q → out ≡ sets out₀ to (tagged k (blocks (take n l)))
  unfolding tagged records_of
  left-none p out q h ([], rest, s, e, f, g, x) = x
  left-none p out q h (b ∷ bs, rest, s, e, f, g, x) =
      let y : length (record_of b ++ records_of bs) ≡ length (record_of b) + length (records_of bs) = length-append (record_of b) (records_of bs) in
      absurd (omega arith)

  -- one record
  module _ (p : ℕ) (b : Block) (others : List ℕ) (h : Sized b) (e : drop p l ≡ record_of b ++ others) where
    its_head : get_or l p 0 + 256 * get_or l (p + 1) 0 ≡ b.head
    its-head =
        let x : get_or l (p + 0) 0 ≡ b.head % 256 = sym (get_or-drop p l 0 0) ∙ ap (λ (m : List ℕ). get_or m 0 0) e in
        let y : get_or l (p + 1) 0 ≡ b.head / 256 = sym (get_or-drop p l 1 0) ∙ ap (λ (m : List ℕ). get_or m 1 0) e in
        let z : get_or l p 0 ≡ b.head % 256 = rw add-zero at x in
        omega arith

    its-long : length (record_of b) ≡ long_at l p
    its-long = rw its-head (omega (arith, h))

    its_bytes : take (long_at l p) (drop p l) ≡ record_of b
    its_bytes = rw e (take_at (record_of b) others (long_at l p) its-long)

    its-rest : drop (p + long_at l p) l ≡ others
    its-rest = sym (drop-drop (long_at l p) p l) ∙ rw e (drop_at (record_of b) others (long_at l p) its-long)

  -- the record at the place is copied behind its stream, and what is left makes the same
  pub record Turn (p : ℕ) (out : List ℕ) (q : ℕ) : Type 0 where
    pub within : p + long_at l p ≤ n
    pub onward : head_length ≤ long_at l p
    pub room : q + 1 + long_at l p ≤ length out
    pub left : Left (p + long_at l p) (sets (set out q k) (q + 1) (take (long_at l p) (drop p l))) (q + 1 + long_at l p)

  pub left_one : (p : ℕ) (out : List ℕ) (q : ℕ) → p < n → Left p out q → Turn p out q
  unfolding tagged records_of
  left_one p out q h ([], rest, s, e, f, g, x) = absurd (omega arith)
  left_one p out q h (b ∷ bs, rest, and z s, e, f, g, x) =
      let r = record_of b in
      let e' : drop p l ≡ r ++ (records_of bs ++ rest) = e ∙ append_assoc r (records_of bs) rest in
      let long = its-long p b (records_of bs ++ rest) z e' in
      let m : length (r ++ records_of bs) ≡ length r + length (records_of bs) = length-append r (records_of bs) in
      let t : length (r ++ tagged k bs) ≡ length r + length (tagged k bs) = length-append r (tagged k bs) in
      let i : q + 1 ≡ suc q = omega arith in
      let j : q + 1 + long_at l p ≡ suc q + length r = omega (arith, long) in
      let o : length (sets (set out q k) (suc q) r) ≡ length out = length-sets (set out q k) (suc q) r ∙ length-set out q k in
      record {
        within = omega (arith, long, m, f);
        onward = omega arith;
        room = omega (arith, long, t, g);
        left = (
          bs,
          rest,
          s,
          its-rest p b (records_of bs ++ rest) z e',
          omega (arith, long, m, f),
          rw (its_bytes p b (records_of bs ++ rest) z e', i, o) (omega (arith, long, t, g)),
          rw (its_bytes p b (records_of bs ++ rest) z e', j, i) (sym (sets-append (set out q k) (suc q) r (tagged k bs)) ∙ x),
        );
      }
