-- The reader of two streams works too: what it writes is read back by the number of each stream, since the two differ. So its calls in a row are what
-- `Rows` says of any reader's. Assumes nothing.
use mathlib.Core.Path.{◌≡◌, ◌∙◌, refl, sym, ap, ap₂}
use mathlib.Core.Bool.{true, false}
use mathlib.Core.List.{List, [], ◌∷◌, ◌++◌, map, append-nil}
use Prim.Native.Nat.{ℕ, zero, suc, ◌≤◌}
use native.Mathlib.Nat.{le_refl}
use native.Mathlib.Omega.{arith}
use lib.Dec.{eqb}
use lib.ListN.{length, take, length-append}
use lib.Seq.{take_at, drop_at}
use borrow.Author.Tests.{eq-eqb, not-true}
use Rattle.laws.specs.Each.{Each, nil, and}
use Rattle.laws.proofs.Tests.{both_true}
use Rattle.laws.proofs.Eaches.{each_map}
use Rattle.blocks.specs.Block.{Block, record_of, records_of, record_length, head_of, blocks}
use Rattle.blocks.specs.Sizes.{Sized}
use Rattle.blocks.proofs.Round.{blocks_records}
use Rattle.packet.specs.declared.two.Streams.{Streams}
use Rattle.packet.specs.Setting.{in_range}
use Rattle.packet.specs.Two.{first_of, second_of, in_range_of_two}
use Rattle.pages.specs.declared.two.Whose.{Whose}
use Rattle.pages.specs.declared.two.Whose.TheVariants.{First, Second}
use Rattle.pages.specs.Two.{SeenByTwo, see_by_two, seen_for}
use Rattle.state.specs.Two.{TwoState, Handed, handed_from, state_for, handed_of_two, SoundOfTwo}
use Rattle.state.proofs.Handing.{handed-sized}
use Rattle.state.proofs.BothRanging.{both-sound-after, both-held, both-in_range}
use Rattle.state.proofs.Beside.{owner_of, one_hands_out}
use Rattle.reader.specs.Two.{stream_for, marked_all}
use Rattle.claims.specs.Two.{handed_behind, handed_within, handed_in, feeder_for_two}
use Rattle.claims.proofs.Telling.{eqb_turned}
use Rattle.claims.proofs.Rows.{Works}

-- a block handed out is whole
abbrev pub WholeHanded : Handed → Type 0
WholeHanded h = Sized h.block

-- ---- what is written is read back

module _ (s : Streams) (within : in_range_of_two s ≡ true) where
  differ : eqb s.first s.second ≡ false
  unfolding in_range_of_two
  differ =
      let a = (both_true (in_range (first_of s)) _ within).1 in
      not-true _ (both_true (in_range (second_of s)) _ a).1

  turned : eqb s.second s.first ≡ false
  turned = eqb_turned s.second s.first ∙ differ

  behind-own : (w : Whose) (bs : List Block) → handed_behind s (stream_for w s) bs ≡ map (handed_from w) bs
  behind-own First bs = rw (eq-eqb s.first s.first refl)
  behind-own Second bs = rw (turned, eq-eqb s.second s.second refl)

  module _ (b : Block) (rest : List ℕ) (h : Sized b) where
    its-long : length (record_of b) ≡ record_length (record_of b ++ rest)
    its-long =
        let e : head_of (record_of b ++ rest) ≡ b.head = omega arith in
        rw e (omega (arith, h))

    its-block : blocks (take (record_length (record_of b ++ rest)) (record_of b ++ rest)) ≡ b ∷ []
    unfolding records_of
    its-block =
        ap blocks (take_at (record_of b) rest _ its-long ∙ sym (append-nil (record_of b))) ∙ blocks_records (and h nil)

  read-within : (n : ℕ) {hs : List Handed} → Each WholeHanded hs → length (marked_all s hs) ≤ n → handed_within s n (marked_all s hs) ≡ hs
  unfolding handed_within marked_all
  read-within zero nil e = refl
  read-within (suc n) nil e = refl
  read-within zero (and {a = h} {l = hs} z r) e = absurd (omega arith)
  read-within (suc n) (and {a = h} {l = hs} z r) e =
      let rest = marked_all s hs in
      let long = length-append (record_of h.block) rest in
      ap₂ (λ (x y : List Handed). x ++ y)
      (ap (handed_behind s (stream_for h.whose s)) (its-block h.block rest z) ∙ behind-own h.whose (h.block ∷ []))
      (ap (handed_within s n) (drop_at (record_of h.block) rest _ (its-long h.block rest z)) ∙ read-within n r (omega (arith, e, long)))

  read_back : {hs : List Handed} → Each WholeHanded hs → handed_in s (marked_all s hs) ≡ hs
  read_back {hs} r = read-within (length (marked_all s hs)) r (le_refl _)

-- a packet's blocks are one stream's, and whole
handed-whole : (st : TwoState) (x : SeenByTwo) → SoundOfTwo st → Each WholeHanded (handed_of_two st x)
handed-whole st x r =
    let w = owner_of st.page in
    rw (one_hands_out st x) (each_map (handed_from w) (λ b z. z) (handed-sized (state_for w st) (seen_for w x) (r w)))

pub works_two : (s : Streams) → in_range_of_two s ≡ true → Works (feeder_for_two s) SoundOfTwo WholeHanded
unfolding marked_all
works_two s i =
    record {
      fits = i;
      after = both-sound-after s;
      held = both-held;
      in_range = both-in_range;
      whole = λ st p r. handed-whole st (see_by_two s p) r;
      back = read_back s i;
      none = refl;
    }
