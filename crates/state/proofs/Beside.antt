-- A reader of two streams is two readers of one, side by side: of any state and any packet each stream's part of the next state, and the blocks that it
-- hands out, are that reader's, and a block is dropped where either drops one. At most one of the two hands out blocks. By cases. Assumes nothing.
use mathlib.Core.Path.{◌≡◌, refl, ap}
use mathlib.Core.Bool.{true, false}
use mathlib.Core.List.{List, [], ◌∷◌, ◌++◌, map, append-nil}
use Prim.Native.Nat.{ℕ}
use Rattle.laws.specs.Pick.{either}
use Rattle.laws.proofs.Picks.{agree}
use Rattle.blocks.specs.Block.{Block}
use Rattle.packet.specs.declared.two.Streams.{Streams}
use Rattle.packet.specs.Two.{in_range_of_two}
use Rattle.pages.specs.declared.two.Whose.{Whose}
use Rattle.pages.specs.declared.two.Whose.TheVariants.{First, Second}
use Rattle.pages.specs.declared.two.SharedPage.{SharedPage}
use Rattle.pages.specs.declared.two.SharedPage.TheVariants.{None, One}
use Rattle.pages.specs.Seen.{see}
use Rattle.pages.specs.Two.{SeenByTwo, unreadable, passing, neither, header, numbered, same, see_by_two, seen_for, page_for, setting_for}
use Rattle.pages.specs.Judging.{verdict_of}
use Rattle.pages.specs.Verdicts.{reads_for}
use Rattle.pages.proofs.Beside.{verdict_beside, see_beside}
use Rattle.state.specs.Acting.{heeded, pointer_of, bytes_of, act, handed, dropped}
use Rattle.state.specs.Two.{TwoState, Handed, own_for, state_for, pointer_in, bytes_in, judged, verdict_in, act_of_two, handed_from, blocks_after, handed_of_two, blocks_for, drops_after, dropped_of_two}

-- ---- a packet as it is seen

pointer_beside : (w : Whose) (x : SeenByTwo) → pointer_in x ≡ pointer_of (seen_for w x)
pointer_beside w unreadable = refl
pointer_beside w passing = refl
pointer_beside w neither = refl
pointer_beside First (header First i n) = refl
pointer_beside First (header Second i n) = refl
pointer_beside Second (header First i n) = refl
pointer_beside Second (header Second i n) = refl
pointer_beside w (numbered y p l) = refl

bytes_beside : (w : Whose) (x : SeenByTwo) → bytes_in x ≡ bytes_of (seen_for w x)
bytes_beside w unreadable = refl
bytes_beside w passing = refl
bytes_beside w neither = refl
bytes_beside First (header First i n) = refl
bytes_beside First (header Second i n) = refl
bytes_beside Second (header First i n) = refl
bytes_beside Second (header Second i n) = refl
bytes_beside w (numbered y p l) = refl

-- a stream's verdict is that reader's
own-verdict : (w : Whose) (st : TwoState) (x : SeenByTwo) → verdict_in w (judged st x) ≡ verdict_of (page_for w st.page) (own_for w st).index (seen_for w x)
own-verdict First st x = verdict_beside First st.page st.first.index x
own-verdict Second st x = verdict_beside Second st.page st.second.index x

module _ (w : Whose) (st : TwoState) (x : SeenByTwo) where
  heeded-beside : heeded (verdict_in w (judged st x)) (pointer_in x) (bytes_in x) (state_for w st) ≡ act (state_for w st) (seen_for w x)
  unfolding act
  heeded-beside = rw (own-verdict w st x, pointer_beside w x, bytes_beside w x)

  blocks-after : blocks_after w st x ≡ handed (state_for w st) (seen_for w x)
  unfolding handed
  blocks-after = rw (own-verdict w st x, pointer_beside w x, bytes_beside w x)

  drops-after : drops_after w st x ≡ dropped (state_for w st) (seen_for w x)
  unfolding dropped
  drops-after = rw (own-verdict w st x, pointer_beside w x, bytes_beside w x)

-- each stream's part of the next state
pub state_beside : (w : Whose) (st : TwoState) (x : SeenByTwo) → state_for w (act_of_two st x) ≡ act (state_for w st) (seen_for w x)
unfolding act_of_two
state_beside First st x = heeded-beside First st x
state_beside Second st x = heeded-beside Second st x

-- ---- the blocks

pub blocks-append : (w : Whose) (a b : List Handed) → blocks_for w (a ++ b) ≡ blocks_for w a ++ blocks_for w b
unfolding blocks_for
blocks-append w [] b = refl
blocks-append w (h ∷ a) b =
    rw (blocks-append w a b) (agree (λ (l : List Block). l) (λ (l : List Block). l ++ blocks_for w b) (same w h.whose) refl refl)

blocks-all : (w owner : Whose) → same w owner ≡ true → (l : List Block) → blocks_for w (map (handed_from owner) l) ≡ l
unfolding blocks_for
blocks-all w owner e [] = refl
blocks-all w owner e (b ∷ l) = rw e (ap (◌∷◌ b) (blocks-all w owner e l))

blocks-none : (w owner : Whose) → same w owner ≡ false → (l : List Block) → blocks_for w (map (handed_from owner) l) ≡ []
unfolding blocks_for
blocks-none w owner e [] = refl
blocks-none w owner e (b ∷ l) = rw e (blocks-none w owner e l)

-- each stream's are its reader's
pub blocks_beside : (w : Whose) (st : TwoState) (x : SeenByTwo) → blocks_for w (handed_of_two st x) ≡ handed (state_for w st) (seen_for w x)
unfolding handed_of_two
blocks_beside First st x =
    rw (blocks-append First, blocks-all First First refl (blocks_after First st x), blocks-none First Second refl (blocks_after Second st x), append-nil)
    (blocks-after First st x)
blocks_beside Second st x =
    rw (blocks-append Second, blocks-none Second First refl (blocks_after First st x), blocks-all Second Second refl (blocks_after Second st x))
    (blocks-after Second st x)

-- all of them: the first's and then the second's
pub handed_beside :
    (st : TwoState) (x : SeenByTwo)
    → handed_of_two st x
    ≡ map (handed_from First) (handed (state_for First st) (seen_for First x)) ++ map (handed_from Second) (handed (state_for Second st) (seen_for Second x))
unfolding handed_of_two
handed_beside st x = rw (blocks-after First st x, blocks-after Second st x)

-- whose page is open; the first's where none is, which hands out nothing then
abbrev pub owner_of : SharedPage → Whose
owner_of None = First
owner_of (One owner n last) = owner

reads_alone : (w : Whose) (page : SharedPage) (x : SeenByTwo) → same w (owner_of page) ≡ false → reads_for w page x ≡ false
reads_alone w page unreadable e = refl
reads_alone w page passing e = refl
reads_alone w page neither e = refl
reads_alone w page (header owner i n) e = refl
reads_alone w None (numbered y p l) e = refl
reads_alone w (One owner n last) (numbered y p l) e = rw e

silent : (w : Whose) (st : TwoState) (x : SeenByTwo) → same w (owner_of st.page) ≡ false → blocks_after w st x ≡ []
silent First st x e = rw (reads_alone First st.page x e)
silent Second st x e = rw (reads_alone Second st.page x e)

-- a packet's blocks are all of the stream whose page is open
pub one_hands_out :
    (st : TwoState) (x : SeenByTwo)
    → (let w = owner_of st.page in handed_of_two st x ≡ map (handed_from w) (handed (state_for w st) (seen_for w x)))
unfolding handed_of_two
one_hands_out st x = go (owner_of st.page) refl
  where
    go :
        (w : Whose) → owner_of st.page ≡ w
        → map (handed_from First) (blocks_after First st x) ++ map (handed_from Second) (blocks_after Second st x)
        ≡ map (handed_from w) (handed (state_for w st) (seen_for w x))
    go First e = rw (silent Second st x (rw e), append-nil, blocks-after First st x)
    go Second e = rw (silent First st x (rw e), blocks-after Second st x)

-- ---- a block dropped

pub dropped_beside :
    (st : TwoState) (x : SeenByTwo)
    → dropped_of_two st x ≡ either (dropped (state_for First st) (seen_for First x)) (dropped (state_for Second st) (seen_for Second x))
unfolding dropped_of_two
dropped_beside st x = rw (drops-after First st x, drops-after Second st x)

-- ---- a packet as it comes, to a reader set to two streams that are in range

module _ (s : Streams) (fits : in_range_of_two s ≡ true) (st : TwoState) (p : List ℕ) where
  pub packet-beside : (w : Whose) → state_for w (act_of_two st (see_by_two s p)) ≡ act (state_for w st) (see (setting_for w s) p)
  packet-beside w = rw (see_beside w s p fits) (state_beside w st (see_by_two s p))

  pub packet-blocks-beside : (w : Whose) → blocks_for w (handed_of_two st (see_by_two s p)) ≡ handed (state_for w st) (see (setting_for w s) p)
  packet-blocks-beside w = rw (see_beside w s p fits) (blocks_beside w st (see_by_two s p))

  pub packet-dropped-beside :
      dropped_of_two st (see_by_two s p)
      ≡ either (dropped (state_for First st) (see (setting_for First s) p)) (dropped (state_for Second st) (see (setting_for Second s) p))
  packet-dropped-beside = rw (see_beside First s p fits, see_beside Second s p fits) (dropped_beside st (see_by_two s p))
