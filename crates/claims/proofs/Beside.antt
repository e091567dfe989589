-- A reader of two streams over a list of packets: the blocks of each stream are those that a reader of that stream alone hands out of the same
-- packets. So the fault of March can't happen to either, and what stands in one stream's pages doesn't reach the other. Assumes nothing.
use mathlib.Core.Path.{◌≡◌, ◌∙◌, refl, sym, ap, ap₂, subst₂}
use mathlib.Core.Bool.{Bool, true, false}
use mathlib.Core.List.{List, [], ◌∷◌, ◌++◌, map}
use Prim.Native.Nat.{ℕ, ◌%◌}
use native.Mathlib.Omega.{arith}
use lib.Dec.{eqb, leb}
use lib.ListN.{length, drop}
use lib.Seq.{get_or-drop}
use borrow.Author.Tests.{eqb-true}
use Rattle.laws.specs.Pick.{pick, both}
use Rattle.laws.proofs.Tests.{both_true}
use Rattle.blocks.specs.Block.{Block}
use Rattle.packet.specs.declared.Setting.{Setting}
use Rattle.packet.specs.declared.two.Streams.{Streams}
use Rattle.packet.specs.Setting.{in_range}
use Rattle.packet.specs.Two.{first_of, second_of, in_range_of_two}
use Rattle.packet.specs.Packet.{packet_length}
use Rattle.packet.specs.Address.{decodes}
use Rattle.writer.specs.Cutting.{FortyTwo, none, more}
use Rattle.pages.specs.declared.headers.Page.TheVariants.{Shut}
use Rattle.pages.specs.declared.two.Whose.{Whose}
use Rattle.pages.specs.declared.two.Whose.TheVariants.{First, Second}
use Rattle.pages.specs.Headers.{Seen, junk, other, foreign, ours, packet_y, see_zero}
use Rattle.pages.specs.Seen.{see, see_y}
use Rattle.pages.specs.Two.{unreadable, seen_by_two_as, see_by_two, seen_for, setting_for}
use Rattle.pages.proofs.Judged.{sees}
use Rattle.pages.proofs.Beside.{streams_differ}
use Rattle.state.specs.Acting.{State, act, handed}
use Rattle.state.specs.State.{fresh_state}
use Rattle.state.specs.Two.{TwoState, Handed, state_for, fresh_of_two, act_of_two, handed_of_two, handed_from, blocks_for}
use Rattle.state.proofs.Beside.{state_beside, blocks-append, handed_beside, packet-beside, packet-blocks-beside}
use Rattle.claims.specs.Carrying.{heard_blocks}
use Rattle.claims.specs.CutLine.{magazine_in, number_in, page_in, number_of_stream}
use Rattle.claims.specs.March.{Unreadable, address, zero}
use Rattle.claims.specs.Rows.{heard}
use Rattle.claims.specs.Two.{heard_by_two}
use Rattle.claims.specs.Differing.{the_other, is_zero, names_us, stands_after, Differing, ended, same, differs}
use Rattle.claims.proofs.Carried.{act_foreign, act-shut, handed-shut}
use Rattle.claims.proofs.CutLine.{header-seen}
use Rattle.claims.proofs.March.{Meets, both-idle, meets-after, meets_hands, unreadable_junk}

-- ---- the setting of each stream

module _ (s : Streams) (within : in_range_of_two s ≡ true) where
  pub each-in-range : (w : Whose) → in_range (setting_for w s) ≡ true
  unfolding in_range_of_two
  each-in-range First = (both_true (in_range (first_of s)) _ within).0
  each-in-range Second = (both_true (in_range (second_of s)) _ (both_true (in_range (first_of s)) _ within).1).0

  pub others-stream : (w : Whose) → (setting_for w s).stream ≡ (setting_for (the_other w) s).stream → ⊥
  others-stream First e = streams_differ s within e
  others-stream Second e = streams_differ s within (sym e)

pub one-magazine : (s : Streams) (w : Whose) → (setting_for w s).magazine ≡ (setting_for (the_other w) s).magazine
one-magazine s First = refl
one-magazine s Second = refl

-- ---- side by side

pub heard_beside :
    (s : Streams) → in_range_of_two s ≡ true → (w : Whose) (st : TwoState) (qs : List (List ℕ))
    → blocks_for w (heard_by_two s st qs) ≡ heard_blocks (setting_for w s) (state_for w st) qs
unfolding heard heard_blocks blocks_for
heard_beside s h w st [] = refl
heard_beside s h w st (q ∷ qs) =
    let next = act_of_two st (see_by_two s q) in
    blocks-append w (handed_of_two st (see_by_two s q)) (heard_by_two s next qs)
    ∙ ap₂ (λ (a b : List Block). a ++ b) (packet-blocks-beside s h st q w)
    (heard_beside s h w next qs ∙ ap (λ (x : State). heard_blocks (setting_for w s) x qs) (packet-beside s h st q w))

pub fresh_for : (w : Whose) → state_for w fresh_of_two ≡ fresh_state
fresh_for First = refl
fresh_for Second = refl

pub fresh_beside :
    (s : Streams) → in_range_of_two s ≡ true → (w : Whose) (qs : List (List ℕ))
    → blocks_for w (heard_by_two s fresh_of_two qs) ≡ heard_blocks (setting_for w s) fresh_state qs
fresh_beside s h w qs = heard_beside s h w fresh_of_two qs ∙ ap (λ (x : State). heard_blocks (setting_for w s) x qs) (fresh_for w)

-- ---- the fault of March

-- of two states that meet in each stream all blocks are the same
same-heard :
    (s : Streams) (st st' : TwoState) → ((w : Whose) → Meets (state_for w st) (state_for w st')) → (qs : List (List ℕ))
    → heard_by_two s st qs ≡ heard_by_two s st' qs
unfolding heard
same-heard s st st' m [] = refl
same-heard s st st' m (q ∷ qs) =
    let x = see_by_two s q in
    ap₂ (λ (a b : List Handed). a ++ b)
    (handed_beside st x
    ∙ ap₂ (λ (a b : List Block). map (handed_from First) a ++ map (handed_from Second) b) (meets_hands (m First) (seen_for First x))
    (meets_hands (m Second) (seen_for Second x))
    ∙ sym (handed_beside st' x))
    (same-heard s (act_of_two st x) (act_of_two st' x)
    (λ w. subst₂ Meets (sym (state_beside w st x)) (sym (state_beside w st' x)) (meets-after (m w) (seen_for w x))) qs)

-- a packet that can't be read leaves both streams as a fresh reader has them
pub both-after-unread :
    (s : Streams) (st : TwoState) (q : List ℕ) → see_by_two s q ≡ unreadable → (qs : List (List ℕ))
    → heard_by_two s st (q ∷ qs) ≡ heard_by_two s fresh_of_two qs
unfolding heard handed_of_two act_of_two
both-after-unread s st q e qs = rw e (same-heard s (act_of_two st unreadable) fresh_of_two go qs)
  where
    go : (w : Whose) → Meets (state_for w (act_of_two st unreadable)) (state_for w fresh_of_two)
    go First = both-idle
    go Second = both-idle

-- it can't be read by either
pub seen-unreadable : (s : Streams) (w : Whose) (q : List ℕ) → length q ≡ packet_length → Unreadable (setting_for w s) q → see_by_two s q ≡ unreadable
unfolding see_by_two seen_by_two_as see
seen-unreadable s w q long u = rw (unreadable_junk (first_of s) q long (first w u))
  where
    first : (w : Whose) → Unreadable (setting_for w s) q → Unreadable (first_of s) q
    first First u = u
    first Second (address e) = address e
    first Second (zero a m y e) = zero a m y e

-- ---- what stands in the other's pages

-- a packet 0 that opens a stream's page is one that names it, so what is read for a stream stands in its pages
pub opened-stands :
    (s : Setting) (q : List ℕ) → length q ≡ packet_length → {index n : ℕ} → see s q ≡ ours index n → (stands : Bool) → stands_after s stands q ≡ true
unfolding see_y see_zero
opened-stands s q long {index} {n} seen stands =
    go (decodes 2 q) (eqb (magazine_in q) (s.magazine % 8)) (eqb (number_in q) 0) (leb (number_in q) 25) (decodes 6 (drop 2 q))
    (both (eqb (page_in q) s.page) (eqb (number_of_stream q) s.stream)) _ _ _ _ _
    (rw (get_or-drop 2 q 0 0, get_or-drop 2 q 1 0, get_or-drop 2 q 4 0) at (sym (sees s q long) ∙ seen))
  where
    go :
        (t m z u d e : Bool) (i c y p : ℕ) (l : List ℕ)
        → pick t (pick m (pick z (pick d (pick e (ours i c) foreign) junk) (pick u (packet_y y p l) other)) other) junk ≡ ours index n
        → pick (both t (both m z)) (both d e) stands ≡ true
    go true true true u true true i c y p l h = refl
    go true true true u true false i c y p l h = cc
    go true true true u false e i c y p l h = cc
    go true true false true d e i c y p l h = cc
    go true true false false d e i c y p l h = cc
    go true false z u d e i c y p l h = cc
    go false m z u d e i c y p l h = cc

-- to a reader whose page is shut the two come to the same, and its page stays shut
record Alike (st : State) (x y : Seen) : Type 0 where
  state : act st x ≡ act st y
  blocks : handed st x ≡ handed st y
  shut : (act st x).page ≡ Shut

-- so any two packets do that aren't packets 0 of our magazine and have one address
alike :
    (st : State) → st.page ≡ Shut → (t m z u : Bool) → both t (both m z) ≡ false → (x y : Seen) (n p r : ℕ) (a b : List ℕ)
    → Alike st (pick t (pick m (pick z x (pick u (packet_y n p a) other)) other) junk) (pick t (pick m (pick z y (pick u (packet_y n r b) other)) other) junk)
unfolding act
alike st e true true true u f x y n p r a b = let c : ◌≡◌ {A = ℕ} 0 1 = cc in absurd (omega arith)
alike st e true true false true f x y n p r a b =
    record {
      state = act-shut n p a st e ∙ sym (act-shut n r b st e);
      blocks = handed-shut n p a st e ∙ sym (handed-shut n r b st e);
      shut = ap (λ (x : State). x.page) (act-shut n p a st e) ∙ e;
    }
alike st e true true false false f x y n p r a b = record { state = refl; blocks = refl; shut = e }
alike st e true false z u f x y n p r a b = record { state = refl; blocks = refl; shut = e }
alike st e false m z u f x y n p r a b = record { state = refl; blocks = refl; shut = refl }

module _ (s t : Setting) (magazine : s.magazine ≡ t.magazine) (stream : s.stream ≡ t.stream → ⊥) where
  as-zero : (q : List ℕ) {e : Bool} → is_zero s q ≡ e → is_zero t q ≡ e
  as-zero q h = ap (λ (n : ℕ). both (decodes 2 q) (both (eqb (magazine_in q) (n % 8)) (eqb (number_in q) 0))) (sym magazine) ∙ h

  -- a packet 0 that names the one stream is another page's to the reader of the other
  named-foreign : (q : List ℕ) → length q ≡ packet_length → is_zero s q ≡ true → names_us s q ≡ true → see t q ≡ foreign
  named-foreign q long h n =
      let a = both_true (decodes 2 q) _ (as-zero q h) in
      let b = both_true (eqb (magazine_in q) (t.magazine % 8)) _ a.1 in
      let c = both_true (decodes 6 (drop 2 q)) _ n in
      let d = both_true (eqb (page_in q) s.page) _ c.1 in
      let z : (page_in q ≡ t.page) × (number_of_stream q ≡ t.stream) → ⊥ = λ w. stream (sym (eqb-true (number_of_stream q) s.stream d.1) ∙ w.1) in
      sees t q long ∙ rw (a.0, b.0, eqb-true (number_in q) 0 b.1, header-seen t q c.0 z)

  numbered-shut : (st : State) → st.page ≡ Shut → (q : List ℕ) → length q ≡ packet_length → is_zero s q ≡ false → (act st (see t q)).page ≡ Shut
  unfolding see_y
  numbered-shut st e q long h =
      let here : Alike st (see t q) (see t q) =
      rw (sees t q long)
      (alike st e (decodes 2 q) (eqb (magazine_in q) (t.magazine % 8)) (eqb (number_in q) 0) (leb (number_in q) 25) (as-zero q h) _ _ _ _ _ _ _) in
      here.shut

  -- while the last packet 0 names the one stream the other's page is shut
  stays-shut :
      (st : State) (stands : Bool) → (stands ≡ true → st.page ≡ Shut) → (q : List ℕ) → length q ≡ packet_length → stands_after s stands q ≡ true
      → (act st (see t q)).page ≡ Shut
  stays-shut st stands shut q long = go (is_zero s q) refl
    where
      go : (e : Bool) → is_zero s q ≡ e → pick e (names_us s q) stands ≡ true → (act st (see t q)).page ≡ Shut
      go true h n = rw (named-foreign q long h n, act_foreign)
      go false h n = numbered-shut st (shut n) q long h

  one_address :
      (st : State) → st.page ≡ Shut → (x y : ℕ) (a b : List ℕ) → length a ≡ 40 → length b ≡ 40 → is_zero s (x ∷ y ∷ a) ≡ false
      → Alike st (see t (x ∷ y ∷ a)) (see t (x ∷ y ∷ b))
  unfolding see_y decodes
  one_address st e x y a b la lb h =
      let q = x ∷ y ∷ a in
      rw (sees t q (omega arith), sees t (x ∷ y ∷ b) (omega arith))
      (alike st e (decodes 2 q) (eqb (magazine_in q) (t.magazine % 8)) (eqb (number_in q) 0) (leb (number_in q) 25) (as-zero q h) _ _ _ _ _ _ _)

  -- so a reader of the other hands out the same
  unmoved :
      (st : State) {stands : Bool} → (stands ≡ true → st.page ≡ Shut) → {qs rs : List (List ℕ)} → Differing s stands qs rs
      → heard_blocks t st qs ≡ heard_blocks t st rs
  unfolding heard_blocks
  unmoved st shut ended = refl
  unmoved st {stands} shut (same {q = q} long d) =
      ap (λ (bs : List Block). handed st (see t q) ++ bs) (unmoved (act st (see t q)) (stays-shut st stands shut q long) d)
  unmoved st shut (differs {x} {y} {a} {b} {rs = rs} la lb h d) =
      let here = one_address st (shut refl) x y a b la lb h in
      ap₂ (λ (a b : List Block). a ++ b) here.blocks
      (unmoved (act st (see t (x ∷ y ∷ a))) (λ e. here.shut) d ∙ ap (λ (x : State). heard_blocks t x rs) here.state)

-- however the bytes differ that stand in one stream's pages, the other's blocks are the same
pub other_unmoved :
    (s : Streams) → in_range_of_two s ≡ true → (w : Whose) {qs rs : List (List ℕ)} → Differing (setting_for w s) false qs rs
    → blocks_for (the_other w) (heard_by_two s fresh_of_two qs) ≡ blocks_for (the_other w) (heard_by_two s fresh_of_two rs)
other_unmoved s h w {qs} {rs} d =
    fresh_beside s h (the_other w) qs
    ∙ unmoved (setting_for w s) (setting_for (the_other w) s) (one-magazine s w) (others-stream s h w) fresh_state (λ e. refl) d
    ∙ sym (fresh_beside s h (the_other w) rs)

-- both are lists of packets of 42 bytes
pub differing-long : {s : Setting} {stands : Bool} {qs rs : List (List ℕ)} → Differing s stands qs rs → FortyTwo qs × FortyTwo rs
differing-long ended = (none, none)
differing-long (same long d) = let r = differing-long d in (more long r.0, more long r.1)
differing-long (differs {x} {y} {a} {b} la lb h d) =
    let r = differing-long d in
    (more {p = x ∷ y ∷ a} (omega arith) r.0, more {p = x ∷ y ∷ b} (omega arith) r.1)
