-- The customer's fault of March can't happen: once a packet's address, or one of the six bytes of our magazine's packet 0, can't be
-- decoded, the reader hands out what a fresh reader would, whatever it held and whatever comes. So no block that it hands out holds
-- a byte from before. Assumes nothing.
use mathlib.Core.Path.{◌≡◌, ◌∙◌, refl, sym, ap₂}
use mathlib.Core.Bool.{true, false}
use mathlib.Core.List.{List, [], ◌∷◌, ◌++◌}
use Prim.Native.Nat.{ℕ, ◌%◌}
use lib.ListN.{length, get_or}
use borrow.Author.Tests.{eq-eqb}
use Rattle.laws.proofs.Picks.{same}
use Rattle.laws.proofs.Tests.{both_false}
use Rattle.octet.specs.Decoding.{nib}
use Rattle.blocks.specs.Block.{Block}
use Rattle.packet.specs.declared.Setting.{Setting}
use Rattle.packet.specs.Setting.{in_range}
use Rattle.packet.specs.Packet.{packet_length}
use Rattle.writer.specs.Cutting.{FortyTwo, more}
use Rattle.pages.specs.declared.headers.Page.TheVariants.{Shut}
use Rattle.walk.specs.Mode.{off}
use Rattle.pages.specs.Headers.{Seen, junk, other, foreign, ours, packet_y, see_zero}
use Rattle.pages.specs.Seen.{see, see_y}
use Rattle.pages.proofs.Judged.{sees, see-junk}
use Rattle.state.specs.Acting.{State, act, handed}
use Rattle.pages.specs.Judging.{breaks}
use Rattle.state.specs.State.{reader_of, fresh_state, Sound}
use Rattle.state.proofs.Ranging.{sound-fresh}
use Rattle.claims.specs.Carrying.{heard_blocks}
use Rattle.claims.specs.Feeding.{Call, packets_of, comes_out}
use Rattle.claims.specs.March.{Unreadable, address, zero}
use Rattle.claims.proofs.Fed.{fed-blocks}

-- a reader with no page open and nothing running; of any index
abbrev idle_at : ℕ → State
idle_at index = record { page = Shut; index = index; mode = off; joined = false }

-- of two such readers a packet makes two such again, or makes them the same
pub data Meets : State → State → Type 0 where
  both-idle : {i j : ℕ} → Meets (idle_at i) (idle_at j)
  one : {st : State} → Meets st st

idle_meets : (i j : ℕ) (x : Seen) → Meets (act (idle_at i) x) (act (idle_at j) x)
unfolding act
idle_meets i j junk = both-idle
idle_meets i j other = both-idle
idle_meets i j foreign = both-idle
idle_meets i j (ours k n) =
    rw (
      same (breaks Shut i k n) {a = off} refl refl,
      same (breaks Shut j k n) {a = off} refl refl,
      both_false,
      same (breaks Shut i k n) {a = false} refl refl,
      same (breaks Shut j k n) {a = false} refl refl,
    )
    one
idle_meets i j (packet_y y p l) = both-idle

idle_hands : (i j : ℕ) (x : Seen) → handed (idle_at i) x ≡ handed (idle_at j) x
unfolding handed
idle_hands i j junk = refl
idle_hands i j other = refl
idle_hands i j foreign = refl
idle_hands i j (ours k n) = refl
idle_hands i j (packet_y y p l) = refl

pub meets-after : {st st' : State} → Meets st st' → (x : Seen) → Meets (act st x) (act st' x)
meets-after (both-idle {i} {j}) x = idle_meets i j x
meets-after one x = one

pub meets_hands : {st st' : State} → Meets st st' → (x : Seen) → handed st x ≡ handed st' x
meets_hands (both-idle {i} {j}) x = idle_hands i j x
meets_hands one x = refl

same_blocks : (s : Setting) {st st' : State} (qs : List (List ℕ)) → Meets st st' → heard_blocks s st qs ≡ heard_blocks s st' qs
unfolding heard_blocks
same_blocks s [] m = refl
same_blocks s {st = st} {st' = st'} (q ∷ qs) m = ap₂ (λ (a b : List Block). a ++ b) (meets_hands m (see s q)) (same_blocks s {st = act st (see s q)} {st' = act st' (see s q)} qs (meets-after m (see s q)))

after_junk : (st : State) (x : Seen) → x ≡ junk → act st x ≡ idle_at st.index
unfolding act
after_junk st x e = rw e

after-unread :
    (s : Setting) (st : State) (q : List ℕ) → see s q ≡ junk → (qs : List (List ℕ))
    → heard_blocks s st (q ∷ qs) ≡ heard_blocks s fresh_state qs
unfolding heard_blocks handed
after-unread s st q e qs = rw (e, after_junk st junk refl) (same_blocks s qs both-idle)

pub unreadable_junk : (s : Setting) (q : List ℕ) → length q ≡ packet_length → Unreadable s q → see s q ≡ junk
unfolding see_y see_zero
unreadable_junk s q long (address e) = see-junk s q e
unreadable_junk s q long (zero a m y e) = sees s q long ∙ rw (a, eq-eqb (nib (get_or q 0 0) % 8) (s.magazine % 8) m, y, e)

-- whatever a reader holds, once a packet can't be read its calls write what a fresh reader's would, whatever comes
pub march :
    (s : Setting) → in_range s ≡ true → (st : State) → Sound st → (c : Call) → Unreadable s c.packet → (cs : List Call)
    → FortyTwo (packets_of (c ∷ cs)) → comes_out s (reader_of st) (c ∷ cs) ≡ comes_out s (reader_of fresh_state) cs
unfolding packets_of
march s a st r c u cs (more l f) =
    fed-blocks s a st r (c ∷ cs) (more l f)
    ∙ after-unread s st c.packet (unreadable_junk s c.packet l u) (packets_of cs)
    ∙ sym (fed-blocks s a fresh_state sound-fresh cs f)
