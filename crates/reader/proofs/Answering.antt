-- The answers of a reader's calls, whatever a packet does: of the call for a list from its tests in order and from what the packets did, and of the
-- call for one packet from those for a list of one. Assumes nothing.
use mathlib.Core.Path.{◌≡◌, ◌∙◌, refl, sym, ap}
use mathlib.Core.Bool.{Bool, true, false}
use mathlib.Core.List.{List, []}
use Prim.Native.Nat.{ℕ, ◌%◌, ◌≤◌}
use native.Mathlib.Omega.{arith}
use lib.Dec.{eqb, leb}
use lib.ListN.{length}
use borrow.Author.Tests.{leb-true, eq-eqb, ne_eqb, eqb-true, eqb-false}
use Rattle.laws.specs.Pick.{pick, both}
use Rattle.laws.proofs.Lists.{sets-front}
use Rattle.laws.proofs.Tests.{both_false}
use Rattle.packet.specs.Packet.{packet_length}
use Rattle.reader.specs.Taking.{Heard, took_all}
use Rattle.reader.specs.Calls.{Tuned, Ran, begun, refused_heard, feed_heard, feed_reader, feed_out, feed_all_heard, feed_all_reader, feed_all_out}
use Rattle.reader.specs.Internal.{told, CameTo, reading, laid, one_heard, one_reader, one_out}
use Rattle.reader.proofs.Running.{run-one}

-- ---- a list of packets

-- what packets have come to is what is heard of them, and their bytes stand at the front of the output
module _ {S B : Type 0} {bytes : List B → List ℕ} {b : Ran S B} {count blocks written : ℕ} {drops : Bool} {old new : List ℕ}
    (w : CameTo bytes b count blocks written drops old new) where
  pub came_took : took_all count blocks written drops ≡ took_all b.packets (length b.blocks) (length (bytes b.blocks)) b.dropped
  came_took = rw (w.packets, w.blocks, w.written, w.dropped)

  pub came_out : written ≤ length old → new ≡ laid (bytes b.blocks) old
  came_out f = w.out ∙ sets-front old (bytes b.blocks) (omega (arith, f, w.written))

-- ---- one packet

abbrev Answers : {R S B : Type 0} → Tuned R S B → R → List ℕ → List ℕ → Heard → R → List ℕ → Type 0
Answers t r p old h after new = (h ≡ feed_heard t r p old) × ((after ≡ feed_reader t r p old) × (new ≡ feed_out t r p old))

module _ {R S B : Type 0} (t : Tuned R S B) (none : t.does.bytes [] ≡ []) (r : R) (p old : List ℕ) where
  pub other_length : ¬ (length p ≡ packet_length) → Answers t r p old (refused_heard 16 0) r old
  other_length n = rw (ne_eqb _ _ n, both_false, both_false) (refl, (refl, refl))

  of-list :
      length p ≡ packet_length
      → Answers t r p old (told (feed_all_heard t r p old)) (feed_all_reader t r p old) (feed_all_out t r p old)
  of-list l = go (both t.fits (both (t.in_range r) true)) refl (leb t.does.room (length old)) refl
    where
      z : length p % packet_length ≡ 0
      z = omega (arith, l)

      go :
          (ready : Bool) → ready ≡ both t.fits (both (t.in_range r) true) → (enough : Bool) → enough ≡ leb t.does.room (length old)
          → Answers t r p old (told (feed_all_heard t r p old)) (feed_all_reader t r p old) (feed_all_out t r p old)
      go false e enough f = rw (eq-eqb _ _ l, eq-eqb _ _ z, ← e) (refl, (refl, refl))
      go true e false f = rw (eq-eqb _ _ l, eq-eqb _ _ z, ← e, ← f) (refl, (refl, refl))
      go true e true f =
          let enough = leb-true t.does.room (length old) (sym f) in
          rw (eq-eqb _ _ l, eq-eqb _ _ z, ← e, ← f, run-one t.does (length old) (begun (t.state r)) p l (rw none (omega (arith, enough))))
          (refl, (refl, refl))

-- the packet as a list of one
module _ {X R S B : Type 0} (t : X → Tuned R S B) (x : X) (none : (t x).does.bytes [] ≡ []) (r : R) (p old : List ℕ) where
  abbrev need : ℕ
  need = (t x).does.room

  pub one :
      Answers (t x) r p old (one_heard (reading t) need x r p old) (one_reader (reading t) need x r p old) (one_out (reading t) need x r p old)
  one = go (eqb (length p) packet_length) refl
    where
      go :
          (long : Bool) → eqb (length p) packet_length ≡ long
          → Answers (t x) r p old (one_heard (reading t) need x r p old) (one_reader (reading t) need x r p old) (one_out (reading t) need x r p old)
      go true e =
          let it = of-list (t x) none r p old (eqb-true _ _ e) in (
            ap (λ (i : Bool). pick i (told (feed_all_heard (t x) r p old)) (refused_heard 16 0)) e ∙ it.0,
            (
              ap (λ (i : Bool). pick i (feed_all_reader (t x) r p old) r) e ∙ it.1.0,
              ap (λ (i : Bool). pick i (feed_all_out (t x) r p old) old) e ∙ it.1.1,
            ),
          )
      go false e =
          let it = other_length (t x) none r p old (eqb-false _ _ e) in (
            ap (λ (i : Bool). pick i (told (feed_all_heard (t x) r p old)) (refused_heard 16 0)) e ∙ it.0,
            (
              ap (λ (i : Bool). pick i (feed_all_reader (t x) r p old) r) e ∙ it.1.0,
              ap (λ (i : Bool). pick i (feed_all_out (t x) r p old) old) e ∙ it.1.1,
            ),
          )
