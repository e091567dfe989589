-- A reader that calls leave holds a state in range, whatever the settings, bytes and rooms of the calls, where the one that they began with does: said
-- once, of any reader. Assumes nothing.
use mathlib.Core.Path.{◌≡◌, ◌∙◌, sym, ap, subst}
use mathlib.Core.Bool.{Bool, true, false}
use mathlib.Core.Logic.{◌⊎◌, inl, inr}
use mathlib.Core.List.{List}
use Prim.Native.Nat.{ℕ, zero, suc, ◌+◌, ◌/◌}
use lib.Dec.{leb}
use lib.ListN.{length, take, drop}
use Rattle.laws.specs.Pick.{pick}
use Rattle.answer.specs.Rules.{Rule, judged, Every, First}
use Rattle.answer.proofs.Judging.{decided, passes, refuses}
use Rattle.packet.specs.Packet.{packet_length}
use Rattle.reader.specs.Taking.{Heard, HeardAll}
use Rattle.reader.specs.Calls.{Tuned, Ran, begun, ran_on, run, ran_all, feed_rules, feed_reader, feed_all_rules, feed_all_reader}
use Rattle.claims.specs.CutLine.{HeldBy, LeavesBy, none, one, many}

judged-either : {A : Type 0} (P : A → Type 0) (rules : List Rule) (a b : A) → P a → P b → P (judged (λ number offset. a) rules b)
judged-either P rules a b p q = go (decided rules)
  where
    go : Every rules ⊎ ((r : Rule) × First r rules) → P (judged (λ number offset. a) rules b)
    go (inl every) = subst P (sym (passes (λ number offset. a) b every)) q
    go (inr w) = subst P (sym (refuses (λ number offset. a) b w.1)) p

-- some state in range that it holds
abbrev pub Holds : {R S : Type 0} → (S → Type 0) → (S → R) → R → Type 0
Holds {R} {S} Sound hold r = (st : S) × HeldBy Sound hold r st

module _ {X R S B : Type 0} (tuned : X → Tuned R S B) (Sound : S → Type 0) (hold : S → R)
    (back : (x : X) (st : S) → Sound st → (tuned x).state (hold st) ≡ st) (same : (x : X) (st : S) → (tuned x).held st ≡ hold st)
    (after : (x : X) (st : S) (p : List ℕ) → Sound st → Sound ((tuned x).does.act st p)) where
  still-sound : (x : X) (r : R) → Holds Sound hold r → Sound ((tuned x).state r)
  still-sound x r (st, h) = subst Sound (sym (ap (tuned x).state h.whole ∙ back x st h.sound)) h.sound

  holds : (x : X) (st : S) → Sound st → Holds Sound hold ((tuned x).held st)
  holds x st r = (st, record { sound = r; whole = same x st })

  run_sound : (x : X) (long n : ℕ) (a : Ran S B) (l : List ℕ) → Sound a.state → Sound (run (tuned x).does long n a l).state
  run_sound x long zero a l r = r
  run_sound x long (suc n) a l r =
      go (leb (length ((tuned x).does.bytes a.blocks) + (tuned x).does.room) long) _
      (run_sound x long n (ran_on (tuned x).does a (take packet_length l)) (drop packet_length l) (after x a.state (take packet_length l) r))
    where
      go : (t : Bool) (y : Ran S B) → Sound y.state → Sound (pick t y a).state
      go true y h = h
      go false y h = r

  module _ (One : X → R → List ℕ → List ℕ → Heard → R → List ℕ → Type 0) (All : X → R → List ℕ → List ℕ → HeardAll → R → List ℕ → Type 0)
      (one-says : (x : X) (r next : R) (q old out : List ℕ) (h : Heard) → One x r q old h next out → next ≡ feed_reader (tuned x) r q old)
      (all-says : (x : X) (r next : R) (l old out : List ℕ) (h : HeardAll) → All x r l old h next out → next ≡ feed_all_reader (tuned x) r l old) where
    pub leaves-held : {r left : R} → LeavesBy One All r left → Holds Sound hold r → Holds Sound hold left
    leaves-held none h = h
    leaves-held (one {r = r} {x = x} {q = q} {old = old} call more) h =
        let now = (tuned x).does.act ((tuned x).state r) q in
        leaves-held more
        (subst (Holds Sound hold) (sym (one-says _ _ _ _ _ _ _ call))
        (judged-either (Holds Sound hold) (feed_rules (tuned x) r q old) r ((tuned x).held now) h
        (holds x now (after x ((tuned x).state r) q (still-sound x r h)))))
    leaves-held (many {r = r} {x = x} {l = l} {old = old} call more) h =
        let now = (ran_all (tuned x) r l old).state in
        leaves-held more
        (subst (Holds Sound hold) (sym (all-says _ _ _ _ _ _ _ call))
        (judged-either (Holds Sound hold) (feed_all_rules (tuned x) r l old) r ((tuned x).held now) h
        (holds x now (run_sound x (length old) (length l / packet_length) (begun ((tuned x).state r)) l (still-sound x r h)))))
