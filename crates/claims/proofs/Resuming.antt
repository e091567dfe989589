-- Up to the next packet 0 of ours nothing comes out, and a block that lives through that has a second byte 1. So of packets that begin there a
-- reader hands out at most one block with a second byte 1, and then what the same reader with nothing running would. Assumes nothing.
use mathlib.Core.Path.{◌≡◌, refl, subst}
use mathlib.Core.Bool.{Bool, true, false}
use mathlib.Core.Logic.{◌⊎◌, inl, inr}
use mathlib.Core.List.{List, [], ◌∷◌}
use Prim.Native.Nat.{ℕ, zero, suc, ◌≤◌, ◌<◌}
use Rattle.laws.proofs.Picks.{same}
use Rattle.blocks.specs.Block.{Block}
use Rattle.packet.specs.declared.Setting.{Setting}
use Rattle.packet.specs.Packet.{packet_zero}
use Rattle.symbols.specs.Stream.{Symbol}
use Rattle.writer.specs.Cutting.{pages}
use Rattle.pages.specs.declared.headers.Page.TheVariants.{Shut}
use Rattle.pages.specs.Headers.{Seen, junk, other, foreign, ours, packet_y}
use Rattle.pages.specs.Seen.{see}
use Rattle.pages.specs.Judging.{incomplete}
use Rattle.walk.specs.Mode.{Mode, off}
use Rattle.walk.specs.Reading.{drop_if}
use Rattle.state.specs.Acting.{State, act, handed}
use Rattle.claims.specs.Noise.{Hears, Near}
use Rattle.claims.specs.Mingled.{Kind, elsewhere, header, row, Mingled, sent, between, begins, goes}
use Rattle.claims.specs.Carrying.{heard_blocks}
use Rattle.claims.specs.CutLine.{Becomes, Behind, alone, after}
use Rattle.claims.proofs.Hearing.{zero-heard, Beside, passed, named, numbered, high, lost}
use Rattle.claims.proofs.Losing.{came-exactly}
use Rattle.claims.proofs.Carried.{act-other, act_foreign, act-shut, handed-other, handed-shut, quiet}
use Rattle.claims.proofs.Apart.{stilled, becomes_idle, zero_apart}

-- a packet that gives nothing, with nothing running or not, and does to either what it does to the other
record Passes (st : State) (x : Seen) : Type 0 where
  here : handed st x ≡ []
  there : handed (stilled st) x ≡ []
  stills : act (stilled st) x ≡ stilled (act st x)
  lives : (b : Block) → Becomes (act st x).mode b → Becomes st.mode b

passes-other : (st : State) → Passes st other
passes-other st =
    record { here = handed-other st; there = handed-other (stilled st); stills = rw (act-other (stilled st), act-other st); lives = λ b. rw act-other (λ r. r) }

passes_foreign : (st : State) → Passes st foreign
unfolding act handed
passes_foreign st =
    record {
      here = refl;
      there = refl;
      stills = rw (same (incomplete st.page) {a = off} refl refl, same (incomplete st.page) {a = false} refl refl);
      lives = go (incomplete st.page);
    }
  where
    go : (d : Bool) (b : Block) → Becomes (drop_if d st.mode) b → Becomes st.mode b
    go true b r = absurd (becomes_idle refl r)
    go false b r = r

passes-row : (st : State) (y p : ℕ) (l : List ℕ) → st.page ≡ Shut → Passes st (packet_y y p l)
passes-row st y p l e =
    record {
      here = handed-shut y p l st e;
      there = handed-shut y p l (stilled st) e;
      stills = rw (act-shut y p l (stilled st) e, act-shut y p l st e);
      lives = λ b. rw (act-shut y p l st e) (λ r. r);
    }

-- ours is shut where another page has begun
abbrev Closed : Bool → State → Type 0
Closed false st = Unit {0}
Closed true st = st.page ≡ Shut

behind_more : {m k : Mode} {bs out : List Block} → ((b : Block) → Becomes k b → Becomes m b) → Behind k bs out → Behind m bs out
behind_more f alone = alone
behind_more f (after {b} r) = after (f b r)

module _ (s : Setting) (K : Kind → List ℕ → Type 0) (seen : (kind : Kind) (q : List ℕ) → K kind q → Beside ⊥ kind (see s q)) where
  -- what a reader hands out of packets, beside what the same with nothing running does
  abbrev Aside : State → List (List ℕ) → Type 0
  Aside st qs = Behind st.mode (heard_blocks s (stilled st) qs) (heard_blocks s st qs)

  pass : (st : State) (q : List ℕ) (qs : List (List ℕ)) → Passes st (see s q) → Aside (act st (see s q)) qs → Aside st (q ∷ qs)
  unfolding heard_blocks
  pass st q qs p r = rw (p.here, p.there, p.stills) (behind_more p.lives r)

  -- a packet between, and where it leaves the reader
  between-passes : {x : Seen} (begun : Bool) (st : State) → Beside ⊥ elsewhere x → Closed begun st → Passes st x × Closed begun (act st x)
  between-passes begun st passed c = (passes-other st, rw act-other c)
  between-passes begun st (lost x) c = absurd x

  header-passes : {x : Seen} (st : State) → Beside ⊥ header x → Passes st x × Closed true (act st x)
  header-passes st named = (passes_foreign st, rw act_foreign refl)
  header-passes st (lost x) = absurd x

  row-passes : {x : Seen} (st : State) → Beside ⊥ row x → Closed true st → Passes st x × Closed true (act st x)
  row-passes st (numbered {y} {p} {l}) c = (passes-row st y p l c, rw (act-shut y p l st c) c)
  row-passes st high c = (passes-other st, rw act-other c)
  row-passes st (lost x) c = absurd x

  module _ (R : ℕ → ℕ → Type 0) (hears : Hears R ⊥) (page : s.page < 256) (stream : s.stream < 16) (k : ℕ) (most : k ≤ 25) where
    at_zero :
        (index : ℕ) → index < 16 → {begun : Bool} {p : List ℕ} {ps mine qs : List (List ℕ)} (st : State) → Closed begun st
        → Mingled R K k 0 begun (p ∷ ps) mine qs → p ≡ packet_zero s index k → Aside st qs
    at_zero index low st c (sent {q = q} {qs = qs} n a) z = go (zero-heard s page stream index k low most R ⊥ hears (subst (λ p. Near R p q) z n))
      where
        go : (see s q ≡ ours index k) ⊎ ((see s q ≡ junk) × ⊥) → Aside st (q ∷ qs)
        go (inl e) = zero_apart s st q qs index k most e
        go (inr w) = absurd w.1
    at_zero index low {begun} st c (between {q = q} {qs = qs} e a) z =
        let t = between-passes begun st (seen elsewhere q e) c in
        pass st q qs t.0 (at_zero index low (act st (see s q)) t.1 a z)
    at_zero index low st c (begins {q = q} {qs = qs} e a) z =
        let t = header-passes st (seen header q e) in
        pass st q qs t.0 (at_zero index low (act st (see s q)) t.1 a z)
    at_zero index low st c (goes {q = q} {qs = qs} e a) z =
        let t = row-passes st (seen row q e) c in
        pass st q qs t.0 (at_zero index low (act st (see s q)) t.1 a z)

    -- where none of ours is to come nothing comes out
    at_none : {mine qs : List (List ℕ)} (st : State) → Mingled R K k 0 false [] mine qs → heard_blocks s st qs ≡ []
    at_none st a = came-exactly (λ x y e. e) (λ x. x) (quiet R ⊥ hears s K seen k st tt a)

    pub resumes :
        (p index : ℕ) → index < 16 → (ss : List Symbol) (mine qs : List (List ℕ)) (st : State) → Mingled R K k 0 false (pages s k p index ss) mine qs
        → Behind st.mode (heard_blocks s (stilled st) qs) (heard_blocks s st qs)
    unfolding pages
    resumes zero index low ss mine qs st a = rw (at_none st a, at_none (stilled st) a) alone
    resumes (suc p) index low ss mine qs st a = at_zero index low st tt a refl
