-- A verdict that is heeded is what the packet does: the running block is dropped or not, then the packet's bytes are read or not.
-- Assumes nothing.
use mathlib.Core.Path.{◌≡◌, ◌∙◌, refl, ap}
use mathlib.Core.Bool.{Bool, true, false}
use mathlib.Core.List.{List, []}
use Prim.Native.Nat.{ℕ}
use lib.ListN.{get_or, drop}
use Rattle.laws.specs.Pick.{both}
use Rattle.octet.specs.Decoding.{nib}
use Rattle.packet.specs.declared.Setting.{Setting}
use Rattle.pages.specs.declared.headers.Verdict.{Verdict}
use Rattle.pages.specs.Headers.{Seen, junk, other, foreign, ours, packet_y}
use Rattle.pages.specs.Seen.{see, seen_as}
use Rattle.packet.specs.Address.{address_of}
use Rattle.pages.specs.Judging.{verdict_of}
use Rattle.pages.proofs.Judged.{Shaped, shaped}
use Rattle.walk.specs.declared.Got.{Got}
use Rattle.walk.specs.Mode.{Mode, off, scan, heading, body, running}
use Rattle.walk.specs.Reading.{drop_if, spans_still, read_mode}
use Rattle.walk.specs.Store.{mode_of, run_of}
use Rattle.walk.specs.Internal.{Kept, Went, ReadPacket, runs}
use Rattle.walk.proofs.Keeping.{holds_mode}
use Rattle.laws.proofs.Tests.{either_false}
use Rattle.walk.proofs.Adding.{went_nowhere, went_on}
use Rattle.reader.specs.declared.many.Going.{Going}
use Rattle.state.specs.Acting.{State, spans, act, handed, dropped}
use Rattle.reader.specs.Internal.{Heeded, Acted, state_in}

-- ---- what the code does by a verdict

runs_of : (m : Mode) → runs (run_of m) ≡ running m
runs_of off = refl
runs_of scan = refl
runs_of (heading g v part) = refl
runs_of (body h part held) = refl

module _ (v : Verdict) (p : ℕ) (l : List ℕ) (st : State) {a : Going} {g : Got} {between old : List ℕ}
    (w : Went (drop_if v.drops st.mode) [] (both v.drops (running st.mode)) a.got g between old old) where
  pub heed-only :
      {j : Bool} → v.reads ≡ false → j ≡ spans v st
      → Heeded v p l st a (record { page = v.page; index = v.index; joined = j; got = g }) between old old
  heed-only e f = rw (e, either_false) (record { page = refl; index = refl; joined = f; went = w })

  pub heed-read :
      {h : Got} {j k : Bool} {store new : List ℕ} → v.reads ≡ true → j ≡ spans v st
      → ReadPacket j (mode_of g.run between) p l g h store old new → k ≡ spans_still j p (runs h.run)
      → Heeded v p l st a (record { page = v.page; index = v.index; joined = k; got = h }) store old new
  heed-read {h} {j} {k} {store} {new} e f z q =
      let m = holds_mode (drop_if v.drops st.mode) w.holds in
      let y : ReadPacket (spans v st) (drop_if v.drops st.mode) p l g h store old new = rw (m, f) at z in
      let after = read_mode (drop_if v.drops st.mode) p l in
      let r : runs h.run ≡ running after = ap runs y.holds.run ∙ runs_of after in
      rw e (record { page = refl; index = refl; joined = q ∙ rw (f, r); went = went_on w y })

-- ---- it is what the packet does

module _ (s : Setting) (p : List ℕ) (st : State) (a r : Going) (store old new : List ℕ) where
  -- only a packet Y is read, by its own pointer and bytes
  fits :
      (x : Seen) → Shaped p x → Heeded (verdict_of st.page st.index x) (nib (get_or p 2 0)) (drop 3 p) st a r store old new
      → Acted x st a r store old new
  unfolding act handed dropped
  fits junk e w = w
  fits other e w = w
  fits foreign e w = w
  fits (ours index n) e w = w
  fits (packet_y y q l) e w = rw (e.0, e.1) w

  pub acted :
      {v : Verdict} {x : ℕ} → x ≡ address_of p → v ≡ verdict_of st.page st.index (seen_as s x p)
      → Heeded v (nib (get_or p 2 0)) (drop 3 p) st a r store old new → Acted (see s p) st a r store old new
  unfolding see
  acted f e w = fits (see s p) (shaped s p) (rw (e, f) at w)

-- nothing changes
pub act-other :
    (a : Going) {store : List ℕ} (out : List ℕ) → Kept a.got.run store → {x : Seen} → x ≡ other
    → Acted x (state_in a store) a a store out out
unfolding act handed dropped
act-other a out k e = rw e (record { page = refl; index = refl; joined = refl; went = went_nowhere a.got out k })
