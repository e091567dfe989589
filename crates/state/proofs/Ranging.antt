-- The states that calls leave: a taken packet's state is in range again, and a reader holds it without loss. So a fresh reader, and
-- whatever a run of packets makes of it, is never refused for its state. Assumes nothing.
use mathlib.Core.Path.{◌≡◌, refl, ap}
use mathlib.Core.Bool.{Bool, true, false}
use mathlib.Core.List.{List}
use Prim.Native.Nat.{ℕ, zero, suc, ◌-◌, ◌≤◌}
use native.Mathlib.Omega.{arith}
use lib.Dec.{eqb, leb}
use lib.ListN.{length, drop, replicate}
use lib.Seq.{take-append_seam, drop-append_seam}
use borrow.Author.Tests.{le-leb}
use Rattle.laws.specs.Pick.{pick, both, either}
use Rattle.laws.proofs.Tests.{both-second, both_true}
use Rattle.walk.proofs.Along.{drop-good, read-good}
use Rattle.pages.proofs.Judged.{Shaped, shaped}
use Rattle.blocks.specs.Block.{size_of}
use Rattle.packet.specs.declared.Setting.{Setting}
use Rattle.pages.specs.declared.headers.Page.{Page}
use Rattle.pages.specs.declared.headers.Page.TheVariants.{Shut, Open}
use Rattle.walk.specs.Mode.{Mode, off, scan, heading, body, running, Good}
use Rattle.walk.specs.Store.{store_length, zeroed, mode_of, run_of, held_of}
use Rattle.state.specs.State.{state_of, reader_of, zeros, page_in_range, run_in_range, joined_in_range, held_by, reader_in_range, fresh_state, Sound}
use Rattle.state.specs.Acting.{State, spans, pointer_of, bytes_of, act}
use Rattle.pages.specs.declared.headers.Verdict.{Verdict}
use Rattle.pages.specs.Judging.{verdict_of}
use Rattle.walk.specs.Reading.{drop_if, read_mode, read_joined}
use Rattle.pages.specs.Headers.{Seen, junk, other, foreign, ours, packet_y}
use Rattle.pages.specs.Seen.{see}
use Rattle.state.proofs.Clearing.{untrue}

-- ---- the state

-- a verdict leaves page and index in range
verdict-sound :
    (q : List ℕ) (page : Page) (index : ℕ) (x : Seen) → Shaped q x → page_in_range page ≡ true → index ≤ 15
    → (page_in_range (verdict_of page index x).page ≡ true) × ((verdict_of page index x).index ≤ 15)
verdict-sound q page index junk w e i = (refl, i)
verdict-sound q page index other w e i = (e, i)
verdict-sound q page index foreign w e i = (refl, i)
verdict-sound q page index (ours k n) w e i = (go (leb n 25) refl, w)
  where
    go : (t : Bool) → leb n 25 ≡ t → page_in_range (pick t (Open n 0) Shut) ≡ true
    go true f = rw (f, le-leb 0 n (omega arith))
    go false f = refl
verdict-sound q Shut index (packet_y y p l) w e i = (refl, i)
verdict-sound q (Open n last) index (packet_y y p l) w e i = (go (leb y n) refl, i)
  where
    go : (t : Bool) → leb y n ≡ t → page_in_range (pick t (Open n y) (Open n last)) ≡ true
    go true f = rw ((both_true (leb n 25) (leb last n) e).0, f)
    go false f = e

-- what is left running by a verdict, where that spans pages
still_runs :
    (m : Mode) (d o j : Bool) → (j ≡ true → running m ≡ true) → pick d false (either (both o (running m)) j) ≡ true
    → running (drop_if d m) ≡ true
still_runs m true o j f e = untrue e
still_runs m false o j f e = go o (running m) f e
  where
    go : (o r : Bool) → (j ≡ true → r ≡ true) → either (both o r) j ≡ true → r ≡ true
    go true true f e = refl
    go true false f e = f e
    go false r f e = f e

act-sound : (q : List ℕ) (st : State) (x : Seen) → Shaped q x → Sound st → Sound (act st x)
unfolding act
act-sound q st x w r =
    let u = verdict-sound q st.page st.index x w r.page r.index in
    record { page = u.0; index = u.1; mode = go v.reads; joined = run v.reads }
  where
    v : Verdict
    v = verdict_of st.page st.index x

    m : Mode
    m = drop_if v.drops st.mode

    go : (t : Bool) → Good (pick t (read_mode m (pointer_of x) (bytes_of x)) m)
    go true = read-good m (pointer_of x) (bytes_of x) (drop-good v.drops st.mode r.mode)
    go false = drop-good v.drops st.mode r.mode

    run :
        (t : Bool) → pick t (read_joined (spans v st) m (pointer_of x) (bytes_of x)) (spans v st) ≡ true
        → running (pick t (read_mode m (pointer_of x) (bytes_of x)) m) ≡ true
    run true e = both-second (eqb (pointer_of x) 13) _ (both-second (spans v st) _ e)
    run false e = still_runs st.mode v.drops v.opens st.joined r.joined e

-- a taken packet's state is in range again
pub sound-after : (s : Setting) (st : State) (q : List ℕ) → Sound st → Sound (act st (see s q))
sound-after s st q r = act-sound q st (see s q) (shaped s q) r

pub sound-fresh : Sound fresh_state
sound-fresh = record { page = refl; index = omega arith; mode = tt; joined = λ e. untrue e }

-- ---- as the reader holds it

zeros-replicate : (n : ℕ) → zeros (replicate n 0) ≡ true
unfolding zeros
zeros-replicate zero = refl
zeros-replicate (suc n) = zeros-replicate n

mode_held : (m : Mode) → Good m → mode_of (run_of m) (zeroed (held_of m)) ≡ m
unfolding zeroed
mode_held off r = refl
mode_held scan r = absurd r
mode_held (heading g v part) r = refl
mode_held (body h part held) r = ap (body h part) (take-append_seam held (replicate (store_length - length held) 0))

-- nothing is lost in holding it
pub state_held : (st : State) → Sound st → state_of (reader_of st) ≡ st
state_held st r = ap (λ (m : Mode). record { page = st.page; index = st.index; mode = m; joined = st.joined }) (mode_held st.mode r.mode)

run_in_range_lem : (m : Mode) → Good m → run_in_range (run_of m) ≡ true
run_in_range_lem off r = refl
run_in_range_lem scan r = absurd r
run_in_range_lem (heading g v part) r = rw (le-leb g 3 r.got, le-leb part (suc g) r.counted, r.only)
run_in_range_lem (body h part held) r = rw (le-leb part 5 r.1) (le-leb (length held) (size_of h) r.2)

joined_in_range_lem : (j : Bool) (m : Mode) → Good m → (j ≡ true → running m ≡ true) → joined_in_range j (run_of m) ≡ true
joined_in_range_lem true off r f = untrue (f refl)
joined_in_range_lem false off r f = refl
joined_in_range_lem j scan r f = absurd r
joined_in_range_lem j (heading g v part) r f = refl
joined_in_range_lem j (body h part held) r f = refl

zeros-past : (m : Mode) → zeros (drop (held_by (run_of m)) (zeroed (held_of m))) ≡ true
unfolding zeroed
zeros-past off = zeros-replicate 2047
zeros-past scan = zeros-replicate 2047
zeros-past (heading g v part) = zeros-replicate 2047
zeros-past (body h part held) = rw (drop-append_seam held (replicate (store_length - length held) 0)) (zeros-replicate (store_length - length held))

-- and what is held is in range
pub reader_in_range_lem : (st : State) → Sound st → reader_in_range (reader_of st) ≡ true
unfolding reader_in_range
reader_in_range_lem st r =
    rw (
      r.page,
      le-leb st.index 15 r.index,
      run_in_range_lem st.mode r.mode,
      joined_in_range_lem st.joined st.mode r.mode r.joined,
    )
    (zeros-past st.mode)
