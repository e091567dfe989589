-- How much one packet can hand out: what it is seen as has at most the 39 bytes after the pointer. Assumes nothing.
use mathlib.Core.Path.{◌≡◌}
use mathlib.Core.Bool.{Bool, true, false}
use mathlib.Core.List.{List, []}
use Prim.Native.Nat.{ℕ, ◌≤◌}
use native.Mathlib.Omega.{arith}
use lib.ListN.{length, length-drop}
use Rattle.laws.specs.Pick.{pick}
use Rattle.packet.specs.declared.Setting.{Setting}
use Rattle.packet.specs.Packet.{packet_length}
use Rattle.walk.specs.Reading.{drop_if, read_blocks}
use Rattle.walk.specs.Mode.{Good}
use Rattle.walk.proofs.Along.{drop-good}
use Rattle.walk.proofs.Room.{Within, within_none, read-room}
use Rattle.state.specs.Acting.{State, spans, pointer_of, bytes_of, handed}
use Rattle.pages.specs.declared.headers.Verdict.{Verdict}
use Rattle.pages.specs.Judging.{verdict_of}
use Rattle.pages.specs.Headers.{Seen, junk, other, foreign, ours, packet_y}
use Rattle.pages.specs.Seen.{see}
use Rattle.pages.proofs.Judged.{Shaped, shaped}

bytes_few : (q : List ℕ) (x : Seen) → length q ≡ packet_length → Shaped q x → length (bytes_of x) ≤ 39
bytes_few q junk h w = omega arith
bytes_few q other h w = omega arith
bytes_few q foreign h w = omega arith
bytes_few q (ours index n) h w = omega arith
bytes_few q (packet_y y p l) h w = rw w.1 (rw length-drop (omega arith))

handed-room : (q : List ℕ) (st : State) (x : Seen) → length q ≡ packet_length → Shaped q x → Good st.mode → Within (handed st x)
unfolding handed
handed-room q st x h w g = go v.reads
  where
    v : Verdict
    v = verdict_of st.page st.index x

    go : (t : Bool) → Within (pick t (read_blocks (spans v st) (drop_if v.drops st.mode) (pointer_of x) (bytes_of x)) [])
    go true =
        read-room (spans v st) (drop_if v.drops st.mode) (pointer_of x) (bytes_of x) (drop-good v.drops st.mode g) (bytes_few q x h w)
    go false = within_none

-- a packet finishes no more than eight blocks (SCOPE 10.4), and 2,112 bytes of output hold them (SCOPE 3.5)
pub packet-room : (s : Setting) (st : State) (q : List ℕ) → length q ≡ packet_length → Good st.mode → Within (handed st (see s q))
packet-room s st q h g = handed-room q st (see s q) h (shaped s q) g
