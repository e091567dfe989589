-- What a packet does to the reader's state (SCOPE 8, 9), which blocks it finishes, and whether it drops one (SCOPE 10.5).
use Rattle.std.specs.Prelude.{Bool, false, List, [], ℕ}
use Rattle.laws.specs.Pick.{pick, both, either}
use Rattle.blocks.specs.Block.{Block}
use Rattle.pages.specs.declared.headers.Page.{Page}
use Rattle.pages.specs.declared.headers.Verdict.{Verdict}
use Rattle.pages.specs.Headers.{Seen, junk, other, foreign, ours, packet_y}
use Rattle.pages.specs.Judging.{verdict_of}
use Rattle.walk.specs.Mode.{Mode, running}
use Rattle.walk.specs.Reading.{drop_if, read_mode, read_blocks, read_joined, read_drops}

-- the reader's state: the open page, our last index, the running block, and whether that has lived through a packet 0 that opened a page of
-- ours (SCOPE 26.2)
pub record State : Type 0 where
  pub page : Page
  pub index : ℕ
  pub mode : Mode
  pub joined : Bool

-- ---- a verdict on a packet whose pointer is p, and the 39 bytes l after it: the running block is dropped or not, and then they are
-- read or not

-- whether the block that still runs once one was dropped or not spans pages: it runs where the packet opens a page of ours, or it did before
abbrev pub spans_by : Verdict → Bool → Bool → Bool
spans_by v runs joined = pick v.drops false (either (both v.opens runs) joined)

abbrev pub spans : Verdict → State → Bool
spans v st = spans_by v (running st.mode) st.joined

abbrev pub heeded : Verdict → ℕ → List ℕ → State → State
heeded v p l st =
    let m = drop_if v.drops st.mode in
    record {
      page = v.page;
      index = v.index;
      mode = pick v.reads (read_mode m p l) m;
      joined = pick v.reads (read_joined (spans v st) m p l) (spans v st);
    }

abbrev pub heeded_blocks : Verdict → ℕ → List ℕ → State → List Block
heeded_blocks v p l st = pick v.reads (read_blocks (spans v st) (drop_if v.drops st.mode) p l) []

abbrev pub heeded_drops : Verdict → ℕ → List ℕ → State → Bool
heeded_drops v p l st =
    either (both v.drops (running st.mode)) (both v.reads (read_drops (drop_if v.drops st.mode) p l))

-- ---- any packet; only a packet Y has a pointer and bytes that can be read

abbrev pub pointer_of : Seen → ℕ
pointer_of junk = 0
pointer_of other = 0
pointer_of foreign = 0
pointer_of (ours index n) = 0
pointer_of (packet_y y p l) = p

abbrev pub bytes_of : Seen → List ℕ
bytes_of junk = []
bytes_of other = []
bytes_of foreign = []
bytes_of (ours index n) = []
bytes_of (packet_y y p l) = l

unfoldable pub act : State → Seen → State
act st x = heeded (verdict_of st.page st.index x) (pointer_of x) (bytes_of x) st

unfoldable pub handed : State → Seen → List Block
handed st x = heeded_blocks (verdict_of st.page st.index x) (pointer_of x) (bytes_of x) st

unfoldable pub dropped : State → Seen → Bool
dropped st x = heeded_drops (verdict_of st.page st.index x) (pointer_of x) (bytes_of x) st
