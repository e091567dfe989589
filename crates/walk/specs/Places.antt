-- Reading by places, as the code goes: filler is passed by in one go, then a start's four bytes, then the block's bytes. That it is the
-- reading byte by byte of Mode is shown in proofs/Walking.
use Rattle.std.specs.Prelude.{Bool, false, List, [], ◌∷◌, ℕ, zero, suc, ◌+◌, ◌-◌, eqb, leb, length, drop}
use Rattle.laws.specs.Pick.{pick, both}
use Rattle.octet.specs.Decoding.{nib, undecodable}
use Rattle.octet.specs.Hearing.{harm}
use Rattle.blocks.specs.Block.{size_of}
use Rattle.walk.specs.declared.Run.{Run}
use Rattle.walk.specs.declared.Run.TheVariants.{Idle, Head, Body}
use Rattle.walk.specs.declared.Ahead.{Ahead}
use Rattle.walk.specs.declared.Ahead.TheVariants.{Nothing, Broken, Cut, Whole}
use Rattle.walk.specs.Mode.{filler, shifted}

-- how many bytes of filler l begins with
unfoldable pub fillers : List ℕ → ℕ
fillers [] = 0
fillers (b ∷ bs) = pick (filler b) (suc (fillers bs)) 0

-- what stands ahead where nothing is running
pub data StartAhead : Type 0 where
  -- no start: filler to the end, or another nibble
  nothing : StartAhead
  -- a start whose header has a byte that can't be decoded
  broken : StartAhead
  -- a start, so many nibbles of its header, their part, and the end
  cut : ℕ → ℕ → ℕ → StartAhead
  -- a start, its 16 bits, its part, and the bytes after them
  whole : ℕ → ℕ → List ℕ → StartAhead

-- the k nibbles of a header that are still to come, behind those of the bits v and the part so far
unfoldable pub heads : ℕ → ℕ → ℕ → List ℕ → StartAhead
heads zero v part l = whole v part l
heads (suc k) v part [] = cut (3 - k) v part
heads (suc k) v part (b ∷ bs) = pick (eqb (nib b) undecodable) broken (heads k (shifted v b) (part + harm b) bs)

unfoldable pub found : List ℕ → StartAhead
found [] = nothing
found (b ∷ bs) = pick (filler b) (found bs) (pick (eqb (nib b) 12) (heads 4 0 (harm b) bs) nothing)

-- what an answer by places says stands ahead in s
abbrev pub ahead_in : List ℕ → Ahead → StartAhead
ahead_in s Nothing = nothing
ahead_in s Broken = broken
ahead_in s (Cut got bits part) = cut got bits part
ahead_in s (Whole head part next) = whole head part (drop next s)

-- the place past a whole header; the other answers give none
abbrev pub next_of : Ahead → ℕ → ℕ
next_of Nothing other = other
next_of Broken other = other
next_of (Cut got bits part) other = other
next_of (Whole head part next) other = next

-- a running block is held whole, and the bytes l behind it are only filler
abbrev pub stands : Run → List ℕ → Bool
stands Idle l = false
stands (Head got bits part) l = false
stands (Body head part held) l = both (leb (size_of head) held) (leb (length l) (fillers l))
