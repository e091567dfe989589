-- What the 39 bytes of a packet of our page do to the running block, by the packet's pointer.
use Rattle.std.specs.Prelude.{Bool, false, true, not, List, [], ◌++◌, map, ℕ, ◌*◌, eqb, leb, take, drop}
use Rattle.laws.specs.Pick.{pick, both, either}
use Rattle.blocks.specs.Block.{Block}
use Rattle.walk.specs.Mode.{Mode, off, scan, running, is_full, ends, gives, spoils, continues, finished, unfinished}

-- the bytes of output that a reader must be lent for one packet (SCOPE 3.5)
abbrev pub room : ℕ
room = 2112

-- the running block is dropped where the test holds
abbrev pub drop_if : Bool → Mode → Mode
drop_if t m = pick t off m

-- how many of the 39 bytes stand before the pointed byte, which is byte 1 + 3 × p of the 40 (SCOPE 9.2)
abbrev pub pointed : ℕ → ℕ
pointed p = 3 * p

-- the same of any pointer: 39 where none of the bytes is a start's, 40 where the packet is skipped
abbrev pub pointed_by : ℕ → ℕ
pointed_by p = pick (leb p 12) (pointed p) (pick (eqb p 13) 39 40)

-- the mode after the 39 bytes of a packet with pointer p: up to 12 a start is pointed at (SCOPE 9.2), at 13 none is (SCOPE 9.3); otherwise
-- the packet is skipped (SCOPE 9.4)
abbrev pub read_mode : Mode → ℕ → List ℕ → Mode
read_mode m p l =
    pick (leb p 12) (unfinished (ends scan (drop (pointed p) l))) (pick (eqb p 13) (unfinished (continues false m l)) off)

-- a block that ran before the packet, as it goes out: its second byte is 1 where it spans pages (SCOPE 26.1)
abbrev pub spanning : Bool → Block → Block
spanning joined b = record { head = b.head; part = b.part; second = pick joined 1 0; raw = b.raw }

-- the block that ran before and is held whole, if one is
abbrev pub ended : Bool → Mode → List Block
ended joined m = map (spanning joined) (finished m)

-- the blocks that they finish: what ran before, which may span pages, then what begins with them, which stands in one
abbrev pub read_blocks : Bool → Mode → ℕ → List ℕ → List Block
read_blocks joined m p l =
    pick (leb p 12) (ended joined (continues true m (take (pointed p) l)) ++ gives scan (drop (pointed p) l))
    (pick (eqb p 13) (ended joined (continues false m l)) [])

-- whether the block that runs after them, if one runs, spans pages: only where no start is pointed at can it be the one that ran before
abbrev pub spans_still : Bool → ℕ → Bool → Bool
spans_still joined p runs = both joined (both (eqb p 13) runs)

abbrev pub read_joined : Bool → Mode → ℕ → List ℕ → Bool
read_joined joined m p l = spans_still joined p (running (read_mode m p l))

-- whether they drop a block: the running one, or one whose header can't be decoded
abbrev pub read_drops : Mode → ℕ → List ℕ → Bool
read_drops m p l =
    pick (leb p 12)
    (either (both (running m) (not (is_full (continues true m (take (pointed p) l))))) (spoils scan (drop (pointed p) l)))
    (both (running m) (not (both (eqb p 13) (running (continues false m l)))))
