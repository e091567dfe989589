-- What only private calls cite; nothing here needs to be believed. How the code holds what the definitions speak of: a mode as a run and
-- a store, and what a part of a call adds to what has come so far.
use Rattle.std.specs.Prelude.{◌≡◌, Bool, true, false, not, List, [], ℕ, ◌+◌, ◌*◌, ◌≤◌, length, drop}
use Rattle.std.proofs.lemmas.List.Edits.{sets}
use Rattle.laws.specs.Pick.{pick, both, either}
use Rattle.blocks.specs.Block.{Block, head_length, records_of}
use Rattle.walk.specs.declared.Run.{Run}
use Rattle.walk.specs.declared.Run.TheVariants.{Idle, Head, Body}
use Rattle.walk.specs.declared.Got.{Got}
use Rattle.walk.specs.declared.Taken.{Taken}
use Rattle.walk.specs.Mode.{Mode, off, scan, heading, body, full, running, is_full, ends, gives, spoils, continues, unfinished, Good}
use Rattle.walk.specs.Store.{store_length, zeroed, mode_of, run_of, held_of}
use Rattle.walk.specs.Reading.{drop_if, read_mode, ended, read_blocks, read_drops, room}

-- run and store hold the mode m
pub record Holds (m : Mode) (r : Run) (store : List ℕ) : Type 0 where
  pub good : Good m
  pub run : r ≡ run_of m
  pub kept : store ≡ zeroed (held_of m)

-- the mode that run and store hold
abbrev pub Kept : Run → List ℕ → Type 0
Kept r store = Holds (mode_of r store) r store

-- a running block that has taken its bytes, over those up to the pointed byte
abbrev pub awaits : Mode → List ℕ → Mode
awaits off l = off
awaits scan l = off
awaits (heading g v part) l = heading g v part
awaits (body h part held) l = pick (full h held) (continues true (body h part held) l) (body h part held)

-- a block runs
abbrev pub runs : Run → Bool
runs Idle = false
runs (Head got bits part) = true
runs (Body head part held) = true

-- from the mode m the running block has taken its bytes of l, which s ends with, and the rest of them begins at a place of s
pub record TookIn (m : Mode) (l s : List ℕ) (r : Taken) (store : List ℕ) : Type 0 where
  pub holds : Holds (continues false m l) r.run store
  pub within : r.next ≤ length s
  pub rest : continues true m l ≡ awaits (continues false m l) (drop r.next s)

-- what stood at a is now at r: the mode m is held, these blocks have gone out, and a block was dropped if d says so
pub record Went (m : Mode) (bs : List Block) (d : Bool) (a r : Got) (store old new : List ℕ) : Type 0 where
  pub holds : Holds m r.run store
  pub blocks : r.blocks ≡ a.blocks + length bs
  pub written : r.written ≡ a.written + length (records_of bs)
  pub dropped : r.dropped ≡ either a.dropped d
  pub out : new ≡ sets old a.written (records_of bs)

-- there is room behind what is written for a block, and each block so far has written its head at least
pub record Room (a : Got) (out : List ℕ) : Type 0 where
  pub long : a.written + (head_length + store_length) ≤ length out
  pub few : head_length * a.blocks ≤ a.written

-- a block that is held whole has gone out, as one that spans pages or not
abbrev pub Finished : Bool → Mode → Got → Got → List ℕ → List ℕ → List ℕ → Type 0
Finished joined m a r store old new = Went (unfinished m) (ended joined m) false a r store old new

-- the bytes l stand before the pointed byte
abbrev pub ContinuedTo : Bool → Mode → List ℕ → Got → Got → List ℕ → List ℕ → List ℕ → Type 0
ContinuedTo joined m l = Went off (ended joined (continues true m l)) (both (running m) (not (is_full (continues true m l))))

-- the bytes l are a packet's that points at no start
abbrev pub ContinuedOn : Bool → Mode → List ℕ → Got → Got → List ℕ → List ℕ → List ℕ → Type 0
ContinuedOn joined m l =
    Went (unfinished (continues false m l)) (ended joined (continues false m l)) (both (running m) (not (running (continues false m l))))

-- the bytes l stand from the pointed byte on
abbrev pub Flowed : List ℕ → Got → Got → List ℕ → List ℕ → List ℕ → Type 0
Flowed l = Went (unfinished (ends scan l)) (gives scan l) (spoils scan l)

-- there is room for what a packet can give
pub record PacketRoom (a : Got) (out : List ℕ) : Type 0 where
  pub long : a.written + room ≤ length out
  pub few : head_length * a.blocks ≤ a.written

-- the packet's pointer is p, and l the 39 bytes after it
abbrev pub ReadPacket : Bool → Mode → ℕ → List ℕ → Got → Got → List ℕ → List ℕ → List ℕ → Type 0
ReadPacket joined m p l = Went (read_mode m p l) (read_blocks joined m p l) (read_drops m p l)

-- the running block is dropped where the test holds, and that is noted
abbrev pub Lost : Bool → Mode → Got → Got → List ℕ → List ℕ → Type 0
Lost t m a r store out = Went (drop_if t m) [] (both t (running m)) a r store out out
