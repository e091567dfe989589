-- Reading along the bytes of a packet, one byte a step.
use Rattle.std.specs.Prelude.{◌≡◌, Bool, true, false, List, [], ◌∷◌, ◌++◌, ℕ, suc, ◌+◌, ◌-◌, ◌*◌, ◌/◌, ◌%◌, ◌^◌, ◌≤◌, ◌<◌, eqb, leb, ltb, length}
use Rattle.laws.specs.Pick.{pick, either}
use Rattle.octet.specs.Decoding.{nib, undecodable}
use Rattle.octet.specs.Hearing.{harm}
use Rattle.blocks.specs.Block.{Block, size_of}
use Rattle.blocks.specs.Parts.{part_most}

-- how far reading is
pub data Mode : Type 0 where
  -- nothing is running, and nothing more of the packet is read
  off : Mode
  -- nothing is running, and a start may come after filler
  scan : Mode
  -- a start came, and so many nibbles of its 16 bits; the part: how many of these bytes aren't the image of their nibble (SCOPE 19.3)
  heading : ℕ → ℕ → ℕ → Mode
  -- the 16 bits, the part and the raw bytes so far
  body : ℕ → ℕ → List ℕ → Mode

-- a block is running
abbrev pub running : Mode → Bool
running off = false
running scan = false
running (heading g v part) = true
running (body h part held) = true

abbrev pub filler : ℕ → Bool
filler b = eqb (nib b) 3

-- the 16 bits come lowest nibble first: each shifts those before it down
abbrev pub shifted : ℕ → ℕ → ℕ
shifted v b = v / 16 + nib b * 4096

-- all bytes of the block have come
abbrev pub full : ℕ → List ℕ → Bool
full h held = leb (size_of h) (length held)

-- a block as it goes out where it begins and ends in one packet: its 16 bits, its part, a byte 0, its raw bytes (SCOPE 10.3)
abbrev pub block_with : ℕ → ℕ → List ℕ → Block
block_with h part l = record { head = h; part = part; second = 0; raw = l }

-- ---- from the pointed byte on: filler is passed over up to a start or the end (SCOPE 9.9), and anything else ends the reading of the
-- packet (SCOPE 9.10)

-- past a start's fourth nibble a block of size 0 is finished at once
abbrev pub headed : ℕ → ℕ → ℕ → Mode
headed g v part = pick (ltb g 3) (heading (suc g) v part) (pick (full v []) scan (body v part []))

-- one byte more; a header byte that can't be decoded drops its block and ends the reading of the packet (SCOPE 9.11). The start and each
-- header byte count in the part where they are harmed (SCOPE 19.3)
unfoldable pub step : Mode → ℕ → Mode
step off b = off
step scan b = pick (filler b) scan (pick (eqb (nib b) 12) (heading 0 0 (harm b)) off)
step (heading g v part) b = pick (eqb (nib b) undecodable) off (headed g (shifted v b) (part + harm b))
step (body h part held) b = pick (full h (held ++ b ∷ [])) scan (body h part (held ++ b ∷ []))

-- the block that is finished by the byte, if one is
unfoldable pub emitted : Mode → ℕ → List Block
emitted off b = []
emitted scan b = []
emitted (heading g v part) b =
    pick (eqb (nib b) undecodable) []
    (pick (ltb g 3) [] (pick (full (shifted v b) []) (block_with (shifted v b) (part + harm b) [] ∷ []) []))
emitted (body h part held) b = pick (full h (held ++ b ∷ [])) (block_with h part (held ++ b ∷ []) ∷ []) []

-- the byte drops the block whose header it is of
unfoldable pub spoiled : Mode → ℕ → Bool
spoiled off b = false
spoiled scan b = false
spoiled (heading g v part) b = eqb (nib b) undecodable
spoiled (body h part held) b = false

-- where reading is after these bytes, the blocks that they finish, and whether they drop one
unfoldable pub ends : Mode → List ℕ → Mode
ends m [] = m
ends m (b ∷ bs) = ends (step m b) bs

unfoldable pub gives : Mode → List ℕ → List Block
gives m [] = []
gives m (b ∷ bs) = emitted m b ++ gives (step m b) bs

unfoldable pub spoils : Mode → List ℕ → Bool
spoils m [] = false
spoils m (b ∷ bs) = either (spoiled m b) (spoils (step m b) bs)

-- ---- up to the pointed byte: the running block takes its bytes, and is dropped unless it is complete by then and only filler follows it
-- (SCOPE 9.5). A block that is full stays until the pointed byte is reached.

-- where a start is pointed at, a full block bears only filler (SCOPE 9.5); where none is, what follows it isn't read (SCOPE 9.3)
abbrev pub behind : Bool → ℕ → ℕ → List ℕ → ℕ → Mode
behind true h part held b = pick (filler b) (body h part held) off
behind false h part held b = body h part held

abbrev pub next_head : ℕ → ℕ → ℕ → Mode
next_head g v part = pick (ltb g 3) (heading (suc g) v part) (body v part [])

unfoldable pub goes_on : Bool → Mode → ℕ → Mode
goes_on pointed off b = off
goes_on pointed scan b = off
goes_on pointed (heading g v part) b = pick (eqb (nib b) undecodable) off (next_head g (shifted v b) (part + harm b))
goes_on pointed (body h part held) b = pick (full h held) (behind pointed h part held b) (body h part (held ++ b ∷ []))

unfoldable pub continues : Bool → Mode → List ℕ → Mode
continues pointed m [] = m
continues pointed m (b ∷ bs) = continues pointed (goes_on pointed m b) bs

-- a block is held whole
abbrev pub is_full : Mode → Bool
is_full off = false
is_full scan = false
is_full (heading g v part) = false
is_full (body h part held) = full h held

-- the block that is held whole, if one is
abbrev pub finished : Mode → List Block
finished off = []
finished scan = []
finished (heading g v part) = []
finished (body h part held) = pick (full h held) (block_with h part held ∷ []) []

-- what goes on running: nothing, where the block is finished
abbrev pub unfinished : Mode → Mode
unfinished off = off
unfinished scan = off
unfinished (heading g v part) = heading g v part
unfinished (body h part held) = pick (full h held) off (body h part held)

-- ---- in range (SCOPE 10.2)

-- g nibbles have come, v has their bits and no others, and no more of their bytes and the start than there are count in the part
pub record Bits (g v part : ℕ) : Type 0 where
  pub got : g ≤ 3
  pub small : v < 2 ^ 16
  pub only : v % 16 ^ (4 - g) ≡ 0
  pub counted : part ≤ suc g

-- a mode that a reader may be in between two steps
abbrev pub Good : Mode → Type 0
Good off = Unit
Good scan = ⊥
Good (heading g v part) = Bits g v part
Good (body h part held) = (h < 2 ^ 16) × (part ≤ part_most) × (length held ≤ size_of h)
