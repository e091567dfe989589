-- Which bytes of the packets that arrived are a sending's, and how many of them arrived other than they were sent (SCOPE 19.6). They are the
-- block's start, the four bytes of its header and its raw bytes. Filler, pointers, addresses and packets 0 are nobody's.
use Rattle.std.specs.Prelude.{not, List, [], ◌∷◌, ◌++◌, map, ℕ, zero, suc, ◌+◌, eqb, length, take, drop}
use Rattle.laws.specs.Pick.{pick}
use Rattle.blocks.specs.Block.{Block}
use Rattle.symbols.specs.Stream.{byte_of, symbols, cells_of}

-- how many bytes of the second list are other than those of the first in their places; the two are of one length wherever they are what was
-- sent and what came of it (`carried-near`)
unfoldable pub unlike : List ℕ → List ℕ → ℕ
unlike [] m = 0
unlike (a ∷ l) [] = 0
unlike (a ∷ l) (b ∷ m) = pick (eqb a b) 0 1 + unlike l m

-- a byte that arrived, and the number of the page of ours that it stands in
pub record Placed : Type 0 where
  pub byte : ℕ
  pub page : ℕ

abbrev pub placed : ℕ → ℕ → Placed
placed page b = record { byte = b; page = page }

abbrev pub byte_in : Placed → ℕ
byte_in c = c.byte

-- the bytes that carry blocks, of packets as our writer numbers them: of each page its packet 0 carries none, and each of the k packets after
-- it the 39 bytes past address and pointer. So many pages have begun, and so many packets of the last are still to come
unfoldable pub carried_in : ℕ → ℕ → ℕ → List (List ℕ) → List Placed
carried_in k page left [] = []
carried_in k page zero (q ∷ qs) = carried_in k (suc page) k qs
carried_in k page (suc left) (q ∷ qs) = map (placed page) (drop 3 q) ++ carried_in k page left qs

-- the same of whole pages
abbrev pub stream_in : ℕ → List (List ℕ) → List Placed
stream_in k qs = carried_in k 0 0 qs

-- a block that was sent, its bytes as they arrived, and the pages in which the first and the last of them stand
pub record Sending : Type 0 where
  pub block : Block
  pub came : List ℕ
  pub first : ℕ
  pub last : ℕ

abbrev pub first_page : List Placed → ℕ
first_page [] = 0
first_page (c ∷ cs) = c.page

-- the page of the last byte; where there is none, the one that is given
unfoldable pub last_page : ℕ → List Placed → ℕ
last_page page [] = page
last_page page (c ∷ cs) = last_page c.page cs

abbrev pub sending_of : Block → List Placed → Sending
sending_of b l = record { block = b; came = map byte_in l; first = first_page l; last = last_page 0 l }

-- the bytes that arrived, cut where the writer's stream has each block's own: the filler behind them, up to the next start, is left out
unfoldable pub sendings : List Block → List Placed → List Sending
sendings [] l = []
sendings (b ∷ bs) l = sending_of b (take (length (symbols b)) l) ∷ sendings bs (drop (length (cells_of b)) l)

-- a block's bytes as they are sent: its start, its header, its raw bytes
abbrev pub bytes_of : Block → List ℕ
bytes_of b = map byte_of (symbols b)

-- how many bytes of a sending arrived other than they were sent
abbrev pub damage : Sending → ℕ
damage x = unlike (bytes_of x.block) x.came

-- how many bytes are its start and its header, and how many of those arrived other than they were sent
abbrev pub lead : ℕ
lead = 5

abbrev pub lead_damage : Sending → ℕ
lead_damage x = unlike (take lead (bytes_of x.block)) (take lead x.came)

-- its second byte: 1 exactly where its first and its last byte stand in different pages (SCOPE 26.4)
abbrev pub second_byte : Sending → ℕ
second_byte x = pick (not (eqb x.first x.last)) 1 0

-- the block that goes out where none of it is lost: the 16 bits that were sent, the damage of its start and header as its part, its second
-- byte, and its raw bytes as they arrived
abbrev pub landed : Sending → Block
landed x = record { head = x.block.head; part = lead_damage x; second = second_byte x; raw = drop lead x.came }

-- something that came out, with the count of its block's mended bytes (SCOPE 19.5)
pub record Counted (A : Type 0) : Type 0 where
  pub what : A
  pub mended : ℕ

-- what was sent, one to a sending, each with the number of bytes of its sending that arrived other than they were sent
unfoldable pub damaged : {A : Type 0} → List A → List Sending → List (Counted A)
damaged [] xs = []
damaged (a ∷ l) [] = []
damaged (a ∷ l) (x ∷ xs) = record { what = a; mended = damage x } ∷ damaged l xs

-- the block as it was sent, of which nothing was mended: its part isn't sent, and its second byte is as it was met
abbrev pub unharmed : Sending → Block
unharmed x = record { head = x.block.head; part = 0; second = second_byte x; raw = x.block.raw }
