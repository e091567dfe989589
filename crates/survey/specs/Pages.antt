-- Which pages came, by their packets 0 (SCOPE 7.1, 7.3, 7.4; 13.9).
use Rattle.std.specs.Prelude.{Bool, List, [], ◌∷◌, ℕ, ◌+◌, ◌*◌, eqb, leb, ltb, length, get_or}
use Rattle.laws.specs.Pick.{pick, both, either}
use Rattle.octet.specs.Decoding.{nib}
use Rattle.packet.specs.Packet.{packet_length}
use Rattle.packet.specs.Address.{address_of}

-- no page
abbrev pub no_page : ℕ
no_page = 0x8000

-- the page of a packet 0 as one number: its stream lowest, then its units and tens, then its magazine, where 8 is 0. Of an address with
-- Y 0 only the magazine is left
unfoldable pub code_of : List ℕ → ℕ
code_of p =
    let units = nib (get_or p 2 0) in
    let tens = nib (get_or p 3 0) in
    let stream = nib (get_or p 6 0) in
    pick (both (eqb (length p) packet_length) (leb (address_of p) 7))
    (pick (both (ltb units 16) (both (ltb tens 16) (ltb stream 16))) (stream + 16 * units + 256 * tens + 4096 * address_of p) no_page)
    no_page

-- where a page stands in the list: where it stands already, or no page does
abbrev pub stands_at : ℕ → ℕ → Bool
stands_at code there = either (eqb there code) (eqb there no_page)

-- the list with a page at the first such place; with no page at all, or no such place, it is as it was
unfoldable pub noted : ℕ → List ℕ → List ℕ
noted code [] = []
noted code (x ∷ xs) = pick (stands_at code x) (code ∷ xs) (x ∷ noted code xs)
