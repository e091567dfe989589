-- Two lists of packets that differ in one stream's pages alone (SCOPE 27.7).
use Rattle.std.specs.Prelude.{◌≡◌, Bool, true, false, List, [], ◌∷◌, ℕ, ◌%◌, eqb, length, drop}
use Rattle.laws.specs.Pick.{pick, both}
use Rattle.packet.specs.declared.Setting.{Setting}
use Rattle.packet.specs.Packet.{packet_length}
use Rattle.packet.specs.Address.{decodes}
use Rattle.pages.specs.declared.two.Whose.{Whose}
use Rattle.pages.specs.declared.two.Whose.TheVariants.{First, Second}
use Rattle.claims.specs.CutLine.{magazine_in, number_in, page_in, number_of_stream}

-- the other of the two streams
abbrev pub the_other : Whose → Whose
the_other First = Second
the_other Second = First

-- ---- which packets stand in a stream's pages

-- a packet 0 of our magazine, by the two bytes of its address
abbrev pub is_zero : Setting → List ℕ → Bool
is_zero s q = both (decodes 2 q) (both (eqb (magazine_in q) (s.magazine % 8)) (eqb (number_in q) 0))

-- of a packet 0: its six bytes can be decoded, and name our page and our stream
abbrev pub names_us : Setting → List ℕ → Bool
names_us s q = both (decodes 6 (drop 2 q)) (both (eqb (page_in q) s.page) (eqb (number_of_stream q) s.stream))

-- whether the last packet 0 of our magazine names our page and our stream, once q has come; and whether it did before
abbrev pub stands_after : Setting → Bool → List ℕ → Bool
stands_after s stands q = pick (is_zero s q) (names_us s q) stands

-- two lists of packets of 42 bytes with the same addresses and the same packets 0 of our magazine. They differ only in the 40 bytes behind the
-- address of other packets, and only where the last packet 0 of our magazine before them, the same in both, names our page and our stream. Before
-- the lists it did or not
pub data Differing (s : Setting) : Bool → List (List ℕ) → List (List ℕ) → Type 0 where
  ended : {stands : Bool} → Differing s stands [] []
  same :
      {stands : Bool} {q : List ℕ} {qs rs : List (List ℕ)} → length q ≡ packet_length → Differing s (stands_after s stands q) qs rs
      → Differing s stands (q ∷ qs) (q ∷ rs)
  differs :
      {x y : ℕ} {a b : List ℕ} {qs rs : List (List ℕ)} → length a ≡ 40 → length b ≡ 40 → is_zero s (x ∷ y ∷ a) ≡ false → Differing s true qs rs
      → Differing s true ((x ∷ y ∷ a) ∷ qs) ((x ∷ y ∷ b) ∷ rs)
