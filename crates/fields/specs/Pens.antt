-- A pen lays fields behind one another, the lowest bit first, as protected nibbles (clause 9, A.3; SCOPE 12.1). It stands at a place of lent
-- bytes and holds the bits, fewer than four, that don't make a nibble yet.
use Rattle.std.specs.Prelude.{List, ◌∷◌, map, ℕ, ◌+◌, ◌-◌, ◌*◌, ◌/◌, ◌%◌, ◌^◌, ◌≤◌, ◌<◌, min}
use Rattle.std.proofs.lemmas.List.Edits.{sets}
use Rattle.octet.specs.Image.{image}
use Rattle.fields.specs.Fields.{Field, width, laid, parts}
use Rattle.fields.specs.declared.pen.Pen.{Pen}

-- the last place that a number holds: no lent byte is there
abbrev pub last : ℕ
last = 2 ^ 64 - 1

-- the bits that a pen has once fields are laid: those it held, then theirs
abbrev pub in_hand : Pen → List Field → ℕ
in_hand p fs = laid ((p.held % 4, p.bits) ∷ fs) 0

-- how many whole nibbles these are
abbrev pub ready : Pen → List Field → ℕ
ready p fs = (p.held % 4 + width fs) / 4

-- the lent bytes once fields are laid: each whole nibble as its image
unfoldable pub inked : Pen → List Field → List ℕ → List ℕ
inked p fs out = sets out p.at (map image (parts 4 (ready p fs) (in_hand p fs)))

-- and the pen: past those, with the bits left
unfoldable pub moved : Pen → List Field → Pen
moved p fs =
    record {
      at = min (p.at + ready p fs) last;
      held = (p.held % 4 + width fs) % 4;
      bits = in_hand p fs / 2 ^ (4 * ready p fs);
    }

-- a pen that holds nothing yet
abbrev pub begun : ℕ → Pen
begun at = record { at = at; held = 0; bits = 0 }

-- a pen that holds fewer than four bits, and no others
pub record Fine (p : Pen) : Type 0 where
  pub place : p.at ≤ last
  pub few : p.held < 4
  pub low : p.bits < 2 ^ p.held
