-- One stream or two, and where the records stand in the space: of one stream each as it is, of two each behind the number of its stream
-- (SCOPE 27.5, 27.8).
use Rattle.std.specs.Prelude.{Bool, List, ℕ, ◌+◌, eqb, leb, length, get_or}
use Rattle.laws.specs.Pick.{pick}
use Rattle.blocks.specs.Place.{after_at}
use Rattle.packet.specs.declared.two.Streams.{Streams}
use Rattle.captures.specs.declared.spans.Span.{Span}

-- a setting that names one stream twice is of that stream alone
abbrev pub is_one : Streams → Bool
is_one g = eqb g.first g.second

abbrev pub span_of : ℕ → ℕ → ℕ → Span
span_of stream from next = record { stream = stream; from = from; next = next }

-- the record at a place; of two streams none stands past the end
unfoldable pub span_at : Streams → List ℕ → ℕ → Span
span_at g l at =
    pick (is_one g) (span_of g.first at (after_at l at))
    (pick (leb (length l) at) (span_of g.first at at) (span_of (get_or l at 0) (at + 1) (after_at l (at + 1))))
