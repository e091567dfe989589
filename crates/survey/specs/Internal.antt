-- How a verdict of the reader's rules tells what a packet is. Only private calls cite this.
use Rattle.std.specs.Prelude.{Bool, true, ℕ, eqb}
use Rattle.laws.specs.Pick.{pick}
use Rattle.pages.specs.declared.headers.Page.{Page}
use Rattle.pages.specs.declared.headers.Page.TheVariants.{Shut, Open}
use Rattle.pages.specs.declared.headers.Verdict.{Verdict}
use Rattle.pages.specs.Headers.{Seen}
use Rattle.pages.specs.Judging.{verdict_of}
use Rattle.survey.specs.declared.Counts.{Counts}
use Rattle.survey.specs.Counting.{more, more_if}

-- no packet's index
abbrev pub no_index : ℕ
no_index = 16

-- the verdict where a page of so many packets is complete, and our last index is none
abbrev pub asked : ℕ → Seen → Verdict
asked most x = verdict_of (Open most most) no_index x

abbrev pub most_of : Page → ℕ
most_of Shut = 0
most_of (Open n last) = n

-- a packet that is no packet 0 of our page and stream, by the page that it leaves, and whether it drops or is read
abbrev pub heeded_at : Counts → Bool → Bool → Page → Counts
heeded_at c drops reads Shut =
    record { packets = more c.packets; ours = c.ours; unreadable = more_if drops c.unreadable; came = c.came; most = 0 }
heeded_at c drops reads (Open n last) =
    record { packets = more c.packets; ours = more_if reads c.ours; unreadable = c.unreadable; came = c.came; most = c.most }

abbrev pub heeded : Counts → Verdict → Counts
heeded c v =
    pick (eqb v.index no_index) (heeded_at c v.drops v.reads v.page)
    (record { packets = more c.packets; ours = more c.ours; unreadable = c.unreadable; came = true; most = most_of v.page })
