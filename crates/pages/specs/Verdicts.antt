-- What a packet does to a reader of two streams: to the open page, and to each stream (SCOPE 27.3).
use Rattle.std.specs.Prelude.{Bool, true, false, ℕ, leb}
use Rattle.laws.specs.Pick.{pick, both}
use Rattle.pages.specs.declared.headers.Verdict.{Verdict}
use Rattle.pages.specs.declared.two.Whose.{Whose}
use Rattle.pages.specs.declared.two.Whose.TheVariants.{First, Second}
use Rattle.pages.specs.declared.two.SharedPage.{SharedPage}
use Rattle.pages.specs.declared.two.SharedPage.TheVariants.{None, One}
use Rattle.pages.specs.declared.two.Verdicts.{Verdicts}
use Rattle.pages.specs.Judging.{incomplete, breaks, wrong_y}
use Rattle.pages.specs.Two.{SeenByTwo, unreadable, passing, neither, header, numbered, same, page_for}

-- the open page: an unreadable packet and a packet 0 of neither shut it, one of either opens its own, with n up to 25; Y up to n becomes
-- last
abbrev pub open_after : SharedPage → SeenByTwo → SharedPage
open_after page unreadable = None
open_after page passing = page
open_after page neither = None
open_after page (header owner i n) = pick (leb n 25) (One owner n 0) None
open_after None (numbered y p l) = None
open_after (One owner n last) (numbered y p l) = pick (leb y n) (One owner n y) (One owner n last)

-- the stream's page is the open one, and not all of its packets have come
abbrev pub short : Whose → SharedPage → Bool
short w page = incomplete (page_for w page)

-- the stream's block is dropped. An unreadable packet drops both. A short page drops its own stream's, whichever packet 0 of our magazine
-- follows it; n over 25 and a wrong index drop that of the packet 0 that has them, and a wrong Y that of the open page
abbrev pub drops_of : Whose → SharedPage → ℕ → SeenByTwo → Bool
drops_of w page index unreadable = true
drops_of w page index passing = false
drops_of w page index neither = short w page
drops_of w page index (header owner i n) = pick (same w owner) (breaks (page_for w page) index i n) (short w page)
drops_of w None index (numbered y p l) = false
drops_of w (One owner n last) index (numbered y p l) = both (same w owner) (wrong_y n last y)

-- each stream has an index of its own: a packet 0 sets that of its stream
abbrev pub index_after : Whose → ℕ → SeenByTwo → ℕ
index_after w index unreadable = index
index_after w index passing = index
index_after w index neither = index
index_after w index (header owner i n) = pick (same w owner) i index
index_after w index (numbered y p l) = index

-- a page of the stream is opened
abbrev pub opens_for : Whose → SeenByTwo → Bool
opens_for w unreadable = false
opens_for w passing = false
opens_for w neither = false
opens_for w (header owner i n) = both (same w owner) (leb n 25)
opens_for w (numbered y p l) = false

-- the packet's bytes are read for the stream: the open page is its own, and has that packet
abbrev pub reads_for : Whose → SharedPage → SeenByTwo → Bool
reads_for w page unreadable = false
reads_for w page passing = false
reads_for w page neither = false
reads_for w page (header owner i n) = false
reads_for w None (numbered y p l) = false
reads_for w (One owner n last) (numbered y p l) = both (same w owner) (leb y n)

-- what the packet does to one stream
abbrev pub verdict_for : Whose → SharedPage → ℕ → SeenByTwo → Verdict
verdict_for w page index x =
    record {
      page = page_for w (open_after page x);
      index = index_after w index x;
      drops = drops_of w page index x;
      opens = opens_for w x;
      reads = reads_for w page x;
    }

-- and to both, whose last indices are these
abbrev pub verdicts_of : SharedPage → ℕ → ℕ → SeenByTwo → Verdicts
verdicts_of page first second x =
    record { page = open_after page x; first = verdict_for First page first x; second = verdict_for Second page second x }
