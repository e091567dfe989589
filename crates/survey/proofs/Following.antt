-- The counts go with the reader: as long as its page and the counts agree on the packets that are read, they still do after the next
-- packet, and a numbered packet counts as our page's exactly where the reader reads it; of two streams, where it is read for either.
-- Assumes nothing.
use mathlib.Core.Path.{◌≡◌, refl}
use mathlib.Core.Bool.{Bool, true, false}
use mathlib.Core.List.{List}
use Prim.Native.Nat.{ℕ, ◌≤◌}
use lib.Dec.{leb}
use borrow.Author.Tests.{lt-leb}
use Rattle.laws.specs.Pick.{pick, either}
use Rattle.pages.specs.declared.headers.Page.{Page}
use Rattle.pages.specs.declared.headers.Page.TheVariants.{Shut, Open}
use Rattle.pages.specs.declared.two.Whose.{Whose}
use Rattle.pages.specs.declared.two.Whose.TheVariants.{First, Second}
use Rattle.pages.specs.declared.two.SharedPage.{SharedPage}
use Rattle.pages.specs.declared.two.SharedPage.TheVariants.{None, One}
use Rattle.pages.specs.Headers.{Seen, junk, other, foreign, ours, packet_y}
use Rattle.pages.specs.Judging.{verdict_of}
use Rattle.pages.specs.Two.{SeenByTwo, unreadable, passing, neither, header, numbered}
use Rattle.pages.specs.Verdicts.{open_after, reads_for}
use Rattle.survey.specs.declared.Counts.{Counts}
use Rattle.survey.specs.Counting.{more_if, counted}
use Rattle.survey.specs.Either.{anyones}
use Rattle.survey.specs.Internal.{most_of}

opens : (n : ℕ) (t : Bool) → most_of (pick t (Open n 0) Shut) ≡ pick t n 0
opens n true = refl
opens n false = refl

stays : (n y last : ℕ) (t : Bool) → most_of (pick t (Open n y) (Open n last)) ≡ n
stays n y last true = refl
stays n y last false = refl

module _ (index : ℕ) (c : Counts) where
  pub most-follows : (page : Page) (x : Seen) → most_of page ≡ c.most → most_of (verdict_of page index x).page ≡ (counted c x).most
  most-follows page junk e = refl
  most-follows page other e = e
  most-follows page foreign e = refl
  most-follows page (ours i n) e = opens n (leb n 25)
  most-follows Shut (packet_y y p l) e = e
  most-follows (Open n last) (packet_y y p l) e = rw (stays n y last (leb y n)) e

  pub ours-read :
      (page : Page) (y p : ℕ) (l : List ℕ) → most_of page ≡ c.most → 1 ≤ y
      → (counted c (packet_y y p l)).ours ≡ more_if (verdict_of page index (packet_y y p l)).reads c.ours
  ours-read Shut y p l e h = rw (← e, lt-leb y 0 h)
  ours-read (Open n last) y p l e h = rw (← e)

-- ---- two streams: the page that is open is one of theirs

abbrev pub most_shared : SharedPage → ℕ
most_shared None = 0
most_shared (One owner n last) = n

opens_one : (w : Whose) (n : ℕ) (t : Bool) → most_shared (pick t (One w n 0) None) ≡ pick t n 0
opens_one w n true = refl
opens_one w n false = refl

stays-one : (w : Whose) (n y last : ℕ) (t : Bool) → most_shared (pick t (One w n y) (One w n last)) ≡ n
stays-one w n y last true = refl
stays-one w n y last false = refl

or_not : (t : Bool) (n : ℕ) → more_if t n ≡ more_if (either t false) n
or_not true n = refl
or_not false n = refl

module _ (c : Counts) where
  pub most-follows-either :
      (page : SharedPage) (x : SeenByTwo) → most_shared page ≡ c.most → most_shared (open_after page x) ≡ (counted c (anyones x)).most
  most-follows-either page unreadable e = refl
  most-follows-either page passing e = e
  most-follows-either page neither e = refl
  most-follows-either page (header w i n) e = opens_one w n (leb n 25)
  most-follows-either None (numbered y p l) e = e
  most-follows-either (One w n last) (numbered y p l) e = rw (stays-one w n y last (leb y n)) e

  pub ours-read-either :
      (page : SharedPage) (y p : ℕ) (l : List ℕ) → most_shared page ≡ c.most → 1 ≤ y
      → (counted c (packet_y y p l)).ours ≡ more_if (either (reads_for First page (numbered y p l)) (reads_for Second page (numbered y p l))) c.ours
  ours-read-either None y p l e h = rw (← e, lt-leb y 0 h)
  ours-read-either (One First n last) y p l e h = rw (← e) (or_not (leb y n) c.ours)
  ours-read-either (One Second n last) y p l e h = rw (← e)
