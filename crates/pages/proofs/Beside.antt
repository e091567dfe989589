-- A packet is to each of two streams what it is to a reader of that stream alone, and so is the verdict on it: the other's packet 0 is foreign,
-- the other's page is shut. By cases. Assumes nothing.
use mathlib.Core.Path.{◌≡◌, ◌∙◌, refl, sym}
use mathlib.Core.Bool.{Bool, true, false, not}
use mathlib.Core.List.{List}
use Prim.Native.Nat.{ℕ, ◌+◌, ◌*◌, ◌/◌, ◌%◌, ◌≤◌, ◌<◌}
use native.Mathlib.Omega.{arith}
use lib.Dec.{eqb, leb, lit<}
use lib.ListN.{length, get_or, drop}
use borrow.Author.Tests.{eq-eqb, ne_eqb, eqb-true, eqb-false, not-true}
use Rattle.laws.specs.Pick.{pick, both}
use Rattle.laws.proofs.Picks.{same}
use Rattle.laws.proofs.Tests.{both-second}
use Rattle.octet.specs.Decoding.{nib}
use Rattle.packet.specs.declared.two.Streams.{Streams}
use Rattle.packet.specs.Packet.{packet_length}
use Rattle.packet.specs.Setting.{in_range}
use Rattle.packet.specs.Address.{decodes, address_of}
use Rattle.packet.specs.Two.{first_of, second_of, in_range_of_two}
use Rattle.pages.specs.declared.headers.Verdict.{Verdict}
use Rattle.pages.specs.declared.two.Whose.{Whose}
use Rattle.pages.specs.declared.two.Whose.TheVariants.{First, Second}
use Rattle.pages.specs.declared.two.SharedPage.{SharedPage}
use Rattle.pages.specs.declared.two.SharedPage.TheVariants.{None, One}
use Rattle.pages.specs.declared.two.Verdicts.{Verdicts}
use Rattle.pages.specs.Headers.{Seen, junk, other, foreign, ours, packet_y, see_zero}
use Rattle.pages.specs.Seen.{see_y, seen_as, see}
use Rattle.pages.specs.Judging.{verdict_of}
use Rattle.pages.specs.Two.{SeenByTwo, unreadable, passing, neither, header, numbered, whose_of, seen_by_two_as, see_by_two, seen_for, page_for, setting_for}
use Rattle.pages.specs.Verdicts.{open_after, verdict_for, verdicts_of}
use Rattle.pages.specs.Internal.{seen_zero, second_only, shared}
use Rattle.pages.proofs.Seeing.{decodes-at}
use Rattle.pages.proofs.Judged.{as-zero}

-- ---- the verdict

page_picked : (w : Whose) (t : Bool) (a b : SharedPage) → page_for w (pick t a b) ≡ pick t (page_for w a) (page_for w b)
page_picked w true a b = refl
page_picked w false a b = refl

pub verdict_beside : (w : Whose) (page : SharedPage) (index : ℕ) (x : SeenByTwo) → verdict_for w page index x ≡ verdict_of (page_for w page) index (seen_for w x)
verdict_beside w page index unreadable = refl
verdict_beside w page index passing = refl
verdict_beside w page index neither = refl
verdict_beside First page index (header First i n) = rw (page_picked First (leb n 25))
verdict_beside First page index (header Second i n) = rw (page_picked First (leb n 25), same (leb n 25) refl refl)
verdict_beside Second page index (header First i n) = rw (page_picked Second (leb n 25), same (leb n 25) refl refl)
verdict_beside Second page index (header Second i n) = rw (page_picked Second (leb n 25))
verdict_beside w None index (numbered y p l) = refl
verdict_beside First (One First n last) index (numbered y p l) = rw (page_picked First (leb y n))
verdict_beside First (One Second n last) index (numbered y p l) = rw (page_picked First (leb y n), same (leb y n) refl refl)
verdict_beside Second (One First n last) index (numbered y p l) = rw (page_picked Second (leb y n), same (leb y n) refl refl)
verdict_beside Second (One Second n last) index (numbered y p l) = rw (page_picked Second (leb y n))

-- what is open to each makes up the open page
pub shared-open : (page : SharedPage) → shared (page_for First page) (page_for Second page) ≡ page
shared-open None = refl
shared-open (One First n last) = refl
shared-open (One Second n last) = refl

-- ---- what a packet is

view_first : (x y : Seen) → x ≡ seen_for First (whose_of x y)
view_first junk y = refl
view_first other y = refl
view_first (packet_y n p l) y = refl
view_first (ours index n) y = refl
view_first foreign (ours index n) = refl
view_first foreign junk = refl
view_first foreign other = refl
view_first foreign foreign = refl
view_first foreign (packet_y n p l) = refl

not_and : (a : Bool) → both (not a) a ≡ false
not_and true = refl
not_and false = refl

-- whose a packet 0 with this stream, index and count is
abbrev pub named : Streams → ℕ → ℕ → ℕ → SeenByTwo
named s stream index n = pick (eqb stream s.first) (header First index n) (pick (eqb stream s.second) (header Second index n) neither)

-- a stream that a packet 0 can have is the second's alone where it is the second's and not the first's
only-second : (s : Streams) (k : ℕ) → k < 16 → eqb k (second_only s).stream ≡ both (not (eqb k s.first)) (eqb k s.second)
only-second s k h = go (eqb s.first s.second) refl
  where
    go : (t : Bool) → eqb s.first s.second ≡ t → eqb k (pick t 16 s.second) ≡ both (not (eqb k s.first)) (eqb k s.second)
    go true e =
        let n : k ≡ 16 → ⊥ = λ r. omega arith in
        rw (ne_eqb _ _ n, eqb-true s.first s.second e, not_and (eqb k s.second))
    go false e = alone (eqb k s.first) refl (eqb k s.second) refl
      where
        alone : (a : Bool) → eqb k s.first ≡ a → (b : Bool) → eqb k s.second ≡ b → b ≡ both (not a) b
        alone true f true g = absurd (eqb-false s.first s.second e (sym (eqb-true k s.first f) ∙ eqb-true k s.second g))
        alone true f false g = refl
        alone false f b g = refl

module _ (s : Streams) (x : ℕ) (p : List ℕ) where
  pub seen_first : seen_as (first_of s) x p ≡ seen_for First (seen_by_two_as s x p)
  unfolding seen_by_two_as
  seen_first = view_first (seen_as (first_of s) x p) (seen_as (second_of s) x p)

  pub seen-second-only : seen_as (second_only s) x p ≡ seen_for Second (seen_by_two_as s x p)
  unfolding seen_by_two_as seen_as see_y see_zero
  seen-second-only =
      go (eqb (length p) packet_length) (leb x 255) (eqb (x % 8) (s.magazine % 8)) (eqb (x / 8) 0) (leb (x / 8) 25) (decodes 6 l) refl
      (eqb (nib (get_or l 0 0) + 16 * nib (get_or l 1 0)) s.page)
      (eqb k s.first)
      (eqb k s.second)
      (eqb k (second_only s).stream)
      (only-second s k)
    where
      l : List ℕ
      l = drop 2 p

      k : ℕ
      k = nib (get_or l 4 0)

      -- what is seen in a packet 0 of our page, where it is the stream's or not
      zero : Bool → Seen
      zero t = pick t (ours (nib (get_or l 2 0)) (nib (get_or l 3 0) % 8 + 8 * (nib (get_or l 5 0) % 4))) foreign

      view : (long a m z y d b t : Bool) → Seen
      view long a m z y d b t =
          pick long
          (pick a
          (pick m (pick z (pick d (zero (both b t)) junk) (pick y (packet_y (x / 8) (nib (get_or p 2 0)) (drop 3 p)) other)) other)
          junk)
          junk

      go :
          (long a m z y d : Bool) → decodes 6 l ≡ d → (b first second only : Bool) → (k < 16 → only ≡ both (not first) second)
          → view long a m z y d b only ≡ seen_for Second (whose_of (view long a m z y d b first) (view long a m z y d b second))
      go false a m z y d e b f g h q = refl
      go true false m z y d e b f g h q = refl
      go true true false z y d e b f g h q = refl
      go true true true false true d e b f g h q = refl
      go true true true false false d e b f g h q = refl
      go true true true true y false e b f g h q = refl
      go true true true true y true e false f g h q = refl
      go true true true true y true e true true g h q = rw (q (decodes-at 6 4 l (sym e) (lit< tt)))
      go true true true true y true e true false true h q = rw (q (decodes-at 6 4 l (sym e) (lit< tt)))
      go true true true true y true e true false false h q = rw (q (decodes-at 6 4 l (sym e) (lit< tt)))

  -- of two streams that differ the second's is its own
  pub seen-second : (s.first ≡ s.second → ⊥) → seen_as (second_of s) x p ≡ seen_for Second (seen_by_two_as s x p)
  seen-second n = rw (ne_eqb _ _ n) at seen-second-only

  -- a packet 0 of our magazine says whose it is: by its page's number and its stream
  module _ (long : length p ≡ packet_length) (h : x ≤ 255) (q : x % 8 ≡ s.magazine % 8) (z : x / 8 ≡ 0) where
    pub zero-named :
        (let l = drop 2 p in
        seen_by_two_as s x p
        ≡ pick (decodes 6 l)
        (pick (eqb (nib (get_or l 0 0) + 16 * nib (get_or l 1 0)) s.page)
        (named s (nib (get_or l 4 0)) (nib (get_or l 2 0)) (nib (get_or l 3 0) % 8 + 8 * (nib (get_or l 5 0) % 4)))
        neither)
        unreadable)
    unfolding seen_by_two_as seen_zero see_zero
    zero-named =
        rw (as-zero (first_of s) p long h q z, as-zero (second_of s) p long h q z, eq-eqb _ _ long)
        (go (decodes 6 l) (eqb (nib (get_or l 0 0) + 16 * nib (get_or l 1 0)) s.page) (eqb k s.first) (eqb k s.second))
      where
        l : List ℕ
        l = drop 2 p

        k : ℕ
        k = nib (get_or l 4 0)

        i : ℕ
        i = nib (get_or l 2 0)

        n : ℕ
        n = nib (get_or l 3 0) % 8 + 8 * (nib (get_or l 5 0) % 4)

        go :
            (d b f g : Bool)
            → whose_of (pick d (pick (both b f) (ours i n) foreign) junk) (pick d (pick (both b g) (ours i n) foreign) junk)
            ≡ pick d (pick b (pick f (header First i n) (pick g (header Second i n) neither)) neither) unreadable
        go false b f g = refl
        go true false f g = refl
        go true true true g = refl
        go true true false true = refl
        go true true false false = refl

  -- two verdicts, each of one stream alone, make up the verdict on both
  module _ (page : SharedPage) (i j : ℕ) where
    pub judged-beside :
        {a b : Verdict} {q : SharedPage} → a ≡ verdict_of (page_for First page) i (seen_as (first_of s) x p)
        → b ≡ verdict_of (page_for Second page) j (seen_as (second_only s) x p) → q ≡ shared a.page b.page
        → ◌≡◌ {A = Verdicts} (record { page = q; first = a; second = b }) (verdicts_of page i j (seen_by_two_as s x p))
    judged-beside {a} {b} e f g =
        let y = seen_by_two_as s x p in
        let u : a ≡ verdict_for First page i y = rw (verdict_beside First page i y, ← seen_first) e in
        let v : b ≡ verdict_for Second page j y = rw (verdict_beside Second page j y, ← seen-second-only) f in
        rw (g, u, v, shared-open (open_after page y))

-- two streams in range differ
pub streams_differ : (s : Streams) → in_range_of_two s ≡ true → s.first ≡ s.second → ⊥
unfolding in_range_of_two
streams_differ s h e =
    let d = both-second (in_range (second_of s)) _ (both-second (in_range (first_of s)) _ h) in
    eqb-false s.first s.second (not-true _ d) e

-- then a packet is to each stream what it is to a reader of that stream
pub see_beside : (w : Whose) (s : Streams) (p : List ℕ) → in_range_of_two s ≡ true → see (setting_for w s) p ≡ seen_for w (see_by_two s p)
unfolding see see_by_two
see_beside First s p h = seen_first s (address_of p) p
see_beside Second s p h = seen-second s (address_of p) p (streams_differ s h)
