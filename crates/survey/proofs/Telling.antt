-- What a verdict of the reader's rules tells of a packet. Assumes nothing.
use mathlib.Core.Path.{◌≡◌, ◌∙◌, refl, sym, ap}
use mathlib.Core.Bool.{Bool, true, false, not}
use mathlib.Core.List.{List}
use Prim.Native.Nat.{ℕ}
use native.Mathlib.Nat.{le_refl}
use native.Mathlib.Omega.{arith}
use lib.Dec.{eqb, leb}
use borrow.Author.Tests.{le-ltb, eq-eqb, ne_eqb}
use Rattle.laws.specs.Pick.{pick}
use Rattle.packet.specs.declared.Setting.{Setting}
use Rattle.packet.specs.declared.two.Streams.{Streams}
use Rattle.packet.specs.Two.{first_of, second_of}
use Rattle.packet.specs.Address.{address_of}
use Rattle.pages.specs.declared.headers.Page.TheVariants.{Shut, Open}
use Rattle.pages.specs.declared.headers.Verdict.{Verdict}
use Rattle.pages.specs.Headers.{Seen, junk, other, foreign, ours, packet_y}
use Rattle.pages.specs.Judging.{wrong_y}
use Rattle.pages.specs.declared.two.Whose.TheVariants.{Second}
use Rattle.pages.specs.Seen.{see, seen_as}
use Rattle.pages.specs.Two.{whose_of, seen_by_two_as, see_by_two, seen_for}
use Rattle.pages.proofs.Judged.{Shaped, shaped}
use Rattle.pages.proofs.Beside.{seen-second}
use Rattle.survey.specs.declared.Counts.{Counts}
use Rattle.survey.specs.Counting.{more, counted}
use Rattle.survey.specs.Either.{anyones, see_either}
use Rattle.survey.specs.Fitting.{is_ours}
use Rattle.survey.specs.Internal.{no_index, asked, most_of, heeded, heeded_at}

-- ---- a packet 0 of either stream is ours

-- what is the first's, what isn't, and what is of one stream
ours_first : (x y : Seen) → is_ours x ≡ true → anyones (whose_of x y) ≡ x
ours_first (ours i n) y e = refl
ours_first junk y e = refl
ours_first other y e = refl
ours_first (packet_y n p l) y e = refl
ours_first foreign y e = absurd (not_both e)
  where
    not_both : false ≡ true → ⊥
    not_both q = let z : ◌≡◌ {A = ℕ} 0 1 = ap (λ (b : Bool). pick b 1 0) q in omega arith

ours_second : (x y : Seen) → is_ours x ≡ false → anyones (whose_of x y) ≡ seen_for Second (whose_of x y)
ours_second junk y e = refl
ours_second other y e = refl
ours_second (packet_y n p l) y e = refl
ours_second foreign (ours i n) e = refl
ours_second foreign junk e = refl
ours_second foreign other e = refl
ours_second foreign foreign e = refl
ours_second foreign (packet_y n p l) e = refl
ours_second (ours i n) y e = absurd (not_both e)
  where
    not_both : true ≡ false → ⊥
    not_both q = let z : ◌≡◌ {A = ℕ} 1 0 = ap (λ (b : Bool). pick b 1 0) q in omega arith

one-stream : (x : Seen) → anyones (whose_of x x) ≡ x
one-stream junk = refl
one-stream other = refl
one-stream foreign = refl
one-stream (ours i n) = refl
one-stream (packet_y n p l) = refl

shaped-either : (p : List ℕ) (x y : Seen) → Shaped p x → Shaped p y → Shaped p (anyones (whose_of x y))
shaped-either p junk y h k = tt
shaped-either p other y h k = tt
shaped-either p (ours i n) y h k = h
shaped-either p (packet_y n q l) y h k = h
shaped-either p foreign junk h k = tt
shaped-either p foreign other h k = tt
shaped-either p foreign foreign h k = tt
shaped-either p foreign (ours i n) h k = k
shaped-either p foreign (packet_y n q l) h k = tt

module _ (s : Streams) (p : List ℕ) where
  -- with its own address a packet is what it is
  seen-in : (g : Setting) {x : ℕ} → x ≡ address_of p → seen_as g x p ≡ see g p
  unfolding see
  seen-in g e = ap (λ (n : ℕ). seen_as g n p) e

  pub shaped_in : Shaped p (see_either s p)
  unfolding see_either see_by_two seen_by_two_as see
  shaped_in = shaped-either p (see (first_of s) p) (see (second_of s) p) (shaped (first_of s) p) (shaped (second_of s) p)

  -- of one stream alone a packet is what it is to a reader of that stream: with one stream nothing changes
  pub alone : s.first ≡ s.second → see_either s p ≡ see (first_of s) p
  unfolding see_either see_by_two seen_by_two_as see
  alone e =
      let same : second_of s ≡ first_of s = rw e in
      ap (λ (g : Setting). anyones (whose_of (see (first_of s) p) (see g p))) same ∙ one-stream (see (first_of s) p)

-- a packet 0 of our page came, and packets up to r are read after it
abbrev opened : Counts → ℕ → Counts
opened c r = record { packets = more c.packets; ours = more c.ours; unreadable = c.unreadable; came = true; most = r }

module _ (p : List ℕ) where
  -- to heed the verdict is to count the packet
  pub heeds : (c : Counts) (x : Seen) → Shaped p x → heeded c (asked c.most x) ≡ counted c x
  heeds c junk h = refl
  heeds c other h = refl
  heeds c foreign h = rw (le-ltb c.most c.most (le_refl c.most))
  heeds c (ours i n) h = let far : i ≡ no_index → ⊥ = λ e. omega (arith, h) in rw (ne_eqb i no_index far) (go (leb n 25))
    where
      go : (t : Bool) → opened c (most_of (pick t (Open n 0) Shut)) ≡ opened c (pick t n 0)
      go true = refl
      go false = refl
  heeds c (packet_y y q l) h = go (wrong_y c.most c.most y) (leb y c.most)
    where
      go : (d t : Bool) → heeded_at c d t (pick t (Open c.most y) (Open c.most c.most)) ≡ heeded_at c d t (Open c.most y)
      go d true = refl
      go d false = refl

  -- only a packet 0 of our page and stream has an index
  pub index-tells : (most : ℕ) (x : Seen) → Shaped p x → not (eqb (asked most x).index no_index) ≡ is_ours x
  index-tells most junk h = refl
  index-tells most other h = refl
  index-tells most foreign h = refl
  index-tells most (ours i n) h = let far : i ≡ no_index → ⊥ = λ e. omega (arith, h) in rw (ne_eqb i no_index far)
  index-tells most (packet_y y q l) h = refl

-- ---- asking for one stream, and then for the other

module _ (s : Streams) (most : ℕ) (p : List ℕ) {x : ℕ} {one : Setting} {v : Verdict} (e : x ≡ address_of p) (f : one ≡ first_of s)
    (g : v ≡ asked most (seen_as one x p)) where
  verdict-first : v ≡ asked most (see (first_of s) p)
  verdict-first = rw (f, seen-in s p (first_of s) e) at g

  tells_first : not (eqb v.index no_index) ≡ is_ours (see (first_of s) p)
  tells_first = rw verdict-first (index-tells p most (see (first_of s) p) (shaped (first_of s) p))

  pub asked-first : (v.index ≡ no_index → ⊥) → v ≡ asked most (see_either s p)
  unfolding see_either see_by_two seen_by_two_as see
  asked-first h =
      let o : is_ours (see (first_of s) p) ≡ true = sym tells_first ∙ rw (ne_eqb _ _ h) in
      rw (ours_first (see (first_of s) p) (see (second_of s) p) o) verdict-first

  pub asked-alone : s.first ≡ s.second → v ≡ asked most (see_either s p)
  asked-alone h = rw (alone s p h) verdict-first

  pub asked-second :
      {two : Setting} {w : Verdict} → v.index ≡ no_index → (s.first ≡ s.second → ⊥) → two ≡ second_of s
      → w ≡ asked most (seen_as two x p) → w ≡ asked most (see_either s p)
  unfolding see_either see_by_two seen_by_two_as see
  asked-second h d k m =
      let o : is_ours (see (first_of s) p) ≡ false = sym tells_first ∙ rw (eq-eqb _ _ h) in
      let t : anyones (see_by_two s p) ≡ see (second_of s) p =
      ours_second (see (first_of s) p) (see (second_of s) p) o ∙ sym (seen-second s (address_of p) p d) in
      rw t (rw (k, seen-in s p (second_of s) e) at m)
