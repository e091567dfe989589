-- Packets counted and noted one after the other: one more, and none left. Assumes nothing.
use mathlib.Core.Path.{◌≡◌, ◌∙◌, refl, sym, ap}
use mathlib.Core.Bool.{Bool, true, false}
use mathlib.Core.List.{List, map}
use Prim.Native.Nat.{ℕ, suc, ◌+◌, ◌-◌, ◌*◌, ◌/◌, ◌≤◌, ◌<◌}
use native.Mathlib.Omega.{arith}
use lib.ListN.{length, take, drop}
use lib.Seq.{drop-drop}
use Rattle.std.specs.declared.option.Option.{Option}
use Rattle.laws.proofs.Lists.{part_of}
use Rattle.packet.specs.declared.two.Streams.{Streams}
use Rattle.packet.specs.Packet.{packet_length}
use Rattle.survey.specs.declared.Counts.{Counts}
use Rattle.survey.specs.Counting.{counted}
use Rattle.survey.specs.Either.{see_either}
use Rattle.survey.specs.Pages.{code_of, noted}
use Rattle.octet.specs.Turning.{turned}
use Rattle.survey.specs.Fitting.{first_in}
use Rattle.told.specs.Fronts.{front_of}
use Rattle.sight.specs.declared.Sight.{Sight}
use Rattle.sight.specs.Sights.{seen_from, counted_all, noted_all, fit_from, is_looked, seen_on, left_of, noted_in, looked_sight, looked_at, noted_at}

-- after i packets of l
module _ (l : List ℕ) (i : ℕ) where
  one_fewer : i < length l / packet_length → length l / packet_length - i ≡ suc (length l / packet_length - (i + 1))
  one_fewer h = omega arith

  none_left : length l / packet_length ≤ i → length l / packet_length - i ≡ 0
  none_left h = omega arith

  further : 42 * (i + 1) ≡ 42 * i + 42
  further = omega arith

  pub count-on :
      (g : Streams) (c : Counts) {after : Counts} → i < length l / packet_length
      → after ≡ counted c (see_either g (take (42 * i + 42 - 42 * i) (drop (42 * i) l)))
      → counted_all g (length l / packet_length - (i + 1)) after (drop (42 * (i + 1)) l)
      ≡ counted_all g (length l / packet_length - i) c (drop (42 * i) l)
  unfolding counted_all
  count-on g c h e = rw (one_fewer h, e, part_of (42 * i) 42 l, further, ← drop-drop 42 (42 * i) l)

  pub note-on :
      (pages : List ℕ) {after : List ℕ} → i < length l / packet_length
      → after ≡ noted (code_of (take (42 * i + 42 - 42 * i) (drop (42 * i) l))) pages
      → noted_all (length l / packet_length - (i + 1)) after (drop (42 * (i + 1)) l)
      ≡ noted_all (length l / packet_length - i) pages (drop (42 * i) l)
  unfolding noted_all
  note-on pages h e = rw (one_fewer h, e, part_of (42 * i) 42 l, further, ← drop-drop 42 (42 * i) l)

  pub count-out : (g : Streams) (c : Counts) → length l / packet_length ≤ i → c ≡ counted_all g (length l / packet_length - i) c (drop (42 * i) l)
  unfolding counted_all
  count-out g c h = rw (none_left h)

  pub note-out : (pages : List ℕ) → length l / packet_length ≤ i → pages ≡ noted_all (length l / packet_length - i) pages (drop (42 * i) l)
  unfolding noted_all
  note-out pages h = rw (none_left h)

-- ---- a piece that is looked at

module _
    (g : Streams) (s : Sight) (n : ℕ) (piece : List ℕ) {first again : List ℕ} {begun : Sight} {counts : Counts}
    (a : first ≡ front_of n piece) (b : begun ≡ seen_from s first) (c : again ≡ front_of n piece)
    (d : counts ≡ counted_all g (length again / packet_length) begun.counts again)
  where
    pub looked-came :
        counts.came ≡ true
        → (record { counts = counts; any = begun.any; pes = begun.pes; plain = begun.plain; turned = begun.turned } ≡ seen_on g s n piece)
        × (piece ≡ left_of g s n piece)
    looked-came t = let t' = rw (d, b, c, a) at t in (rw (d, b, c, a, t'), rw t')

    pub looked-lacking :
        {bytes turns new : List ℕ} {x y : Option ℕ} → counts.came ≡ false → bytes ≡ front_of n piece
        → x ≡ fit_from begun.plain (first_in g bytes 0) → new ≡ map turned piece → turns ≡ front_of n new
        → y ≡ fit_from begun.turned (first_in g turns 0)
        → (record { counts = counts; any = begun.any; pes = begun.pes; plain = x; turned = y } ≡ seen_on g s n piece) × (new ≡ left_of g s n piece)
    looked-lacking t e f h i j = let t' = rw (d, b, c, a) at t in (rw (j, i, h, f, e, d, b, c, a, t'), rw (h, t'))

-- the list of pages, from the front of the piece
pub noted-front :
    (n : ℕ) (piece pages : List ℕ) {again after : List ℕ} → again ≡ front_of n piece → after ≡ noted_all (length again / packet_length) pages again
    → after ≡ noted_in n piece pages
noted-front n piece pages e d = d ∙ ap (λ (l : List ℕ). noted_all (length l / packet_length) pages l) e

-- ---- any piece

module _ (g : Streams) (verbose : Bool) (s : Sight) (n : ℕ) (piece pages : List ℕ) {t : Bool} (e : t ≡ is_looked verbose s n) where
  abbrev Looks : Sight → List ℕ → List ℕ → Type 0
  Looks r new after =
      (r ≡ looked_sight g verbose s n piece) × ((new ≡ looked_at g verbose s n piece) × (after ≡ noted_at verbose s n piece pages))

  pub is-looked :
      {r : Sight} {new after : List ℕ} → t ≡ true
      → (r ≡ seen_on g s n piece) × ((new ≡ left_of g s n piece) × (after ≡ noted_in n piece pages)) → Looks r new after
  is-looked f w = let q : is_looked verbose s n ≡ true = sym e ∙ f in rw q w

  pub not-looked : t ≡ false → Looks s piece pages
  not-looked f = let q : is_looked verbose s n ≡ false = sym e ∙ f in rw q (refl, (refl, refl))
