-- Whether a table that was read can be written, by its counts alone. Assumes nothing.
use mathlib.Core.Path.{◌≡◌, ◌∙◌, refl, sym, ap}
use mathlib.Core.Bool.{Bool, true, false}
use mathlib.Core.List.{List, [], ◌∷◌, ◌++◌}
use Prim.Native.Nat.{ℕ, ◌+◌, ◌*◌, ◌^◌, ◌≤◌, ◌<◌}
use native.Mathlib.Nat.{mul-add, mul-zero}
use native.Mathlib.Omega.{arith}
use borrow.Author.Tests.{lt-ltb, le-ltb, ltb-true, ltb-false, lt-leb, leb-true, leb-false, eq-eqb, eqb-true}
use lib.Dec.{eqb, ltb, leb}
use lib.ListN.{length}
use Rattle.laws.specs.Pick.{pick, both, either}
use Rattle.laws.proofs.Tests.{both_true, both-holds}
use Rattle.fields.specs.Fields.{alike, fitting, width}
use Rattle.fields.proofs.Laid.{fitting-append}
use Rattle.forms.specs.Tables.{Descriptor, Table, TI, LI, known, numbered, per, entries, loops, entire, bits, fits}
use Rattle.forms.proofs.Sendable.{sendable, sends}
use Rattle.forms.proofs.Measures.{width-loops, bits_of}
use Rattle.listing_reader.specs.Reading.{same, words_at, descriptor_at, flat}
use Rattle.listing_reader.specs.Reading.{entries_in, over_in}
use Rattle.listing_reader.proofs.Rows.{Each, none, more}
use Rattle.listing_reader.proofs.Rowed.{Words, language, subtitle, Described}
use Rattle.listing_reader.proofs.Walks.{flat-length, entries-flat}

words_fit : (kind : ℕ) (rows : List (List ℕ)) → Each same words_at Words kind rows → fitting (alike 24 (flat rows)) ≡ true
unfolding fitting alike flat
words_fit kind [] none = refl
words_fit kind (ws ∷ rows) (more (language {l} e h) ps) = rw (lt-ltb l (2 ^ 24) h) (words_fit kind rows ps)
words_fit kind (ws ∷ rows) (more (subtitle {l} {p} e h g) ps) = rw (lt-ltb l (2 ^ 24) h, lt-ltb p (2 ^ 24) g) (words_fit kind rows ps)

-- its words are so many for each entry
words_count : (kind : ℕ) (d : Descriptor) → Described kind d → length d.words ≡ per kind * entries kind d.words
words_count kind d p =
    rw p.made (flat-length kind p.rows p.each ∙ ap (λ (n : ℕ). per kind * n) (sym (entries-flat kind p.rows p.each)))

all-entire : (kind : ℕ) (ds : List Descriptor) → Each same descriptor_at Described kind ds → entire kind ds ≡ true
unfolding entire
all-entire kind [] none = refl
all-entire kind (d ∷ ds) (more p ps) =
    let n = per kind * entries kind d.words in
    both-holds (eqb (length d.words) n) (entire kind ds) (eq-eqb (length d.words) n (words_count kind d p)) (all-entire kind ds ps)

-- each count fits its field where none is over it
loops_fit : (kind : ℕ) (ds : List Descriptor) → Each same descriptor_at Described kind ds → over_in kind ds ≡ false → fitting (loops kind ds) ≡ true
unfolding fitting loops over_in
loops_fit kind [] none o = refl
loops_fit kind (d ∷ ds) (more p ps) o = go (ltb 15 (entries kind d.words)) refl o (loops_fit kind ds ps)
  where
    go :
        (z : Bool) → ltb 15 (entries kind d.words) ≡ z → either z (over_in kind ds) ≡ false
        → (over_in kind ds ≡ false → fitting (loops kind ds) ≡ true)
        → both (ltb d.id (2 ^ 6)) (both (ltb (entries kind d.words) (2 ^ 4)) (fitting (alike 24 d.words ++ loops kind ds))) ≡ true
    go true e f ih = let x : ◌≡◌ {A = ℕ} 0 1 = cc in absurd (omega arith)
    go false e f ih =
        let small : entries kind d.words < 16 = omega (arith, ltb-false 15 (entries kind d.words) e) in
        let id_fits : d.id < 64 = omega (arith, p.small) in
        let these : fitting (alike 24 d.words) ≡ true = rw p.made (words_fit kind p.rows p.each) in
        rw (lt-ltb d.id 64 id_fits, lt-ltb (entries kind d.words) 16 small, fitting-append (alike 24 d.words) (loops kind ds), these) (ih f)

none_over : (kind : ℕ) (ds : List Descriptor) → fitting (loops kind ds) ≡ true → over_in kind ds ≡ false
unfolding fitting loops over_in
none_over kind [] h = refl
none_over kind (d ∷ ds) h =
    let a = both_true (ltb d.id (2 ^ 6)) _ h in
    let b = both_true (ltb (entries kind d.words) (2 ^ 4)) _ a.1 in
    let c = both_true (fitting (alike 24 d.words)) (fitting (loops kind ds)) (sym (fitting-append (alike 24 d.words) (loops kind ds)) ∙ b.1) in
    let small : entries kind d.words < 16 = ltb-true (entries kind d.words) 16 b.0 in
    rw (le-ltb 15 (entries kind d.words) (omega arith)) (none_over kind ds c.1)

-- how many bits
loops-wide :
    (kind : ℕ) (ds : List Descriptor) → Each same descriptor_at Described kind ds
    → width (loops kind ds) ≡ 10 * length ds + 24 * (per kind * entries_in kind ds)
loops-wide kind [] none = unfold width loops entries_in in rw (mul-zero (per kind))
loops-wide kind (d ∷ ds) (more p ps) =
    let e : entries_in kind (d ∷ ds) ≡ entries kind d.words + entries_in kind ds = (unfold entries_in in refl) in
    let m = mul-add (per kind) (entries kind d.words) (entries_in kind ds) in
    let w = words_count kind d p in
    let ih = loops-wide kind ds ps in
    rw (width-loops kind d ds, e, m) (omega arith)

module _ (kind block network : ℕ) (ds : List Descriptor) where
  abbrev pub made_table : Table
  made_table = record { kind = kind; copyright = 0; block = block; network = network; descriptors = ds }

  abbrev pub tested : Bool
  tested =
      both (numbered block)
      (both (leb (length ds) 63) (pick (over_in kind ds) false (leb (58 + 10 * length ds + 24 * (per kind * entries_in kind ds)) 8184)))

  pub fits-counts : known kind ≡ true → network ≤ 255 → block ≤ 65535 → Each same descriptor_at Described kind ds → tested ≡ fits made_table
  fits-counts k n b each = go (fits made_table) refl (numbered block) refl (leb (length ds) 63) refl (over_in kind ds) refl (leb bits_are 8184) refl
    where
      bits_are : ℕ
      bits_are = 58 + 10 * length ds + 24 * (per kind * entries_in kind ds)

      wide : bits made_table ≡ bits_are
      wide = bits_of made_table ∙ (let w = loops-wide kind ds each in omega (arith, w))

      kind-small : kind < 64
      kind-small = small (eqb kind TI) refl k
        where
          small : (z : Bool) → eqb kind TI ≡ z → either z (eqb kind LI) ≡ true → kind < 64
          small true e f = omega (arith, eqb-true kind TI e)
          small false e f = omega (arith, eqb-true kind LI f)

      all : numbered block ≡ true → length ds ≤ 63 → over_in kind ds ≡ false → bits_are ≤ 8184 → fits made_table ≡ true
      all m c o w =
          sends made_table
          (record {
            kind_known = k;
            edition = m;
            entire_all = all-entire kind ds each;
            control_fits = omega (arith, wide);
            kind_fits = kind-small;
            copyright_fits = omega arith;
            block_fits = omega arith;
            network_fits = omega arith;
            count_fits = omega arith;
            loops_fit = loops_fit kind ds each o;
          })

      go :
          (f : Bool) → fits made_table ≡ f → (m : Bool) → numbered block ≡ m → (c : Bool) → leb (length ds) 63 ≡ c
          → (o : Bool) → over_in kind ds ≡ o
          → (w : Bool) → leb bits_are 8184 ≡ w
          → both m (both c (pick o false w)) ≡ f
      go false e false m n c o p w q = refl
      go true e false m n c o p w q = let z : true ≡ false = sym (sendable made_table e).edition ∙ m in sym z
      go true e true m true c false p true q = refl
      go false e true m true c false p true q = let z : true ≡ false = sym (all m (leb-true (length ds) 63 c) p (leb-true bits_are 8184 q)) ∙ e in z
      go false e true m true c true p w q = refl
      go false e true m true c false p false q = refl
      go false e true m false c o p w q = refl
      go true e true m false c o p w q = let s = sendable made_table e in absurd (omega (arith, leb-false (length ds) 63 c, s.count_fits))
      go true e true m true c true p w q =
          let s = sendable made_table e in
          let z : true ≡ false = sym p ∙ none_over kind ds s.loops_fit in
          sym z
      go true e true m true c false p false q = let s = sendable made_table e in absurd (omega (arith, leb-false bits_are 8184 q, s.control_fits, wide))

-- an entry has words: more of them than there are bits can't be written
pub entries_over : (kind c e : ℕ) → 8184 < e → leb (58 + 10 * c + 24 * (per kind * e)) 8184 ≡ false
unfolding per
entries_over kind c e h = go (eqb kind TI)
  where
    go : (z : Bool) → leb (58 + 10 * c + 24 * (pick z 2 1 * e)) 8184 ≡ false
    go true = lt-leb (58 + 10 * c + 24 * (2 * e)) 8184 (omega arith)
    go false = lt-leb (58 + 10 * c + 24 * (1 * e)) 8184 (omega arith)
