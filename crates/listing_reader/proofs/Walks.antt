-- The walk along a sheet by places: what is left from a place on, with what was counted so far, tells of the whole. Assumes nothing.
use mathlib.Core.Path.{◌≡◌, ◌∙◌, refl, sym, ap}
use mathlib.Core.Bool.{Bool, true, false}
use mathlib.Core.List.{List, [], ◌∷◌}
use Prim.Native.Nat.{ℕ, suc, ◌+◌, ◌*◌, ◌-◌, ◌/◌, ◌≤◌, ◌<◌}
use native.Mathlib.Omega.{arith}
use borrow.Author.Tests.{eq-eqb, ne_eqb, eqb-true, eqb-false}
use lib.Dec.{eqb, ltb}
use lib.ListN.{length, drop, length-drop, drop_of_length-le}
use lib.Seq.{drop-drop}
use Rattle.laws.specs.Pick.{pick, either}
use Rattle.laws.proofs.Tests.{either_assoc, either_false}
use Rattle.forms.specs.Tables.{Descriptor, TI, per, entries}
use Rattle.listing.specs.Lines.{descriptor_name}
use Rattle.std.specs.declared.result.Result.TheVariants.{Ok, Err}
use Rattle.listing_reader.specs.declared.End.{End}
use Rattle.listing_reader.specs.declared.Row.{Row}
use Rattle.listing_reader.specs.declared.Part.{Part}
use Rattle.listing_reader.specs.declared.Summary.{Summary}
use Rattle.listing_reader.specs.declared.lines.Line.{Line}
use Rattle.listing_reader.specs.Lines.{language_at, page_at, number_at, kind_at}
use Rattle.listing_reader.specs.Many.{Step, item, stop, Many, none, behind, many}
use Rattle.listing_reader.specs.Reading.{same, with_page, with_language, words_at, words_of, with_words, with_number, descriptor_at, descriptors_of, flat}
use Rattle.listing_reader.specs.Internal.{Inside, piece_of, row_of, part_of}
use Rattle.listing_reader.specs.Reading.{entries_in, over_in, summary_of}
use Rattle.listing_reader.proofs.Spells.{language_sound, page-sound, number-sound, kind_sound}
use Rattle.listing_reader.proofs.Rows.{Each, none as empty, more, whole_item, whole-stop}
use Rattle.listing_reader.proofs.Rowed.{spelled-within, Words, language, subtitle, words_row, words_within, words_stepping, descriptor_stepping}

-- ---- places

-- so many bytes on, where there are so many
pub within_on : {sheet : List ℕ} {at : ℕ} (n : ℕ) → Inside sheet at → n ≤ length (drop at sheet) → Inside sheet (at + n)
within_on {sheet} {at} n w h =
    record { inside = omega (arith, w.inside, simp length-drop at h); short = w.short }

-- no line goes over the end of the bytes
pub number-within : (name : List ℕ) (most : ℕ) (bytes : List ℕ) → (number_at name most bytes).long ≤ length bytes
number-within name most bytes = go (eqb (number_at name most bytes).long 0) refl
  where
    go : (z : Bool) → eqb (number_at name most bytes).long 0 ≡ z → (number_at name most bytes).long ≤ length bytes
    go true e = omega (arith, eqb-true (number_at name most bytes).long 0 e)
    go false e = spelled-within (number-sound name most bytes (eqb-false (number_at name most bytes).long 0 e)).1

pub kind_within : (bytes : List ℕ) → (kind_at bytes).long ≤ length bytes
kind_within bytes = go (eqb (kind_at bytes).long 0) refl
  where
    go : (z : Bool) → eqb (kind_at bytes).long 0 ≡ z → (kind_at bytes).long ≤ length bytes
    go true e = omega (arith, eqb-true (kind_at bytes).long 0 e)
    go false e = spelled-within (kind_sound bytes (eqb-false (kind_at bytes).long 0 e)).1

pub number-place :
    (name : List ℕ) (most : ℕ) {sheet : List ℕ} {at : ℕ} {l : Line} → Inside sheet at → l ≡ number_at name most (drop at sheet)
    → Inside sheet (at + l.long)
number-place name most {sheet} {at} {l} w e = within_on l.long w (rw e (number-within name most (drop at sheet)))

pub kind_place : {sheet : List ℕ} {at : ℕ} {l : Line} → Inside sheet at → l ≡ kind_at (drop at sheet) → Inside sheet (at + l.long)
kind_place {sheet} {at} {l} w e = within_on l.long w (rw e (kind_within (drop at sheet)))

-- ---- an entry of a descriptor

pub language_within : (bytes : List ℕ) → (language_at bytes).long ≤ length bytes
language_within bytes = go (eqb (language_at bytes).long 0) refl
  where
    go : (z : Bool) → eqb (language_at bytes).long 0 ≡ z → (language_at bytes).long ≤ length bytes
    go true e = omega (arith, eqb-true (language_at bytes).long 0 e)
    go false e = spelled-within (language_sound bytes (eqb-false (language_at bytes).long 0 e)).1

pub page-within : (bytes : List ℕ) → (page_at bytes).long ≤ length bytes
page-within bytes = go (eqb (page_at bytes).long 0) refl
  where
    go : (z : Bool) → eqb (page_at bytes).long 0 ≡ z → (page_at bytes).long ≤ length bytes
    go true e = omega (arith, eqb-true (page_at bytes).long 0 e)
    go false e = spelled-within (page-sound bytes (eqb-false (page_at bytes).long 0 e)).1

module _ (sheet : List ℕ) (at kind : ℕ) (l : Line) (reads-l : l ≡ language_at (drop at sheet)) where
  pub language_room : l.long ≤ length (drop at sheet)
  language_room = rw reads-l (language_within (drop at sheet))

  pub words-stop : l.long ≡ 0 → Err (record { fine = true; long = 0 }) ≡ piece_of (words_at kind (drop at sheet))
  unfolding with_language piece_of
  words-stop e = rw (← reads-l, e)

  module _ (some : l.long ≡ 0 → ⊥) where
    pub words-language : (kind ≡ TI → ⊥) → Ok l.long ≡ piece_of (words_at kind (drop at sheet))
    unfolding with_language piece_of
    words-language n = rw (← reads-l, ne_eqb l.long 0 some, ne_eqb kind TI n)

    module _ (ti : kind ≡ TI) (p : Line) (reads-p : p ≡ page_at (drop (at + l.long) sheet)) where
      pub page-room : p.long ≤ length (drop (at + l.long) sheet)
      page-room = rw reads-p (page-within (drop (at + l.long) sheet))

      pub words-unpaged : p.long ≡ 0 → Err (record { fine = false; long = l.long }) ≡ piece_of (words_at kind (drop at sheet))
      unfolding with_language with_page piece_of
      words-unpaged e = rw (← reads-l, ne_eqb l.long 0 some, eq-eqb kind TI ti, drop-drop l.long at sheet, ← reads-p, e)

      pub words-subtitle :
          (p.long ≡ 0 → ⊥) → Ok (l.long + p.long) ≡ piece_of (words_at kind (drop at sheet))
      unfolding with_language with_page piece_of
      words-subtitle n =
          rw (← reads-l, ne_eqb l.long 0 some, eq-eqb kind TI ti, drop-drop l.long at sheet, ← reads-p, ne_eqb p.long 0 n)

-- ---- the entries of a descriptor

piece_item : (t : Step (List ℕ)) {n : ℕ} → Ok n ≡ piece_of t → (ws : List ℕ) × (t ≡ item ws n)
unfolding piece_of
piece_item (item ws m) {n} e = (ws, ap (item ws) (let z : m ≡ n = cc in z))
piece_item (stop b m) {n} e = let z : ◌≡◌ {A = ℕ} 0 1 = cc in absurd (omega arith)

piece_stop : (t : Step (List ℕ)) {w : End} → Err w ≡ piece_of t → t ≡ stop w.fine w.long
unfolding piece_of
piece_stop (item ws n) {w} e = let z : ◌≡◌ {A = ℕ} 0 1 = cc in absurd (omega arith)
piece_stop (stop b n) {w} e = let z : ◌≡◌ {A = End} (record { fine = b; long = n }) w = cc in ap (λ (x : End). stop x.fine x.long) z

abbrev pub row_after : ℕ → ℕ → Many (List ℕ) → Row
row_after count passed m = record { count = count + length m.items; fine = m.fine; long = passed + m.long }

pub row_from_lem : (at : ℕ) (m : Many (List ℕ)) → row_after 0 (at - at) m ≡ row_of m
row_from_lem at m = let z : at - at + m.long ≡ m.long = omega arith in let y : 0 + length m.items ≡ length m.items = omega arith in rw (z, y)

module _ (sheet : List ℕ) (at p kind : ℕ) (after : at ≤ p) where
  pub row_on :
      (count long : ℕ) → Ok long ≡ piece_of (words_at kind (drop p sheet))
      → (1 ≤ long) × (long ≤ length (drop p sheet))
      × (row_after (count + 1) (p + long - at) (words_of kind (drop (p + long) sheet)) ≡ row_after count (p - at) (words_of kind (drop p sheet)))
  unfolding words_of
  row_on count long m =
      let i = piece_item (words_at kind (drop p sheet)) m in
      let e : words_at kind (drop p sheet) ≡ item i.0 long = i.1 in
      let b = words_stepping.moves_on kind (drop p sheet) i.0 long e in
      let w = whole_item same words_at words_stepping kind (drop p sheet) i.0 long e in
      let d = drop-drop long p sheet in
      let m' = many same words_at (length (drop long (drop p sheet))) kind (drop long (drop p sheet)) in
      let c' : count + 1 + length m'.items ≡ count + suc (length m'.items) = omega arith in
      let l' : p + long - at + m'.long ≡ p - at + (long + m'.long) = omega arith in
      let step : row_after (count + 1) (p + long - at) m' ≡ row_after count (p - at) (behind i.0 long m') = rw (c', l') in (
        b.0,
        b.1,
        ap (λ (l : List ℕ). row_after (count + 1) (p + long - at) (many same words_at (length l) kind l)) (sym d) ∙ step
            ∙ sym (ap (row_after count (p - at)) w),
      )

  pub row-end :
      (count : ℕ) (r : End) → Err r ≡ piece_of (words_at kind (drop p sheet))
      → (r.long ≤ length (drop p sheet))
      × (record { count = count; fine = r.fine; long = p + r.long - at } ≡ row_after count (p - at) (words_of kind (drop p sheet)))
  unfolding words_of
  row-end count r m =
      let e : words_at kind (drop p sheet) ≡ stop r.fine r.long = piece_stop (words_at kind (drop p sheet)) m in
      let b = words_stepping.stays kind (drop p sheet) r.fine r.long e in
      let w = whole-stop same words_at words_stepping kind (drop p sheet) r.fine r.long e in
      let c' : count ≡ count + 0 = omega arith in
      let l' : p + r.long - at ≡ p - at + r.long = omega arith in
      let step : record { count = count; fine = r.fine; long = p + r.long - at } ≡ row_after count (p - at) (none r.fine r.long) =
      rw (l', ← c') in
      (b, step ∙ sym (ap (row_after count (p - at)) w))

-- ---- a descriptor

-- entries of a kind have so many words each
pub flat-length : (kind : ℕ) (rows : List (List ℕ)) → Each same words_at Words kind rows → length (flat rows) ≡ per kind * length rows
unfolding flat per
flat-length kind [] empty = omega arith
flat-length kind (ws ∷ rows) (more (language e h) ps) = let l = flat-length kind rows ps in rw e (omega (arith, rw e at l))
flat-length kind (ws ∷ rows) (more (subtitle e h g) ps) = let l = flat-length kind rows ps in rw e (omega (arith, rw e at l))

-- so their number is that of the rows
pub entries-flat : (kind : ℕ) (rows : List (List ℕ)) → Each same words_at Words kind rows → entries kind (flat rows) ≡ length rows
unfolding per
entries-flat kind rows each = go (eqb kind TI) refl (flat-length kind rows each)
  where
    go : (z : Bool) → eqb kind TI ≡ z → length (flat rows) ≡ per kind * length rows → length (flat rows) / pick z 2 1 ≡ length rows
    go true e l = omega (arith, rw e at l)
    go false e l = omega (arith, rw e at l)

module _ (sheet : List ℕ) (at kind : ℕ) (d : Line) (reads-d : d ≡ number_at descriptor_name 63 (drop at sheet)) where
  pub number-room : d.long ≤ length (drop at sheet)
  number-room = rw reads-d (number-within descriptor_name 63 (drop at sheet))

  pub descriptor-stop :
      d.long ≡ 0 → Err (record { fine = true; long = 0 }) ≡ part_of kind (descriptor_at kind (drop at sheet))
  unfolding with_number part_of
  descriptor-stop e = rw (← reads-d, e)

  module _ (some : d.long ≡ 0 → ⊥) (r : Row) (reads-r : r ≡ row_of (words_of kind (drop (at + d.long) sheet))) where
    pub row_room : r.long ≤ length (drop (at + d.long) sheet)
    row_room = rw reads-r (words_within kind (drop (at + d.long) sheet))

    met : descriptor_at kind (drop at sheet) ≡ with_words d (words_of kind (drop (at + d.long) sheet))
    unfolding with_number
    met = rw (← reads-d, ne_eqb d.long 0 some, drop-drop d.long at sheet)

    pub descriptor-broken :
        r.fine ≡ false
        → Err (record { fine = false; long = d.long + r.long }) ≡ part_of kind (descriptor_at kind (drop at sheet))
    unfolding with_words part_of
    descriptor-broken e =
        let f : (words_of kind (drop (at + d.long) sheet)).fine ≡ false = sym (ap (λ (x : Row). x.fine) reads-r) ∙ e in
        let l : r.long ≡ (words_of kind (drop (at + d.long) sheet)).long = ap (λ (x : Row). x.long) reads-r in
        rw (met, f, l)

    pub descriptor-read :
        r.fine ≡ true
        → Ok (record { count = r.count; long = d.long + r.long }) ≡ part_of kind (descriptor_at kind (drop at sheet))
    unfolding with_words part_of
    descriptor-read e =
        let m = words_of kind (drop (at + d.long) sheet) in
        let f : m.fine ≡ true = sym (ap (λ (x : Row). x.fine) reads-r) ∙ e in
        let l : r.long ≡ m.long = ap (λ (x : Row). x.long) reads-r in
        let n : r.count ≡ entries kind (flat m.items) =
        ap (λ (x : Row). x.count) reads-r ∙ sym (entries-flat kind m.items (words_row kind (drop (at + d.long) sheet) f).each) in
        rw (met, f, l, n)

-- ---- the descriptors of a table

part_item :
    (kind : ℕ) (t : Step Descriptor) {r : Part} → Ok r ≡ part_of kind t
    → (d : Descriptor) × (t ≡ item d r.long) × (r.count ≡ entries kind d.words)
unfolding part_of
part_item kind (item d n) {r} e =
    let z : ◌≡◌ {A = Part} (record { count = entries kind d.words; long = n }) r = cc in
    (d, ap (λ (x : Part). item d x.long) z, sym (ap (λ (x : Part). x.count) z))
part_item kind (stop b n) {r} e = let z : ◌≡◌ {A = ℕ} 0 1 = cc in absurd (omega arith)

part-stop : (kind : ℕ) (t : Step Descriptor) {w : End} → Err w ≡ part_of kind t → t ≡ stop w.fine w.long
unfolding part_of
part-stop kind (item d n) {w} e = let z : ◌≡◌ {A = ℕ} 0 1 = cc in absurd (omega arith)
part-stop kind (stop b n) {w} e = let z : ◌≡◌ {A = End} (record { fine = b; long = n }) w = cc in ap (λ (x : End). stop x.fine x.long) z

abbrev pub table_after : ℕ → ℕ → ℕ → Bool → ℕ → Many Descriptor → Summary
table_after kind count entered over passed m =
    record {
      count = count + length m.items;
      entries = entered + entries_in kind m.items;
      over = either over (over_in kind m.items);
      fine = m.fine;
      long = passed + m.long;
    }

pub table_from : (kind at : ℕ) (m : Many Descriptor) → table_after kind 0 0 false (at - at) m ≡ summary_of kind m
table_from kind at m =
    let z : at - at + m.long ≡ m.long = omega arith in
    let y : 0 + length m.items ≡ length m.items = omega arith in
    let x : 0 + entries_in kind m.items ≡ entries_in kind m.items = omega arith in
    rw (z, y, x)

module _ (sheet : List ℕ) (at p kind : ℕ) (after : at ≤ p) where
  pub table_on :
      (count entered : ℕ) (over over' : Bool) (r : Part) → over' ≡ either over (ltb 15 r.count) → Ok r ≡ part_of kind (descriptor_at kind (drop p sheet))
      → (1 ≤ r.long) × (r.long ≤ length (drop p sheet))
      × (table_after kind (count + 1) (entered + r.count) over' (p + r.long - at) (descriptors_of kind (drop (p + r.long) sheet))
      ≡ table_after kind count entered over (p - at) (descriptors_of kind (drop p sheet)))
  unfolding descriptors_of entries_in over_in
  table_on count entered over over' r f m =
      let i = part_item kind (descriptor_at kind (drop p sheet)) m in
      let d = i.0 in
      let e : descriptor_at kind (drop p sheet) ≡ item d r.long = i.1 in
      let k : r.count ≡ entries kind d.words = i.2 in
      let b = descriptor_stepping.moves_on kind (drop p sheet) d r.long e in
      let w = whole_item same descriptor_at descriptor_stepping kind (drop p sheet) d r.long e in
      let m' = many same descriptor_at (length (drop r.long (drop p sheet))) kind (drop r.long (drop p sheet)) in
      let c' : count + 1 + length m'.items ≡ count + suc (length m'.items) = omega arith in
      let n' : entered + r.count + entries_in kind m'.items ≡ entered + (entries kind d.words + entries_in kind m'.items) = omega (arith, k) in
      let o' : either over' (over_in kind m'.items) ≡ either over (either (ltb 15 (entries kind d.words)) (over_in kind m'.items)) =
      ap (λ (x : Bool). either x (over_in kind m'.items)) f ∙ either_assoc over (ltb 15 r.count) (over_in kind m'.items)
      ∙ ap (λ (x : ℕ). either over (either (ltb 15 x) (over_in kind m'.items))) k in
      let l' : p + r.long - at + m'.long ≡ p - at + (r.long + m'.long) = omega arith in
      let step : table_after kind (count + 1) (entered + r.count) over' (p + r.long - at) m'
      ≡ table_after kind count entered over (p - at) (behind d r.long m') = rw (c', n', o', l') in (
        b.0,
        b.1,
        ap (λ (l : List ℕ). table_after kind (count + 1) (entered + r.count) over' (p + r.long - at) (many same descriptor_at (length l) kind l))
            (sym (drop-drop r.long p sheet))
            ∙ step ∙ sym (ap (table_after kind count entered over (p - at)) w),
      )

  pub table-end :
      (count entered : ℕ) (over : Bool) (r : End) → Err r ≡ part_of kind (descriptor_at kind (drop p sheet))
      → (r.long ≤ length (drop p sheet))
      × (record { count = count; entries = entered; over = over; fine = r.fine; long = p + r.long - at }
      ≡ table_after kind count entered over (p - at) (descriptors_of kind (drop p sheet)))
  unfolding descriptors_of entries_in over_in
  table-end count entered over r m =
      let e : descriptor_at kind (drop p sheet) ≡ stop r.fine r.long = part-stop kind (descriptor_at kind (drop p sheet)) m in
      let b = descriptor_stepping.stays kind (drop p sheet) r.fine r.long e in
      let w = whole-stop same descriptor_at descriptor_stepping kind (drop p sheet) r.fine r.long e in
      let c' : count ≡ count + 0 = omega arith in
      let n' : entered ≡ entered + 0 = omega arith in
      let l' : p + r.long - at ≡ p - at + r.long = omega arith in
      let step : record { count = count; entries = entered; over = over; fine = r.fine; long = p + r.long - at }
      ≡ table_after kind count entered over (p - at) (none r.fine r.long) = rw (l', ← c', ← n', either_false over) in
      (b, step ∙ sym (ap (table_after kind count entered over (p - at)) w))

-- no table where there are no bytes
pub table_none : (sheet : List ℕ) (at kind : ℕ) → length sheet < at → summary_of kind (descriptors_of kind (drop at sheet)) ≡ record { count = 0; entries = 0; over = false; fine = true; long = 0 }
unfolding descriptors_of many entries_in over_in
table_none sheet at kind h = rw (drop_of_length-le sheet {i = at} (omega arith))
