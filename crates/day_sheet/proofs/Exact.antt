-- Bytes are read as these entries exactly when they are their text, the entries rise by their keys, and each can be written (SCOPE 20.6). So
-- reading and writing come back to the same bytes, and writing and reading to the same entries. Assumes nothing.
use mathlib.Core.Path.{◌≡◌, ◌∙◌, refl, ap}
use mathlib.Core.Bool.{Bool, true}
use mathlib.Core.Logic.{◌↔◌}
use mathlib.Core.List.{List, [], ◌∷◌, ◌++◌, append-nil}
use Prim.Native.Nat.{ℕ, zero, suc, ◌≤◌}
use native.Mathlib.Omega.{arith}
use borrow.Author.Tests.{le-leb, leb-true}
use lib.Dec.{leb}
use lib.ListN.{length, drop, length-drop}
use lib.Seq.{drop-length}
use Rattle.laws.specs.Keyed.{rising, rising_from}
use Rattle.laws.proofs.Tests.{both_true, both-holds}
use Rattle.sheet_entry.specs.Entries.{Entry, key_of, entry_text, written}
use Rattle.day_sheet.specs.Entries.{sheet_text, all_written}
use Rattle.listing_reader.specs.Many.{Step, item, stop, Many, many, further}
use Rattle.sheet_entry.specs.Reading.{entry_at, above}
use Rattle.day_sheet.specs.Reading.{sheet_from, sheet_of}
use Rattle.listing_reader.proofs.Rows.{Each, none, more, texts, row-sound, row_back, seen-item}
use Rattle.sheet_entry.proofs.Entered.{Standing, text_of, entry_seen, entry_stepping, entry-back, ends_at-end}
use Rattle.sheet_entry.specs.declared.Form.{Form}

module _ (form : Form) where
  pub sheet-texts : (least : ℕ) (es : List Entry) → texts above (entry_at form) (text_of form) least es ≡ sheet_text form es
  unfolding texts sheet_text
  sheet-texts least [] = refl
  sheet-texts least (e ∷ es) = ap (λ (x : List ℕ). entry_text form e ++ x) (sheet-texts (above least e) es)

  -- each stands: they rise, and can be written
  pub stand : (least : ℕ) (es : List Entry) → rising_from key_of least es ≡ true → all_written form es ≡ true → Each above (entry_at form) (Standing form) least es
  unfolding rising_from all_written
  stand least [] r w = none
  stand least (e ∷ es) r w =
      let a = both_true (leb least (key_of e)) _ r in
      let b = both_true (written form e) _ w in
      more (record { rises = leb-true least (key_of e) a.0; can = b.0 }) (stand (suc (key_of e)) es a.1 b.1)

  pub stood : (least : ℕ) (es : List Entry) → Each above (entry_at form) (Standing form) least es → (rising_from key_of least es ≡ true) × (all_written form es ≡ true)
  unfolding rising_from all_written
  stood least [] none = (refl, refl)
  stood least (e ∷ es) (more p ps) =
      let r = stood (suc (key_of e)) es ps in
      (both-holds (leb least (key_of e)) _ (le-leb least (key_of e) p.rises) r.0, both-holds (written form e) _ p.can r.1)

  -- a row of entries that ends well ends where the bytes do
  whole-read : (k least : ℕ) (bytes : List ℕ) → length bytes ≤ k → (many above (entry_at form) k least bytes).fine ≡ true → (many above (entry_at form) k least bytes).long ≡ length bytes
  unfolding many further
  whole-read zero least bytes l h = omega arith
  whole-read (suc k) least bytes l h = go (entry_at form least bytes) refl h (λ e n. whole-read k (above least e) (drop n bytes))
    where
      go :
          (t : Step Entry) → entry_at form least bytes ≡ t → (further t (λ e n. many above (entry_at form) k (above least e) (drop n bytes))).fine ≡ true
          → ((e : Entry) (n : ℕ) → length (drop n bytes) ≤ k → (many above (entry_at form) k (above least e) (drop n bytes)).fine ≡ true
          → (many above (entry_at form) k (above least e) (drop n bytes)).long ≡ length (drop n bytes))
          → (further t (λ e n. many above (entry_at form) k (above least e) (drop n bytes))).long ≡ length bytes
      go (item e n) s f ih =
          let m = (entry_stepping form).moves_on least bytes e n s in
          let r = ih e n (rw length-drop (omega arith)) f in
          omega (arith, simp length-drop at r)
      go (stop b n) s f ih =
          let g = s ∙ ap (λ (x : Bool). stop x n) f in
          let z : n ≡ 0 = (entry_stepping form).ends_well least bytes n g in
          let y : length bytes ≡ 0 = ap length (ends_at-end form least n bytes g) in
          omega arith

  module _ (bytes : List ℕ) where
    -- what is read, written again
    pub read-written :
        (least : ℕ) → (sheet_from form least bytes).fine ≡ true
        → (bytes ≡ sheet_text form (sheet_from form least bytes).items) × (rising_from key_of least (sheet_from form least bytes).items ≡ true)
        × (all_written form (sheet_from form least bytes).items ≡ true)
    unfolding sheet_from
    read-written least h =
        let r = row-sound above (entry_at form) (entry_stepping form) (Standing form) (text_of form) (seen-item above (entry_at form) (Standing form) (text_of form) (entry_seen form)) (length bytes) least bytes h in
        let m = many above (entry_at form) (length bytes) least bytes in
        let s = stood least m.items r.each in
        let end : drop m.long bytes ≡ [] = rw (whole-read (length bytes) least bytes (omega arith) h) (drop-length bytes) in
        (r.there ∙ (rw (end, sheet-texts least m.items) (append-nil (sheet_text form m.items))), s.0, s.1)

  -- what is written, read again
  pub written_read :
      (least : ℕ) (es : List Entry) → rising_from key_of least es ≡ true → all_written form es ≡ true
      → sheet_from form least (sheet_text form es) ≡ record { items = es; fine = true; long = length (sheet_text form es) }
  unfolding sheet_from
  written_read least es r w =
      let texts-are = sheet-texts least es in
      let back =
      row_back above (entry_at form) (entry_stepping form) (Standing form) (text_of form) (λ rest. Unit {0}) (λ s e rest p m. (entry-back form) s e rest p) (λ s e rest p. tt) [] tt
      (entry_stepping form).none_left es (length (texts above (entry_at form) (text_of form) least es ++ [])) least (stand least es r w) (omega arith) in
      rw (append-nil (texts above (entry_at form) (text_of form) least es), texts-are) at back

  -- both: bytes are read as these entries exactly when they are their text, and the entries rise and can be written
  pub reads_exactly :
      (bytes : List ℕ) (es : List Entry)
      → (((sheet_of form bytes).fine ≡ true) × ((sheet_of form bytes).items ≡ es))
      ↔ ((bytes ≡ sheet_text form es) × (rising key_of es ≡ true) × (all_written form es ≡ true))
  reads_exactly bytes es = (to, from)
    where
      to : ((sheet_of form bytes).fine ≡ true) × ((sheet_of form bytes).items ≡ es) → (bytes ≡ sheet_text form es) × (rising key_of es ≡ true) × (all_written form es ≡ true)
      to h = let r = read-written bytes 0 h.0 in rw h.1 at r

      from : (bytes ≡ sheet_text form es) × (rising key_of es ≡ true) × (all_written form es ≡ true) → ((sheet_of form bytes).fine ≡ true) × ((sheet_of form bytes).items ≡ es)
      from h =
          let e : sheet_of form bytes ≡ record { items = es; fine = true; long = length (sheet_text form es) } =
          ap (sheet_of form) h.0 ∙ written_read 0 es h.1 h.2 in
          (ap (λ (m : Many Entry). m.fine) e, ap (λ (m : Many Entry). m.items) e)
