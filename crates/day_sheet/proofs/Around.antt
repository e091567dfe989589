-- A sheet without the entry of a key: where that entry stands, and what is left around it. Assumes nothing.
use mathlib.Core.Path.{◌≡◌, ◌∙◌, refl, sym, ap}
use mathlib.Core.Bool.{Bool, true, false}
use mathlib.Core.List.{List, [], ◌∷◌, ◌++◌, append_assoc}
use Prim.Native.Nat.{ℕ, suc, ◌+◌, ◌-◌, ◌≤◌, ◌<◌}
use native.Mathlib.Nat.{zero-add}
use native.Mathlib.Omega.{arith}
use lib.Dec.{eqb}
use lib.ListN.{length, take, drop, length-append, length-drop, length-take}
use lib.Seq.{sets, take-append-add, drop-append-add, drop-append_seam, drop-drop, length-take-le}
use borrow.Author.Tests.{eq-eqb, ne_eqb, eqb-true, le-leb, lt-leb}
use Rattle.std.specs.declared.result.Result.TheVariants.{Ok, Err}
use Rattle.sheet_entry.specs.declared.NoEntry.{NoEntry}
use Rattle.sheet_entry.proofs.Heads.{value_of, came}
use Rattle.laws.specs.Pick.{pick}
use Rattle.laws.proofs.Lists.{sets-append, part-rest}
use Rattle.answer.specs.Rules.{judged}
use Rattle.answer.specs.Values.{refused}
use Rattle.answer.specs.Writing.{answered, left}
use Rattle.answer.proofs.Lent.{lent-refused, lent-short, lent-done}
use Rattle.laws.specs.Keyed.{rising_from}
use Rattle.laws.proofs.Merging.{rising-first, rising-rest}
use Rattle.sheet_entry.specs.declared.Found.{Found}
use Rattle.sheet_entry.specs.Entries.{Entry, key_of, entry_text}
use Rattle.sheet_entry.specs.Reading.{entry_at, found_of}
use Rattle.day_sheet.specs.declared.dropping.Spot.{Spot}
use Rattle.day_sheet.specs.Entries.{sheet_text, entry_limit, byte_limit}
use Rattle.day_sheet.specs.Calls.{limited, entries_of}
use Rattle.day_sheet.specs.Internal.{Halfway, without_key, spot_of, spot_from, most_with}
use Rattle.day_sheet.proofs.Fronts.{spans, Front, empty, entry, front}
use Rattle.day_sheet.proofs.Exact.{read-written}
use Rattle.sheet_entry.specs.declared.Form.{Form}

module _ (form : Form) where
  -- ---- where an entry stands

  module _ (key : ℕ) where
    no_more : (es : List Entry) → es ≡ [] → (at : ℕ) → spot_from form key at es ≡ record { from = at; long = 0 }
    unfolding spot_of
    no_more es e at = let z : at + 0 ≡ at = omega arith in rw (e, z)

    is-here : (x : Entry) (xs : List Entry) (at : ℕ) → key_of x ≡ key → spot_from form key at (x ∷ xs) ≡ record { from = at; long = length (entry_text form x) }
    unfolding spot_of
    is-here x xs at e = let z : at + 0 ≡ at = omega arith in rw (eq-eqb (key_of x) key e, z)

    is-behind :
        (x : Entry) (xs : List Entry) (at : ℕ) → (key_of x ≡ key → ⊥) → spot_from form key (at + length (entry_text form x)) xs ≡ spot_from form key at (x ∷ xs)
    unfolding spot_of
    is-behind x xs at n =
        let z : at + length (entry_text form x) + (spot_of form key xs).from ≡ at + (length (entry_text form x) + (spot_of form key xs).from) = omega arith in
        rw (ne_eqb (key_of x) key n, z)

module _ (form : Form) where
  module _ (sheet : List ℕ) (at key : ℕ) (h : Halfway form sheet at) where
    pub spot-none :
        {w : NoEntry} → Err w ≡ found_of form (entry_at form 0 (drop at sheet)) → record { from = at; long = 0 } ≡ spot_from form key at (entries_of form (drop at sheet))
    spot-none reads = go (front form (drop at sheet) h.fine)
      where
        go : Front form (drop at sheet) → record { from = at; long = 0 } ≡ spot_from form key at (entries_of form (drop at sheet))
        go (empty e n) = sym (no_more form key (entries_of form (drop at sheet)) n at)
        go (entry x e n r p q) = let z = ap came (reads ∙ e) in absurd (omega arith)

    module _ {f : Found} (reads : Ok f ≡ found_of form (entry_at form 0 (drop at sheet))) where
      pub spot-here : f.key ≡ key → record { from = at; long = f.long } ≡ spot_from form key at (entries_of form (drop at sheet))
      spot-here k = go (front form (drop at sheet) h.fine)
        where
          go : Front form (drop at sheet) → record { from = at; long = f.long } ≡ spot_from form key at (entries_of form (drop at sheet))
          go (empty e n) = let z = ap came (reads ∙ e) in absurd (omega arith)
          go (entry x e n r p q) =
              let i = ap (value_of f) (reads ∙ e) in
              rw (n, ap (λ (y : Found). y.long) i)
              (sym (is-here form key x (entries_of form (drop (length (entry_text form x)) (drop at sheet))) at (sym (ap (λ (y : Found). y.key) i) ∙ k)))

      pub spot_on :
          (f.key ≡ key → ⊥)
          → Halfway form sheet (at + f.long) × (1 ≤ f.long) × (at + f.long ≤ length sheet)
          × (spot_from form key (at + f.long) (entries_of form (drop (at + f.long) sheet)) ≡ spot_from form key at (entries_of form (drop at sheet)))
      spot_on k = go (front form (drop at sheet) h.fine)
        where
          go :
              Front form (drop at sheet)
              → Halfway form sheet (at + f.long) × (1 ≤ f.long) × (at + f.long ≤ length sheet)
              × (spot_from form key (at + f.long) (entries_of form (drop (at + f.long) sheet)) ≡ spot_from form key at (entries_of form (drop at sheet)))
          go (empty e n) = let z = ap came (reads ∙ e) in absurd (omega arith)
          go (entry x e n r p q) =
              let i = ap (value_of f) (reads ∙ e) in
              let l : f.long ≡ length (entry_text form x) = ap (λ (y : Found). y.long) i in
              let w = h.within.inside in
              let d = length-drop at sheet in
              let c = drop-drop (length (entry_text form x)) at sheet in
              let inside : at + f.long ≤ length sheet = omega arith in (
                record { within = record { inside = inside; short = h.within.short }; fine = rw (l, ← c) r },
                omega arith,
                inside,
                rw (l, ← c, n)
                    (is-behind form key x (entries_of form (drop (length (entry_text form x)) (drop at sheet))) at (λ z. k (ap (λ (y : Found). y.key) i ∙ z))),
              )

  -- ---- what is left around it

  -- no entry of a rising list has a key below its first
  all_above : (key l : ℕ) (es : List Entry) → key < l → rising_from key_of l es ≡ true → without_key key es ≡ es
  unfolding without_key
  all_above key l [] h r = refl
  all_above key l (e ∷ es) h r =
      let f = rising-first key_of l e es r in
      rw (ne_eqb (key_of e) key (λ z. omega arith)) (ap (λ (x : List Entry). e ∷ x) (all_above key (suc (key_of e)) es (omega arith) (rising-rest key_of l e es r)))

  pub record Around (key : ℕ) (es : List Entry) (s : Spot) : Type 0 where
    pub inside : s.from + s.long ≤ length (sheet_text form es)
    pub text : sheet_text form (without_key key es) ≡ take s.from (sheet_text form es) ++ drop (s.from + s.long) (sheet_text form es)
    pub count : length es ≡ length (without_key key es) + pick (eqb s.long 0) 0 1

  pub around : (key l : ℕ) (es : List Entry) → rising_from key_of l es ≡ true → Around key es (spot_of form key es)
  unfolding sheet_text without_key spot_of
  around key l [] r = record { inside = omega arith; text = refl; count = refl }
  around key l (e ∷ es) r = go (eqb (key_of e) key) refl (around key (suc (key_of e)) es (rising-rest key_of l e es r))
    where
      go :
          (z : Bool) → eqb (key_of e) key ≡ z → Around key es (spot_of form key es)
          → Around key (e ∷ es)
          (pick z (record { from = 0; long = length (entry_text form e) })
          (record { from = length (entry_text form e) + (spot_of form key es).from; long = (spot_of form key es).long }))
      go true z a =
          let s = spans form e in
          let g = length-append (entry_text form e) (sheet_text form es) in
          let k = eqb-true (key_of e) key z in
          let w = all_above key (suc (key_of e)) es (omega arith) (rising-rest key_of l e es r) in
          let m : eqb (length (entry_text form e)) 0 ≡ false = ne_eqb (length (entry_text form e)) 0 (λ y. omega arith) in
          record {
            inside = omega arith;
            text = rw (z, w, zero-add) (sym (drop-append_seam (entry_text form e) (sheet_text form es)));
            count = rw (z, w, m) (omega arith);
          }
      go false z a =
          let g = length-append (entry_text form e) (sheet_text form es) in
          let b = a.inside in
          let c = a.count in
          let s = spot_of form key es in
          let o : length (entry_text form e) + s.from + s.long ≡ length (entry_text form e) + (s.from + s.long) = omega arith in
          record {
            inside = omega arith;
            text =
                rw (z, o, take-append-add (entry_text form e) (sheet_text form es) s.from, drop-append-add (entry_text form e) (sheet_text form es) (s.from + s.long), a.text)
                (sym (append_assoc (entry_text form e) (take s.from (sheet_text form es)) (drop (s.from + s.long) (sheet_text form es))));
            count = rw z (omega arith);
          }

  -- ---- the call

  module _
      (key : ℕ)
      (sheet old : List ℕ)
      (h : Halfway form sheet 0)
      (short : length sheet ≤ byte_limit form)
      (count : ℕ)
      (counted : count ≡ length (entries_of form sheet))
      (s : Spot)
      (spot : s ≡ spot_of form key (entries_of form sheet))
    where
      abbrev result : List Entry
      result = without_key key (entries_of form sheet)

      abbrev bytes : List ℕ
      bytes = sheet_text form (without_key key (entries_of form sheet))

      same : sheet ≡ sheet_text form (entries_of form sheet)
      same = (read-written form sheet 0 h.fine).0

      are : Around key (entries_of form sheet) s
      are = rw spot (around key 0 (entries_of form sheet) (read-written form sheet 0 h.fine).1)

      pub drop-inside : s.from + s.long ≤ length sheet
      drop-inside = let a = are.inside in let e = ap length same in omega arith

      cut : bytes ≡ take s.from sheet ++ drop (s.from + s.long) sheet
      cut = are.text ∙ (rw (← same))

      size : length bytes ≡ length sheet - s.long
      size =
          let i = drop-inside in
          let a = length-take s.from sheet in
          let d = length-drop (s.from + s.long) sheet in
          ap length cut ∙ length-append (take s.from sheet) (drop (s.from + s.long) sheet) ∙ (omega arith)

      many : most_with s.long < count → entry_limit < length result
      many m = go (eqb s.long 0) are.count m
        where
          go :
              (z : Bool) → length (entries_of form sheet) ≡ length (without_key key (entries_of form sheet)) + pick z 0 1 → pick z entry_limit 65 < count
              → entry_limit < length (without_key key (entries_of form sheet))
          go true c m = omega arith
          go false c m = omega arith

      few : count ≤ most_with s.long → length result ≤ entry_limit
      few m = go (eqb s.long 0) are.count m
        where
          go :
              (z : Bool) → length (entries_of form sheet) ≡ length (without_key key (entries_of form sheet)) + pick z 0 1 → count ≤ pick z entry_limit 65
              → length (without_key key (entries_of form sheet)) ≤ entry_limit
          go true c m = omega arith
          go false c m = omega arith

      pub drop-many : most_with s.long < count → (refused 21 0 ≡ answered (limited form result) bytes old) × (old ≡ left (limited form result) bytes old)
      drop-many m =
          let e : refused 21 0 ≡ judged refused (limited form result) (Ok 0) = rw (lt-leb (length result) entry_limit (many m)) in
          lent-refused (limited form result) bytes old 0 e refl

      module _ (m : count ≤ most_with s.long) where
        fit : Ok 0 ≡ judged refused (limited form result) (Ok 0)
        fit =
            let z = size in
            rw (le-leb (length result) entry_limit (few m), le-leb (length bytes) (byte_limit form) (omega arith))

        pub drop-short :
            length old < length sheet - s.long → (refused 1 0 ≡ answered (limited form result) bytes old) × (old ≡ left (limited form result) bytes old)
        drop-short l = lent-short (limited form result) bytes old 0 fit refl (let z = size in omega arith)

        pub drop-done :
            {one two : List ℕ} → length sheet - s.long ≤ length old → one ≡ sets old 0 (take s.from (drop 0 sheet))
            → two ≡ sets one s.from (take (length sheet - s.long - s.from) (drop (s.from + s.long) sheet))
            → (Ok (length sheet - s.long) ≡ answered (limited form result) bytes old) × (two ≡ left (limited form result) bytes old)
        drop-done {one} {two} l p q =
            let z = size in
            let i = drop-inside in
            let d = lent-done (limited form result) bytes old 0 fit refl (omega arith) in
            let f : length sheet - s.long - s.from ≡ length sheet - (s.from + s.long) = omega arith in
            let a : take (length sheet - s.long - s.from) (drop (s.from + s.long) sheet) ≡ drop (s.from + s.long) sheet =
            rw f (part-rest (s.from + s.long) sheet) in
            let g : length (take s.from sheet) ≡ s.from = length-take-le s.from sheet (omega arith) in
            let o : 0 + length (take s.from sheet) ≡ s.from = omega arith in
            let e : two ≡ sets old 0 bytes =
            q ∙ (rw (a, p)) ∙ ap (λ (n : ℕ). sets (sets old 0 (take s.from sheet)) n (drop (s.from + s.long) sheet)) (sym o)
            ∙ sym (sets-append old 0 (take s.from sheet) (drop (s.from + s.long) sheet)) ∙ ap (sets old 0) (sym cut) in
            (ap Ok (sym z) ∙ d.0, e ∙ d.1)
