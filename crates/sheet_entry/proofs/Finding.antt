-- An entry found at a place, behind its head: the tests of the code are those of the definition. Assumes nothing.
use mathlib.Core.Path.{◌≡◌, ◌∙◌, refl, sym, ap, subst}
use mathlib.Core.Bool.{Bool, true, false}
use mathlib.Core.List.{List, [], ◌∷◌}
use Prim.Native.Nat.{ℕ, ◌+◌, ◌*◌, ◌≤◌, ◌<◌}
use native.Mathlib.Omega.{arith}
use borrow.Author.Tests.{le-leb, lt-leb}
use lib.Dec.{eqb, leb}
use lib.ListN.{length, get_or, drop, length-drop, drop_of_length-le}
use lib.Seq.{drop-drop, get_or-drop}
use native.Mathlib.Nat.{add-zero}
use Rattle.laws.specs.Pick.{pick, both}
use Rattle.laws.proofs.Tests.{both_right}
use Rattle.forms.specs.Tables.{Descriptor, TI, known, fits}
use Rattle.forms.proofs.Sendable.{Sendable, sendable}
use Rattle.sheet_entry.specs.declared.Form.{Form}
use Rattle.sheet_entry.specs.declared.Head.{Head}
use Rattle.listing_reader.specs.declared.Summary.{Summary}
use Rattle.sheet_entry.specs.declared.Found.{Found}
use Rattle.sheet_entry.specs.Entries.{Entry, key_in, key_of, heading, head_lines, empty_line, written}
use Rattle.texts.specs.Texts.{begins_with}
use Rattle.listing_reader.specs.Many.{Step, item, stop, Many}
use Rattle.listing_reader.specs.Reading.{same, descriptor_at, descriptors_of}
use Rattle.sheet_entry.specs.Reading.{lines_at, kind_in, network_in, block_in, entry_from, ended, with_table, with_head, entry_at}
use Rattle.listing_reader.specs.Reading.{summary_of}
use Rattle.sheet_entry.specs.Internal.{counts_fit, head_in, head_of}
use Rattle.sheet_entry.proofs.Heads.{value_of, error_of, came, read_all, read_none}
use Rattle.sheet_entry.specs.declared.NoEntry.{NoEntry}
use Rattle.sheet_entry.specs.declared.NoEntry.TheVariants.{End, Fault}
use Rattle.std.specs.declared.result.Result.{Result}
use Rattle.std.specs.declared.result.Result.TheVariants.{Ok, Err}
use Rattle.sheet_entry.specs.Reading.{found_of}
use Rattle.listing_reader.proofs.Rows.{Each}
use Rattle.listing_reader.proofs.Rowed.{Described, table-row, table-within}
use Rattle.sheet_entry.proofs.Entered.{Headed, headed, values_of, head_lines_lem, head-within, entry-begins, written-parts}
use Rattle.sheet_entry.proofs.Counting.{fits-counts}

abbrev pub nowhere : Bool → ℕ → Result Found NoEntry
nowhere b n = Err (pick b End (Fault n))

abbrev pub somewhere : Head → ℕ → Result Found NoEntry
somewhere h end =
    Ok (record {
      long = end + 1;
      key = key_in h.network h.kind h.block;
      stamp = h.stamp;
      mended = h.mended;
      head = h.long;
    })

-- what stands behind a head, by the tests on the counts
abbrev pub by_tests : ℕ → List ℕ → Head → Summary → Result Found NoEntry
by_tests least bytes h t =
    pick
    (both (begins_with empty_line (drop (h.long + t.long) bytes))
    (both (counts_fit h.kind h.block t) (leb least (key_in h.network h.kind h.block))))
    (somewhere h (h.long + t.long))
    (nowhere false (h.long + t.long))

-- a byte that ends a line is an empty line's
pub empty_line_lem : (sheet : List ℕ) (at : ℕ) → begins_with empty_line (drop at sheet) ≡ eqb (get_or sheet at 0) 10
unfolding begins_with
empty_line_lem sheet at = go (drop at sheet) ∙ ap (λ (b : ℕ). eqb b 10) (get_or-drop at sheet 0 0 ∙ ap (λ (i : ℕ). get_or sheet i 0) (add-zero at))
  where
    go : (l : List ℕ) → begins_with (10 ∷ []) l ≡ eqb (get_or l 0 0) 10
    go [] = refl
    go (b ∷ l) = both_right (eqb b 10)

module _ (form : Form) (least : ℕ) (bytes : List ℕ) (h : Many ℕ) (ds : Many Descriptor) where
  table-broken : ds.fine ≡ false → nowhere false (h.long + ds.long) ≡ found_of form (with_table least bytes h ds)
  unfolding with_table found_of
  table-broken e = rw e

  table-found :
      Headed form bytes h → ds.fine ≡ true → Each same descriptor_at Described (kind_in h.items) ds.items
      → by_tests least bytes (head_in h) (summary_of (head_in h).kind ds) ≡ found_of form (with_table least bytes h ds)
  unfolding with_table ended found_of key_of
  table-found r e each =
      let known-kind : known (kind_in h.items) ≡ true = (values_of form r.fit).kind_known in
      let small-network : network_in h.items ≤ 255 = (values_of form r.fit).network_fits in
      let small-block : block_in h.items ≤ 65535 = (values_of form r.fit).block_fits in
      let f = fits-counts (kind_in h.items) (block_in h.items) (network_in h.items) ds.items known-kind small-network small-block each in
      let l : length (head_lines form (entry_from h.items ds.items)) ≡ h.long = ap length (head_lines_lem form h ds.items r) ∙ sym r.size in
      let t = both (begins_with empty_line (drop (h.long + ds.long) bytes)) (both (fits (entry_from h.items ds.items).table) (leb least (key_of (entry_from h.items ds.items)))) in
      rw (e, f) (go t l)
    where
      go :
          (t : Bool) → length (head_lines form (entry_from h.items ds.items)) ≡ h.long
          → pick t (somewhere (head_in h) (h.long + ds.long)) (nowhere false (h.long + ds.long))
          ≡ found_of form (pick t (item (entry_from h.items ds.items) (h.long + ds.long + 1)) (stop false (h.long + ds.long)))
      go true l = rw l
      go false l = refl

module _
    (form : Form)
    (sheet : List ℕ)
    (at least : ℕ)
    (head : Head)
    (reads : Ok head ≡ head_of (lines_at (heading form) (drop at sheet)))
  where
    h : Many ℕ
    h = lines_at (heading form) (drop at sheet)

    reads-h : head ≡ head_in (lines_at (heading form) (drop at sheet))
    reads-h = (read_all head_in (lines_at (heading form) (drop at sheet)) reads).0

    long-h : head.long ≡ (lines_at (heading form) (drop at sheet)).long
    long-h = ap (λ (x : Head). x.long) reads-h

    pub head-room : head.long ≤ length (drop at sheet)
    head-room = rw long-h (head-within form (drop at sheet))

    head-is : Headed form (drop at sheet) (lines_at (heading form) (drop at sheet))
    head-is = headed form (drop at sheet) (read_all head_in (lines_at (heading form) (drop at sheet)) reads).1

    -- the fields that make the key
    pub head-fits : (head.network ≤ 255) × (head.block ≤ 65535)
    head-fits =
        let v = values_of form head-is.fit in
        let a : head.network ≡ network_in (lines_at (heading form) (drop at sheet)).items = ap (λ (x : Head). x.network) reads-h in
        let b : head.block ≡ block_in (lines_at (heading form) (drop at sheet)).items = ap (λ (x : Head). x.block) reads-h in
        (rw a v.network_fits, rw b v.block_fits)

    module _ (t : Summary) (reads-t : t ≡ summary_of head.kind (descriptors_of head.kind (drop (at + head.long) sheet))) where
      ds : Many Descriptor
      ds = descriptors_of head.kind (drop (at + head.long) sheet)

      pub end-room : head.long + t.long ≤ length (drop at sheet)
      end-room =
          let a = table-within head.kind (drop (at + head.long) sheet) in
          let l : t.long ≡ (descriptors_of head.kind (drop (at + head.long) sheet)).long = ap (λ (x : Summary). x.long) reads-t in
          let b = head-room in
          omega (arith, simp length-drop at a, simp length-drop at b, length-drop at sheet)

      abbrev pub found_here : Result Found NoEntry
      found_here = found_of form (with_table least (drop at sheet) (lines_at (heading form) (drop at sheet)) (descriptors_of head.kind (drop head.long (drop at sheet))))

      same-ds : descriptors_of head.kind (drop (at + head.long) sheet) ≡ descriptors_of head.kind (drop head.long (drop at sheet))
      same-ds = ap (descriptors_of head.kind) (sym (drop-drop head.long at sheet))

      pub found-broken : t.fine ≡ false → nowhere false (head.long + t.long) ≡ found_here
      found-broken e =
          let d = descriptors_of head.kind (drop head.long (drop at sheet)) in
          let r : t ≡ summary_of head.kind d = reads-t ∙ ap (summary_of head.kind) same-ds in
          let f : d.fine ≡ false = sym (ap (λ (x : Summary). x.fine) r) ∙ e in
          let l : t.long ≡ d.long = ap (λ (x : Summary). x.long) r in
          ap (nowhere false) (rw (l, long-h))
          ∙ table-broken form least (drop at sheet) (lines_at (heading form) (drop at sheet)) d f

      pub found-is : t.fine ≡ true → by_tests least (drop at sheet) head t ≡ found_here
      found-is e =
          let bytes = drop at sheet in
          let d = descriptors_of head.kind (drop head.long bytes) in
          let r : t ≡ summary_of head.kind d = reads-t ∙ ap (summary_of head.kind) same-ds in
          let f : d.fine ≡ true = sym (ap (λ (x : Summary). x.fine) r) ∙ e in
          ap (by_tests least bytes head) r ∙ go head reads-h f
        where
          go :
              (x : Head) → x ≡ head_in (lines_at (heading form) (drop at sheet)) → (descriptors_of x.kind (drop x.long (drop at sheet))).fine ≡ true
              → by_tests least (drop at sheet) x (summary_of x.kind (descriptors_of x.kind (drop x.long (drop at sheet))))
              ≡ found_of form (with_table least (drop at sheet) (lines_at (heading form) (drop at sheet)) (descriptors_of x.kind (drop x.long (drop at sheet))))
          go x q f =
              let y = head_in (lines_at (heading form) (drop at sheet)) in
              let g : (descriptors_of y.kind (drop y.long (drop at sheet))).fine ≡ true =
              subst (λ (z : Head). (descriptors_of z.kind (drop z.long (drop at sheet))).fine ≡ true) q f in
              subst
              (λ (z : Head).
              by_tests least (drop at sheet) z (summary_of z.kind (descriptors_of z.kind (drop z.long (drop at sheet))))
              ≡ found_of form (with_table least (drop at sheet) (lines_at (heading form) (drop at sheet)) (descriptors_of z.kind (drop z.long (drop at sheet)))))
              (sym q)
              (table-found form least (drop at sheet) (lines_at (heading form) (drop at sheet)) (descriptors_of y.kind (drop y.long (drop at sheet))) head-is g
              (table-row y.kind (drop y.long (drop at sheet)) g).each)

      -- each test that fails, and all that hold
      module _ (whole-t : t.fine ≡ true) where
        found-by :
            (s f k : Bool) → begins_with empty_line (drop (at + (head.long + t.long)) sheet) ≡ s → counts_fit head.kind head.block t ≡ f
            → leb least (key_in head.network head.kind head.block) ≡ k
            → pick (both s (both f k)) (somewhere head (head.long + t.long)) (nowhere false (head.long + t.long)) ≡ found_here
        found-by s f k a b c =
            let rising = leb least (key_in head.network head.kind head.block) in
            let q : both (begins_with empty_line (drop (head.long + t.long) (drop at sheet))) (both (counts_fit head.kind head.block t) rising) ≡ both s (both f k) =
            rw (drop-drop (head.long + t.long) at sheet, a, b, c) in
            sym (ap (λ (x : Bool). pick x (somewhere head (head.long + t.long)) (nowhere false (head.long + t.long))) q) ∙ found-is whole-t

        pub found-unended : begins_with empty_line (drop (at + (head.long + t.long)) sheet) ≡ false → nowhere false (head.long + t.long) ≡ found_here
        found-unended e = found-by false _ _ e refl refl

        module _ (ends : begins_with empty_line (drop (at + (head.long + t.long)) sheet) ≡ true) where
          pub found-unfit : counts_fit head.kind head.block t ≡ false → nowhere false (head.long + t.long) ≡ found_here
          found-unfit e = found-by true false _ ends e refl

          module _ (fit : counts_fit head.kind head.block t ≡ true) (key : ℕ) (is : key ≡ key_in head.network head.kind head.block) where
            pub found-low : key < least → nowhere false (head.long + t.long) ≡ found_here
            found-low l = found-by true true false ends fit (lt-leb least (key_in head.network head.kind head.block) (omega (arith, is)))

            pub found_all :
                least ≤ key
                → Ok (record { long = head.long + t.long + 1; key = key; stamp = head.stamp; mended = head.mended; head = head.long }) ≡ found_here
            found_all l =
                rw is (found-by true true true ends fit (le-leb least (key_in head.network head.kind head.block) (omega (arith, is))))

-- ---- an entry at a place

module _ (form : Form) (sheet : List ℕ) (at least : ℕ) where
  pub entry-end : length sheet ≤ at → nowhere true 0 ≡ found_of form (entry_at form least (drop at sheet))
  unfolding entry_at found_of
  entry-end h = rw (drop_of_length-le sheet h)

  module _ (there : at < length sheet) where
    begins : entry_at form least (drop at sheet) ≡ with_head least (drop at sheet) (lines_at (heading form) (drop at sheet))
    begins = entry-begins form least (drop at sheet) (rw length-drop (omega arith))

    pub entry-headless :
        {n : ℕ} → Err n ≡ head_of (lines_at (heading form) (drop at sheet)) → nowhere false n ≡ found_of form (entry_at form least (drop at sheet))
    unfolding with_head found_of
    entry-headless reads = let r = read_none head_in (lines_at (heading form) (drop at sheet)) reads in rw (begins, r.1, r.0)

    pub entry-headed :
        {head : Head} → Ok head ≡ head_of (lines_at (heading form) (drop at sheet))
        → found_of form (with_table least (drop at sheet) (lines_at (heading form) (drop at sheet)) (descriptors_of head.kind (drop head.long (drop at sheet))))
        ≡ found_of form (entry_at form least (drop at sheet))
    unfolding with_head
    entry-headed {head} reads =
        let r = read_all head_in (lines_at (heading form) (drop at sheet)) reads in
        let l : head.long ≡ (lines_at (heading form) (drop at sheet)).long = ap (λ (x : Head). x.long) r.0 in
        let k : head.kind ≡ kind_in (lines_at (heading form) (drop at sheet)).items = ap (λ (x : Head). x.kind) r.0 in
        rw (begins, r.1, l, k)

-- ---- what was found

pub found_item : (form : Form) (t : Step Entry) {f : Found} → Ok f ≡ found_of form t → (e : Entry) × (t ≡ item e f.long) × (f.key ≡ key_of e)
unfolding found_of
found_item form (item e n) {f} q =
    let r = ap (value_of f) q in
    (e, ap (λ (x : Found). item e x.long) (sym r), ap (λ (x : Found). x.key) r)
found_item form (stop b n) q = let z = ap came q in absurd (omega arith)

abbrev at_end : NoEntry → ℕ
at_end End = 1
at_end (Fault n) = 0

abbrev fault_at : NoEntry → ℕ
fault_at End = 0
fault_at (Fault n) = n

pub found-end : (form : Form) (t : Step Entry) → Err End ≡ found_of form t → (n : ℕ) × (t ≡ stop true n)
unfolding found_of
found-end form (item e n) q = let z = ap came q in absurd (omega arith)
found-end form (stop true n) q = (n, refl)
found-end form (stop false n) q = let z = ap (λ (r : Result Found NoEntry). at_end (error_of End r)) q in absurd (omega arith)

pub found-fault : (form : Form) (t : Step Entry) {n : ℕ} → Err (Fault n) ≡ found_of form t → t ≡ stop false n
unfolding found_of
found-fault form (item e n) q = let z = ap came q in absurd (omega arith)
found-fault form (stop true n) q = let z = ap (λ (r : Result Found NoEntry). at_end (error_of End r)) q in absurd (omega arith)
found-fault form (stop false n) q = ap (stop false) (sym (ap (λ (r : Result Found NoEntry). fault_at (error_of End r)) q))

-- keys are below 2 to the 25th
pub key_small : (form : Form) (e : Entry) → written form e ≡ true → key_of e ≤ 33554431
unfolding key_of
key_small form e w = go (eqb e.table.kind TI) (sendable e.table (written-parts form e w).fit)
  where
    go : (z : Bool) → Sendable e.table → (e.table.network * 2 + pick z 1 0) * 65536 + e.table.block ≤ 33554431
    go true s = omega (arith, s.network_fits, s.block_fits)
    go false s = omega (arith, s.network_fits, s.block_fits)
