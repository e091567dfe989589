-- An entry is read exactly where it is spelled. Assumes nothing.
use mathlib.Core.Path.{◌≡◌, ◌∙◌, refl, sym, ap, subst}
use mathlib.Core.Bool.{Bool, true, false}
use mathlib.Core.List.{List, [], ◌∷◌, ◌++◌, append_assoc}
use Prim.Native.Nat.{ℕ, zero, suc, ◌+◌, ◌*◌, ◌^◌, ◌≤◌, ◌<◌}
use native.Mathlib.Nat.{add_assoc}
use native.Mathlib.Omega.{arith}
use borrow.Author.Tests.{eqb-true, le-leb, leb-true, ltb-true}
use lib.Dec.{eqb, leb, ltb}
use lib.ListN.{length, get_or, drop, length-append, length-drop}
use lib.Seq.{drop-drop, drop-append_seam, drop-append-add}
use Rattle.laws.specs.Pick.{pick, both}
use Rattle.laws.proofs.Tests.{both_true}
use Rattle.fields.specs.Fields.{alike, fitting}
use Rattle.texts.specs.Texts.{begins_with}
use Rattle.forms.specs.Tables.{Descriptor, TI, LI, known, per, entries, loops, entire, fits}
use Rattle.forms.proofs.Sendable.{sendable, Sound, parted}
use Rattle.listing.specs.Lines.{mended_name, kind_ti, kind_li, kind_line, network_name, block_name, descriptor_lines, descriptor_lines_of}
use Rattle.sheet_entry.specs.declared.Form.{Form}
use Rattle.sheet_entry.specs.declared.Form.TheVariants.{Old, New}
use Rattle.sheet_entry.specs.Entries.{Entry, key_of, stamp_name, number_head, kind_head, absent_head, mended_most, mended_head, key_lines, heading, head_values, spelled_by, head_lines, table_lines, empty_line, entry_text, stamp_most, written}
use Rattle.listing_reader.specs.Lines.{line_of, number_at, kind_at}
use Rattle.listing_reader.specs.Many.{Step, item, stop, Many}
use Rattle.listing_reader.specs.Reading.{same, flat, words_at, descriptor_at, descriptors_of}
use Rattle.sheet_entry.specs.Reading.{lines_at, kind_in, network_in, block_in, entry_from, rises, ended, with_table, with_head, entry_at, above}
use Rattle.listing_reader.proofs.Spells.{begins_with_lem, number-sound, number-back, kind_sound, kind_back_ti, kind_back_li}
use Rattle.listing_reader.proofs.Rows.{Stepping, Each, none, more, Seen, nothing, fault, read, stepping}
use Rattle.sheet_entry.proofs.Heading.{Faithful, Faithfuls, no_lines, and-line, Fit, no-values, and-value, Told, line-within, lines_within, lines_told, lines_read}
use Rattle.listing_reader.proofs.Rowed.{number_some, text-within, spelled-then, Words, language, subtitle, Described, descriptor_lines_lem, table-row, table-within, table_read_lem}

-- ---- the head of an entry

kind_back : (kind : ℕ) (rest : List ℕ) → known kind ≡ true → kind_at (kind_line kind ++ rest) ≡ line_of true kind (kind_line kind)
kind_back kind rest k = go (eqb kind TI) refl
  where
    go : (z : Bool) → eqb kind TI ≡ z → kind_at (kind_line kind ++ rest) ≡ line_of true kind (kind_line kind)
    go true e = rw (eqb-true kind TI e) (kind_back_ti rest)
    go false e = let l : kind ≡ LI = eqb-true kind LI (rw e at k) in rw l (kind_back_li rest)

kind_some : (kind : ℕ) → 1 ≤ length (kind_line kind)
unfolding kind_line
kind_some kind = go (eqb kind TI)
  where
    go : (z : Bool) → 1 ≤ length (pick z kind_ti kind_li)
    go true = omega arith
    go false = omega arith

number_faithful : (name : List ℕ) (most : ℕ) → most < 10 ^ 10 → Faithful (number_head name most) (λ v. leb v most)
number_faithful name most m =
    record {
      sound = λ bytes h. let s = number-sound name most bytes (λ z. omega arith) in (le-leb (number_at name most bytes).value most s.0, s.1);
      back = λ v rest f. number-back name most v rest (leb-true v most f) m;
      some = number_some name;
      nothing = omega arith;
    }

kind_faithful : Faithful kind_head known
kind_faithful =
    record { sound = λ bytes h. kind_sound bytes (λ z. omega arith); back = kind_back; some = kind_some; nothing = omega arith }

-- what isn't there is spelled by nothing, and gives 0
absent_faithful : Faithful absent_head (λ v. leb v 0)
absent_faithful =
    record {
      sound = λ bytes h. (refl, record { there = refl; size = refl });
      back = λ v rest f. ap (λ (n : ℕ). line_of true n []) (let z = leb-true v 0 f in sym (zeroed z));
      some = λ v. omega arith;
      nothing = omega arith;
    }
  where
    zeroed : {v : ℕ} → v ≤ 0 → v ≡ 0
    zeroed h = omega arith

mended_faithful : (form : Form) → Faithful (mended_head form) (λ v. leb v (mended_most form))
mended_faithful Old = absent_faithful
mended_faithful New = number_faithful mended_name (mended_most New) (omega arith)

abbrev pub key_fits : List (ℕ → Bool)
key_fits = known ∷ (λ v. leb v 255) ∷ (λ v. leb v 65535) ∷ []

abbrev pub head_fits : Form → List (ℕ → Bool)
head_fits form = (λ v. leb v stamp_most) ∷ (λ v. leb v (mended_most form)) ∷ key_fits

key_faithful : Faithfuls key_lines key_fits
key_faithful =
    and-line kind_faithful (and-line (number_faithful network_name 255 (omega arith)) (and-line (number_faithful block_name 65535 (omega arith)) no_lines))

pub head_faithful : (form : Form) → Faithfuls (heading form) (head_fits form)
head_faithful form = and-line (number_faithful stamp_name stamp_most (omega arith)) (and-line (mended_faithful form) key_faithful)

pub key_within : (bytes : List ℕ) → (lines_at key_lines bytes).long ≤ length bytes
key_within = lines_within key_faithful

pub mended-within : (form : Form) (bytes : List ℕ) → ((mended_head form).reads bytes).long ≤ length bytes
mended-within form = line-within (mended_faithful form)

pub head-within : (form : Form) (bytes : List ℕ) → (lines_at (heading form) bytes).long ≤ length bytes
head-within form = lines_within (head_faithful form)

abbrev pub Headed : Form → List ℕ → Many ℕ → Type 0
Headed form = Told (heading form) (head_fits form)

pub headed : (form : Form) (bytes : List ℕ) → (lines_at (heading form) bytes).fine ≡ true → Headed form bytes (lines_at (heading form) bytes)
headed form = lines_told (head_faithful form)

-- the values that fit are those of an entry
pub record Values (form : Form) (vs : List ℕ) : Type 0 where
  pub stamp_fits : get_or vs 0 0 ≤ stamp_most
  pub mended_fits : get_or vs 1 0 ≤ mended_most form
  pub kind_known : known (kind_in vs) ≡ true
  pub network_fits : network_in vs ≤ 255
  pub block_fits : block_in vs ≤ 65535
  pub all : (ds : List Descriptor) → head_values (entry_from vs ds) ≡ vs

pub values_of : (form : Form) {vs : List ℕ} → Fit (head_fits form) vs → Values form vs
values_of form (and-value {v = s} a (and-value {v = z} y (and-value {v = k} b (and-value {v = n} c (and-value {v = m} d no-values))))) =
    record {
      stamp_fits = leb-true s stamp_most a;
      mended_fits = leb-true z (mended_most form) y;
      kind_known = b;
      network_fits = leb-true n 255 c;
      block_fits = leb-true m 65535 d;
      all = λ ds. refl;
    }

-- ---- the words of a descriptor that can be sent, entry by entry

languages-of :
    (kind : ℕ) → eqb kind TI ≡ false → (ws : List ℕ) → fitting (alike 24 ws) ≡ true
    → (rows : List (List ℕ)) × (ws ≡ flat rows) × Each same words_at Words kind rows
unfolding fitting alike flat
languages-of kind e [] h = ([], refl, none)
languages-of kind e (w ∷ ws) h =
    let p = both_true (ltb w (2 ^ 24)) (fitting (alike 24 ws)) h in
    let r = languages-of kind e ws p.1 in
    ((w ∷ []) ∷ r.0, ap (λ (x : List ℕ). w ∷ x) r.1, more (language e (ltb-true w (2 ^ 24) p.0)) r.2)

subtitles_of_lem :
    (kind : ℕ) → eqb kind TI ≡ true → (k : ℕ) (ws : List ℕ) → length ws ≡ 2 * k → fitting (alike 24 ws) ≡ true
    → (rows : List (List ℕ)) × (ws ≡ flat rows) × Each same words_at Words kind rows
unfolding fitting alike flat
subtitles_of_lem kind e k [] l h = ([], refl, none)
subtitles_of_lem kind e zero (w ∷ ws) l h = absurd (omega arith)
subtitles_of_lem kind e (suc k) (w ∷ []) l h = absurd (omega arith)
subtitles_of_lem kind e (suc k) (w ∷ p ∷ ws) l h =
    let a = both_true (ltb w (2 ^ 24)) (both (ltb p (2 ^ 24)) (fitting (alike 24 ws))) h in
    let b = both_true (ltb p (2 ^ 24)) (fitting (alike 24 ws)) a.1 in
    let r = subtitles_of_lem kind e k ws (omega arith) b.1 in (
      (w ∷ p ∷ []) ∷ r.0,
      ap (λ (x : List ℕ). w ∷ p ∷ x) r.1,
      more (subtitle e (ltb-true w (2 ^ 24) a.0) (ltb-true p (2 ^ 24) b.0)) r.2,
    )

describes : (kind : ℕ) (d : Descriptor) → Sound kind d → Described kind d
describes kind d s = go (eqb kind TI) refl s.whole_entries
  where
    go : (z : Bool) → eqb kind TI ≡ z → per kind * entries kind d.words ≡ length d.words → Described kind d
    go true e w =
        let two : per kind ≡ 2 = (unfold per in rw e) in
        let l : length d.words ≡ 2 * entries kind d.words = sym w ∙ ap (λ (n : ℕ). n * entries kind d.words) two in
        let r = subtitles_of_lem kind e (entries kind d.words) d.words l s.words_fit in
        record { small = omega (arith, s.id_fits); rows = r.0; made = r.1; each = r.2 }
    go false e w =
        let r = languages-of kind e d.words s.words_fit in
        record { small = omega (arith, s.id_fits); rows = r.0; made = r.1; each = r.2 }

pub all_described :
    (kind : ℕ) (ds : List Descriptor) → entire kind ds ≡ true → fitting (loops kind ds) ≡ true → Each same descriptor_at Described kind ds
all_described kind [] h k = none
all_described kind (d ∷ ds) h k = let p = parted kind d ds h k in more (describes kind d p.0) (all_described kind ds p.1 p.2)

-- ---- an entry

-- what an entry of a sheet has
pub record Standing (form : Form) (least : ℕ) (e : Entry) : Type 0 where
  pub rises : least ≤ key_of e
  pub can : written form e ≡ true

-- what an entry that can be written has
pub record Written (form : Form) (e : Entry) : Type 0 where
  pub stamp_fits : leb e.stamp stamp_most ≡ true
  pub mended_fits : leb e.mended (mended_most form) ≡ true
  pub uncopied : e.table.copyright ≡ 0
  pub fit : fits e.table ≡ true

pub written-parts : (form : Form) (e : Entry) → written form e ≡ true → Written form e
unfolding written
written-parts form e w =
    let a = both_true (leb e.stamp stamp_most) _ w in
    let b = both_true (leb e.mended (mended_most form)) _ a.1 in
    let c = both_true (eqb e.table.copyright 0) _ b.1 in
    record { stamp_fits = a.0; mended_fits = b.0; uncopied = eqb-true e.table.copyright 0 c.0; fit = c.1 }

abbrev pub text_of : Form → ℕ → Entry → List ℕ
text_of form least e = entry_text form e

head_some : (form : Form) (e : Entry) → 1 ≤ length (spelled_by (heading form) (head_values e))
unfolding spelled_by
head_some form e = rw length-append (omega (arith, number_some stamp_name e.stamp))

entry_some : (form : Form) (least : ℕ) (e : Entry) → Standing form least e → 1 ≤ length (text_of form least e)
unfolding entry_text head_lines
entry_some form least e p = rw length-append (omega (arith, head_some form e))

-- the head lines are those of the entry
pub head_lines_lem :
    (form : Form) (h : Many ℕ) (ds : List Descriptor) {bytes : List ℕ} (r : Headed form bytes h)
    → head_lines form (entry_from h.items ds) ≡ spelled_by (heading form) h.items
unfolding head_lines
head_lines_lem form h ds r = ap (spelled_by (heading form)) ((values_of form r.fit).all ds)

ended-seen :
    (form : Form) (least : ℕ) (bytes : List ℕ) (h : Many ℕ) (ds : Many Descriptor) → Headed form bytes h
    → drop h.long bytes ≡ descriptor_lines (kind_in h.items) ds.items ++ drop ds.long (drop h.long bytes)
    → ds.long ≡ length (descriptor_lines (kind_in h.items) ds.items) → h.long + ds.long ≤ length bytes
    → Seen (Standing form least) (text_of form least) bytes (ended least bytes (entry_from h.items ds.items) (h.long + ds.long))
unfolding ended entry_text descriptor_lines_of written
ended-seen form least bytes h ds head lines size inside =
    go (both (begins_with empty_line (drop (h.long + ds.long) bytes)) (both (fits e.table) (rises least e))) refl
  where
    e : Entry
    e = entry_from h.items ds.items

    at : ℕ
    at = h.long + ds.long

    go :
        (z : Bool) → both (begins_with empty_line (drop at bytes)) (both (fits e.table) (rises least e)) ≡ z
        → Seen (Standing form least) (text_of form least) bytes (pick z (item e (at + 1)) (stop false at))
    go false f = fault inside
    go true f =
        let a = both_true (begins_with empty_line (drop at bytes)) _ f in
        let b = both_true (fits e.table) _ a.1 in
        let first : bytes ≡ head_lines form e ++ drop h.long bytes = rw (head_lines_lem form h ds.items head) head.there in
        let second : drop at bytes ≡ empty_line ++ drop 1 (drop at bytes) = begins_with_lem empty_line (drop at bytes) a.0 in
        let both-lines : drop h.long bytes ≡ (table_lines e ++ empty_line) ++ drop (ds.long + 1) (drop h.long bytes) =
        spelled-then (table_lines e) empty_line (drop h.long bytes) ds.long 1 lines (rw (drop-drop ds.long h.long bytes) second) in
        let there : bytes ≡ entry_text form e ++ drop (at + 1) bytes =
        (rw (add_assoc h.long ds.long 1) (spelled-then (head_lines form e) (table_lines e ++ empty_line) bytes h.long (ds.long + 1) first both-lines)) in
        let long : at + 1 ≡ length (entry_text form e) =
        rw (length-append, length-append, head_lines_lem form h ds.items head) (omega (arith, head.size, size)) in
        let v = values_of form head.fit in
        let can : written form e ≡ true = rw (le-leb (get_or h.items 0 0) stamp_most v.stamp_fits, le-leb (get_or h.items 1 0) (mended_most form) v.mended_fits) b.0 in
        read (record { rises = leb-true least (key_of e) b.1; can = can }) there long

table-seen :
    (form : Form) (least : ℕ) (bytes : List ℕ) (h : Many ℕ) → Headed form bytes h
    → Seen (Standing form least) (text_of form least) bytes (with_table least bytes h (descriptors_of (kind_in h.items) (drop h.long bytes)))
unfolding with_table
table-seen form least bytes h head = go ds.fine refl
  where
    kind : ℕ
    kind = kind_in h.items

    ds : Many Descriptor
    ds = descriptors_of (kind_in h.items) (drop h.long bytes)

    inside : h.long + ds.long ≤ length bytes
    inside =
        let a = table-within kind (drop h.long bytes) in
        let b = text-within (spelled_by (heading form) h.items) bytes h.long head.there head.size in
        omega (arith, simp length-drop at a)

    go :
        (z : Bool) → ds.fine ≡ z
        → Seen (Standing form least) (text_of form least) bytes
        (pick z (ended least bytes (entry_from h.items ds.items) (h.long + ds.long)) (stop false (h.long + ds.long)))
    go false e = fault inside
    go true e =
        let r = table-row kind (drop h.long bytes) e in
        let t = descriptor_lines_lem kind ds.items in
        ended-seen form least bytes h ds head (rw t at r.there) (rw t at r.size) inside

head-seen : (form : Form) (least : ℕ) (bytes : List ℕ) → Seen (Standing form least) (text_of form least) bytes (with_head least bytes (lines_at (heading form) bytes))
unfolding with_head
head-seen form least bytes = go h.fine refl
  where
    h : Many ℕ
    h = lines_at (heading form) bytes

    go :
        (z : Bool) → h.fine ≡ z
        → Seen (Standing form least) (text_of form least) bytes
        (pick z (with_table least bytes h (descriptors_of (kind_in h.items) (drop h.long bytes))) (stop false h.long))
    go false e = fault (head-within form bytes)
    go true e = table-seen form least bytes h (headed form bytes e)

pub entry_seen : (form : Form) (least : ℕ) (bytes : List ℕ) → Seen (Standing form least) (text_of form least) bytes (entry_at form least bytes)
unfolding entry_at
entry_seen form least [] = nothing
entry_seen form least (b ∷ bs) = head-seen form least (b ∷ bs)

entry-none : (form : Form) (least : ℕ) → entry_at form least [] ≡ stop true 0
unfolding entry_at
entry-none form least = refl

pub entry_stepping : (form : Form) → Stepping above (entry_at form)
entry_stepping form = stepping above (entry_at form) (Standing form) (text_of form) (entry_seen form) (entry-none form) (entry_some form)

-- bytes that begin with a head aren't the end of the sheet
pub entry-begins :
    (form : Form) (least : ℕ) (bytes : List ℕ) → 1 ≤ length bytes → entry_at form least bytes ≡ with_head least bytes (lines_at (heading form) bytes)
unfolding entry_at
entry-begins form least [] h = absurd (omega arith)
entry-begins form least (b ∷ bs) h = refl

-- an entry of its values and its descriptors, behind its head
made_back :
    (form : Form) (least : ℕ) (vs : List ℕ) (ds : List Descriptor) (rest : List ℕ) → Fit (head_fits form) vs → Each same descriptor_at Described (kind_in vs) ds
    → fits (entry_from vs ds).table ≡ true → least ≤ key_of (entry_from vs ds)
    → with_head least (spelled_by (heading form) vs ++ (descriptor_lines (kind_in vs) ds ++ (10 ∷ rest)))
    (lines_at (heading form) (spelled_by (heading form) vs ++ (descriptor_lines (kind_in vs) ds ++ (10 ∷ rest))))
    ≡ item (entry_from vs ds) (length (spelled_by (heading form) vs) + length (descriptor_lines (kind_in vs) ds) + 1)
unfolding with_head with_table ended begins_with
made_back form least vs ds rest fit each f r =
    let head = spelled_by (heading form) vs in
    let lines = descriptor_lines (kind_in vs) ds in
    rw (
      lines_read (head_faithful form) vs (lines ++ (10 ∷ rest)) fit,
      drop-append_seam head (lines ++ (10 ∷ rest)),
      table_read_lem (kind_in vs) ds rest each,
      drop-append-add head (lines ++ (10 ∷ rest)) (length lines),
      drop-append_seam lines (10 ∷ rest),
      f,
      le-leb least (key_of (entry_from vs ds)) r,
    )

pub entry-back :
    (form : Form) (least : ℕ) (e : Entry) (rest : List ℕ) → Standing form least e
    → entry_at form least (entry_text form e ++ rest) ≡ item e (length (entry_text form e))
unfolding entry_text head_lines descriptor_lines_of
entry-back form least e rest p =
    let t = e.table in
    let w = written-parts form e p.can in
    let s = sendable t w.fit in
    let head = spelled_by (heading form) (head_values e) in
    let lines = descriptor_lines t.kind t.descriptors in
    let same-entry : entry_from (head_values e) t.descriptors ≡ e =
    ap
    (λ (c : ℕ). record {
      stamp = e.stamp;
      mended = e.mended;
      table = record { kind = t.kind; copyright = c; block = t.block; network = t.network; descriptors = t.descriptors };
    })
    (sym w.uncopied) in
    let split : entry_text form e ++ rest ≡ head ++ (lines ++ (10 ∷ rest)) =
    append_assoc head (lines ++ empty_line) rest ∙ ap (λ (x : List ℕ). head ++ x) (append_assoc lines empty_line rest) in
    let some : 1 ≤ length (head ++ (lines ++ (10 ∷ rest))) = rw (length-append, length-append) (omega (arith, head_some form e)) in
    let long : length head + length lines + 1 ≡ length (entry_text form e) =
    rw (length-append head (lines ++ empty_line), length-append lines empty_line) (add_assoc (length head) (length lines) 1) in
    let fit =
    and-value w.stamp_fits (and-value w.mended_fits (and-value s.kind_known (and-value (le-leb t.network 255 (omega (arith, s.network_fits))) (and-value (le-leb t.block 65535 (omega (arith, s.block_fits))) no-values)))) in
    let made =
    made_back form least (head_values e) t.descriptors rest fit (all_described t.kind t.descriptors s.entire_all s.loops_fit)
    (ap (λ (x : Entry). fits x.table) same-entry ∙ w.fit) (subst (λ (x : Entry). least ≤ key_of x) (sym same-entry) p.rises) in
    rw split (entry-begins form least (head ++ (lines ++ (10 ∷ rest))) some ∙ made ∙ ap (λ (x : Entry). item x (length head + length lines + 1)) same-entry ∙ ap (item e) long)

-- a row of entries ends well nowhere but at the end of the bytes

unfoldable well : Step Entry → Bool
well (item e n) = false
well (stop b n) = b

pick-well : (t : Bool) (a b : Step Entry) → well a ≡ false → well b ≡ false → well (pick t a b) ≡ false
pick-well true a b p q = p
pick-well false a b p q = q

table-well : (least : ℕ) (bytes : List ℕ) (h : Many ℕ) (ds : Many Descriptor) → well (with_table least bytes h ds) ≡ false
unfolding with_table ended well
table-well least bytes h ds =
    let e = entry_from h.items ds.items in
    let at = h.long + ds.long in
    pick-well ds.fine (ended least bytes e at) (stop false at)
    (pick-well (both (begins_with empty_line (drop at bytes)) (both (fits e.table) (leb least (key_of e)))) (item e (at + 1)) (stop false at) refl refl)
    refl

head-well : (least : ℕ) (bytes : List ℕ) (h : Many ℕ) → well (with_head least bytes h) ≡ false
unfolding with_head well
head-well least bytes h =
    let ds = descriptors_of (kind_in h.items) (drop h.long bytes) in
    pick-well h.fine (with_table least bytes h ds) (stop false h.long) (table-well least bytes h ds) refl

pub ends_at-end : (form : Form) (least n : ℕ) (bytes : List ℕ) → entry_at form least bytes ≡ stop true n → bytes ≡ []
unfolding entry_at well
ends_at-end form least n [] e = refl
ends_at-end form least n (b ∷ bs) e =
    let z : true ≡ false = sym (ap well e) ∙ head-well least (b ∷ bs) (lines_at (heading form) (b ∷ bs)) in
    let y : ◌≡◌ {A = ℕ} 0 1 = cc in
    absurd (omega arith)
