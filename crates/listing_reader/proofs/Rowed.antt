-- The lines of a descriptor and of a table: what is read spells the bytes, and what is spelled reads back. Assumes nothing.
use mathlib.Core.Path.{◌≡◌, ◌∙◌, refl, sym, ap}
use mathlib.Core.Bool.{Bool, true, false}
use mathlib.Core.List.{List, [], ◌∷◌, ◌++◌, append_assoc, append-nil}
use Prim.Native.Nat.{ℕ, ◌+◌, ◌^◌, ◌≤◌, ◌<◌}
use native.Mathlib.Omega.{arith}
use borrow.Author.Tests.{ne_eqb, eqb-false}
use lib.Dec.{eqb, leb}
use lib.ListN.{length, drop, length-append, length-drop}
use lib.Seq.{drop-drop, drop-append_seam}
use Rattle.laws.specs.Pick.{pick}
use Rattle.laws.proofs.Tests.{both_false}
use Rattle.texts.specs.Texts.{begins_with}
use Rattle.forms.specs.Tables.{Descriptor, TI}
use Rattle.text_lines.specs.Lines.{number_line, language_line, page_line}
use Rattle.listing.specs.Lines.{language_lines, subtitle_lines, entry_lines, descriptor_name, descriptor_line, descriptor_lines}
use Rattle.listing_reader.specs.declared.lines.Line.{Line}
use Rattle.listing_reader.specs.Lines.{number_from, number_at, language_at, page_at}
use Rattle.listing_reader.specs.Many.{item, stop, Many}
use Rattle.listing_reader.specs.Reading.{same, with_page, with_language, words_at, words_of, flat, with_words, with_number, descriptor_at, descriptors_of}
use Rattle.listing_reader.proofs.Spells.{Spelled, number-sound, number-back, language_sound, language_back, page-sound, page-back}
use Rattle.listing_reader.proofs.Rows.{Stepping, Each, none, more, texts, Row, row-sound, row_within, row_back, Seen, nothing, fault, read, seen-item, stepping}

-- ---- lines have bytes

pub number_some : (name : List ℕ) (n : ℕ) → 1 ≤ length (number_line name n)
unfolding number_line
number_some name n = rw length-append (omega arith)

pub language_some : (w : ℕ) → 1 ≤ length (language_line w)
unfolding language_line
language_some w = rw length-append (omega arith)

pub page_some : (w : ℕ) → 1 ≤ length (page_line w)
unfolding page_line
page_some w = rw length-append (omega arith)

-- a line in form lies within the bytes
pub spelled-within : {text bytes : List ℕ} {l : Line} → Spelled text l bytes → l.long ≤ length bytes
spelled-within {text} {bytes} {l} s = let e = ap length s.there in omega (arith, s.size, simp length-append at e)

pub text-within : (text bytes : List ℕ) (n : ℕ) → bytes ≡ text ++ drop n bytes → n ≡ length text → n ≤ length bytes
text-within text bytes n there size = let l = ap length there ∙ length-append text (drop n bytes) in omega arith

-- two lines in a row
pub spelled-then :
    (text text' bytes : List ℕ) (m n : ℕ) → bytes ≡ text ++ drop m bytes → drop m bytes ≡ text' ++ drop n (drop m bytes)
    → bytes ≡ (text ++ text') ++ drop (m + n) bytes
spelled-then text text' bytes m n a b =
    a ∙ ap (λ (l : List ℕ). text ++ l) (b ∙ ap (λ (l : List ℕ). text' ++ l) (drop-drop n m bytes)) ∙ sym (append_assoc text text' (drop (m + n) bytes))

-- ---- an entry of a descriptor

-- its words: a language, and in TI a page behind it
pub data Words (kind : ℕ) : List ℕ → Type 0 where
  language : {l : ℕ} → eqb kind TI ≡ false → l < 2 ^ 24 → Words kind (l ∷ [])
  subtitle : {l p : ℕ} → eqb kind TI ≡ true → l < 2 ^ 24 → p < 2 ^ 24 → Words kind (l ∷ p ∷ [])

pub language_lines_lem : (kind l : ℕ) → eqb kind TI ≡ false → entry_lines kind (l ∷ []) ≡ language_line l
unfolding entry_lines language_lines
language_lines_lem kind l e = rw e (append-nil (language_line l))

pub subtitle_lines_lem : (kind l p : ℕ) → eqb kind TI ≡ true → entry_lines kind (l ∷ p ∷ []) ≡ language_line l ++ page_line p
unfolding entry_lines subtitle_lines
subtitle_lines_lem kind l p e = rw e (append-nil (language_line l ++ page_line p))

words_some : (kind : ℕ) (ws : List ℕ) → Words kind ws → 1 ≤ length (entry_lines kind ws)
words_some kind [] x' = elim x' [ ]
words_some kind (l ∷ (p ∷ (_ ∷ _))) x8 = elim x8 [ ]
words_some kind (l ∷ []) (language e h) = rw (language_lines_lem kind l e) (language_some l)
words_some kind (l ∷ p ∷ []) (subtitle e h g) =
    rw (subtitle_lines_lem kind l p e, length-append) (omega (arith, language_some l))

page-seen :
    (kind : ℕ) (bytes : List ℕ) → eqb kind TI ≡ true → ((language_at bytes).long ≡ 0 → ⊥)
    → Seen (Words kind) (entry_lines kind) bytes (with_page (language_at bytes) (page_at (drop (language_at bytes).long bytes)))
unfolding with_page
page-seen kind bytes ti h = go (eqb p.long 0) refl
  where
    l : Line
    l = language_at bytes

    p : Line
    p = page_at (drop (language_at bytes).long bytes)

    go :
        (z : Bool) → eqb p.long 0 ≡ z
        → Seen (Words kind) (entry_lines kind) bytes (pick z (stop false l.long) (item (l.value ∷ p.value ∷ []) (l.long + p.long)))
    go true e = fault (spelled-within (language_sound bytes h).1)
    go false e =
        let a = language_sound bytes h in
        let b = page-sound (drop l.long bytes) (eqb-false p.long 0 e) in
        let t = subtitle_lines_lem kind l.value p.value ti in
        let there : bytes ≡ entry_lines kind (l.value ∷ p.value ∷ []) ++ drop (l.long + p.long) bytes =
        rw t (spelled-then (language_line l.value) (page_line p.value) bytes l.long p.long a.1.there b.1.there) in
        let size : l.long + p.long ≡ length (entry_lines kind (l.value ∷ p.value ∷ [])) =
        rw (t, length-append) (omega (arith, a.1.size, b.1.size)) in
        read (subtitle ti a.0 b.0) there size

pub words_seen : (kind : ℕ) (bytes : List ℕ) → Seen (Words kind) (entry_lines kind) bytes (words_at kind bytes)
unfolding with_language
words_seen kind bytes = go (eqb l.long 0) refl (eqb kind TI) refl
  where
    l : Line
    l = language_at bytes

    go :
        (z : Bool) → eqb l.long 0 ≡ z → (t : Bool) → eqb kind TI ≡ t
        → Seen (Words kind) (entry_lines kind) bytes (pick z (stop true 0) (pick t (with_page l (page_at (drop l.long bytes))) (item (l.value ∷ []) l.long)))
    go true e t f = nothing
    go false e true f = page-seen kind bytes f (eqb-false l.long 0 e)
    go false e false f =
        let a = language_sound bytes (eqb-false l.long 0 e) in
        let t = language_lines_lem kind l.value f in
        let there : bytes ≡ entry_lines kind (l.value ∷ []) ++ drop l.long bytes = rw t a.1.there in
        let size : l.long ≡ length (entry_lines kind (l.value ∷ [])) = rw t a.1.size in
        read (language f a.0) there size

words_none : (kind : ℕ) → words_at kind [] ≡ stop true 0
unfolding with_language language_at language_line begins_with
words_none kind = refl

pub words_stepping : Stepping same words_at
words_stepping = stepping same words_at Words entry_lines words_seen words_none words_some

words_back :
    (kind : ℕ) (ws rest : List ℕ) → Words kind ws → words_at kind (entry_lines kind ws ++ rest) ≡ item ws (length (entry_lines kind ws))
unfolding with_language with_page
words_back kind [] rest x' = elim x' [ ]
words_back kind (l ∷ (p ∷ (_ ∷ _))) rest x8 = elim x8 [ ]
words_back kind (l ∷ []) rest (language e h) =
    rw (language_lines_lem kind l e, language_back l rest h, ne_eqb (length (language_line l)) 0 (λ z. omega (arith, language_some l)), e)
words_back kind (l ∷ p ∷ []) rest (subtitle e h g) =
    rw (
      subtitle_lines_lem kind l p e,
      append_assoc (language_line l) (page_line p) rest,
      language_back l (page_line p ++ rest) h,
      ne_eqb (length (language_line l)) 0 (λ z. omega (arith, language_some l)),
      e,
      drop-append_seam (language_line l) (page_line p ++ rest),
      page-back p rest g,
      ne_eqb (length (page_line p)) 0 (λ z. omega (arith, page_some p)),
      length-append (language_line l) (page_line p),
    )

-- ---- the entries of a descriptor

lines_none : (kind : ℕ) → [] ≡ entry_lines kind []
unfolding entry_lines subtitle_lines language_lines
lines_none kind = go (eqb kind TI)
  where
    go : (t : Bool) → ◌≡◌ {A = List ℕ} [] (pick t [] [])
    go true = refl
    go false = refl

lines_more :
    (kind : ℕ) (ws rest : List ℕ) → Words kind ws → entry_lines kind ws ++ entry_lines kind rest ≡ entry_lines kind (ws ++ rest)
lines_more kind [] rest x' = elim x' [ ]
lines_more kind (l ∷ (p ∷ (_ ∷ _))) rest x8 = elim x8 [ ]
lines_more kind (l ∷ []) rest (language e h) =
    ap (λ (x : List ℕ). x ++ entry_lines kind rest) (language_lines_lem kind l e) ∙ (unfold entry_lines language_lines in rw e)
lines_more kind (l ∷ p ∷ []) rest (subtitle e h g) =
    ap (λ (x : List ℕ). x ++ entry_lines kind rest) (subtitle_lines_lem kind l p e) ∙ (unfold entry_lines subtitle_lines in rw e)

pub flat_lines :
    (kind : ℕ) (rows : List (List ℕ)) → Each same words_at Words kind rows
    → texts same words_at entry_lines kind rows ≡ entry_lines kind (flat rows)
unfolding texts flat
flat_lines kind [] none = lines_none kind
flat_lines kind (ws ∷ rows) (more p ps) =
    ap (λ (x : List ℕ). entry_lines kind ws ++ x) (flat_lines kind rows ps) ∙ lines_more kind ws (flat rows) p

pub words_row : (kind : ℕ) (bytes : List ℕ) → (words_of kind bytes).fine ≡ true → Row same words_at words_stepping Words entry_lines kind bytes (words_of kind bytes)
unfolding words_of
words_row kind bytes h =
    row-sound same words_at words_stepping Words entry_lines (seen-item same words_at Words entry_lines words_seen) (length bytes) kind bytes h

pub words_within : (kind : ℕ) (bytes : List ℕ) → (words_of kind bytes).long ≤ length bytes
unfolding words_of
words_within kind bytes = row_within same words_at words_stepping (length bytes) kind bytes

no_words : (kind : ℕ) (bytes : List ℕ) → (language_at bytes).long ≡ 0 → words_at kind bytes ≡ stop true 0
unfolding with_language
no_words kind bytes e = rw e

words_read :
    (kind : ℕ) (rows : List (List ℕ)) (tail : List ℕ) → Each same words_at Words kind rows → (language_at tail).long ≡ 0
    → words_of kind (texts same words_at entry_lines kind rows ++ tail)
    ≡ record { items = rows; fine = true; long = length (texts same words_at entry_lines kind rows) }
unfolding words_of
words_read kind rows tail each ends =
    row_back same words_at words_stepping Words entry_lines (λ rest. Unit {0}) (λ s ws rest p m. words_back s ws rest p) (λ s ws rest p. tt) tail tt
    (λ s. no_words s tail ends) rows _ kind each (omega arith)

-- ---- a descriptor

-- its number, and its words in entries
pub record Described (kind : ℕ) (d : Descriptor) : Type 0 where
  pub small : d.id ≤ 63
  pub rows : List (List ℕ)
  pub made : d.words ≡ flat rows
  pub each : Each same words_at Words kind rows

abbrev pub descriptor_text : ℕ → Descriptor → List ℕ
descriptor_text kind d = descriptor_line kind d.id d.words

descriptor_some : (kind : ℕ) (d : Descriptor) → Described kind d → 1 ≤ length (descriptor_text kind d)
unfolding descriptor_line
descriptor_some kind d p = rw length-append (omega (arith, number_some descriptor_name d.id))

numbered-seen :
    (kind : ℕ) (bytes : List ℕ) → ((number_at descriptor_name 63 bytes).long ≡ 0 → ⊥)
    → Seen (Described kind) (descriptor_text kind) bytes
    (with_words (number_at descriptor_name 63 bytes) (words_of kind (drop (number_at descriptor_name 63 bytes).long bytes)))
unfolding with_words descriptor_line
numbered-seen kind bytes h = go ws.fine refl
  where
    d : Line
    d = number_at descriptor_name 63 bytes

    ws : Many (List ℕ)
    ws = words_of kind (drop (number_at descriptor_name 63 bytes).long bytes)

    made : Descriptor
    made = record { id = d.value; words = flat ws.items }

    go :
        (z : Bool) → ws.fine ≡ z
        → Seen (Described kind) (descriptor_text kind) bytes (pick z (item made (d.long + ws.long)) (stop false (d.long + ws.long)))
    go false e =
        let a = spelled-within (number-sound descriptor_name 63 bytes h).1 in
        let b = words_within kind (drop d.long bytes) in
        let inside : d.long + ws.long ≤ length bytes = omega (arith, simp length-drop at b) in
        fault inside
    go true e =
        let a = number-sound descriptor_name 63 bytes h in
        let r = words_row kind (drop d.long bytes) e in
        let t = flat_lines kind ws.items r.each in
        let back : drop d.long bytes ≡ entry_lines kind (flat ws.items) ++ drop ws.long (drop d.long bytes) = rw t at r.there in
        let there : bytes ≡ descriptor_text kind made ++ drop (d.long + ws.long) bytes =
        spelled-then (number_line descriptor_name d.value) (entry_lines kind (flat ws.items)) bytes d.long ws.long a.1.there back in
        let size : d.long + ws.long ≡ length (descriptor_text kind made) =
        rw (length-append, ← t) (omega (arith, a.1.size, r.size)) in
        read (record { small = a.0; rows = ws.items; made = refl; each = r.each }) there size

pub descriptor-seen : (kind : ℕ) (bytes : List ℕ) → Seen (Described kind) (descriptor_text kind) bytes (descriptor_at kind bytes)
unfolding with_number
descriptor-seen kind bytes = go (eqb d.long 0) refl
  where
    d : Line
    d = number_at descriptor_name 63 bytes

    go :
        (z : Bool) → eqb d.long 0 ≡ z
        → Seen (Described kind) (descriptor_text kind) bytes (pick z (stop true 0) (with_words d (words_of kind (drop d.long bytes))))
    go true e = nothing
    go false e = numbered-seen kind bytes (eqb-false d.long 0 e)

descriptor-none : (kind : ℕ) → descriptor_at kind [] ≡ stop true 0
unfolding with_number number_at number_line number_from begins_with
descriptor-none kind = refl

pub descriptor_stepping : Stepping same descriptor_at
descriptor_stepping = stepping same descriptor_at Described descriptor_text descriptor-seen descriptor-none descriptor_some

-- no language stands where a descriptor begins
ends_words : (kind : ℕ) (d : Descriptor) (rest : List ℕ) → (language_at (descriptor_text kind d ++ rest)).long ≡ 0
unfolding language_at language_line descriptor_line number_line begins_with
ends_words kind d rest = refl

descriptor-back :
    (kind : ℕ) (d : Descriptor) (rest : List ℕ) → Described kind d → (language_at rest).long ≡ 0
    → descriptor_at kind (descriptor_text kind d ++ rest) ≡ item d (length (descriptor_text kind d))
unfolding with_number with_words descriptor_line
descriptor-back kind d rest p ends =
    let head = number_line descriptor_name d.id in
    let t : texts same words_at entry_lines kind p.rows ≡ entry_lines kind d.words =
    flat_lines kind p.rows p.each ∙ ap (entry_lines kind) (sym p.made) in
    let w : words_of kind (entry_lines kind d.words ++ rest)
    ≡ record { items = p.rows; fine = true; long = length (entry_lines kind d.words) } =
    rw t at (words_read kind p.rows rest p.each ends) in
    rw (
      append_assoc head (entry_lines kind d.words) rest,
      number-back descriptor_name 63 d.id (entry_lines kind d.words ++ rest) p.small (omega arith),
      ne_eqb (length head) 0 (λ z. omega (arith, number_some descriptor_name d.id)),
      drop-append_seam head (entry_lines kind d.words ++ rest),
      w,
      ← p.made,
      length-append head (entry_lines kind d.words),
    )

-- ---- the descriptors of a table

pub descriptor_lines_lem : (kind : ℕ) (ds : List Descriptor) → texts same descriptor_at descriptor_text kind ds ≡ descriptor_lines kind ds
unfolding texts descriptor_lines
descriptor_lines_lem kind [] = refl
descriptor_lines_lem kind (d ∷ ds) = ap (λ (x : List ℕ). descriptor_text kind d ++ x) (descriptor_lines_lem kind ds)

pub table-row :
    (kind : ℕ) (bytes : List ℕ) → (descriptors_of kind bytes).fine ≡ true
    → Row same descriptor_at descriptor_stepping Described descriptor_text kind bytes (descriptors_of kind bytes)
unfolding descriptors_of
table-row kind bytes h =
    row-sound same descriptor_at descriptor_stepping Described descriptor_text (seen-item same descriptor_at Described descriptor_text descriptor-seen) (length bytes) kind bytes h

pub table-within : (kind : ℕ) (bytes : List ℕ) → (descriptors_of kind bytes).long ≤ length bytes
unfolding descriptors_of
table-within kind bytes = row_within same descriptor_at descriptor_stepping (length bytes) kind bytes

-- bytes at whose front no line of a table stands
pub record Closed (tail : List ℕ) : Type 0 where
  pub no_language : (language_at tail).long ≡ 0
  pub no_descriptor : (kind : ℕ) → descriptor_at kind tail ≡ stop true 0

pub table_before :
    (kind : ℕ) (ds : List Descriptor) (tail : List ℕ) → Each same descriptor_at Described kind ds → Closed tail
    → descriptors_of kind (descriptor_lines kind ds ++ tail) ≡ record { items = ds; fine = true; long = length (descriptor_lines kind ds) }
unfolding descriptors_of
table_before kind ds tail each closed =
    let back =
    row_back same descriptor_at descriptor_stepping Described descriptor_text (λ r. (language_at r).long ≡ 0)
    (λ s d r p m. descriptor-back s d r p m) (λ s d r p. ends_words s d r) tail closed.no_language closed.no_descriptor ds
    (length (texts same descriptor_at descriptor_text kind ds ++ tail)) kind each (omega arith) in
    rw (descriptor_lines_lem kind ds) at back

-- before an empty line
no_language : (rest : List ℕ) → (language_at (10 ∷ rest)).long ≡ 0
unfolding language_at language_line begins_with
no_language rest = refl

no_descriptor : (kind : ℕ) (rest : List ℕ) → descriptor_at kind (10 ∷ rest) ≡ stop true 0
unfolding with_number number_at number_line begins_with
no_descriptor kind rest = rw (both_false (leb (number_from 10 0 (drop 10 rest)) 63))

pub table_read_lem :
    (kind : ℕ) (ds : List Descriptor) (rest : List ℕ) → Each same descriptor_at Described kind ds
    → descriptors_of kind (descriptor_lines kind ds ++ (10 ∷ rest)) ≡ record { items = ds; fine = true; long = length (descriptor_lines kind ds) }
table_read_lem kind ds rest each =
    table_before kind ds (10 ∷ rest) each (record { no_language = no_language rest; no_descriptor = λ k. no_descriptor k rest })
