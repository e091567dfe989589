-- The offset of a 20 is that of the first line at fault: what was read before it are entries and lines in form, and the reading stopped there
-- since no line that may stand next does. Assumes nothing.
use mathlib.Core.Path.{◌≡◌, ◌∙◌, refl, sym, ap, subst}
use mathlib.Core.Bool.{Bool, true, false}
use mathlib.Core.Logic.{◌⊎◌, inl, inr}
use mathlib.Core.List.{List, [], ◌∷◌, ◌++◌, append-nil, append_assoc}
use Prim.Native.Nat.{ℕ, zero, suc, ◌+◌, ◌^◌, ◌≤◌, ◌<◌}
use native.Mathlib.Omega.{arith}
use borrow.Author.Tests.{eqb-true, eqb-false, ltb-true, ltb-false}
use lib.Dec.{eqb, ltb}
use lib.ListN.{length, take, drop, length-append, length-drop, length-take, take-append-drop}
use lib.Seq.{drop-drop, drop-append_seam, take-append_seam}
use Rattle.laws.specs.Pick.{pick, both}
use Rattle.texts.specs.Texts.{begins_with}
use Rattle.forms.specs.Tables.{Descriptor, TI, fits}
use Rattle.text_lines.specs.Lines.{number_line, language_line, page_line}
use Rattle.listing.specs.Lines.{descriptor_name, entry_lines, descriptor_line}
use Rattle.listing_reader.specs.declared.lines.Line.{Line}
use Rattle.listing_reader.specs.Lines.{line_of, number_at, language_at, page_at}
use Rattle.listing_reader.specs.Many.{Step, item, stop, Many, none as row-none, behind, further, many}
use Rattle.sheet_entry.specs.Entries.{Entry, HeadLine, heading, spelled_by, empty_line, entry_text}
use Rattle.day_sheet.specs.Entries.{sheet_text}
use Rattle.listing_reader.specs.Reading.{same, with_page, with_language, words_at, words_of, with_words, with_number, descriptor_at, descriptors_of}
use Rattle.sheet_entry.specs.Reading.{lines_at, kind_in, entry_from, rises, ended, with_table, with_head, entry_at, above}
use Rattle.day_sheet.specs.Reading.{sheet_from, sheet_of, InForm}
use Rattle.day_sheet.specs.Faults.{Next, head, table, words, page, rest, begin, Follows, head-line, first-descriptor, next-descriptor, language-line, subtitle-line, page-line, Lines, no_line, and-line, FirstFault}
use Rattle.listing_reader.proofs.Spells.{begins_with_lem, Spelled, number-sound, number-back, page-back, language_sound, language_back}
use Rattle.listing_reader.proofs.Rows.{Stepping, texts, row_within, Each, none, more, seen-item}
use Rattle.listing_reader.proofs.Rowed.{number_some, language_some, page_some, Words, language, subtitle, language_lines_lem, subtitle_lines_lem, words_seen, words_stepping, Described, descriptor_text, descriptor-seen, descriptor_stepping, flat_lines}
use Rattle.sheet_entry.proofs.Heading.{Faithful, Faithfuls, no_lines, and-line as heading_and_line, Fit, no-values, and-value, no_more}
use Rattle.sheet_entry.proofs.Entered.{head_faithful, Headed, headed, Standing, text_of, entry_seen, entry_stepping, entry-back}
use Rattle.day_sheet.proofs.Exact.{sheet-texts, stand, stood, read-written}
use Rattle.sheet_entry.specs.declared.Form.{Form}

-- ---- a line that isn't there

module _ (reader : List ℕ → Line) (line : List ℕ) (v : ℕ) (back : (tail : List ℕ) → reader (line ++ tail) ≡ line_of true v line) where
  absent : (rest : List ℕ) → (reader rest).long < length line → begins_with line rest ≡ false
  absent rest z = go (begins_with line rest) refl
    where
      go : (t : Bool) → begins_with line rest ≡ t → t ≡ false
      go false e = refl
      go true e =
          let r = ap reader (begins_with_lem line rest e) ∙ back (drop (length line) rest) in
          let l : (reader rest).long ≡ length line = ap (λ (x : Line). x.long) r in
          absurd (omega arith)

fewer : {n m : ℕ} → 1 ≤ m → n ≡ 0 → n < m
fewer h z = omega arith

no_number_lem : (name : List ℕ) (most n : ℕ) (rest : List ℕ) → n ≤ most → most < 10 ^ 10 → (number_at name most rest).long ≡ 0 → begins_with (number_line name n) rest ≡ false
no_number_lem name most n rest h m z =
    absent (number_at name most) (number_line name n) n (λ tail. number-back name most n tail h m) rest (fewer (number_some name n) z)

no_language : (w : ℕ) (rest : List ℕ) → w < 2 ^ 24 → (language_at rest).long ≡ 0 → begins_with (language_line w) rest ≡ false
no_language w rest h z = absent language_at (language_line w) w (λ tail. language_back w tail h) rest (fewer (language_some w) z)

no_page_lem : (w : ℕ) (rest : List ℕ) → w < 2 ^ 24 → (page_at rest).long ≡ 0 → begins_with (page_line w) rest ≡ false
no_page_lem w rest h z = absent page_at (page_line w) w (λ tail. page-back w tail h) rest (fewer (page_some w) z)

-- no line that may stand next stands there
abbrev Stuck : Next → List ℕ → Type 0
Stuck next rest = (line : List ℕ) (b : Next) → Follows next line b → begins_with line rest ≡ false

-- what each reader found
data Missed : Next → List ℕ → Type 0 where
  no-head :
      {l : HeadLine} {ls : List HeadLine} {values rest : List ℕ} {f : ℕ → Bool} → Faithful l f → (l.reads rest).long < l.least
      → Missed (head l ls values) rest
  no_descriptor : {k : ℕ} {rest : List ℕ} → (number_at descriptor_name 63 rest).long ≡ 0 → Missed (table k) rest
  no_words : {k : ℕ} {rest : List ℕ} → (number_at descriptor_name 63 rest).long ≡ 0 → (language_at rest).long ≡ 0 → Missed (words k) rest
  no-page-line : {k : ℕ} {rest : List ℕ} → (page_at rest).long ≡ 0 → Missed (page k) rest

-- a value that reads back from its text fits its line
reads-back : {l : HeadLine} {f : ℕ → Bool} (v : ℕ) → Faithful l f → l.reads (l.text v) ≡ line_of true v (l.text v) → f v ≡ true
reads-back {l} {f} v k e =
    let s = k.some v in
    let n : (l.reads (l.text v)).long ≡ length (l.text v) = ap (λ (x : Line). x.long) e in
    sym (ap (λ (x : Line). f x.value) e) ∙ (k.sound (l.text v) (omega arith)).0

-- and what fits reads back
fits-back : {l : HeadLine} {f : ℕ → Bool} (v : ℕ) → Faithful l f → f v ≡ true → l.reads (l.text v) ≡ line_of true v (l.text v)
fits-back {l} v k e = ap l.reads (sym (append-nil (l.text v))) ∙ k.back v [] e

stuck : {next : Next} {rest : List ℕ} → Missed next rest → Stuck next rest
stuck {rest = rest} (no-head {l} k z) line b (head-line {v = v} e) =
    absent l.reads (l.text v) v (λ tail. k.back v tail (reads-back v k e)) rest (let s = k.some v in omega arith)
stuck {rest = rest} (no_descriptor z) line b (first-descriptor {n = n} h) = no_number_lem descriptor_name 63 n rest h (omega arith) z
stuck {rest = rest} (no_words z y) line b (next-descriptor {n = n} h) = no_number_lem descriptor_name 63 n rest h (omega arith) z
stuck {rest = rest} (no_words z y) line b (language-line {w = w} e h) = no_language w rest h y
stuck {rest = rest} (no_words z y) line b (subtitle-line {w = w} e h) = no_language w rest h y
stuck {rest = rest} (no-page-line z) line b (page-line {w = w} h) = no_page_lem w rest h z

-- ---- so many bytes of lines in form, and then none that may stand there

record Part (a : Next) (bytes : List ℕ) (n : ℕ) : Type 0 where
  lines : List ℕ
  next : Next
  rest : List ℕ
  in_form : Lines a lines next
  there : bytes ≡ lines ++ rest
  size : n ≡ length lines
  missed : Missed next rest

part_here : (a : Next) (bytes : List ℕ) → Missed a bytes → Part a bytes 0
part_here a bytes m = record { lines = []; next = a; rest = bytes; in_form = no_line; there = refl; size = refl; missed = m }

lines_then : {a b c : Next} {xs ys : List ℕ} → Lines a xs b → Lines b ys c → Lines a (xs ++ ys) c
lines_then no_line m = m
lines_then {ys = ys} (and-line {line = line} {rest = rest} f l) m = rw (append_assoc line rest ys) (and-line f (lines_then l m))

one_line : {a b : Next} {line : List ℕ} → Follows a line b → Lines a line b
one_line {line = line} f = rw (append-nil line) at (and-line f no_line)

-- behind lines
part-behind :
    {a b : Next} {text bytes rest : List ℕ} {n : ℕ} → Lines a text b → bytes ≡ text ++ rest → Part b rest n → Part a bytes (length text + n)
part-behind {text = text} l e p =
    record {
      lines = text ++ p.lines;
      next = p.next;
      rest = p.rest;
      in_form = lines_then l p.in_form;
      there = e ∙ ap (λ (x : List ℕ). text ++ x) p.there ∙ sym (append_assoc text p.lines p.rest);
      size = rw length-append (let s = p.size in omega arith);
      missed = p.missed;
    }

-- behind one line that was read
part-on :
    {a b : Next} {text bytes : List ℕ} {l : Line} {n : ℕ} → Follows a text b → Spelled text l bytes → Part b (drop l.long bytes) n
    → Part a bytes (l.long + n)
part-on {a} {text = text} {bytes = bytes} {l = l} {n = n} f s p =
    subst (λ (k : ℕ). Part a bytes (k + n)) (sym s.size) (part-behind (one_line f) s.there p)

part-size : {a : Next} {bytes : List ℕ} {n m : ℕ} → n ≡ m → Part a bytes n → Part a bytes m
part-size {a} {bytes} e p = subst (Part a bytes) e p

-- ---- the head

line-part :
    {a : Next} (r : HeadLine) (rs : List HeadLine) (bytes : List ℕ) → ((r.reads bytes).long < r.least → Missed a bytes)
    → (r.least ≤ (r.reads bytes).long → (lines_at rs (drop (r.reads bytes).long bytes)).fine ≡ false
    → Part a bytes ((r.reads bytes).long + (lines_at rs (drop (r.reads bytes).long bytes)).long))
    → (lines_at (r ∷ rs) bytes).fine ≡ false → Part a bytes (lines_at (r ∷ rs) bytes).long
unfolding lines_at
line-part {a} r rs bytes miss on f = go (ltb (r.reads bytes).long r.least) refl f
  where
    m : Many ℕ
    m = behind (r.reads bytes).value (r.reads bytes).long (lines_at rs (drop (r.reads bytes).long bytes))

    go :
        (z : Bool) → ltb (r.reads bytes).long r.least ≡ z → (pick z (row-none false 0) m).fine ≡ false
        → Part a bytes (pick z (row-none false 0) m).long
    go true e g = part_here a bytes (miss (ltb-true (r.reads bytes).long r.least e))
    go false e g = on (ltb-false (r.reads bytes).long r.least e) g

ends_fine : {P : Type 0} (bytes : List ℕ) → (lines_at [] bytes).fine ≡ false → P
ends_fine bytes f =
    let e : true ≡ false = sym (ap (λ (m : Many ℕ). m.fine) (no_more bytes)) ∙ f in
    let z : ◌≡◌ {A = ℕ} 0 1 = cc in
    absurd (omega arith)

head-part :
    {ls : List HeadLine} {fs : List (ℕ → Bool)} → Faithfuls ls fs → (values bytes : List ℕ) → (lines_at ls bytes).fine ≡ false
    → Part (rest ls values) bytes (lines_at ls bytes).long
unfolding rest
head-part no_lines values bytes f = ends_fine bytes f
head-part (heading_and_line {l} {ls} k ks) values bytes f =
    let v = (l.reads bytes).value in
    line-part l ls bytes (λ z. no-head k z)
    (λ h g.
    let s = k.sound bytes h in
    part-on (head-line (fits-back v k s.0)) s.1 (head-part ks (values ++ (v ∷ [])) (drop (l.reads bytes).long bytes) g))
    f

-- a head that is there
head_lines_lem :
    {ls : List HeadLine} {fs : List (ℕ → Bool)} {vs : List ℕ} → Faithfuls ls fs → Fit fs vs → (values : List ℕ)
    → Lines (rest ls values) (spelled_by ls vs) (table (kind_in (values ++ vs)))
unfolding rest spelled_by
head_lines_lem no_lines no-values values = rw (append-nil values) no_line
head_lines_lem (heading_and_line {l} {ls} k ks) (and-value {v} {vs} p ps) values =
    let m : Lines (rest ls (values ++ (v ∷ []))) (spelled_by ls vs) (table (kind_in (values ++ (v ∷ vs)))) =
    rw (append_assoc values (v ∷ []) vs) at (head_lines_lem ks ps (values ++ (v ∷ []))) in
    and-line (head-line (fits-back v k p)) m

-- ---- a row, whether it ends well or not

module _ {A : Type 0} (next : ℕ → A → ℕ) (step : ℕ → List ℕ → Step A) (good : Stepping next step) (P : ℕ → A → Type 0)
    (text : ℕ → A → List ℕ) (Q : ℕ → List ℕ → Type 0) (R : ℕ → Type 0) (keeps : (s : ℕ) (a : A) → R s → R (next s a)) where
  record Until (s : ℕ) (bytes : List ℕ) (m : Many A) : Type 0 where
    state : ℕ
    rest : List ℕ
    at : ℕ
    there : bytes ≡ texts next step text s m.items ++ rest
    stopped : step state rest ≡ stop m.fine at
    size : m.long ≡ length (texts next step text s m.items) + at
    each : Each next step P s m.items
    stays : R state
    after : ((m.items ≡ []) × (state ≡ s) × (rest ≡ bytes)) ⊎ Q state rest

  until :
      ((s : ℕ) (bytes : List ℕ) (a : A) (n : ℕ) → step s bytes ≡ item a n
      → ((bytes ≡ text s a ++ drop n bytes) × (n ≡ length (text s a)) × P s a) × Q (next s a) (drop n bytes))
      → (k s : ℕ) (bytes : List ℕ) → length bytes ≤ k → R s → Until s bytes (many next step k s bytes)
  unfolding many further texts
  until one zero s [] h r =
      record {
        state = s;
        rest = [];
        at = 0;
        there = refl;
        stopped = good.none_left s;
        size = refl;
        each = none;
        stays = r;
        after = inl (refl, refl, refl);
      }
  until one zero s (b ∷ bytes) h r = absurd (omega arith)
  until one (suc k) s bytes h r = go (step s bytes) refl (λ a n l. until one k (next s a) (drop n bytes) l (keeps s a r))
    where
      go :
          (t : Step A) → step s bytes ≡ t
          → ((a : A) (n : ℕ) → length (drop n bytes) ≤ k → Until (next s a) (drop n bytes) (many next step k (next s a) (drop n bytes)))
          → Until s bytes (further t (λ a n. many next step k (next s a) (drop n bytes)))
      go (stop b n) e f =
          record {
            state = s;
            rest = bytes;
            at = n;
            there = refl;
            stopped = e;
            size = omega arith;
            each = none;
            stays = r;
            after = inl (refl, refl, refl);
          }
      go (item a n) e f =
          let m = good.moves_on s bytes a n e in
          let o = one s bytes a n e in
          let u = f a n (rw length-drop (omega arith)) in
          let items = (many next step k (next s a) (drop n bytes)).items in
          record {
            state = u.state;
            rest = u.rest;
            at = u.at;
            there =
                o.0.0 ∙ ap (λ (x : List ℕ). text s a ++ x) u.there ∙ sym (append_assoc (text s a) (texts next step text (next s a) items) u.rest);
            stopped = u.stopped;
            size = rw length-append (let p = o.0.1 in let q = u.size in omega arith);
            each = more o.0.2 u.each;
            stays = u.stays;
            after = inr (past u.after o.1);
          }
        where
          past :
              {i : List A} {state s' : ℕ} {rest bytes' : List ℕ} → ((i ≡ []) × (state ≡ s') × (rest ≡ bytes')) ⊎ Q state rest → Q s' bytes'
              → Q state rest
          past (inl h) q = rw (h.1, h.2) q
          past (inr h) q = h

abbrev Any : ℕ → List ℕ → Type 0
Any s rest = Unit {0}

-- ---- the words of a descriptor

words_lines : (k : ℕ) {ws : List ℕ} → Words k ws → Lines (words k) (entry_lines k ws) (words k)
words_lines k (language {l} e h) = rw (language_lines_lem k l e) (one_line (language-line e h))
words_lines k (subtitle {l} {p} e h g) = rw (subtitle_lines_lem k l p e) (and-line (subtitle-line e h) (one_line (page-line g)))

row_lines : (k : ℕ) {rows : List (List ℕ)} → Each same words_at Words k rows → Lines (words k) (texts same words_at entry_lines k rows) (words k)
unfolding texts
row_lines k none = no_line
row_lines k (more p ps) = lines_then (words_lines k p) (row_lines k ps)

-- what stands there, once a row of them stops
data AtWords (k : ℕ) (bytes : List ℕ) : Step (List ℕ) → Type 0 where
  took : {ws : List ℕ} {n : ℕ} → AtWords k bytes (item ws n)
  over : (language_at bytes).long ≡ 0 → AtWords k bytes (stop true 0)
  cut : {n : ℕ} → Part (words k) bytes n → AtWords k bytes (stop false n)

at_words : (k : ℕ) (bytes : List ℕ) → AtWords k bytes (words_at k bytes)
unfolding with_language with_page
at_words k bytes = go (eqb l.long 0) refl (eqb k TI) refl
  where
    l : Line
    l = language_at bytes

    p : Line
    p = page_at (drop (language_at bytes).long bytes)

    paged :
        (z : Bool) → eqb p.long 0 ≡ z → (l.long ≡ 0 → ⊥) → eqb k TI ≡ true
        → AtWords k bytes (pick z (stop false l.long) (item (l.value ∷ p.value ∷ []) (l.long + p.long)))
    paged true e h t =
        let s = language_sound bytes h in
        let q : l.long + 0 ≡ l.long = omega arith in
        cut (part-size q (part-on (subtitle-line t s.0) s.1 (part_here (page k) (drop l.long bytes) (no-page-line (eqb-true p.long 0 e)))))
    paged false e h t = took

    go :
        (z : Bool) → eqb l.long 0 ≡ z → (t : Bool) → eqb k TI ≡ t
        → AtWords k bytes (pick z (stop true 0) (pick t (with_page l (page_at (drop l.long bytes))) (item (l.value ∷ []) l.long)))
    go true e t f = over (eqb-true l.long 0 e)
    go false e true f = paged (eqb p.long 0) refl (eqb-false l.long 0 e) f
    go false e false f = took

-- a row of them ends before what is no language, or at a page that isn't there
data AfterWords (k : ℕ) (bytes : List ℕ) : Bool → ℕ → Type 0 where
  over : {n : ℕ} → (language_at (drop n bytes)).long ≡ 0 → AfterWords k bytes true n
  cut : {n : ℕ} → Part (words k) bytes n → AfterWords k bytes false n

-- what is behind so many bytes of lines
drop_lines : (lines rest bytes : List ℕ) (n : ℕ) → bytes ≡ lines ++ rest → n ≡ length lines → drop n bytes ≡ rest
drop_lines lines rest bytes n e m = ap (drop n) e ∙ ap (λ (i : ℕ). drop i (lines ++ rest)) m ∙ drop-append_seam lines rest

words_ended :
    (k : ℕ) (bytes lines rest : List ℕ) {f : Bool} {n at : ℕ} → bytes ≡ lines ++ rest → n ≡ length lines + at → Lines (words k) lines (words k)
    → AtWords k rest (stop f at) → AfterWords k bytes f n
words_ended k bytes lines rest {n = n} e size l (over z) =
    let m : n ≡ length lines = omega arith in
    let y : (language_at (drop n bytes)).long ≡ 0 = rw (drop_lines lines rest bytes n e m) z in
    over y
words_ended k bytes lines rest e size l (cut p) = cut (part-size (sym size) (part-behind l e p))

after_words : (k : ℕ) (bytes : List ℕ) → AfterWords k bytes (words_of k bytes).fine (words_of k bytes).long
unfolding words_of
after_words k bytes =
    let u =
    until same words_at words_stepping Words entry_lines Any (λ s. s ≡ k) (λ s ws e. e)
    (λ s b ws n e. (seen-item same words_at Words entry_lines words_seen s b ws n e, tt)) (length bytes) k bytes (omega arith) refl in
    let stopped = ap (λ (s : ℕ). words_at s u.rest) (sym u.stays) ∙ u.stopped in
    words_ended k bytes _ u.rest u.there u.size (row_lines k u.each) (rw stopped at (at_words k u.rest))

-- ---- the descriptors of a table

-- a descriptor's line may stand there
abbrev Opens : Next → ℕ → Type 0
Opens a k = (n : ℕ) → n ≤ 63 → Follows a (number_line descriptor_name n) (words k)

described_lines : {a : Next} (k : ℕ) (d : Descriptor) → Opens a k → Described k d → Lines a (descriptor_text k d) (words k)
unfolding descriptor_line
described_lines k d o p =
    let t : texts same words_at entry_lines k p.rows ≡ entry_lines k d.words = flat_lines k p.rows p.each ∙ ap (entry_lines k) (sym p.made) in
    and-line (o d.id p.small) (rw t at (row_lines k p.each))

-- what stands next behind these
unfoldable behind_table : ℕ → List Descriptor → Next
behind_table k [] = table k
behind_table k (d ∷ ds) = words k

more_lines : (k : ℕ) {ds : List Descriptor} → Each same descriptor_at Described k ds → Lines (words k) (texts same descriptor_at descriptor_text k ds) (words k)
unfolding texts
more_lines k none = no_line
more_lines k (more {a = d} p ps) = lines_then (described_lines k d (λ n h. next-descriptor h) p) (more_lines k ps)

table_lines_lem :
    (k : ℕ) {ds : List Descriptor} → Each same descriptor_at Described k ds
    → Lines (table k) (texts same descriptor_at descriptor_text k ds) (behind_table k ds)
unfolding texts behind_table
table_lines_lem k none = no_line
table_lines_lem k (more {a = d} p ps) = lines_then (described_lines k d (λ n h. first-descriptor h) p) (more_lines k ps)

data AtDescriptor (k : ℕ) (bytes : List ℕ) : Step Descriptor → Type 0 where
  took : {d : Descriptor} {n : ℕ} → (language_at (drop n bytes)).long ≡ 0 → AtDescriptor k bytes (item d n)
  over : (number_at descriptor_name 63 bytes).long ≡ 0 → AtDescriptor k bytes (stop true 0)
  cut : {n : ℕ} → ((a : Next) → Opens a k → Part a bytes n) → AtDescriptor k bytes (stop false n)

at-descriptor : (k : ℕ) (bytes : List ℕ) → AtDescriptor k bytes (descriptor_at k bytes)
unfolding with_number with_words
at-descriptor k bytes = go (eqb d.long 0) refl
  where
    d : Line
    d = number_at descriptor_name 63 bytes

    ws : Many (List ℕ)
    ws = words_of k (drop (number_at descriptor_name 63 bytes).long bytes)

    with-words :
        {f : Bool} {n : ℕ} (x : Descriptor) → (d.long ≡ 0 → ⊥) → AfterWords k (drop d.long bytes) f n
        → AtDescriptor k bytes (pick f (item x (d.long + n)) (stop false (d.long + n)))
    with-words {n = n} x h (over z) =
        let y : (language_at (drop (d.long + n) bytes)).long ≡ 0 = rw (sym (drop-drop n d.long bytes)) z in took y
    with-words x h (cut p) = let s = number-sound descriptor_name 63 bytes h in cut (λ a o. part-on (o d.value s.0) s.1 p)

    go : (z : Bool) → eqb d.long 0 ≡ z → AtDescriptor k bytes (pick z (stop true 0) (with_words d (words_of k (drop d.long bytes))))
    go true e = over (eqb-true d.long 0 e)
    go false e = with-words _ (eqb-false d.long 0 e) (after_words k (drop d.long bytes))

-- a table's lines and then none that may stand there, whether the row of descriptors ends well or not
descriptors_ended :
    (k : ℕ) (bytes lines rest : List ℕ) (ds : List Descriptor) {f : Bool} {n at : ℕ} → bytes ≡ lines ++ rest → n ≡ length lines + at
    → Lines (table k) lines (behind_table k ds) → ((ds ≡ []) ⊎ ((language_at rest).long ≡ 0)) → AtDescriptor k rest (stop f at)
    → Part (table k) bytes n
unfolding behind_table
descriptors_ended k bytes lines rest [] e size l a (over z) = part-size (sym size) (part-behind l e (part_here (table k) rest (no_descriptor z)))
descriptors_ended k bytes lines rest (d ∷ ds) e size l (inl z) (over y) = absurd (not-empty z)
  where
    not-empty : d ∷ ds ≡ [] → ⊥
    not-empty q = let z : ◌≡◌ {A = ℕ} 0 1 = cc in omega arith
descriptors_ended k bytes lines rest (d ∷ ds) e size l (inr z) (over y) =
    part-size (sym size) (part-behind l e (part_here (words k) rest (no_words y z)))
descriptors_ended k bytes lines rest [] e size l a (cut p) = part-size (sym size) (part-behind l e (p (table k) (λ n h. first-descriptor h)))
descriptors_ended k bytes lines rest (d ∷ ds) e size l a (cut p) =
    part-size (sym size) (part-behind l e (p (words k) (λ n h. next-descriptor h)))

table-part : (k : ℕ) (bytes : List ℕ) → Part (table k) bytes (descriptors_of k bytes).long
unfolding descriptors_of
table-part k bytes =
    let u =
    until same descriptor_at descriptor_stepping Described descriptor_text (λ s rest. (language_at rest).long ≡ 0) (λ s. s ≡ k) (λ s d e. e)
    (λ s b d n e. (seen-item same descriptor_at Described descriptor_text descriptor-seen s b d n e, no-more-words (rw e at (at-descriptor s b))))
    (length bytes) k bytes (omega arith) refl in
    let stopped = ap (λ (s : ℕ). descriptor_at s u.rest) (sym u.stays) ∙ u.stopped in
    descriptors_ended k bytes _ u.rest _ u.there u.size (table_lines_lem k u.each) (first_of u.after) (rw stopped at (at-descriptor k u.rest))
  where
    no-more-words : {s n : ℕ} {b : List ℕ} {d : Descriptor} → AtDescriptor s b (item d n) → (language_at (drop n b)).long ≡ 0
    no-more-words (took z) = z

    first_of : {P Q R S : Type 0} → (P × Q × R) ⊎ S → P ⊎ S
    first_of (inl h) = inl h.0
    first_of (inr h) = inr h

-- ---- an entry, and the sheet

module _ (form : Form) where
  head-table : (bytes : List ℕ) (h : Many ℕ) → Headed form bytes h → Part (begin form) bytes (h.long + (descriptors_of (kind_in h.items) (drop h.long bytes)).long)
  head-table bytes h r =
      let k = kind_in h.items in
      let p = part-behind (head_lines_lem (head_faithful form) r.fit []) r.there (table-part k (drop h.long bytes)) in
      subst (λ (n : ℕ). Part (begin form) bytes (n + (descriptors_of k (drop h.long bytes)).long)) (sym r.size) p

  data AtEntry (bytes : List ℕ) : Step Entry → Type 0 where
    took : {e : Entry} {n : ℕ} → AtEntry bytes (item e n)
    over : AtEntry bytes (stop true 0)
    cut : {n : ℕ} → Part (begin form) bytes n → AtEntry bytes (stop false n)

  at_entry : (least : ℕ) (bytes : List ℕ) → AtEntry bytes (entry_at form least bytes)
  unfolding entry_at with_head with_table ended
  at_entry least [] = over
  at_entry least (b ∷ bs) = go h.fine refl
    where
      bytes : List ℕ
      bytes = b ∷ bs

      h : Many ℕ
      h = lines_at (heading form) (b ∷ bs)

      ds : Many Descriptor
      ds = descriptors_of (kind_in h.items) (drop h.long bytes)

      tested : (z : Bool) (e : Entry) (m : ℕ) {n : ℕ} → Part (begin form) bytes n → AtEntry bytes (pick z (item e m) (stop false n))
      tested true e m p = took
      tested false e m p = cut p

      tabled : (z : Bool) {s : Step Entry} {n : ℕ} → AtEntry bytes s → Part (begin form) bytes n → AtEntry bytes (pick z s (stop false n))
      tabled true a p = a
      tabled false a p = cut p

      go : (z : Bool) → h.fine ≡ z → AtEntry bytes (pick z (with_table least bytes h ds) (stop false h.long))
      go true e =
          let p = head-table bytes h (headed form bytes e) in
          let x = entry_from h.items ds.items in
          let at = h.long + ds.long in
          tabled ds.fine (tested (both (begins_with empty_line (drop at bytes)) (both (fits x.table) (rises least x))) x (at + 1) p) p
      go false e = cut (head-part (head_faithful form) [] bytes e)

  entry-part : (least n : ℕ) (bytes : List ℕ) → entry_at form least bytes ≡ stop false n → Part (begin form) bytes n
  entry-part least n bytes e = go (rw e at (at_entry least bytes))
    where
      go : AtEntry bytes (stop false n) → Part (begin form) bytes n
      go (cut p) = p

  -- entries that stand at the front are read
  entries-read :
      (k least : ℕ) (es : List Entry) (tail : List ℕ) → Each above (entry_at form) (Standing form) least es → length (sheet_text form es ++ tail) ≤ k
      → length (sheet_text form es) ≤ (many above (entry_at form) k least (sheet_text form es ++ tail)).long
  unfolding sheet_text many further
  entries-read k least [] tail none h = omega arith
  entries-read zero least (e ∷ es) tail (more p ps) h = omega (arith, length-append (sheet_text form (e ∷ es)) tail)
  entries-read (suc k) least (e ∷ es) tail (more p ps) h =
      let rest = sheet_text form es ++ tail in
      let b = entry-back form least e rest p in
      let m = (entry_stepping form).moves_on least (entry_text form e ++ rest) e (length (entry_text form e)) b in
      let l : length rest ≤ k = simp length-append (omega (arith, simp length-append at h)) in
      let r = entries-read k (above least e) es tail ps l in
      rw (append_assoc (entry_text form e) (sheet_text form es) tail, b, drop-append_seam (entry_text form e) rest, length-append (entry_text form e) (sheet_text form es)) (omega arith)

  module _ (bytes : List ℕ) where
    -- an empty line that ends a sheet in form is read
    end_read : (at : ℕ) → at ≤ length bytes → InForm form (take at bytes ++ empty_line) → begins_with empty_line (drop at bytes) ≡ true → suc at ≤ (sheet_of form bytes).long
    unfolding sheet_from
    end_read at h f e =
        let text = take at bytes ++ empty_line in
        let r = read-written form text 0 f in
        let es = (sheet_of form text).items in
        let tail = drop 1 (drop at bytes) in
        let whole : bytes ≡ sheet_text form es ++ tail =
        sym (take-append-drop at bytes)
        ∙ ap (λ (x : List ℕ). take at bytes ++ x) (begins_with_lem empty_line (drop at bytes) e)
        ∙ sym (append_assoc (take at bytes) empty_line tail)
        ∙ ap (λ (x : List ℕ). x ++ tail) r.0 in
        let l = ap length r.0 in
        let t = length-take at bytes in
        let p = entries-read (length bytes) 0 es tail (stand form 0 es r.1 r.2) (rw (sym whole) (omega arith)) in
        let q : length (sheet_text form es) ≤ (many above (entry_at form) (length bytes) 0 bytes).long = rw (sym whole) at p in
        omega (arith, length-append (take at bytes) empty_line)

    -- the offset of a 20
    pub first-fault : (sheet_of form bytes).fine ≡ false → FirstFault form bytes (sheet_of form bytes).long
    unfolding sheet_from
    first-fault f =
        let m = sheet_of form bytes in
        let u =
        until above (entry_at form) (entry_stepping form) (Standing form) (text_of form) Any (λ s. Unit {0}) (λ s e r. tt)
        (λ s b e n h. (seen-item above (entry_at form) (Standing form) (text_of form) (entry_seen form) s b e n h, tt)) (length bytes) 0 bytes (omega arith) tt in
        let p = entry-part u.state u.at u.rest (u.stopped ∙ ap (λ (b : Bool). stop b u.at) f) in
        let s = stood form 0 m.items u.each in
        let text = sheet_text form m.items in
        let there : bytes ≡ (text ++ p.lines) ++ p.rest =
        u.there
        ∙ ap (λ (x : List ℕ). x ++ u.rest) (sheet-texts form 0 m.items)
        ∙ ap (λ (x : List ℕ). text ++ x) p.there
        ∙ sym (append_assoc text p.lines p.rest) in
        let size : m.long ≡ length (text ++ p.lines) =
        rw (length-append, ← sheet-texts form 0 m.items) (let a = u.size in let b = p.size in omega arith) in
        let d : drop m.long bytes ≡ p.rest = drop_lines (text ++ p.lines) p.rest bytes m.long there size in
        let t : take m.long bytes ≡ text ++ p.lines =
        ap (take m.long) there ∙ ap (λ (i : ℕ). take i ((text ++ p.lines) ++ p.rest)) size ∙ take-append_seam (text ++ p.lines) p.rest in
        record {
          not_in_form = λ g. let e : true ≡ false = sym g ∙ f in let z : ◌≡◌ {A = ℕ} 0 1 = cc in omega arith;
          entries = m.items;
          rise = s.0;
          can = s.1;
          lines = p.lines;
          next = p.next;
          in_form = p.in_form;
          before = t;
          no_line = rw d (stuck p.missed);
          no_end = λ g. no_end g (begins_with empty_line (drop m.long bytes)) refl;
        }
      where
        no_end : InForm form (take (sheet_of form bytes).long bytes ++ empty_line) → (b : Bool) → begins_with empty_line (drop (sheet_of form bytes).long bytes) ≡ b → b ≡ false
        no_end g false e = refl
        no_end g true e =
            let w = row_within above (entry_at form) (entry_stepping form) (length bytes) 0 bytes in
            let q = end_read (sheet_of form bytes).long w g e in
            absurd (omega arith)
