-- The entry of a table form: its text and how long it can be. Assumes nothing.
use mathlib.Core.Path.{◌≡◌, ◌∙◌, refl, sym, ap}
use mathlib.Core.Bool.{true}
use mathlib.Core.List.{List, [], ◌∷◌, ◌++◌, append-nil, append_assoc}
use Prim.Native.Nat.{ℕ, ◌+◌, ◌*◌, ◌-◌, ◌≤◌, ◌<◌}
use native.Mathlib.Decide.{dec_lt}
use native.Mathlib.Omega.{arith}
use lib.Dec.{leb}
use lib.ListN.{length, get_or, take, drop, replicate, length-append, length-drop, length-take, drop_of_length-le}
use lib.Seq.{sets, sets-eq, take_all, drop-drop}
use borrow.Rule.Slice.PartMut.{mid_of, put_mid}
use borrow.Author.Tests.{le-leb, lt-leb, leb-true, eq-eqb, eqb-true}
use Rattle.std.specs.declared.result.Result.TheVariants.{Ok, Err}
use Rattle.laws.proofs.Tests.{both-holds}
use Rattle.answer.specs.Answer.{Answer}
use Rattle.answer.specs.declared.Refusal.{Refusal}
use Rattle.answer.proofs.Steps.{goes_on, done-value, done_every, first_holds, others_hold}
use Rattle.answer.proofs.Lent.{front-holds, back-holds, lent-accepted, lent-refused, lent-short, lent-done}
use Rattle.answer.specs.Rules.{Rule, rule, judged, Every, none, more}
use Rattle.answer.specs.Values.{refused}
use Rattle.answer.specs.Writing.{room, answered, after, left}
use Rattle.forms.specs.Tables.{Table, bits, fields, fits}
use Rattle.forms.specs.Form.{form, table_in, opening}
use Rattle.forms.specs.Writing.{form_rules}
use Rattle.fields.specs.Fields.{width}
use Rattle.forms.proofs.Measures.{length-form, bits_of, eights}
use Rattle.forms.proofs.Forms.{two_bytes}
use Rattle.forms.proofs.Judging.{form-said}
use Rattle.forms.proofs.Sendable.{Sendable, sendable, sends}
use Rattle.text_lines.specs.Putting.{Put}
use Rattle.listing.specs.Lines.{mended_name, network_name, block_name, descriptor_lines_of}
use Rattle.listing.proofs.Room.{number-room, kind_room, words_of, descriptors_room, listed_words}
use Rattle.text_lines.proofs.Printed.{put-within}
use Rattle.listing_reader.proofs.Matching.{spelled_in}
use Rattle.sheet_entry.specs.declared.Form.{Form}
use Rattle.sheet_entry.specs.declared.Form.TheVariants.{Old, New}
use Rattle.sheet_entry.specs.Entries.{stamp_name, stamp_most, mended_most, mended_head, heading, spelled_by, head_lines, entry_text, written}
use Rattle.sheet_entry.specs.Writing.{stamped, entry_rules}
use Rattle.sheet_entry.specs.Internal.{Judged, mended_room, entry_most, head_most, head_room, entry_room}

-- ---- the form

pub judged_by : (f : List ℕ) → Every (form_rules f) → Judged f
unfolding form_rules
judged_by f e =
    let c = others_hold (others_hold (others_hold e)) in
    record { whole = eqb-true (length f) (length (form (table_in f))) (first_holds c); fit = first_holds (others_hold c) }

pub judged_every : (f : List ℕ) → Judged f → Every (form_rules f)
unfolding form_rules table_in
judged_every f j =
    let s = sendable (table_in f) j.fit in
    let l = length-form (table_in f) in
    more (form-said f s.edition)
    (more (le-leb opening (length f) (omega (arith, j.whole)))
    (more s.kind_known (more (eq-eqb (length f) (length (form (table_in f))) j.whole) (more j.fit none))))

-- so many descriptors and words as 8,184 bits hold: 63 descriptors leave room for 312 words, and more words cost more than they give
text_most_lem : (d w : ℕ) → d ≤ 63 → 58 + 10 * d + 24 * w ≤ 8184 → 14 * d + 16 * w + 1 ≤ 5875
text_most_lem d w h b = elim (dec_lt w 313) [ yes g ↦ omega arith | no g ↦ omega arith ]

-- a table's lines are short enough for the room that is held
pub lines_most_lem : (f : List ℕ) → Judged f → length (descriptor_lines_of (table_in f)) + 1 ≤ 5875
unfolding descriptor_lines_of
lines_most_lem f j =
    let t = table_in f in
    let s = sendable t j.fit in
    let r = descriptors_room t.kind t.descriptors s.entire_all s.loops_fit in
    let w = listed_words t.kind t.descriptors in
    let b = bits_of t in
    let e = eights t.kind t.descriptors in
    let c : bits t ≤ 8184 = omega (arith, s.control_fits) in
    omega (arith, text_most_lem (length t.descriptors) (words_of t.descriptors) (omega (arith, s.count_fits)) (omega arith))

-- and so are those of its head
mended_most_lem : (form : Form) (mended : ℕ) → mended ≤ mended_most form → length ((mended_head form).text mended) ≤ mended_room form
mended_most_lem Old mended h = omega arith
mended_most_lem New mended h = number-room mended_name 3 mended (omega arith)

pub head_most_lem :
    (form : Form) (stamp mended k n m : ℕ) → stamp ≤ stamp_most → mended ≤ mended_most form → n ≤ 255 → m ≤ 65535
    → length (spelled_by (heading form) (stamp ∷ mended ∷ k ∷ n ∷ m ∷ [])) ≤ head_most form
unfolding spelled_by
head_most_lem form stamp mended k n m h hd hn hm =
    let w = number-room stamp_name 9 stamp (omega arith) in
    let y = number-room network_name 2 n (omega arith) in
    let z = number-room block_name 4 m (omega arith) in
    simp length-append (omega (arith, kind_room k, w, y, z, mended_most_lem form mended hd))

pub head-short : (form : Form) → head_most form ≤ head_room
head-short Old = omega arith
head-short New = omega arith

-- ---- the entry

-- without its copyright bit a table can be sent as well
uncopied :
    (t : Table) → Sendable t
    → fits (record { kind = t.kind; copyright = 0; block = t.block; network = t.network; descriptors = t.descriptors }) ≡ true
unfolding fields width
uncopied t s =
    sends (record { kind = t.kind; copyright = 0; block = t.block; network = t.network; descriptors = t.descriptors })
    (record {
      kind_known = s.kind_known;
      edition = s.edition;
      entire_all = s.entire_all;
      control_fits = s.control_fits;
      kind_fits = s.kind_fits;
      copyright_fits = omega arith;
      block_fits = s.block_fits;
      network_fits = s.network_fits;
      count_fits = s.count_fits;
      loops_fit = s.loops_fit;
    })

pub stamped-written :
    (form : Form) (stamp mended : ℕ) (f : List ℕ) → stamp ≤ stamp_most → mended ≤ mended_most form → Judged f → written form (stamped stamp mended f) ≡ true
unfolding written stamped
stamped-written form stamp mended f h d j =
    let s = sendable (table_in f) j.fit in
    both-holds (leb stamp stamp_most) _ (le-leb stamp stamp_most h)
    (both-holds (leb mended (mended_most form)) _ (le-leb mended (mended_most form) d) (uncopied (table_in f) s))

pub head_of :
    (form : Form) (stamp mended : ℕ) (f : List ℕ) (k a b n : ℕ) → k ≡ get_or f 0 0 → a ≡ get_or f 2 0 → b ≡ get_or f 3 0 → n ≡ get_or f 4 0 → a < 256 → b < 256
    → spelled_by (heading form) (stamp ∷ mended ∷ k ∷ n ∷ (a + 256 * b) ∷ []) ≡ head_lines form (stamped stamp mended f)
unfolding head_lines stamped table_in
head_of form stamp mended f k a b n ek ea eb en ha hb = rw (two_bytes a b ha hb, ek, ea, eb, en)

-- ---- the room that is held

-- what is put into a part from a place on
pub put-part :
    (out lines : List ℕ) (at : ℕ) → at + length lines ≤ length out
    → put_mid at (length out - at) out (lines ++ drop (length lines) (mid_of at (length out - at) out)) ≡ sets out at lines
put-part out lines at h =
    let d = length-drop at out in
    let k : drop (length out - at) (drop at out) ≡ [] = drop_of_length-le (drop at out) {i = length out - at} (omega arith) in
    rw (
      take_all (length out - at) (drop at out) (omega arith),
      k,
      append-nil (lines ++ drop (length lines) (drop at out)),
      drop-drop (length lines) at out,
      sets-eq lines out at h,
    )
    (sym (append_assoc (take at out) lines (drop (at + length lines) out)))

-- the table's lines are listed into such a part
module _ (f out : List ℕ) (at : ℕ) (j : Judged f) (o : length out ≡ entry_room) (a : at ≤ head_room) where
  abbrev lines : List ℕ
  lines = descriptor_lines_of (table_in f)

  abbrev part : List ℕ
  part = mid_of at (length out - at) out

  part_room : length lines ≤ length part
  part_room =
      let d = length-drop at out in
      let t = length-take (length out - at) (drop at out) in
      omega (arith, lines_most_lem f j)

  listed-all : (answered (form_rules f) lines part ≡ Ok (length lines)) × (left (form_rules f) lines part ≡ lines ++ drop (length lines) part)
  listed-all = lent-accepted (form_rules f) lines part (judged_every f j) part_room

  pub table-long : {r : Answer} {n : ℕ} → r ≡ answered (form_rules f) lines part → r ≡ Ok n → n ≡ length lines
  table-long {r} {n} e g = let h : Ok n ≡ Ok (length lines) = sym g ∙ e ∙ listed-all.0 in cc

  pub table-put :
      {r : Answer} {n : ℕ} {exit : List ℕ} → r ≡ answered (form_rules f) lines part → r ≡ Ok n → exit ≡ left (form_rules f) lines part
      → Put out at lines (put_mid at (length out - at) out exit) (at + n) × (at + n + 1 ≤ entry_room)
  table-put {r} {n} {exit} e g x =
      let l = table-long e g in
      let m = lines_most_lem f j in (
        record {
          stored = ap (put_mid at (length out - at) out) (x ∙ listed-all.1) ∙ put-part out lines at (omega arith);
          moved = ap (λ (k : ℕ). at + k) l;
        },
        omega arith,
      )

  pub table_taken : {r : Answer} {w : Refusal} → r ≡ answered (form_rules f) lines part → r ≡ Err w → ⊥
  table_taken {r} {w} e g = let h : Err w ≡ Ok (length lines) = sym g ∙ e ∙ listed-all.0 in let z : ◌≡◌ {A = ℕ} 0 1 = cc in omega arith

-- ---- the whole entry

pub entry_most_lem :
    (form : Form) (stamp mended : ℕ) (f : List ℕ) → stamp ≤ stamp_most → mended ≤ mended_most form → Judged f
    → length (entry_text form (stamped stamp mended f)) ≤ entry_most form
unfolding entry_text head_lines stamped descriptor_lines_of
entry_most_lem form stamp mended f h d j =
    let t = table_in f in
    let s = sendable t j.fit in
    let m = head_most_lem form stamp mended t.kind t.network t.block h d (omega (arith, s.network_fits)) (omega (arith, s.block_fits)) in
    simp length-append (omega (arith, m, lines_most_lem f j))

-- held in an array, and then handed out
module _ (xs old : List ℕ) {text : List ℕ} {n : ℕ} (put : Put (replicate entry_room 0) 0 xs text n) (few : n ≤ entry_room) where
  held : (take n text ≡ xs) × (n ≡ length xs)
  held = let s = spelled_in entry_room (put-within (omega arith) put) few in (s.0, s.1 ∙ ap length s.0)

  pub held-short : length old < n → (refused 1 0 ≡ answered [] xs old) × (old ≡ left [] xs old)
  held-short h = lent-short [] xs old 0 refl refl (omega (arith, held.1))

  pub held-done : {out : List ℕ} → n ≤ length old → out ≡ sets old 0 (take n (drop 0 text)) → (Ok n ≡ answered [] xs old) × (out ≡ left [] xs old)
  held-done h e =
      let d = lent-done [] xs old 0 refl refl (omega (arith, held.1)) in
      (ap Ok held.1 ∙ d.0, e ∙ ap (sets old 0) held.0 ∙ d.1)

-- ---- the rules

-- those of the table form, then that of the number
pub entry-judged : (form : Form) (mended : ℕ) (f : List ℕ) → Every (entry_rules form mended f) → Judged f × (mended ≤ mended_most form)
entry-judged form mended f e = (
  judged_by f (front-holds (form_rules f) (rule (leb mended (mended_most form)) 15 0 ∷ []) e),
  leb-true mended (mended_most form) (first_holds (back-holds (form_rules f) (rule (leb mended (mended_most form)) 15 0 ∷ []) e)),
)

pub entry_every : (form : Form) (mended : ℕ) (f : List ℕ) → Judged f → mended ≤ mended_most form → Every (entry_rules form mended f)
entry_every form mended f j h = go (form_rules f) (judged_every f j)
  where
    go : (rs : List Rule) → Every rs → Every (rs ++ (rule (leb mended (mended_most form)) 15 0 ∷ []))
    go [] none = more (le-leb mended (mended_most form) h) none
    go (r ∷ rs) (more p ps) = more p (go rs ps)

-- the form holds, and the number is judged
module _ (form : Form) (mended : ℕ) (f : List ℕ) (n : ℕ) {first : Answer} (judges : first ≡ judged refused (form_rules f) (Ok n)) where
  pub number-over : {m : ℕ} → first ≡ Ok m → mended_most form < mended → refused 15 0 ≡ judged refused (entry_rules form mended f) (Ok 0)
  number-over e h =
      (rw (lt-leb mended (mended_most form) h) refl) ∙ goes_on (form_rules f) (rule (leb mended (mended_most form)) 15 0 ∷ []) n judges (Ok 0) e

  pub number_fits : {m : ℕ} → first ≡ Ok m → mended ≤ mended_most form → Ok 0 ≡ judged refused (entry_rules form mended f) (Ok 0)
  number_fits e h =
      (rw (le-leb mended (mended_most form) h) refl) ∙ goes_on (form_rules f) (rule (leb mended (mended_most form)) 15 0 ∷ []) n judges (Ok 0) e

-- the rules first, then the room
pub rules-go_on :
    (rules : List Rule) (xs old : List ℕ) (n : ℕ) {first : Answer} {m : ℕ} → first ≡ judged refused rules (Ok n) → first ≡ Ok m
    → (answered [] xs old ≡ answered rules xs old) × (left [] xs old ≡ left rules xs old)
rules-go_on rules xs old n judges e =
    let a = goes_on rules (room xs old ∷ []) n judges (Ok (length xs)) e in
    (a, ap (λ (x : Answer). after x xs old) a)

-- where there is room for the longest entry, the rules decide
pub entry_answers :
    (form : Form) (stamp mended : ℕ) (f old : List ℕ) → stamp ≤ stamp_most → entry_most form ≤ length old
    → answered (entry_rules form mended f) (entry_text form (stamped stamp mended f)) old
    ≡ judged refused (entry_rules form mended f) (Ok (length (entry_text form (stamped stamp mended f))))
entry_answers form stamp mended f old h o = go (judged refused (entry_rules form mended f) (Ok (length xs))) refl
  where
    xs : List ℕ
    xs = entry_text form (stamped stamp mended f)

    go : (a : Answer) → judged refused (entry_rules form mended f) (Ok (length xs)) ≡ a → answered (entry_rules form mended f) xs old ≡ a
    go (Err w) e = sym (lent-refused (entry_rules form mended f) xs old (length xs) (sym e) refl).0
    go (Ok m) e =
        let every = done_every (entry_rules form mended f) (length xs) m e in
        let j = entry-judged form mended f every in
        let l = entry_most_lem form stamp mended f h j.1 j.0 in
        (lent-accepted (entry_rules form mended f) xs old every (omega arith)).0
        ∙ ap Ok (sym (done-value (entry_rules form mended f) (length xs) m e))
