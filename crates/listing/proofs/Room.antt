-- How long the lines of a table can be: 14 bytes for each descriptor and 16 for each word, so nine for each byte of its form. Assumes nothing.
use mathlib.Core.Path.{◌≡◌, refl}
use mathlib.Core.Bool.{Bool, true, false}
use mathlib.Core.List.{List, [], ◌∷◌}
use Prim.Native.Nat.{ℕ, suc, ◌+◌, ◌*◌, ◌^◌, ◌≤◌, ◌<◌}
use native.Mathlib.Omega.{arith}
use lib.Dec.{eqb}
use lib.ListN.{length, length-append}
use borrow.Author.Tests.{eqb-true}
use Rattle.std.specs.Prelude.{Option, Some, None, IfSome}
use Rattle.std.specs.declared.result.Result.TheVariants.{Ok}
use Rattle.laws.specs.Pick.{pick}
use Rattle.answer.specs.Values.{refused}
use Rattle.answer.specs.Rules.{judged}
use Rattle.answer.proofs.Steps.{done_every, first_holds, others_hold}
use Rattle.fields.specs.Fields.{fitting}
use Rattle.forms.specs.Tables.{Descriptor, Table, TI, loops, entire, fits}
use Rattle.forms.specs.Form.{listed, form, table_in}
use Rattle.forms.specs.Writing.{form_rules}
use Rattle.forms.proofs.Measures.{length-listed, length-form}
use Rattle.forms.proofs.Sendable.{Sendable, parted}
use Rattle.text_lines.specs.Lines.{digit_most, hexed, number_line, letters, language_of, language_line, page_line, word_bytes}
use Rattle.text_lines.proofs.Decimals.{digits_few}
use Rattle.listing.specs.Lines.{block_name, network_name, mended_name, joined_name, joined_line, descriptor_name, kind_line, kind_ti, kind_li, language_lines, subtitle_lines}
use Rattle.listing.specs.Lines.{entry_lines, descriptor_line, descriptor_lines, head_lines, descriptor_lines_of, lines_of}
use Rattle.listing.specs.declared.Head.{Head}
use Rattle.listing.specs.Internal.{lines_from}

-- ---- a line each

-- a number of j + 1 digits at most: its name, the digits, the end of the line
pub number-room : (name : List ℕ) (j n : ℕ) → n < 10 ^ suc j → length (number_line name n) ≤ length name + suc j + 1
unfolding number_line
number-room name j n h = simp length-append (omega (arith, digits_few digit_most j n h))

pub kind_room : (kind : ℕ) → length (kind_line kind) ≤ 8
unfolding kind_line
kind_room kind = go (eqb kind TI)
  where
    go : (t : Bool) → length (pick t kind_ti kind_li) ≤ 8
    go true = omega arith
    go false = omega arith

joined-room : (second : ℕ) → length (joined_line second) ≤ 9
unfolding joined_line
joined-room second = go (eqb second 1)
  where
    go : (t : Bool) → length (pick t (number_line joined_name 1) []) ≤ 9
    go true = number-room joined_name 0 1 (omega arith)
    go false = omega arith

length-hexed : (bs : List ℕ) → length (hexed bs) ≡ 2 * length bs
unfolding hexed
length-hexed [] = refl
length-hexed (b ∷ bs) = omega (arith, length-hexed bs)

length-word : (w : ℕ) → length (word_bytes w) ≡ 3
unfolding word_bytes
length-word w = refl

name-room : (w : ℕ) → length (language_of w) ≤ 6
unfolding language_of
name-room w = go (letters (word_bytes w))
  where
    go : (t : Bool) → length (pick t (word_bytes w) (hexed (word_bytes w))) ≤ 6
    go true = omega (arith, length-word w)
    go false = omega (arith, length-hexed (word_bytes w), length-word w)

language_room : (w : ℕ) → length (language_line w) ≤ 16
unfolding language_line
language_room w = simp length-append (omega (arith, name-room w))

page-room : (w : ℕ) → length (page_line w) ≤ 12
unfolding page_line
page-room w = simp length-append (omega (arith, length-hexed (word_bytes w), length-word w))

-- ---- all

languages-room : (ws : List ℕ) → length (language_lines ws) ≤ 16 * length ws
unfolding language_lines
languages-room [] = omega arith
languages-room (l ∷ ws) = simp length-append (omega (arith, language_room l, languages-room ws))

subtitles-room : (ws : List ℕ) → length (subtitle_lines ws) ≤ 16 * length ws
unfolding subtitle_lines
subtitles-room [] = omega arith
subtitles-room (l ∷ []) = omega (arith, language_room l)
subtitles-room (l ∷ p ∷ ws) = simp length-append (omega (arith, language_room l, page-room p, subtitles-room ws))

entries-room : (kind : ℕ) (ws : List ℕ) → length (entry_lines kind ws) ≤ 16 * length ws
unfolding entry_lines
entries-room kind ws = go (eqb kind TI)
  where
    go : (t : Bool) → length (pick t (subtitle_lines ws) (language_lines ws)) ≤ 16 * length ws
    go true = subtitles-room ws
    go false = languages-room ws

-- how many words descriptors have in all
unfoldable pub words_of : List Descriptor → ℕ
words_of [] = 0
words_of (d ∷ ds) = length d.words + words_of ds

-- how many bytes of a form they take
pub listed_words : (kind : ℕ) (ds : List Descriptor) → length (listed kind ds) ≡ 2 * length ds + 3 * words_of ds
unfolding listed words_of
listed_words kind [] = refl
listed_words kind (d ∷ ds) = omega (arith, length-listed kind d ds, listed_words kind ds)

-- and of text: a number of two digits behind `descriptor=`, and a line for each word
pub descriptors_room :
    (kind : ℕ) (ds : List Descriptor) → entire kind ds ≡ true → fitting (loops kind ds) ≡ true
    → length (descriptor_lines kind ds) ≤ 14 * length ds + 16 * words_of ds
unfolding descriptor_lines descriptor_line words_of
descriptors_room kind [] h k = omega arith
descriptors_room kind (d ∷ ds) h k =
    let p = parted kind d ds h k in
    let own = number-room descriptor_name 1 d.id (omega (arith, p.0.id_fits)) in
    let rest = descriptors_room kind ds p.1 p.2 in
    simp length-append (omega (arith, own, rest, entries-room kind d.words))

pub lines_room :
    (head : Option Head) (t : Table) → IfSome head (λ h. h.mended < 65536) → Sendable t → length (lines_from head t) ≤ 9 * length (form t)
unfolding lines_of head_lines descriptor_lines_of
lines_room head t small s = go head small
  where
    each : length (descriptor_lines_of t) ≤ 9 * length (listed t.kind t.descriptors)
    each =
        let r = descriptors_room t.kind t.descriptors s.entire_all s.loops_fit in
        omega (arith, r, listed_words t.kind t.descriptors)

    go : (x : Option Head) → IfSome x (λ h. h.mended < 65536) → length (lines_from x t) ≤ 9 * length (form t)
    go (Some h) m =
        let block = number-room block_name 4 t.block (omega (arith, s.block_fits)) in
        let network = number-room network_name 2 t.network (omega (arith, s.network_fits)) in
        let count = number-room mended_name 4 h.mended (omega (arith, m)) in
        simp length-append (omega (arith, kind_room t.kind, block, network, count, joined-room h.second, each, length-form t))
    go None m = omega (arith, each, length-form t)

-- ---- what judging a form says of it

pub judged-form :
    (f : List ℕ) (n m : ℕ) → judged refused (form_rules f) (Ok n) ≡ Ok m
    → (length f ≡ length (form (table_in f))) × (fits (table_in f) ≡ true)
unfolding form_rules
judged-form f n m e =
    let r = others_hold (others_hold (others_hold (done_every (form_rules f) n m e))) in
    (eqb-true _ _ (first_holds r), first_holds (others_hold r))
