-- Each call's statement settles what comes of it (SCOPE 4.1): two outcomes that it allows have the same answer, the same state and the same
-- lent bytes. The statements are the contracts themselves, as the checker reads them (`Post`: of the arguments, the result and the
-- parameters at exit). Assumes nothing.
use mathlib.Core.Path.{◌≡◌, ◌∙◌, refl, sym, ap}
use mathlib.Core.List.{List}
use Prim.Native.Nat.{ℕ, ◌-◌, ◌≤◌, min}
use native.Mathlib.Omega.{arith}
use lib.ListN.{length, drop, length-drop}
use Rattle.answer.proofs.refuse.Reads as answer-refuse
use Rattle.answer.proofs.Reason.refuse.Reads as answer-reason-refuse
use Rattle.sheet_joins.proofs.Turn.passed.Reads as sheet_joins-turn-passed
use Rattle.octet.proofs.image.Reads as octet-image
use Rattle.aerials.proofs.better.Reads as aerials-better
use Rattle.octet.proofs.decode.Reads as octet-decode
use Rattle.octet.proofs.decodings.Reads as octet-decodings
use Rattle.octet.proofs.hear.Reads as octet-hear
use Rattle.octet.proofs.faults.fault_place.Reads as octet-fault_place
use Rattle.octet.proofs.turn.Reads as octet-turn
use Rattle.octet.proofs.quick.decode.Reads as octet-quick_decode
use Rattle.octet.proofs.quick.mark.Reads as octet-quick_mark
use Rattle.fields.proofs.field_of.Reads as fields-field_of
use Rattle.fields.proofs.opening_of.Reads as fields-opening_of
use Rattle.forms.proofs.items.words_of.Reads as forms-words_of
use Rattle.texts.proofs.same.Reads as texts-same
use Rattle.texts.proofs.begins.Reads as texts-begins
use Rattle.texts.proofs.holds.Reads as texts-holds
use Rattle.texts.proofs.entries.Reads as texts-entries
use Rattle.words.proofs.start.Reads as words-start
use Rattle.words.proofs.next.Reads as words-next
use Rattle.words.proofs.place.Reads as words-place
use Rattle.words.proofs.is_good.Reads as words-is_good
use Rattle.words.proofs.is_task.Reads as words-is_task
use Rattle.words.proofs.value.Reads as words-value
use Rattle.words.proofs.second.Reads as words-second
use Rattle.words.proofs.numbers.number_of.Reads as words-number_of
use Rattle.words.proofs.numbers.kind_of.Reads as words-kind_of
use Rattle.units.proofs.unit_at.Reads as units-unit_at
use Rattle.units.proofs.marks.is_text.Reads as units-is_text
use Rattle.units.proofs.marks.line_fits.Reads as units-line_fits
use Rattle.pes.proofs.read.Reads as pes-read
use Rattle.pes.proofs.judge.Reads as pes-judge
use Rattle.pes.proofs.find.Reads as pes-find
use Rattle.pes.proofs.has_code.Reads as pes-has_code
use Rattle.pes_writer.proofs.write.Reads as pes_writer-write
use Rattle.stripped.proofs.strip.Reads as stripped-strip
use Rattle.stripped.proofs.loss.blank.Reads as stripped-blank
use Rattle.pes.proofs.ebu.is_ebu.Reads as pes-is_ebu
use Rattle.pes.proofs.ebu.turn_run.Reads as pes-turn_run
use Rattle.blocks.proofs.record_at.Reads as blocks-record_at
use Rattle.blocks.proofs.second_of.Reads as blocks-second_of
use Rattle.blocks.proofs.after.Reads as blocks-after
use Rattle.packet.proofs.is_in_range.Reads as packet-is_in_range
use Rattle.symbols.proofs.step.Reads as symbols-step
use Rattle.symbols.proofs.cells.first.Reads as symbols-first
use Rattle.symbols.proofs.cells.cells_of.Reads as symbols-cells_of
use Rattle.writer.proofs.cut.Reads as writer-cut
use Rattle.writer.proofs.cut_pages.Reads as writer-cut_pages
use Rattle.walk.specs.declared.Ahead.{Ahead}
use Rattle.walk.specs.declared.Ahead.TheVariants.{Nothing, Broken, Cut, Whole}
use Rattle.walk.specs.Places.{StartAhead, nothing, broken, cut, whole, ahead_in, next_of}
use Rattle.walk.proofs.pointed.Reads as walk-pointed
use Rattle.walk.proofs.starts.find.Reads as walk-find
use Rattle.walk.proofs.head_on.Reads as walk-head_on
use Rattle.walk.proofs.starts.falls.Reads as walk-falls
use Rattle.pages.proofs.judge.Reads as pages-judge
use Rattle.pages.proofs.judge_y.Reads as pages-judge_y
use Rattle.pages.proofs.two.judge.Reads as pages-two_judge
use Rattle.pages.proofs.two.page_of.Reads as pages-two_page_of
use Rattle.survey.proofs.count.Reads as survey-count
use Rattle.survey.proofs.find.Reads as survey-find
use Rattle.survey.proofs.turn_all.Reads as survey-turn_all
use Rattle.survey.proofs.seen.note.Reads as survey-note
use Rattle.told.proofs.front.Reads as told-front
use Rattle.told.proofs.names.plain.Reads as told-plain
use Rattle.command_line.proofs.setting.Reads as command_line-setting
use Rattle.command_line.proofs.byte.Reads as command_line-byte
use Rattle.captures.proofs.start.Reads as captures-start
use Rattle.sight.proofs.lack.is_lacking.Reads as sight-lack_is_lacking
use Rattle.sight.proofs.pages.Reads as sight-pages
use Rattle.sight.proofs.none.Reads as sight-none
use Rattle.sight.proofs.look.Reads as sight-look
use Rattle.captures.proofs.spans.is_one.Reads as captures-is_one
use Rattle.captures.proofs.spans.span_at.Reads as captures-span_at
use Rattle.packet.proofs.address.Reads as packet-address
use Rattle.packet.proofs.passes_by.Reads as packet-passes_by
use Rattle.packet.proofs.two.is_in_range.Reads as packet-two_is_in_range
use Rattle.packet.proofs.two.first.Reads as packet-two_first
use Rattle.packet.proofs.two.second.Reads as packet-two_second
use Rattle.lent_bytes.proofs.byte_at.Reads as lent_bytes-byte_at
use Rattle.lent_bytes.proofs.put.Reads as lent_bytes-put
use Rattle.lent_bytes.proofs.copy.Reads as lent_bytes-copy
use Rattle.lent_bytes.proofs.clear.Reads as lent_bytes-clear
use Rattle.state.proofs.fresh.Reads as state-fresh
use Rattle.state.proofs.in_range.Reads as state-in_range
use Rattle.state.proofs.joined.spans.Reads as state-joined_spans
use Rattle.state.proofs.joined.goes_on.Reads as state-joined_goes_on
use Rattle.state.proofs.two.fresh.Reads as state-two_fresh
use Rattle.state.proofs.two.in_range.Reads as state-two_in_range
use Rattle.reader.proofs.feed.Reads as reader-feed
use Rattle.reader.proofs.many.feed_all.Reads as reader-feed_all
use Rattle.reader.proofs.two.feed.Reads as reader-two_feed
use Rattle.reader.proofs.two.feed_all.Reads as reader-two_feed_all
use Rattle.fields.proofs.pen.lay.Reads as fields-pen_lay
use Rattle.blocks.proofs.put_head.Reads as blocks-put_head
use Rattle.blocks.proofs.seal.Reads as blocks-seal
use Rattle.blocks.proofs.frames.judge.Reads as blocks-frames_judge
use Rattle.table.proofs.read_block.Reads as table-read_block
use Rattle.forms.proofs.judge_form.Reads as forms-judge_form
use Rattle.blocks.proofs.Summing.{one-sum}
use Rattle.blocks.proofs.sums.mended_in.Reads as blocks-sums_mended_in
use Rattle.blocks.proofs.sums.checksum.Reads as blocks-sums_checksum
use Rattle.blocks.proofs.sums.sound.Reads as blocks-sums_sound
use Rattle.blocks.proofs.sums.sum_of.Reads as blocks-sums_sum_of
use Rattle.forms.proofs.items.known.Reads as forms-known
use Rattle.forms.proofs.items.numbered.Reads as forms-numbered
use Rattle.forms.proofs.items.word_at.Reads as forms-word_at
use Rattle.text_lines.proofs.puts.put.Reads as text_lines-put
use Rattle.text_lines.proofs.put_number.Reads as text_lines-put_number
use Rattle.text_lines.proofs.put_language.Reads as text_lines-put_language
use Rattle.text_lines.proofs.put_page.Reads as text_lines-put_page
use Rattle.dvb_descriptor.proofs.write_descriptor.Reads as dvb_descriptor-write_descriptor
use Rattle.dvb_descriptor.proofs.read_descriptor.Reads as dvb_descriptor-read_descriptor
use Rattle.parity.proofs.letter.Reads as parity-letter
use Rattle.parity.proofs.odds.Reads as parity-odds
use Rattle.kinds.proofs.judge.Reads as kinds-judge
use Rattle.kinds.proofs.mended_in.Reads as kinds-mended_in
use Rattle.menu_forms.proofs.info_bytes.Reads as menu_forms-info_bytes
use Rattle.menu_reader.proofs.read_menu.Reads as menu_reader-read_menu
use Rattle.menu_writer.proofs.write_menu.Reads as menu_writer-write_menu
use Rattle.menu_listing.proofs.list_levels.Reads as menu_listing-list_levels
use Rattle.menu_listing.proofs.list_menu.Reads as menu_listing-list_menu
use Rattle.menu_listing.proofs.list_kept.Reads as menu_listing-list_kept
use Rattle.information_forms.proofs.width_at.Reads as information_forms-width_at
use Rattle.information.proofs.read_information.Reads as information-read_information
use Rattle.information_writer.proofs.write_information.Reads as information_writer-write_information
use Rattle.broadcast.proofs.counts.Reads as broadcast-counts
use Rattle.broadcast.proofs.same.Reads as broadcast-same
use Rattle.broadcast.proofs.lawful.Reads as broadcast-lawful
use Rattle.shelf.proofs.find.Reads as shelf-find
use Rattle.shelf.proofs.put.Reads as shelf-put
use Rattle.listing_reader.proofs.lines.number_at.Reads as listing_reader-number_at
use Rattle.listing_reader.proofs.lines.kind_at.Reads as listing_reader-kind_at
use Rattle.listing_reader.proofs.table_at.Reads as listing_reader-table_at
use Rattle.sheet_entry.proofs.entry_at.Reads as sheet_entry-entry_at
use Rattle.sheet_entry.proofs.writing.write_entry.Reads as sheet_entry-write_entry
use Rattle.day_sheet.proofs.rewrite.Reads as day_sheet-rewrite
use Rattle.sheet_joins.proofs.join.Reads as sheet_joins-join
use Rattle.sheet_joins.proofs.adding.add.Reads as sheet_joins-add
use Rattle.day_sheet.proofs.dropping.drop.Reads as day_sheet-drop
use Rattle.sheet_moves.proofs.up.Reads as sheet_moves-up
use Rattle.sheet_moves.proofs.down.Reads as sheet_moves-down
use Rattle.day_sheet.proofs.judge.Reads as day_sheet-judge
use Rattle.day_sheet.proofs.count.Reads as day_sheet-count
use Rattle.day_sheet.proofs.limit.Reads as day_sheet-limit
use Rattle.sheet_joins.proofs.next_turn.Reads as sheet_joins-next_turn
use Rattle.sheet_joins.proofs.turn_at.Reads as sheet_joins-turn_at
use Rattle.changes.specs.declared.Compared.{Compared}
use Rattle.changes.proofs.compare.Reads as changes-compare
use Rattle.listing.proofs.list_table.Reads as listing-list_table
use Rattle.listing.proofs.list_descriptors.Reads as listing-list_descriptors
use Rattle.listing.proofs.put_kind.Reads as listing-put_kind
use Rattle.table_writer.proofs.write_block.Reads as table_writer-write_block
use Rattle.firmware.proofs.guide_decode.Reads as firmware-guide_decode
use Rattle.vectors.proofs.start.Reads as vectors-start
use Rattle.vectors.proofs.lent.lend.Reads as vectors-lend
use Rattle.vectors.proofs.cases.payload.Reads as vectors-payload
use Rattle.lent_bytes.proofs.fill.Reads as lent_bytes-fill
use Rattle.firmware.proofs.guide_turn.Reads as firmware-guide_turn
use Rattle.firmware.proofs.guide_unit_at.Reads as firmware-guide_unit_at

-- two things that are both equal to a third
same {ℓ} : {A : Type ℓ} {x y z : A} → x ≡ z → y ≡ z → x ≡ y
same p q = p ∙ sym q

pub answer-refuse_settled : (κs : _) (a : _) (x y : _) (s t : _) → answer-refuse.Post κs a x s → answer-refuse.Post κs a y t → x ≡ y
answer-refuse_settled κs a x y s t p q = same p q

pub answer-Reason_refuse_settled :
    (g : _) (w : _) (κs : _) (a : _) (x y : _) (s t : _) → answer-reason-refuse.Post g w κs a x s → answer-reason-refuse.Post g w κs a y t → x ≡ y
answer-Reason_refuse_settled g w κs a x y s t p q = same p q

pub sheet_joins-Turn_passed_settled :
    (κs : _) (a : _) (x y : _) (s t : _) → sheet_joins-turn-passed.Post κs a x s → sheet_joins-turn-passed.Post κs a y t → (x.0 ≡ y.0) × (x.1 ≡ y.1)
sheet_joins-Turn_passed_settled κs a x y s t p q = (same p.0 q.0, same p.1 q.1)

pub octet-image_settled : (κs : _) (a : _) (x y : _) (s t : _) → octet-image.Post κs a x s → octet-image.Post κs a y t → x ≡ y
octet-image_settled κs a x y s t p q = same p q

pub octet-decode_settled : (κs : _) (a : _) (x y : _) (s t : _) → octet-decode.Post κs a x s → octet-decode.Post κs a y t → x ≡ y
octet-decode_settled κs a x y s t p q = same p q

pub octet-decodings_settled : (κs : _) (a : _) (x y : _) (s t : _) → octet-decodings.Post κs a x s → octet-decodings.Post κs a y t → x ≡ y
octet-decodings_settled κs a x y s t p q = same p q

pub octet-hear_settled : (κs : _) (a : _) (x y : _) (s t : _) → octet-hear.Post κs a x s → octet-hear.Post κs a y t → x ≡ y
octet-hear_settled κs a x y s t p q = same p q

pub octet-fault_place_settled : (κs : _) (a : _) (x y : _) (s t : _) → octet-fault_place.Post κs a x s → octet-fault_place.Post κs a y t → x ≡ y
octet-fault_place_settled κs a x y s t p q = same p q

pub octet-turn_settled : (κs : _) (a : _) (x y : _) (s t : _) → octet-turn.Post κs a x s → octet-turn.Post κs a y t → x ≡ y
octet-turn_settled κs a x y s t p q = same p q

pub units-unit_at_settled : (κs : _) (a : _) (x y : _) (s t : _) → units-unit_at.Post κs a x s → units-unit_at.Post κs a y t → x ≡ y
units-unit_at_settled κs a x y s t p q = same p q

pub units-is_text_settled : (κs : _) (a : _) (x y : _) (s t : _) → units-is_text.Post κs a x s → units-is_text.Post κs a y t → x ≡ y
units-is_text_settled κs a x y s t p q = same p q

pub units-line_fits_settled : (κs : _) (a : _) (x y : _) (s t : _) → units-line_fits.Post κs a x s → units-line_fits.Post κs a y t → x ≡ y
units-line_fits_settled κs a x y s t p q = same p q

pub pes-read_settled :
    (κs : _) (a : _) (x y : _) (s t : _) → pes-read.Post κs a x s → pes-read.Post κs a y t → (x ≡ y) × (s.1.0.now ≡ t.1.0.now)
pes-read_settled κs a x y s t p q = (same p.0 q.0, same p.1 q.1)

pub pes-judge_settled : (κs : _) (a : _) (x y : _) (s t : _) → pes-judge.Post κs a x s → pes-judge.Post κs a y t → x ≡ y
pes-judge_settled κs a x y s t p q = same p q

pub pes-find_settled : (κs : _) (a : _) (x y : _) (s t : _) → pes-find.Post κs a x s → pes-find.Post κs a y t → x ≡ y
pes-find_settled κs a x y s t p q = same p q

pub pes-has_code_settled : (κs : _) (a : _) (x y : _) (s t : _) → pes-has_code.Post κs a x s → pes-has_code.Post κs a y t → x ≡ y
pes-has_code_settled κs a x y s t p q = same p q

pub pes-is_ebu_settled : (κs : _) (a : _) (x y : _) (s t : _) → pes-is_ebu.Post κs a x s → pes-is_ebu.Post κs a y t → x ≡ y
pes-is_ebu_settled κs a x y s t p q = same p q

pub pes-turn_run_settled :
    (κs : _) (a : _) (x y : _) (s t : _) → pes-turn_run.Post κs a x s → pes-turn_run.Post κs a y t → s.1.1.0.now ≡ t.1.1.0.now
pes-turn_run_settled κs a x y s t p q = same p q

pub pes_writer-write_settled :
    (κs : _) (a : _) (x y : _) (s t : _) → pes_writer-write.Post κs a x s → pes_writer-write.Post κs a y t → (x ≡ y) × (s.1.1.0.now ≡ t.1.1.0.now)
pes_writer-write_settled κs a x y s t p q = (same p.0 q.0, same p.1 q.1)

pub stripped-strip_settled :
    (κs : _) (a : _) (x y : _) (s t : _) → stripped-strip.Post κs a x s → stripped-strip.Post κs a y t
    → (x ≡ y) × (s.1.0.now ≡ t.1.0.now)
stripped-strip_settled κs a x y s t p q = (same p.0 q.0, same p.1.0 q.1.0)

pub stripped-blank_settled : (κs : _) (a : _) (x y : _) (s t : _) → stripped-blank.Post κs a x s → stripped-blank.Post κs a y t → s.0.now ≡ t.0.now
stripped-blank_settled κs a x y s t p q = same p q

pub aerials-better_settled :
    (κs : _) (a : _) (x y : _) (s t : _) → aerials-better.Post κs a x s → aerials-better.Post κs a y t → (x.now ≡ y.now) × (x.ref_ptr ≡ y.ref_ptr)
aerials-better_settled κs a x y s t p q = (same p.0 q.0, same p.1 q.1)

pub blocks-record_at_settled : (κs : _) (a : _) (x y : _) (s t : _) → blocks-record_at.Post κs a x s → blocks-record_at.Post κs a y t → x ≡ y
blocks-record_at_settled κs a x y s t p q = same p q

pub blocks-second_of_settled : (κs : _) (a : _) (x y : _) (s t : _) → blocks-second_of.Post κs a x s → blocks-second_of.Post κs a y t → x ≡ y
blocks-second_of_settled κs a x y s t p q = same p q

pub blocks-after_settled : (κs : _) (a : _) (x y : _) (s t : _) → blocks-after.Post κs a x s → blocks-after.Post κs a y t → x ≡ y
blocks-after_settled κs a x y s t p q = same p q

pub packet-is_in_range_settled : (κs : _) (a : _) (x y : _) (s t : _) → packet-is_in_range.Post κs a x s → packet-is_in_range.Post κs a y t → x ≡ y
packet-is_in_range_settled κs a x y s t p q = same p q

pub symbols-step_settled : (κs : _) (a : _) (x y : _) (s t : _) → symbols-step.Post κs a x s → symbols-step.Post κs a y t → x ≡ y
symbols-step_settled κs a x y s t p q = same p q

pub symbols-first_settled : (κs : _) (a : _) (x y : _) (s t : _) → symbols-first.Post κs a x s → symbols-first.Post κs a y t → x ≡ y
symbols-first_settled κs a x y s t p q = same p q

pub symbols-cells_of_settled : (κs : _) (a : _) (x y : _) (s t : _) → symbols-cells_of.Post κs a x s → symbols-cells_of.Post κs a y t → x ≡ y
symbols-cells_of_settled κs a x y s t p q = same p q

pub writer-cut_settled :
    (κs : _) (a : _) (x y : _) (s t : _) → writer-cut.Post κs a x s → writer-cut.Post κs a y t → (x ≡ y) × (s.1.1.1.0.now ≡ t.1.1.1.0.now)
writer-cut_settled κs a x y s t p q = (same p.0 q.0, same p.1 q.1)

pub writer-cut_pages_settled :
    (κs : _) (a : _) (x y : _) (s t : _) → writer-cut_pages.Post κs a x s → writer-cut_pages.Post κs a y t → (x ≡ y) × (s.1.1.1.1.0.now ≡ t.1.1.1.1.0.now)
writer-cut_pages_settled κs a x y s t p q = (same p.0 q.0, same p.1 q.1)

-- ---- within the reader

-- what stands ahead, from what is found: the place is where the rest begins
abbrev back : List ℕ → StartAhead → Ahead
back s nothing = Nothing
back s broken = Broken
back s (cut g v part) = Cut g v part
back s (whole h part l) = Whole h part (length s - length l)

back_ahead : (s : List ℕ) (r : Ahead) → next_of r 0 ≤ length s → back s (ahead_in s r) ≡ r
back_ahead s Nothing h = refl
back_ahead s Broken h = refl
back_ahead s (Cut g v part) h = refl
back_ahead s (Whole h part n) k = let e : length s - length (drop n s) ≡ n = rw length-drop (omega arith) in rw e

-- the same, where the place is told
abbrev back_at : ℕ → StartAhead → Ahead
back_at d nothing = Nothing
back_at d broken = Broken
back_at d (cut g v part) = Cut g v part
back_at d (whole h part l) = Whole h part d

back_at_lem : (s : List ℕ) (d : ℕ) (r : Ahead) → next_of r d ≡ d → back_at d (ahead_in s r) ≡ r
back_at_lem s d Nothing e = refl
back_at_lem s d Broken e = refl
back_at_lem s d (Cut g v part) e = refl
back_at_lem s d (Whole h part n) e = rw e

pub walk-find_settled : (κs : _) (a : _) (x y : _) (s t : _) → walk-find.Post κs a x s → walk-find.Post κs a y t → x ≡ y
walk-find_settled κs a x y s t p q =
    sym (back_ahead a.0.now x p.1.1) ∙ ap (back a.0.now) (sym p.0 ∙ q.0) ∙ back_ahead a.0.now y q.1.1

pub walk-head_on_settled :
    (κs : _) (a : _) (x y : _) (s t : _) → walk-head_on.Post κs a x s → walk-head_on.Post κs a y t → x ≡ y
walk-head_on_settled κs a x y s t p q =
    sym (back_at_lem a.0.now _ x p.1.0) ∙ ap (back_at _) (sym p.0 ∙ q.0) ∙ back_at_lem a.0.now _ y q.1.0

pub walk-pointed_settled : (κs : _) (a : _) (x y : _) (s t : _) → walk-pointed.Post κs a x s → walk-pointed.Post κs a y t → x ≡ y
walk-pointed_settled κs a x y s t p q = same p q

pub walk-falls_settled : (κs : _) (a : _) (x y : _) (s t : _) → walk-falls.Post κs a x s → walk-falls.Post κs a y t → x ≡ y
walk-falls_settled κs a x y s t p q = same p q

pub pages-judge_settled : (κs : _) (a : _) (x y : _) (s t : _) → pages-judge.Post κs a x s → pages-judge.Post κs a y t → x ≡ y
pages-judge_settled κs a x y s t p q = same p q

pub pages-judge_y_settled : (κs : _) (a : _) (x y : _) (s t : _) → pages-judge_y.Post κs a x s → pages-judge_y.Post κs a y t → x ≡ y
pages-judge_y_settled κs a x y s t p q = same p q

pub pages-two_judge_settled : (κs : _) (a : _) (x y : _) (s t : _) → pages-two_judge.Post κs a x s → pages-two_judge.Post κs a y t → x ≡ y
pages-two_judge_settled κs a x y s t p q = same p q

pub pages-two_page_of_settled : (κs : _) (a : _) (x y : _) (s t : _) → pages-two_page_of.Post κs a x s → pages-two_page_of.Post κs a y t → x ≡ y
pages-two_page_of_settled κs a x y s t p q = same p q

pub packet-address_settled : (κs : _) (a : _) (x y : _) (s t : _) → packet-address.Post κs a x s → packet-address.Post κs a y t → x ≡ y
packet-address_settled κs a x y s t p q = same p q

pub packet-passes_by_settled : (κs : _) (a : _) (x y : _) (s t : _) → packet-passes_by.Post κs a x s → packet-passes_by.Post κs a y t → x ≡ y
packet-passes_by_settled κs a x y s t p q = same p q

pub packet-two_is_in_range_settled : (κs : _) (a : _) (x y : _) (s t : _) → packet-two_is_in_range.Post κs a x s → packet-two_is_in_range.Post κs a y t → x ≡ y
packet-two_is_in_range_settled κs a x y s t p q = same p q

pub packet-two_first_settled : (κs : _) (a : _) (x y : _) (s t : _) → packet-two_first.Post κs a x s → packet-two_first.Post κs a y t → x ≡ y
packet-two_first_settled κs a x y s t p q = same p q

pub packet-two_second_settled : (κs : _) (a : _) (x y : _) (s t : _) → packet-two_second.Post κs a x s → packet-two_second.Post κs a y t → x ≡ y
packet-two_second_settled κs a x y s t p q = same p q

pub lent_bytes-byte_at_settled : (κs : _) (a : _) (x y : _) (s t : _) → lent_bytes-byte_at.Post κs a x s → lent_bytes-byte_at.Post κs a y t → x ≡ y
lent_bytes-byte_at_settled κs a x y s t p q = same p.0 q.0

pub lent_bytes-put_settled :
    (κs : _) (a : _) (x y : _) (s t : _) → lent_bytes-put.Post κs a x s → lent_bytes-put.Post κs a y t → s.1.0.now ≡ t.1.0.now
lent_bytes-put_settled κs a x y s t p q = same p q

pub lent_bytes-copy_settled :
    (κs : _) (a : _) (x y : _) (s t : _) → lent_bytes-copy.Post κs a x s → lent_bytes-copy.Post κs a y t → s.1.1.1.0.now ≡ t.1.1.1.0.now
lent_bytes-copy_settled κs a x y s t p q = same p q

pub lent_bytes-clear_settled :
    (κs : _) (a : _) (x y : _) (s t : _) → lent_bytes-clear.Post κs a x s → lent_bytes-clear.Post κs a y t → s.0.now ≡ t.0.now
lent_bytes-clear_settled κs a x y s t p q = same p q

-- ---- the reader

pub lent_bytes-fill_settled :
    (κs : _) (a : _) (x y : _) (s t : _) → lent_bytes-fill.Post κs a x s → lent_bytes-fill.Post κs a y t → s.0.now ≡ t.0.now
lent_bytes-fill_settled κs a x y s t p q = same p q

pub state-fresh_settled : (κs : _) (a : _) (x y : _) (s t : _) → state-fresh.Post κs a x s → state-fresh.Post κs a y t → x ≡ y
state-fresh_settled κs a x y s t p q = same p q

pub state-in_range_settled : (κs : _) (a : _) (x y : _) (s t : _) → state-in_range.Post κs a x s → state-in_range.Post κs a y t → x ≡ y
state-in_range_settled κs a x y s t p q = same p.0 q.0

pub state-joined_spans_settled : (κs : _) (a : _) (x y : _) (s t : _) → state-joined_spans.Post κs a x s → state-joined_spans.Post κs a y t → x ≡ y
state-joined_spans_settled κs a x y s t p q = same p q

pub state-joined_goes_on_settled :
    (κs : _) (a : _) (x y : _) (s t : _) → state-joined_goes_on.Post κs a x s → state-joined_goes_on.Post κs a y t → x ≡ y
state-joined_goes_on_settled κs a x y s t p q = same p q

pub state-two_fresh_settled : (κs : _) (a : _) (x y : _) (s t : _) → state-two_fresh.Post κs a x s → state-two_fresh.Post κs a y t → x ≡ y
state-two_fresh_settled κs a x y s t p q = same p q

pub state-two_in_range_settled : (κs : _) (a : _) (x y : _) (s t : _) → state-two_in_range.Post κs a x s → state-two_in_range.Post κs a y t → x ≡ y
state-two_in_range_settled κs a x y s t p q = same p.0 q.0

pub reader-feed_settled :
    (κs : _) (a : _) (x y : _) (s t : _) → reader-feed.Post κs a x s → reader-feed.Post κs a y t
    → (x.heard ≡ y.heard) × (x.reader ≡ y.reader) × (s.1.1.1.0.now ≡ t.1.1.1.0.now)
reader-feed_settled κs a x y s t p q = (same p.0 q.0, same p.1.0 q.1.0, same p.1.1 q.1.1)

pub reader-feed_all_settled :
    (κs : _) (a : _) (x y : _) (s t : _) → reader-feed_all.Post κs a x s → reader-feed_all.Post κs a y t
    → (x.heard ≡ y.heard) × (x.reader ≡ y.reader) × (s.1.1.1.0.now ≡ t.1.1.1.0.now)
reader-feed_all_settled κs a x y s t p q = (same p.0 q.0, same p.1.0 q.1.0, same p.1.1 q.1.1)

pub reader-two_feed_settled :
    (κs : _) (a : _) (x y : _) (s t : _) → reader-two_feed.Post κs a x s → reader-two_feed.Post κs a y t
    → (x.heard ≡ y.heard) × (x.reader ≡ y.reader) × (s.1.1.1.0.now ≡ t.1.1.1.0.now)
reader-two_feed_settled κs a x y s t p q = (same p.0 q.0, same p.1.0 q.1.0, same p.1.1 q.1.1)

pub reader-two_feed_all_settled :
    (κs : _) (a : _) (x y : _) (s t : _) → reader-two_feed_all.Post κs a x s → reader-two_feed_all.Post κs a y t
    → (x.heard ≡ y.heard) × (x.reader ≡ y.reader) × (s.1.1.1.0.now ≡ t.1.1.1.0.now)
reader-two_feed_all_settled κs a x y s t p q = (same p.0 q.0, same p.1.0 q.1.0, same p.1.1 q.1.1)

pub fields-pen_lay_settled :
    (κs : _) (a : _) (x y : _) (s t : _) → fields-pen_lay.Post κs a x s → fields-pen_lay.Post κs a y t → (x ≡ y) × (s.1.1.1.0.now ≡ t.1.1.1.0.now)
fields-pen_lay_settled κs a x y s t p q = (same p.0 q.0, same p.1 q.1)

pub blocks-put_head_settled :
    (κs : _) (a : _) (x y : _) (s t : _) → blocks-put_head.Post κs a x s → blocks-put_head.Post κs a y t → s.1.0.now ≡ t.1.0.now
blocks-put_head_settled κs a x y s t p q = same p q

pub blocks-seal_settled :
    (κs : _) (a : _) (x y : _) (s t : _) → blocks-seal.Post κs a x s → blocks-seal.Post κs a y t → s.1.1.0.now ≡ t.1.1.0.now
blocks-seal_settled κs a x y s t p q = same p q

pub blocks-frames_judge_settled : (κs : _) (a : _) (x y : _) (s t : _) → blocks-frames_judge.Post κs a x s → blocks-frames_judge.Post κs a y t → x ≡ y
blocks-frames_judge_settled κs a x y s t p q = same p q

pub table-read_block_settled :
    (κs : _) (a : _) (x y : _) (s t : _) → table-read_block.Post κs a x s → table-read_block.Post κs a y t → (x ≡ y) × (s.1.1.0.now ≡ t.1.1.0.now)
table-read_block_settled κs a x y s t p q = (same p.0 q.0, same p.1 q.1)

pub forms-judge_form_settled : (κs : _) (a : _) (x y : _) (s t : _) → forms-judge_form.Post κs a x s → forms-judge_form.Post κs a y t → x ≡ y
forms-judge_form_settled κs a x y s t p q = same p q

pub blocks-sums_mended_in_settled : (κs : _) (a : _) (x y : _) (s t : _) → blocks-sums_mended_in.Post κs a x s → blocks-sums_mended_in.Post κs a y t → x ≡ y
blocks-sums_mended_in_settled κs a x y s t p q = same p q

pub blocks-sums_checksum_settled : (κs : _) (a : _) (x y : _) (s t : _) → blocks-sums_checksum.Post κs a x s → blocks-sums_checksum.Post κs a y t → x ≡ y
blocks-sums_checksum_settled κs a x y s t p q = same p q

pub blocks-sums_sound_settled : (κs : _) (a : _) (x y : _) (s t : _) → blocks-sums_sound.Post κs a x s → blocks-sums_sound.Post κs a y t → x ≡ y
blocks-sums_sound_settled κs a x y s t p q = same p q

pub blocks-sums_sum_of_settled : (κs : _) (a : _) (x y : _) (s t : _) → blocks-sums_sum_of.Post κs a x s → blocks-sums_sum_of.Post κs a y t → x ≡ y
blocks-sums_sum_of_settled κs a x y s t p q = one-sum _ _ _ x y p.0 p.1.0 p.1.1 q.0 q.1.0 q.1.1

pub forms-known_settled : (κs : _) (a : _) (x y : _) (s t : _) → forms-known.Post κs a x s → forms-known.Post κs a y t → x ≡ y
forms-known_settled κs a x y s t p q = same p q

pub forms-numbered_settled : (κs : _) (a : _) (x y : _) (s t : _) → forms-numbered.Post κs a x s → forms-numbered.Post κs a y t → x ≡ y
forms-numbered_settled κs a x y s t p q = same p q

pub forms-word_at_settled : (κs : _) (a : _) (x y : _) (s t : _) → forms-word_at.Post κs a x s → forms-word_at.Post κs a y t → x ≡ y
forms-word_at_settled κs a x y s t p q = same p.0 q.0

pub table_writer-write_block_settled :
    (κs : _) (a : _) (x y : _) (s t : _) → table_writer-write_block.Post κs a x s → table_writer-write_block.Post κs a y t → (x ≡ y) × (s.1.1.0.now ≡ t.1.1.0.now)
table_writer-write_block_settled κs a x y s t p q = (same p.0 q.0, same p.1 q.1)

pub firmware-guide_decode_settled : (κs : _) (a : _) (x y : _) (s t : _) → firmware-guide_decode.Post κs a x s → firmware-guide_decode.Post κs a y t → x ≡ y
firmware-guide_decode_settled κs a x y s t p q = same p q

pub firmware-guide_turn_settled : (κs : _) (a : _) (x y : _) (s t : _) → firmware-guide_turn.Post κs a x s → firmware-guide_turn.Post κs a y t → x ≡ y
firmware-guide_turn_settled κs a x y s t p q = same p q

pub firmware-guide_unit_at_settled : (κs : _) (a : _) (x y : _) (s t : _) → firmware-guide_unit_at.Post κs a x s → firmware-guide_unit_at.Post κs a y t → x ≡ y
firmware-guide_unit_at_settled κs a x y s t p q = same p q

pub text_lines-put_settled :
    (κs : _) (a : _) (x y : _) (s t : _) → text_lines-put.Post κs a x s → text_lines-put.Post κs a y t → (x ≡ y) × (s.1.0.now ≡ t.1.0.now)
text_lines-put_settled κs a x y s t p q = (same p.0.moved q.0.moved, same p.0.stored q.0.stored)

pub text_lines-put_number_settled :
    (κs : _) (a : _) (x y : _) (s t : _) → text_lines-put_number.Post κs a x s → text_lines-put_number.Post κs a y t → (x ≡ y) × (s.1.1.0.now ≡ t.1.1.0.now)
text_lines-put_number_settled κs a x y s t p q = (same p.0.moved q.0.moved, same p.0.stored q.0.stored)

pub text_lines-put_language_settled :
    (κs : _) (a : _) (x y : _) (s t : _) → text_lines-put_language.Post κs a x s → text_lines-put_language.Post κs a y t → (x ≡ y) × (s.1.0.now ≡ t.1.0.now)
text_lines-put_language_settled κs a x y s t p q = (same p.0.moved q.0.moved, same p.0.stored q.0.stored)

pub text_lines-put_page_settled :
    (κs : _) (a : _) (x y : _) (s t : _) → text_lines-put_page.Post κs a x s → text_lines-put_page.Post κs a y t → (x ≡ y) × (s.1.0.now ≡ t.1.0.now)
text_lines-put_page_settled κs a x y s t p q = (same p.0.moved q.0.moved, same p.0.stored q.0.stored)

pub listing-list_table_settled :
    (κs : _) (a : _) (x y : _) (s t : _) → listing-list_table.Post κs a x s → listing-list_table.Post κs a y t → (x ≡ y) × (s.1.1.1.0.now ≡ t.1.1.1.0.now)
listing-list_table_settled κs a x y s t p q = (same p.0 q.0, same p.1 q.1)

pub listing-list_descriptors_settled :
    (κs : _) (a : _) (x y : _) (s t : _) → listing-list_descriptors.Post κs a x s → listing-list_descriptors.Post κs a y t → (x ≡ y) × (s.1.0.now ≡ t.1.0.now)
listing-list_descriptors_settled κs a x y s t p q = (same p.0 q.0, same p.1 q.1)

pub listing-put_kind_settled :
    (κs : _) (a : _) (x y : _) (s t : _) → listing-put_kind.Post κs a x s → listing-put_kind.Post κs a y t → (x ≡ y) × (s.1.0.now ≡ t.1.0.now)
listing-put_kind_settled κs a x y s t p q = (same p.0.moved q.0.moved, same p.0.stored q.0.stored)

pub dvb_descriptor-write_descriptor_settled :
    (κs : _) (a : _) (x y : _) (s t : _) → dvb_descriptor-write_descriptor.Post κs a x s → dvb_descriptor-write_descriptor.Post κs a y t → (x ≡ y) × (s.1.0.now ≡ t.1.0.now)
dvb_descriptor-write_descriptor_settled κs a x y s t p q = (same p.0 q.0, same p.1 q.1)

pub dvb_descriptor-read_descriptor_settled :
    (κs : _) (a : _) (x y : _) (s t : _) → dvb_descriptor-read_descriptor.Post κs a x s → dvb_descriptor-read_descriptor.Post κs a y t → (x ≡ y) × (s.1.0.now ≡ t.1.0.now)
dvb_descriptor-read_descriptor_settled κs a x y s t p q = (same p.0 q.0, same p.1 q.1)

pub octet-quick_decode_settled : (κs : _) (a : _) (x y : _) (s t : _) → octet-quick_decode.Post κs a x s → octet-quick_decode.Post κs a y t → x ≡ y
octet-quick_decode_settled κs a x y s t p q = same p q

pub octet-quick_mark_settled : (κs : _) (a : _) (x y : _) (s t : _) → octet-quick_mark.Post κs a x s → octet-quick_mark.Post κs a y t → x ≡ y
octet-quick_mark_settled κs a x y s t p q = same p q

pub fields-field_of_settled : (κs : _) (a : _) (x y : _) (s t : _) → fields-field_of.Post κs a x s → fields-field_of.Post κs a y t → x ≡ y
fields-field_of_settled κs a x y s t p q = same p.0 q.0

pub fields-opening_of_settled : (κs : _) (a : _) (x y : _) (s t : _) → fields-opening_of.Post κs a x s → fields-opening_of.Post κs a y t → x ≡ y
fields-opening_of_settled κs a x y s t p q = same p q

pub forms-words_of_settled : (κs : _) (a : _) (x y : _) (s t : _) → forms-words_of.Post κs a x s → forms-words_of.Post κs a y t → x ≡ y
forms-words_of_settled κs a x y s t p q = same p.0 q.0

pub survey-count_settled : (κs : _) (a : _) (x y : _) (s t : _) → survey-count.Post κs a x s → survey-count.Post κs a y t → x ≡ y
survey-count_settled κs a x y s t p q = same p q

pub survey-find_settled : (κs : _) (a : _) (x y : _) (s t : _) → survey-find.Post κs a x s → survey-find.Post κs a y t → x ≡ y
survey-find_settled κs a x y s t p q = same p q

pub survey-turn_all_settled : (κs : _) (a : _) (x y : _) (s t : _) → survey-turn_all.Post κs a x s → survey-turn_all.Post κs a y t → s.0.now ≡ t.0.now
survey-turn_all_settled κs a x y s t p q = same p q

pub survey-note_settled : (κs : _) (a : _) (x y : _) (s t : _) → survey-note.Post κs a x s → survey-note.Post κs a y t → s.0.now ≡ t.0.now
survey-note_settled κs a x y s t p q = same p q

pub told-front_settled : (κs : _) (a : _) (x y : _) (s t : _) → told-front.Post κs a x s → told-front.Post κs a y t → x.now ≡ y.now
told-front_settled κs a x y s t p q = same p q

pub told-plain_settled : (κs : _) (a : _) (x y : _) (s t : _) → told-plain.Post κs a x s → told-plain.Post κs a y t → s.0.now ≡ t.0.now
told-plain_settled κs a x y s t p q = same p q

pub command_line-setting_settled : (κs : _) (a : _) (x y : _) (s t : _) → command_line-setting.Post κs a x s → command_line-setting.Post κs a y t → x ≡ y
command_line-setting_settled κs a x y s t p q = same p q

pub command_line-byte_settled : (κs : _) (a : _) (x y : _) (s t : _) → command_line-byte.Post κs a x s → command_line-byte.Post κs a y t → x ≡ y
command_line-byte_settled κs a x y s t p q = same p q

pub captures-start_settled : (κs : _) (a : _) (x y : _) (s t : _) → captures-start.Post κs a x s → captures-start.Post κs a y t → x ≡ y
captures-start_settled κs a x y s t p q = same p q

pub sight-pages_settled : (κs : _) (a : _) (x y : _) (s t : _) → sight-pages.Post κs a x s → sight-pages.Post κs a y t → x ≡ y
sight-pages_settled κs a x y s t p q = same p q

pub sight-none_settled : (κs : _) (a : _) (x y : _) (s t : _) → sight-none.Post κs a x s → sight-none.Post κs a y t → x ≡ y
sight-none_settled κs a x y s t p q = same p q

pub sight-look_settled :
    (κs : _) (a : _) (x y : _) (s t : _) → sight-look.Post κs a x s → sight-look.Post κs a y t
    → (x ≡ y) × (s.1.1.1.0.now ≡ t.1.1.1.0.now) × (s.1.1.1.1.1.0.now ≡ t.1.1.1.1.1.0.now)
sight-look_settled κs a x y s t p q = (same p.0 q.0, same p.1.0 q.1.0, same p.1.1 q.1.1)

pub sight-lack_is_lacking_settled : (κs : _) (a : _) (x y : _) (s t : _) → sight-lack_is_lacking.Post κs a x s → sight-lack_is_lacking.Post κs a y t → x ≡ y
sight-lack_is_lacking_settled κs a x y s t p q = same p q

pub captures-is_one_settled : (κs : _) (a : _) (x y : _) (s t : _) → captures-is_one.Post κs a x s → captures-is_one.Post κs a y t → x ≡ y
captures-is_one_settled κs a x y s t p q = same p q

pub captures-span_at_settled : (κs : _) (a : _) (x y : _) (s t : _) → captures-span_at.Post κs a x s → captures-span_at.Post κs a y t → x ≡ y
captures-span_at_settled κs a x y s t p q = same p q

pub texts-begins_settled : (κs : _) (a : _) (x y : _) (s t : _) → texts-begins.Post κs a x s → texts-begins.Post κs a y t → x ≡ y
texts-begins_settled κs a x y s t p q = same p q

pub texts-same_settled : (κs : _) (a : _) (x y : _) (s t : _) → texts-same.Post κs a x s → texts-same.Post κs a y t → x ≡ y
texts-same_settled κs a x y s t p q = same p q

pub texts-holds_settled : (κs : _) (a : _) (x y : _) (s t : _) → texts-holds.Post κs a x s → texts-holds.Post κs a y t → x ≡ y
texts-holds_settled κs a x y s t p q = same p q

pub texts-entries_settled : (κs : _) (a : _) (x y : _) (s t : _) → texts-entries.Post κs a x s → texts-entries.Post κs a y t → x ≡ y
texts-entries_settled κs a x y s t p q = same p q

pub words-start_settled : (κs : _) (a : _) (x y : _) (s t : _) → words-start.Post κs a x s → words-start.Post κs a y t → x ≡ y
words-start_settled κs a x y s t p q = same p q

pub words-next_settled : (κs : _) (a : _) (x y : _) (s t : _) → words-next.Post κs a x s → words-next.Post κs a y t → x ≡ y
words-next_settled κs a x y s t p q = same p q

pub words-place_settled : (κs : _) (a : _) (x y : _) (s t : _) → words-place.Post κs a x s → words-place.Post κs a y t → x ≡ y
words-place_settled κs a x y s t p q = same p q

pub words-is_good_settled : (κs : _) (a : _) (x y : _) (s t : _) → words-is_good.Post κs a x s → words-is_good.Post κs a y t → x ≡ y
words-is_good_settled κs a x y s t p q = same p q

pub words-is_task_settled : (κs : _) (a : _) (x y : _) (s t : _) → words-is_task.Post κs a x s → words-is_task.Post κs a y t → x ≡ y
words-is_task_settled κs a x y s t p q = same p q

pub words-value_settled : (κs : _) (a : _) (x y : _) (s t : _) → words-value.Post κs a x s → words-value.Post κs a y t → x ≡ y
words-value_settled κs a x y s t p q = same p q

pub words-second_settled : (κs : _) (a : _) (x y : _) (s t : _) → words-second.Post κs a x s → words-second.Post κs a y t → x ≡ y
words-second_settled κs a x y s t p q = same p q

pub words-number_of_settled : (κs : _) (a : _) (x y : _) (s t : _) → words-number_of.Post κs a x s → words-number_of.Post κs a y t → x ≡ y
words-number_of_settled κs a x y s t p q = same p q

pub words-kind_of_settled : (κs : _) (a : _) (x y : _) (s t : _) → words-kind_of.Post κs a x s → words-kind_of.Post κs a y t → x ≡ y
words-kind_of_settled κs a x y s t p q = same p q

-- ---- the test programs

pub vectors-start_settled : (κs : _) (a : _) (x y : _) (s t : _) → vectors-start.Post κs a x s → vectors-start.Post κs a y t → x ≡ y
vectors-start_settled κs a x y s t p q =
    let e : (x.from ≡ y.from) × (x.to ≡ y.to) × (x.ended ≡ y.ended) = (same p.0 q.0, same p.1 q.1, same p.2 q.2) in
    rw (e.0, e.1, e.2)

pub vectors-lend_settled :
    (κs : _) (a : _) (x y : _) (s t : _) → vectors-lend.Post κs a x s → vectors-lend.Post κs a y t → (x ≡ y) × (s.0.now ≡ t.0.now)
vectors-lend_settled κs a x y s t p q = let e = same p.1.1 q.1.1 in (p.0 ∙ ap (λ (l : List ℕ). min a.1.0 (length l)) e ∙ sym q.0, e)

pub vectors-payload_settled :
    (κs : _) (a : _) (x y : _) (s t : _) → vectors-payload.Post κs a x s → vectors-payload.Post κs a y t → x.now ≡ y.now
vectors-payload_settled κs a x y s t p q = same p q

pub listing_reader-number_at_settled :
    (κs : _) (a : _) (x y : _) (s t : _) → listing_reader-number_at.Post κs a x s → listing_reader-number_at.Post κs a y t → x ≡ y
listing_reader-number_at_settled κs a x y s t p q = same p q

pub listing_reader-kind_at_settled :
    (κs : _) (a : _) (x y : _) (s t : _) → listing_reader-kind_at.Post κs a x s → listing_reader-kind_at.Post κs a y t → x ≡ y
listing_reader-kind_at_settled κs a x y s t p q = same p q

pub listing_reader-table_at_settled :
    (κs : _) (a : _) (x y : _) (s t : _) → listing_reader-table_at.Post κs a x s → listing_reader-table_at.Post κs a y t → x ≡ y
listing_reader-table_at_settled κs a x y s t p q = same p q

pub sheet_entry-entry_at_settled :
    (κs : _) (a : _) (x y : _) (s t : _) → sheet_entry-entry_at.Post κs a x s → sheet_entry-entry_at.Post κs a y t → x ≡ y
sheet_entry-entry_at_settled κs a x y s t p q = same p q

pub sheet_entry-write_entry_settled :
    (κs : _) (a : _) (x y : _) (s t : _) → sheet_entry-write_entry.Post κs a x s → sheet_entry-write_entry.Post κs a y t
    → (x ≡ y) × (s.1.1.1.1.0.now ≡ t.1.1.1.1.0.now)
sheet_entry-write_entry_settled κs a x y s t p q = (same p.0 q.0, same p.1 q.1)

pub day_sheet-rewrite_settled :
    (κs : _) (a : _) (x y : _) (s t : _) → day_sheet-rewrite.Post κs a x s → day_sheet-rewrite.Post κs a y t
    → (x ≡ y) × (s.1.1.0.now ≡ t.1.1.0.now)
day_sheet-rewrite_settled κs a x y s t p q = (same p.0 q.0, same p.1 q.1)

pub sheet_joins-join_settled :
    (κs : _) (a : _) (x y : _) (s t : _) → sheet_joins-join.Post κs a x s → sheet_joins-join.Post κs a y t
    → (x ≡ y) × (s.1.1.1.0.now ≡ t.1.1.1.0.now)
sheet_joins-join_settled κs a x y s t p q = (same p.0 q.0, same p.1 q.1)

pub sheet_joins-add_settled :
    (κs : _) (a : _) (x y : _) (s t : _) → sheet_joins-add.Post κs a x s → sheet_joins-add.Post κs a y t
    → (x ≡ y) × (s.1.1.1.1.1.0.now ≡ t.1.1.1.1.1.0.now)
sheet_joins-add_settled κs a x y s t p q = (same p.0 q.0, same p.1 q.1)

pub day_sheet-drop_settled :
    (κs : _) (a : _) (x y : _) (s t : _) → day_sheet-drop.Post κs a x s → day_sheet-drop.Post κs a y t
    → (x ≡ y) × (s.1.1.1.1.1.0.now ≡ t.1.1.1.1.1.0.now)
day_sheet-drop_settled κs a x y s t p q = (same p.0 q.0, same p.1 q.1)

pub sheet_moves-up_settled :
    (κs : _) (a : _) (x y : _) (s t : _) → sheet_moves-up.Post κs a x s → sheet_moves-up.Post κs a y t
    → (x ≡ y) × (s.1.0.now ≡ t.1.0.now)
sheet_moves-up_settled κs a x y s t p q = (same p.0 q.0, same p.1 q.1)

pub sheet_moves-down_settled :
    (κs : _) (a : _) (x y : _) (s t : _) → sheet_moves-down.Post κs a x s → sheet_moves-down.Post κs a y t
    → (x ≡ y) × (s.1.0.now ≡ t.1.0.now)
sheet_moves-down_settled κs a x y s t p q = (same p.0 q.0, same p.1 q.1)

pub day_sheet-judge_settled : (κs : _) (a : _) (x y : _) (s t : _) → day_sheet-judge.Post κs a x s → day_sheet-judge.Post κs a y t → x ≡ y
day_sheet-judge_settled κs a x y s t p q = same p q

pub day_sheet-count_settled : (κs : _) (a : _) (x y : _) (s t : _) → day_sheet-count.Post κs a x s → day_sheet-count.Post κs a y t → x ≡ y
day_sheet-count_settled κs a x y s t p q = same p q

pub day_sheet-limit_settled : (κs : _) (a : _) (x y : _) (s t : _) → day_sheet-limit.Post κs a x s → day_sheet-limit.Post κs a y t → x ≡ y
day_sheet-limit_settled κs a x y s t p q = same p.0 q.0

pub sheet_joins-next_turn_settled :
    (κs : _) (a : _) (x y : _) (s t : _) → sheet_joins-next_turn.Post κs a x s → sheet_joins-next_turn.Post κs a y t → x ≡ y
sheet_joins-next_turn_settled κs a x y s t p q = same p q

pub sheet_joins-turn_at_settled :
    (κs : _) (a : _) (x y : _) (s t : _) → sheet_joins-turn_at.Post κs a x s → sheet_joins-turn_at.Post κs a y t → x ≡ y
sheet_joins-turn_at_settled κs a x y s t p q = same p q

pub changes-compare_settled :
    (κs : _) (a : _) (x y : Compared) (s t : _) → changes-compare.Post κs a x s → changes-compare.Post κs a y t
    → (x.answer ≡ y.answer) × (x.sheet ≡ y.sheet) × (s.1.1.1.0.now ≡ t.1.1.1.0.now)
changes-compare_settled κs a x y s t p q = (same p.0 q.0, same p.1.0 q.1.0, same p.1.1 q.1.1)

pub parity-letter_settled : (κs : _) (a : _) (x y : _) (s t : _) → parity-letter.Post κs a x s → parity-letter.Post κs a y t → x ≡ y
parity-letter_settled κs a x y s t p q = same p q

pub parity-odds_settled : (κs : _) (a : _) (x y : _) (s t : _) → parity-odds.Post κs a x s → parity-odds.Post κs a y t → x ≡ y
parity-odds_settled κs a x y s t p q = same p q

pub kinds-judge_settled : (κs : _) (a : _) (x y : _) (s t : _) → kinds-judge.Post κs a x s → kinds-judge.Post κs a y t → x ≡ y
kinds-judge_settled κs a x y s t p q = same p q

pub kinds-mended_in_settled : (κs : _) (a : _) (x y : _) (s t : _) → kinds-mended_in.Post κs a x s → kinds-mended_in.Post κs a y t → x ≡ y
kinds-mended_in_settled κs a x y s t p q = same p q

pub menu_forms-info_bytes_settled : (κs : _) (a : _) (x y : _) (s t : _) → menu_forms-info_bytes.Post κs a x s → menu_forms-info_bytes.Post κs a y t → x ≡ y
menu_forms-info_bytes_settled κs a x y s t p q = same p.0 q.0

pub menu_reader-read_menu_settled :
    (κs : _) (a : _) (x y : _) (s t : _) → menu_reader-read_menu.Post κs a x s → menu_reader-read_menu.Post κs a y t
    → (x ≡ y) × (s.1.1.0.now ≡ t.1.1.0.now)
menu_reader-read_menu_settled κs a x y s t p q = (same p.0 q.0, same p.1 q.1)

pub menu_writer-write_menu_settled :
    (κs : _) (a : _) (x y : _) (s t : _) → menu_writer-write_menu.Post κs a x s → menu_writer-write_menu.Post κs a y t → (x ≡ y) × (s.1.1.0.now ≡ t.1.1.0.now)
menu_writer-write_menu_settled κs a x y s t p q = (same p.0 q.0, same p.1 q.1)

pub menu_listing-list_levels_settled :
    (κs : _) (a : _) (x y : _) (s t : _) → menu_listing-list_levels.Post κs a x s → menu_listing-list_levels.Post κs a y t
    → (x ≡ y) × (s.1.1.1.1.0.now ≡ t.1.1.1.1.0.now)
menu_listing-list_levels_settled κs a x y s t p q = (same p.0 q.0, same p.1 q.1)

pub menu_listing-list_menu_settled :
    (κs : _) (a : _) (x y : _) (s t : _) → menu_listing-list_menu.Post κs a x s → menu_listing-list_menu.Post κs a y t
    → (x ≡ y) × (s.1.1.1.0.now ≡ t.1.1.1.0.now)
menu_listing-list_menu_settled κs a x y s t p q = (same p.0 q.0, same p.1 q.1)

pub menu_listing-list_kept_settled :
    (κs : _) (a : _) (x y : _) (s t : _) → menu_listing-list_kept.Post κs a x s → menu_listing-list_kept.Post κs a y t
    → (x ≡ y) × (s.1.1.1.1.0.now ≡ t.1.1.1.1.0.now)
menu_listing-list_kept_settled κs a x y s t p q = (same p.0 q.0, same p.1 q.1)

pub information_forms-width_at_settled :
    (κs : _) (a : _) (x y : _) (s t : _) → information_forms-width_at.Post κs a x s → information_forms-width_at.Post κs a y t → x ≡ y
information_forms-width_at_settled κs a x y s t p q = same p.0 q.0

pub information-read_information_settled :
    (κs : _) (a : _) (x y : _) (s t : _) → information-read_information.Post κs a x s → information-read_information.Post κs a y t
    → (x ≡ y) × (s.1.1.0.now ≡ t.1.1.0.now)
information-read_information_settled κs a x y s t p q = (same p.0 q.0, same p.1 q.1)

pub information_writer-write_information_settled :
    (κs : _) (a : _) (x y : _) (s t : _) → information_writer-write_information.Post κs a x s → information_writer-write_information.Post κs a y t
    → (x ≡ y) × (s.1.1.0.now ≡ t.1.1.0.now)
information_writer-write_information_settled κs a x y s t p q = (same p.0 q.0, same p.1 q.1)

pub broadcast-counts_settled : (κs : _) (a : _) (x y : _) (s t : _) → broadcast-counts.Post κs a x s → broadcast-counts.Post κs a y t → x ≡ y
broadcast-counts_settled κs a x y s t p q = same p q

pub broadcast-same_settled : (κs : _) (a : _) (x y : _) (s t : _) → broadcast-same.Post κs a x s → broadcast-same.Post κs a y t → x ≡ y
broadcast-same_settled κs a x y s t p q = same p q

pub broadcast-lawful_settled :
    (κs : _) (a : _) (x y : _) (s t : _) → broadcast-lawful.Post κs a x s → broadcast-lawful.Post κs a y t → (x ≡ y) × (s.1.1.0.now ≡ t.1.1.0.now)
broadcast-lawful_settled κs a x y s t p q = (same p.0 q.0, same p.1 q.1)

pub shelf-find_settled : (κs : _) (a : _) (x y : _) (s t : _) → shelf-find.Post κs a x s → shelf-find.Post κs a y t → x ≡ y
shelf-find_settled κs a x y s t p q = same p.0 q.0

pub shelf-put_settled :
    (κs : _) (a : _) (x y : _) (s t : _) → shelf-put.Post κs a x s → shelf-put.Post κs a y t
    → (x ≡ y) × (s.1.1.0.now ≡ t.1.1.0.now) × (s.1.1.1.0.now ≡ t.1.1.1.0.now)
shelf-put_settled κs a x y s t p q = (same p.0 q.0, same p.1.0 q.1.0, same p.1.1 q.1.1)
