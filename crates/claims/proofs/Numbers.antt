-- Each call's rules refuse with a number of SCOPE 2, 1 to 27, so that 0 is an acceptance: `accepted-exactly` and `accepted-writes` of room
-- `answer` hold of each call. The reader's calls and the frame's answer by enums of their own, and owe the same. Assumes nothing.
use mathlib.Core.Path.{◌≡◌, ◌∙◌, refl, sym, ap, subst}
use mathlib.Core.Bool.{Bool, true, false}
use mathlib.Core.List.{List, [], ◌∷◌, flat_map}
use Prim.Native.Nat.{ℕ}
use Rattle.std.specs.declared.result.Result.TheVariants.{Ok}
use Rattle.laws.specs.Pick.{pick}
use Rattle.answer.specs.Rules.{Rule, judged, all_refusing, Every}
use Rattle.answer.proofs.Judging.{passes, refuses, refusing-append}
use Rattle.blocks.specs.Block.{head_of}
use Rattle.packet.specs.declared.Setting.{Setting}
use Rattle.units.specs.Units.{byte_at, stuffing_id, unit_rules, text_rules, rules_at}
use Rattle.pes.specs.Header.{header_rules}
use Rattle.pes.specs.Reading.{places, units_rules, read_rules}
use Rattle.pes_writer.specs.Records.{write_rules}
use Rattle.writer.specs.Cutting.{cut_rules}
use Rattle.forms.specs.Writing.{form_rules, write_rules as form_write_rules}
use Rattle.dvb_descriptor.specs.Calls.{write_rules as descriptor_write_rules, read_rules as descriptor_read_rules}
use Rattle.state.specs.declared.Reader.{Reader}
use Rattle.reader.specs.Taking.{Heard, HeardAll}
use Rattle.reader.specs.Values.{number_of, offset_of, number_of_all, offset_of_all}
use Rattle.reader.specs.Feeding.{feed_rules, refused_heard}
use Rattle.reader.specs.Many.{feed_all_rules, refused_all}
use Rattle.blocks.specs.Framing.{frame_rules, framing}
use Rattle.answer.specs.Values.{number_of as answered_number, offset_of as answered_offset, refused as answer_refused}
use Rattle.blocks.specs.Values.{head_of_frame}
use Rattle.blocks.proofs.frames.judge.Reads as blocks-frames_judge
use Rattle.table.specs.Reading.{read_rules as table_read_rules}
use Rattle.menu_forms.specs.Writing.{form_rules as menu_form_rules, write_rules as menu_write_rules}
use Rattle.kinds.specs.Reading.{front_rules as kind_front_rules, whole_rules as kind_whole_rules, length_rules as kind_length_rules}
use Rattle.menu_reader.specs.Reading.{read_rules as menu_read_rules}
use Rattle.menu_listing.specs.Listing.{list_rules, levels_rules}
use Rattle.menu_listing.specs.Kept.{kept_rules}
use Rattle.information_forms.specs.Writing.{form_rules as information_form_rules, write_rules as information_write_rules}
use Rattle.information.specs.Reading.{read_rules as information_read_rules}
use Rattle.broadcast.specs.Lawful.{lawful_rules}
use Rattle.shelf.specs.Putting.{put_rules}
use Rattle.sheet_entry.specs.declared.Form.{Form}
use Rattle.day_sheet.specs.Calls.{rewrite_rules, drop_rules}
use Rattle.sheet_joins.specs.Calls.{join_rules, add_rules}
use Rattle.sheet_moves.specs.Moving.{up_rules, down_rules}
use Rattle.changes.specs.Calls.{compare_rules}
use Rattle.claims.specs.Calls.{Feeds, feed, FeedsAll, feed-all}
use Rattle.claims.specs.Judges.{Judges}

pub writes_pes : (d : ℕ) (rs : List ℕ) → all_refusing (write_rules d rs) ≡ true
unfolding all_refusing write_rules
writes_pes d rs = refl

pub cuts : (s : Setting) (index k : ℕ) (rs : List ℕ) → all_refusing (cut_rules s index k rs) ≡ true
unfolding all_refusing
cuts s index k rs = refl

pub lists : (f : List ℕ) → all_refusing (form_rules f) ≡ true
unfolding all_refusing form_rules
lists f = refl

pub writes-block : (application : ℕ) (f : List ℕ) → all_refusing (form_write_rules application f) ≡ true
unfolding all_refusing form_rules
writes-block application f = refl

pub reads-block : (application : ℕ) (r : List ℕ) → all_refusing (table_read_rules application r) ≡ true
unfolding all_refusing frame_rules kind_front_rules kind_whole_rules kind_length_rules
reads-block application r = refl

pub writes-menu : (application : ℕ) (f : List ℕ) → all_refusing (menu_write_rules application f) ≡ true
unfolding all_refusing menu_form_rules
writes-menu application f = refl

pub reads-menu : (application : ℕ) (r : List ℕ) → all_refusing (menu_read_rules application r) ≡ true
unfolding all_refusing frame_rules kind_front_rules kind_whole_rules kind_length_rules
reads-menu application r = refl

pub writes-information : (application : ℕ) (f : List ℕ) → all_refusing (information_write_rules application f) ≡ true
unfolding all_refusing information_form_rules
writes-information application f = refl

pub reads-information : (application : ℕ) (r : List ℕ) → all_refusing (information_read_rules application r) ≡ true
unfolding all_refusing frame_rules kind_front_rules kind_whole_rules kind_length_rules
reads-information application r = refl

pub writes-descriptor : (f : List ℕ) → all_refusing (descriptor_write_rules f) ≡ true
unfolding all_refusing form_rules descriptor_write_rules
writes-descriptor f = refl

pub reads-descriptor : (b : List ℕ) → all_refusing (descriptor_read_rules b) ≡ true
unfolding all_refusing descriptor_read_rules
reads-descriptor b = refl

pub rewrites-sheet : (form : Form) (sheet : List ℕ) → all_refusing (rewrite_rules form sheet) ≡ true
unfolding all_refusing rewrite_rules
rewrites-sheet form sheet = refl

pub joins_sheets : (form : Form) (first second : List ℕ) → all_refusing (join_rules form first second) ≡ true
unfolding all_refusing join_rules
joins_sheets form first second = refl

pub adds-table : (form : Form) (stamp mended : ℕ) (sheet table : List ℕ) → all_refusing (add_rules form stamp mended sheet table) ≡ true
unfolding all_refusing add_rules form_rules
adds-table form stamp mended sheet table = refl

pub drops_entry : (form : Form) (network kind block : ℕ) (sheet : List ℕ) → all_refusing (drop_rules form network kind block sheet) ≡ true
unfolding all_refusing drop_rules
drops_entry form network kind block sheet = refl

pub moves_up : (old : List ℕ) → all_refusing (up_rules old) ≡ true
unfolding all_refusing up_rules
moves_up old = refl

pub moves_down : (new : List ℕ) → all_refusing (down_rules new) ≡ true
unfolding all_refusing down_rules
moves_down new = refl

pub compares_sheets : (form : Form) (first second : List ℕ) → all_refusing (compare_rules form first second) ≡ true
unfolding all_refusing compare_rules rewrite_rules
compares_sheets form first second = refl

module _ (pes : List ℕ) where
  unit : (at : ℕ) → all_refusing (rules_at pes at) ≡ true
  unfolding all_refusing unit_rules text_rules
  unit at = go (stuffing_id (byte_at pes at))
    where
      go : (t : Bool) → all_refusing (pick t [] (text_rules pes at)) ≡ true
      go true = refl
      go false = refl

  each : (ps : List ℕ) → all_refusing (flat_map (rules_at pes) ps) ≡ true
  unfolding all_refusing flat_map
  each [] = refl
  each (p ∷ ps) = refusing-append (rules_at pes p) (flat_map (rules_at pes) ps) (unit p) (each ps)

  pub reads-pes : all_refusing (read_rules pes) ≡ true
  unfolding all_refusing read_rules units_rules header_rules
  reads-pes = each (places pes)

pub lists-menus : (application : ℕ) (records : List ℕ) → all_refusing (list_rules application records) ≡ true
unfolding all_refusing
lists-menus application records = refl

pub lists_levels : (application levels : ℕ) (records : List ℕ) → all_refusing (levels_rules application levels records) ≡ true
unfolding all_refusing
lists_levels application levels records = refl

pub lists-kept : (levels : ℕ) → all_refusing (kept_rules levels) ≡ true
unfolding all_refusing
lists-kept levels = refl

pub judges_broadcast : (application : ℕ) (records : List ℕ) → all_refusing (lawful_rules application records) ≡ true
unfolding all_refusing
judges_broadcast application records = refl

pub puts_menu : (form : List ℕ) (used : ℕ) (heads shelf : List ℕ) → all_refusing (put_rules form used heads shelf) ≡ true
unfolding all_refusing put_rules
puts_menu form used heads shelf = refl

-- ---- answers that report something else than written bytes

module _ {A : Type 0} (number offset : A → ℕ) (refused : ℕ → ℕ → A) (taken : A) where
  judges :
      ((n o : ℕ) → (number (refused n o) ≡ n) × (offset (refused n o) ≡ o)) → number taken ≡ 0 → (rules : List Rule) → all_refusing rules ≡ true
      → {x : A} → x ≡ judged refused rules taken → Judges rules (number x) (offset x)
  judges as_said zero rules n {x} e =
      subst (λ (y : A). Judges rules (number y) (offset y)) (sym e)
      (record {
        numbered = n;
        accepts = λ every. ap number (passes refused taken every) ∙ zero;
        refuses =
            λ q first.
            (ap number (refuses refused taken first) ∙ (as_said _ _).0, ap offset (refuses refused taken first) ∙ (as_said _ _).1);
      })

-- feeding a packet
pub feed_judges :
    {s : Setting} {r after : Reader} {p old out : List ℕ} {h : Heard} → Feeds s r p old h after out
    → Judges (feed_rules s r p old) (number_of h) (offset_of h)
unfolding all_refusing
feed_judges (feed κs a x t post) = judges number_of offset_of refused_heard _ (λ n o. (refl, refl)) refl _ refl post.0

-- feeding a list of packets
pub feed_all_judges :
    {s : Setting} {r after : Reader} {l old out : List ℕ} {h : HeardAll} → FeedsAll s r l old h after out
    → Judges (feed_all_rules s r l old) (number_of_all h) (offset_of_all h)
unfolding all_refusing
feed_all_judges (feed-all κs a x t post) = judges number_of_all offset_of_all refused_all _ (λ n o. (refl, refl)) refl _ refl post.0

-- the frame of a record; where it is taken, the 16 bits of its head
pub frame_judges :
    (κs : _) (a : _) (x : _) (t : _) → blocks-frames_judge.Post κs a x t
    → Judges (framing a.0 a.1.0.now) (answered_number x) (answered_offset x)
    × (Every (framing a.0 a.1.0.now) → head_of_frame x ≡ head_of a.1.0.now)
unfolding all_refusing frame_rules
frame_judges κs a x t post = (
  judges answered_number answered_offset answer_refused _ (λ n o. (refl, refl)) refl _ refl post,
  λ every. ap head_of_frame (post ∙ passes answer_refused (Ok (head_of a.1.0.now)) every),
)
