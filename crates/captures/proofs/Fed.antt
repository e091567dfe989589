-- What one call of the reader makes of a capture, from its tests in order. Assumes nothing.
use mathlib.Core.Path.{◌≡◌, ◌∙◌, refl, sym}
use mathlib.Core.Bool.{Bool, true, false}
use mathlib.Core.List.{List}
use Prim.Native.Nat.{ℕ, ◌+◌, ◌-◌, ◌≤◌, ◌<◌}
use lib.ListN.{length, take, drop}
use borrow.Author.Tests.{lt-ltb, le-ltb, le-leb, lt-leb}
use Rattle.laws.proofs.Tests.{both_false}
use Rattle.packet.specs.declared.Setting.{Setting}
use Rattle.packet.specs.declared.two.Streams.{Streams}
use Rattle.packet.specs.Two.{first_of}
use Rattle.state.specs.declared.Reader.{Reader}
use Rattle.state.specs.declared.two.Readers.{Readers}
use Rattle.reader.specs.Taking.{HeardAll}
use Rattle.reader.specs.Many.{feed_all_heard, feed_all_reader, feed_all_out}
use Rattle.reader.specs.Two.{feed_all_heard_of_two, feed_all_readers_of_two, feed_all_out_of_two}
use Rattle.captures.specs.declared.Capture.{Capture}
use Rattle.captures.specs.declared.Turn.{Turn}
use Rattle.captures.specs.declared.feeding.Answered.{Answered}
use Rattle.captures.specs.declared.feeding.Step.{Step}
use Rattle.captures.specs.Spans.{is_one}
use Rattle.captures.specs.Feeding.{whole_end, step_of, up_to, end_of, answered_by, out_by, stuck, heeded, turn_of, fed_turn, fed_records}

-- ---- where the packets of one call end

module _ (verbose : Bool) (at held : ℕ) {end step : ℕ} (e : end ≡ whole_end held) (f : step ≡ step_of verbose) where
  pub up-to-end : end - at ≤ step → end ≡ up_to verbose at held
  unfolding up_to
  up-to-end h = rw (← e, ← f, le-leb _ _ h)

  pub up-to-step : step < end - at → at + step ≡ up_to verbose at held
  unfolding up_to
  up-to-step h = rw (← e, ← f, lt-leb _ _ h)

-- ---- the reader's answer

module _ (g : Streams) (r : Reader) (rs : Readers) (l old : List ℕ) {t : Bool} (e : t ≡ is_one g) where
  abbrev Answers : Answered → List ℕ → Type 0
  Answers a new = (a ≡ answered_by g r rs l old) × (new ≡ out_by g r rs l old)

  pub answered-one :
      {one : Setting} {heard : HeardAll} {after : Reader} {new : List ℕ} → t ≡ true → one ≡ first_of g → heard ≡ feed_all_heard one r l old
      → after ≡ feed_all_reader one r l old → new ≡ feed_all_out one r l old → Answers (record { heard = heard; reader = after; readers = rs }) new
  answered-one h f x y z = let q : is_one g ≡ true = sym e ∙ h in rw (q, x, y, z, f) (refl, refl)

  pub answered-two :
      {heard : HeardAll} {after : Readers} {new : List ℕ} → t ≡ false → heard ≡ feed_all_heard_of_two g rs l old
      → after ≡ feed_all_readers_of_two g rs l old → new ≡ feed_all_out_of_two g rs l old
      → Answers (record { heard = heard; reader = r; readers = after }) new
  answered-two h x y z = let q : is_one g ≡ false = sym e ∙ h in rw (q, x, y, z) (refl, refl)

-- ---- the call

-- the turn and the space for records are these
abbrev pub Feeds : Capture → List ℕ → List ℕ → Turn → List ℕ → Type 0
Feeds c piece old r new = (r ≡ fed_turn c piece old) × (new ≡ fed_records c piece old)

module _ (c : Capture) (piece old : List ℕ) {end : ℕ} (e : end ≡ end_of c.course) where
  abbrev Breaks : Turn → Type 0
  Breaks r = r ≡ turn_of c.reader c.readers (stuck c.course) → Feeds c piece old r old

  pub none-given : {r : Turn} → end ≤ c.course.at → Breaks r
  unfolding fed_turn fed_records
  none-given h q = rw (q, ← e, le-ltb _ _ h) (refl, refl)

  pub past-piece : {r : Turn} → length piece < end → Breaks r
  unfolding fed_turn fed_records
  past-piece h q = rw (q, ← e, lt-leb _ _ h, both_false) (refl, refl)

  pub some-given :
      {a : Answered} {step : Step} {new : List ℕ} → c.course.at < end → end ≤ length piece
      → a ≡ answered_by c.course.setting c.reader c.readers (take (end - c.course.at) (drop c.course.at piece)) old
      → new ≡ out_by c.course.setting c.reader c.readers (take (end - c.course.at) (drop c.course.at piece)) old
      → step ≡ heeded c.course a.heard (end - c.course.at) (length old) → Feeds c piece old (turn_of a.reader a.readers step) new
  unfolding fed_turn fed_records
  some-given h k x y w = rw (w, x, y, ← e, lt-ltb _ _ h, le-leb _ _ k) (refl, refl)
