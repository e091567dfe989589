-- What a call of `next` makes of a capture, from each stage. Assumes nothing.
use mathlib.Core.Path.{◌≡◌, ◌∙◌, refl, sym, ap, subst}
use mathlib.Core.Bool.{Bool, true, false}
use mathlib.Core.List.{List}
use Prim.Native.Nat.{ℕ, ◌%◌, ◌≤◌, ◌<◌}
use native.Mathlib.Omega.{arith}
use lib.ListN.{length}
use Rattle.laws.specs.Pick.{pick}
use borrow.Author.Tests.{le-leb, lt-leb}
use Rattle.packet.specs.Packet.{packet_length}
use Rattle.captures.specs.declared.reading.Got.{Got}
use Rattle.captures.specs.declared.reading.Got.TheVariants.{Failed}
use Rattle.captures.specs.declared.Stage.{Stage}
use Rattle.captures.specs.declared.Stage.TheVariants.{More, Last, Over, Broken}
use Rattle.captures.specs.declared.Capture.{Capture}
use Rattle.captures.specs.declared.Came.TheVariants.{Ended, Stuck}
use Rattle.captures.specs.declared.Turn.{Turn}
use Rattle.captures.specs.Feeding.{whole_end, fed_turn}
use Rattle.captures.specs.Pulling.{is_fed, looked_capture, looked_piece, looked_pages, ended_turn, ReadOn, turn_from, is_feeding, is_looking, PulledFrom, Pulled}
use Rattle.captures.proofs.Fed.{Feeds}

pub at_stage :
    (c : Capture) {stage : Stage} {piece piece' records records' pages pages' : List ℕ} {r : Turn} → c.course.stage ≡ stage
    → PulledFrom stage c piece piece' records records' pages pages' r → Pulled c piece piece' records records' pages pages' r
at_stage c {piece = piece} {piece' = piece'} {records = records} {records' = records'} {pages = pages} {pages' = pages'} {r = r} e w =
    subst (λ (stage : Stage). PulledFrom stage c piece piece' records records' pages pages' r) (sym e) w

module _ (c : Capture) (piece records pages : List ℕ) where
  -- nothing that is lent changes
  abbrev Still : Stage → Turn → Type 0
  Still stage r = PulledFrom stage c piece piece records records pages pages r

  pub pulled-broken : Still Broken (record { capture = c; came = Stuck })
  pulled-broken = record { got = Failed; inside = refl; turn = refl; filled = refl; noted = refl; kept = λ e. refl }

  pub pulled-over : Still Over (record { capture = c; came = Ended (c.course.held % packet_length) })
  pulled-over = record { got = Failed; inside = refl; turn = refl; filled = refl; noted = refl; kept = λ e. refl }

  -- packets are left
  module _ (end : ℕ) (e : end ≡ whole_end c.course.held) (h : c.course.at < end) {r : Turn} {new : List ℕ} (w : Feeds c piece records r new) where
    not-fed : is_fed c.course ≡ false
    not-fed = rw (← e) (lt-leb _ _ h)

    feeding :
        (stage : Stage) → turn_from stage c Failed piece records ≡ fed_turn c piece records → is_feeding stage c.course ≡ true
        → is_looking stage c.course ≡ false → PulledFrom stage c piece piece records new pages pages r
    feeding stage x y z =
        record {
          got = Failed;
          inside = refl;
          turn = w.0 ∙ sym x;
          filled = rw y w.1;
          noted = rw z;
          kept = λ n. rw z;
        }

    pub pulled-fed : PulledFrom Last c piece piece records new pages pages r
    pulled-fed = feeding Last (rw not-fed) (rw not-fed) not-fed

    pub pulled-fed-more : PulledFrom More c piece piece records new pages pages r
    pulled-fed-more = feeding More (rw not-fed) (rw not-fed) not-fed

  -- none is left, and the piece is looked at
  module _
      (end : ℕ) (e : end ≡ whole_end c.course.held) (h : end ≤ c.course.at) {seen : Capture} {piece' pages' : List ℕ}
      (x : seen ≡ looked_capture c piece) (y : piece' ≡ looked_piece c.course piece) (z : pages' ≡ looked_pages c.course piece pages)
    where
      fed : is_fed c.course ≡ true
      fed = rw (← e) (le-leb _ _ h)

      pub pulled-end : {r : Turn} → r ≡ ended_turn seen → PulledFrom Last c piece piece' records records pages pages' r
      pulled-end w =
          record {
            got = Failed;
            inside = refl;
            turn = rw (fed, w, x);
            filled = rw fed;
            noted = rw (fed, z);
            kept = λ n. rw (fed, y);
          }

      pub pulled-read :
          {r : Turn} {piece'' : List ℕ} → length piece' ≡ length piece → ReadOn seen (length piece') r
          → PulledFrom More c piece piece'' records records pages pages' r
      pulled-read {r} {piece''} k w =
          let v : ReadOn (looked_capture c piece) (length piece) r = rw (x, k) at w in
          record {
            got = v.got;
            inside = v.inside;
            turn = rw (fed, v.turn);
            filled = rw fed;
            noted = rw (fed, z);
            kept = λ n. absurd (not_both (rw fed at n));
          }
        where
          not_both : true ≡ false → ⊥
          not_both p = let z : ◌≡◌ {A = ℕ} 1 0 = ap (λ (b : Bool). pick b 1 0) p in omega arith
