-- A capture is never stuck: with a setting in range, a reader as calls leave it and room for what one packet gives (2,112 bytes, or 2,176 for
-- two streams), the reader takes at least one of the packets that it is given, no more than those, and its records stand in the space. So
-- what `next` answers is never `Stuck`, and a capture of which no read fails goes on to its end. Assumes nothing.
use mathlib.Core.Path.{◌≡◌, refl, sym, subst}
use mathlib.Core.Bool.{Bool, true, false}
use mathlib.Core.List.{List, [], ◌++◌}
use Prim.Native.Nat.{ℕ, zero, suc, ◌+◌, ◌-◌, ◌*◌, ◌/◌, ◌%◌, ◌≤◌, ◌<◌}
use native.Mathlib.Nat.{le_refl}
use native.Mathlib.Omega.{arith}
use lib.Dec.{leb, ltb}
use lib.ListN.{length, take, drop, length-append, length-drop}
use lib.Seq.{length-take-le}
use borrow.Author.Tests.{le-leb, eq-eqb, leb-true, leb-false}
use Rattle.laws.specs.Pick.{pick}
use Rattle.blocks.specs.Block.{records_of}
use Rattle.packet.specs.declared.two.Streams.{Streams}
use Rattle.packet.specs.Setting.{in_range}
use Rattle.packet.specs.Two.{first_of, in_range_of_two}
use Rattle.packet.specs.Packet.{packet_length}
use Rattle.pages.specs.declared.two.Whose.TheVariants.{First, Second}
use Rattle.walk.specs.Reading.{room}
use Rattle.walk.proofs.Adding.{records_of-append}
use Rattle.state.specs.declared.Reader.{Reader}
use Rattle.state.specs.declared.two.Readers.{Readers}
use Rattle.state.specs.Acting.{State}
use Rattle.state.specs.State.{reader_of, fresh_state, Sound}
use Rattle.state.specs.Two.{TwoState, readers_of, fresh_of_two, SoundOfTwo}
use Rattle.state.proofs.Bounding.{packet-room}
use Rattle.state.proofs.Ranging.{sound-fresh, sound-after, state_held, reader_in_range_lem}
use Rattle.state.proofs.BothRanging.{both-sound-fresh, both-sound-after, both-held, both-in_range}
use Rattle.reader.specs.Taking.{HeardAll, took_all}
use Rattle.std.specs.declared.result.Result.TheVariants.{Ok, Err}
use Rattle.reader.specs.Calls.{Does, Tuned, Ran, begun, ran_on, run, feed_all_heard, feed_all_reader}
use Rattle.reader.specs.Feeding.{tuned_to}
use Rattle.reader.specs.Two.{room_of_two, marked_all, tuned_to_two}
use Rattle.reader.proofs.Tagging.{marked_append}
use Rattle.reader.proofs.HeedingTwo.{both-room}
use Rattle.captures.specs.declared.reading.Got.{Got}
use Rattle.captures.specs.declared.reading.Got.TheVariants.{Bytes, Failed}
use Rattle.captures.specs.declared.Stage.{Stage}
use Rattle.captures.specs.declared.Stage.TheVariants.{More, Last, Over, Broken}
use Rattle.captures.specs.declared.Course.{Course}
use Rattle.captures.specs.declared.Capture.{Capture}
use Rattle.captures.specs.declared.Came.{Came}
use Rattle.captures.specs.declared.Came.TheVariants.{Records, Ended, Unread, Stuck}
use Rattle.captures.specs.declared.Turn.{Turn}
use Rattle.captures.specs.Courses.{started}
use Rattle.captures.specs.Spans.{is_one}
use Rattle.captures.specs.Feeding.{whole_end, step_of, up_to, end_of, given, answered_as, heeded, moved_on, turn_of, fed_turn}
use Rattle.captures.specs.Reading.{fits_in}
use Rattle.captures.specs.Pulling.{is_fed, looked_capture, ended_turn, read_turn, turn_from, Pulled}
use Rattle.captures.proofs.Fed.{some-given}

-- ---- packets one after the other, over what one packet does: it leaves a sound state, and gives at most as many bytes as it wants room

module _
    {S B : Type 0} (d : Does S B) (long : ℕ) (Good : S → Type 0) (good-on : (st : S) (p : List ℕ) → Good st → Good (d.act st p))
    (room-on :
    (st : S) (bs : List B) (p : List ℕ) → length p ≡ packet_length → Good st → length (d.bytes (bs ++ d.handed st p)) ≤ length (d.bytes bs) + d.room)
  where
    -- what packets have come to: the state is sound, the records stand in the output, and not fewer than `least` nor more than `most` were taken
    abbrev Ranged : ℕ → ℕ → Ran S B → Type 0
    Ranged least most a = Good a.state × (length (d.bytes a.blocks) ≤ long) × (least ≤ a.packets) × (a.packets ≤ most)

    -- one packet more, with room for it
    step-ranged :
        (least : ℕ) (a : Ran S B) (p : List ℕ) → length p ≡ packet_length → Good a.state → length (d.bytes a.blocks) + d.room ≤ long
        → least ≤ suc a.packets → Ranged least (suc a.packets) (ran_on d a p)
    step-ranged least a p k g h m = (good-on a.state p g, omega (arith, h, room-on a.state a.blocks p k g), m, le_refl _)

    run-ranged :
        (least n : ℕ) (a : Ran S B) (l : List ℕ) → packet_length * n ≤ length l → Ranged least a.packets a
        → Ranged least (a.packets + n) (run d long n a l)
    run-ranged least zero a l h r = (r.0, r.1, r.2, omega arith)
    run-ranged least (suc n) a l h r =
        go (leb (length (d.bytes a.blocks) + d.room) long) refl
        (λ (w : Ranged least (suc a.packets) (ran_on d a (take packet_length l))).
        run-ranged least n (ran_on d a (take packet_length l)) (drop packet_length l) (omega (arith, h, length-drop packet_length l)) w)
      where
        go :
            (t : Bool) → leb (length (d.bytes a.blocks) + d.room) long ≡ t
            → (Ranged least (suc a.packets) (ran_on d a (take packet_length l))
            → Ranged least (suc a.packets + n) (run d long n (ran_on d a (take packet_length l)) (drop packet_length l)))
            → Ranged least (a.packets + suc n) (pick t (run d long n (ran_on d a (take packet_length l)) (drop packet_length l)) a)
        go false e later = (r.0, r.1, r.2, omega arith)
        go true e later =
            let p = take packet_length l in
            let k : length p ≡ packet_length = length-take-le packet_length l (omega (arith, h)) in
            let w = later (step-ranged least a p k r.0 (leb-true _ _ e) (omega (arith, r.2))) in
            (w.0, w.1, w.2, omega (arith, w.3))

    -- with room for one packet, and one to take, one is taken
    some-ranged :
        (n : ℕ) (st : S) (l : List ℕ) → Good st → length (d.bytes []) ≡ 0 → d.room ≤ long → packet_length * suc n ≤ length l
        → Ranged 1 (suc n) (run d long (suc n) (begun st) l)
    some-ranged n st l g z enough h =
        let p = take packet_length l in
        let k : length p ≡ packet_length = length-take-le packet_length l (omega (arith, h)) in
        let fit : length (d.bytes []) + d.room ≤ long = omega (arith, z, enough) in
        let w =
        run-ranged 1 n (ran_on d (begun st) p) (drop packet_length l) (omega (arith, h, length-drop packet_length l)) (step-ranged 1 (begun st) p k g fit (omega arith)) in
        rw (le-leb _ _ fit) (w.0, w.1, w.2, omega (arith, w.3))

-- ---- a list in one call

-- a state as calls leave it: of one stream, and of two
pub record Held (r : Reader) : Type 0 where
  pub state : State
  pub sound : Sound state
  pub held : r ≡ reader_of state

pub record HeldOfTwo (rs : Readers) : Type 0 where
  pub state : TwoState
  pub sound : SoundOfTwo state
  pub held : rs ≡ readers_of state

-- setting and state are in range, of one stream or of two
abbrev pub ReadyAs : Bool → Streams → Reader → Readers → Type 0
ReadyAs true g r rs = (in_range (first_of g) ≡ true) × Held r
ReadyAs false g r rs = (in_range_of_two g ≡ true) × HeldOfTwo rs

abbrev pub Ready : Streams → Reader → Readers → Type 0
Ready g r rs = ReadyAs (is_one g) g r rs

-- the space that one packet needs
abbrev pub room_for : Streams → ℕ
room_for g = pick (is_one g) room room_of_two

-- what is heard is that at least one packet of a list of so many bytes was taken, and no more than it has; the records stand in so long an output,
-- and what comes back is as calls leave it
pub record Takes (heard : HeardAll) (Ready : Type 0) (bytes long : ℕ) : Type 0 where
  pub packets : ℕ
  pub blocks : ℕ
  pub written : ℕ
  pub drops : Bool
  pub told : heard ≡ Ok (took_all packets blocks written drops)
  pub ready : Ready
  pub some : 1 ≤ packets
  pub few : packets ≤ bytes / packet_length
  pub fits : written ≤ long

abbrev pub TakesAs : Bool → Streams → Reader → Readers → List ℕ → List ℕ → Type 0
TakesAs one g r rs l old =
    let a = answered_as one g r rs l old in
    Takes a.heard (ReadyAs one g a.reader a.readers) (length l) (length old)

-- any reader whose setting is in range, from a sound state on
module _
    {R S B : Type 0} (t : Tuned R S B) (Good : S → Type 0) (fit : t.fits ≡ true) (held : (st : S) → Good st → t.state (t.held st) ≡ st)
    (in_range_lem : (st : S) → Good st → t.in_range (t.held st) ≡ true) (good-on : (st : S) (p : List ℕ) → Good st → Good (t.does.act st p))
    (room-on :
    (st : S) (bs : List B) (p : List ℕ) → length p ≡ packet_length → Good st
    → length (t.does.bytes (bs ++ t.does.handed st p)) ≤ length (t.does.bytes bs) + t.does.room)
    (nothing : length (t.does.bytes []) ≡ 0)
  where
    takes :
        (st : S) → Good st → (l old : List ℕ) → length l % packet_length ≡ 0 → 1 ≤ length l → t.does.room ≤ length old
        → Takes (feed_all_heard t (t.held st) l old) ((after : S) × Good after × (feed_all_reader t (t.held st) l old ≡ t.held after)) (length l) (length old)
    takes st good l old z some enough =
        let n = (length l - packet_length) / packet_length in
        let k : length l / packet_length ≡ suc n = omega (arith, z, some) in
        let all : packet_length * suc n ≤ length l = omega (arith, z, some) in
        let a = run t.does (length old) (length l / packet_length) (begun st) l in
        let w : Ranged t.does (length old) Good good-on room-on 1 (length l / packet_length) a =
        rw k (some-ranged t.does (length old) Good good-on room-on n st l good nothing enough all) in
        record {
          packets = a.packets;
          blocks = length a.blocks;
          written = length (t.does.bytes a.blocks);
          drops = a.dropped;
          told = rw (fit, in_range_lem st good, eq-eqb _ _ z, le-leb _ _ enough, held st good);
          ready = (a.state, w.0, rw (fit, in_range_lem st good, eq-eqb _ _ z, le-leb _ _ enough, held st good));
          some = w.2;
          few = w.3;
          fits = w.1;
        }

takes_one :
    (g : Streams) (r : Reader) (rs : Readers) (l old : List ℕ) → length l % packet_length ≡ 0 → 1 ≤ length l → in_range (first_of g) ≡ true → Held r
    → room ≤ length old → TakesAs true g r rs l old
unfolding records_of
takes_one g r rs l old z some i h enough =
    let w =
    takes (tuned_to (first_of g)) Sound i state_held reader_in_range_lem (sound-after (first_of g))
    (λ st bs p k s. let m = packet-room (first_of g) st p k s.mode in rw (records_of-append, length-append) (omega (arith, m.1))) refl h.state h.sound l old z some
    enough in
    rw h.held (record { packets = w.packets; blocks = w.blocks; written = w.written; drops = w.drops; told = w.told; some = w.some; few = w.few; fits = w.fits; ready = (i, record { state = w.ready.0; sound = w.ready.1; held = w.ready.2 }) })

takes_two :
    (g : Streams) (r : Reader) (rs : Readers) (l old : List ℕ) → length l % packet_length ≡ 0 → 1 ≤ length l → in_range_of_two g ≡ true → HeldOfTwo rs
    → room_of_two ≤ length old → TakesAs false g r rs l old
unfolding marked_all
takes_two g r rs l old z some i h enough =
    let w =
    takes (tuned_to_two g) SoundOfTwo i both-held both-in_range (both-sound-after g)
    (λ st bs p k s. let m = both-room g st p k (s First).mode (s Second).mode in rw (marked_append, length-append) (omega (arith, m))) refl h.state h.sound l old z some
    enough in
    rw h.held (record { packets = w.packets; blocks = w.blocks; written = w.written; drops = w.drops; told = w.told; some = w.some; few = w.few; fits = w.fits; ready = (i, record { state = w.ready.0; sound = w.ready.1; held = w.ready.2 }) })

pub takes_some :
    (g : Streams) (l old : List ℕ) → length l % packet_length ≡ 0 → 1 ≤ length l → (one : Bool) (r : Reader) (rs : Readers) → ReadyAs one g r rs
    → pick one room room_of_two ≤ length old → TakesAs one g r rs l old
takes_some g l old z some true r rs (i, h) enough = takes_one g r rs l old z some i h enough
takes_some g l old z some false r rs (i, h) enough = takes_two g r rs l old z some i h enough

-- ---- a capture

abbrev pub is_broken : Stage → Bool
is_broken More = false
is_broken Last = false
is_broken Over = false
is_broken Broken = true

-- a capture as calls leave it, with a piece so long: nothing failed, setting and reader are in range, and it stands at a packet of the piece
pub record Live (full : ℕ) (c : Capture) : Type 0 where
  pub ready : Ready c.course.setting c.reader c.readers
  pub even : c.course.at % packet_length ≡ 0
  pub within : c.course.held ≤ full
  pub unbroken : is_broken c.course.stage ≡ false

-- from a place where a packet begins, a call gets whole packets, at least one
record Whole (at held end : ℕ) : Type 0 where
  onward : at < end
  inside : end ≤ whole_end held
  even : end % packet_length ≡ 0

up_to-whole : (verbose : Bool) (at held : ℕ) → at % packet_length ≡ 0 → at < whole_end held → Whole at held (up_to verbose at held)
unfolding up_to
up_to-whole verbose at held z h = go verbose (leb (whole_end held - at) (step_of verbose)) refl
  where
    go : (v t : Bool) → leb (whole_end held - at) (step_of v) ≡ t → Whole at held (pick t (whole_end held) (at + step_of v))
    go v true e = record { onward = h; inside = le_refl _; even = omega arith }
    go true false e =
        let l = leb-false (whole_end held - at) packet_length e in
        record { onward = omega arith; inside = omega (arith, l); even = omega (arith, z) }
    go false false e =
        let l = leb-false (whole_end held - at) 65520 e in
        record { onward = omega arith; inside = omega (arith, l); even = omega (arith, z) }

-- one call of the reader moves the capture on by packets that it was given, at least one, and what it says stands in the space
pub record Moves (c : Capture) (piece old : List ℕ) : Type 0 where
  pub packets : ℕ
  pub written : ℕ
  pub drops : Bool
  pub reader : Reader
  pub readers : Readers
  pub turn : fed_turn c piece old ≡ turn_of reader readers (moved_on c.course (packet_length * packets) written drops)
  pub ready : Ready c.course.setting reader readers
  pub some : 1 ≤ packets
  pub within : c.course.at + packet_length * packets ≤ whole_end c.course.held
  pub fits : written ≤ length old

heeds_some :
    (g : Course) (packets blocks written bytes space : ℕ) (drops : Bool) → 1 ≤ packets → packets ≤ bytes / packet_length
    → written ≤ space → heeded g (Ok (took_all packets blocks written drops)) bytes space ≡ moved_on g (packet_length * packets) written drops
heeds_some g packets blocks written bytes space drops a b c = rw (le-leb _ _ a, le-leb _ _ b, le-leb _ _ c)

-- what the reader takes of the packets that it was given moves the capture on
moves_by :
    (c : Capture) (piece old : List ℕ) → Whole c.course.at c.course.held (end_of c.course) → end_of c.course ≤ length piece
    → length (given c.course piece) ≡ end_of c.course - c.course.at
    → TakesAs (is_one c.course.setting) c.course.setting c.reader c.readers (given c.course piece) old → Moves c piece old
moves_by c piece old w k n t =
    let g = c.course in
    let a = answered_as (is_one g.setting) g.setting c.reader c.readers (given g piece) old in
    let few : t.packets ≤ (end_of g - g.at) / packet_length = subst (λ (l : ℕ). t.packets ≤ l / packet_length) n t.few in
    record {
      packets = t.packets;
      written = t.written;
      drops = t.drops;
      reader = a.reader;
      readers = a.readers;
      turn =
          sym
          (some-given c piece old refl {a = a} w.onward k refl refl
          (rw t.told
          (sym (heeds_some g t.packets t.blocks t.written (end_of g - g.at) (length old) t.drops t.some few t.fits)))
          ).0;
      ready = t.ready;
      some = t.some;
      within = omega (arith, few, w.inside, w.onward);
      fits = t.fits;
    }

-- a piece that has a packet left is moved on in
pub feeds_some :
    (c : Capture) (piece old : List ℕ) → Live (length piece) c → c.course.at < whole_end c.course.held
    → room_for c.course.setting ≤ length old → Moves c piece old
feeds_some c piece old v h enough =
    let g = c.course in
    let w = up_to-whole g.verbose g.at g.held v.even h in
    let k : end_of g ≤ length piece = omega (arith, w.inside, v.within) in
    let d : length (drop g.at piece) ≡ length piece - g.at = length-drop g.at piece in
    let n : length (given g piece) ≡ end_of g - g.at = length-take-le (end_of g - g.at) (drop g.at piece) (omega (arith, d, k)) in
    moves_by c piece old w k n
    (takes_some g.setting (given g piece) old (omega (arith, n, w.even, v.even, w.onward)) (omega (arith, n, w.onward))
    (is_one g.setting) c.reader c.readers v.ready enough)

-- ---- a call of `next`

-- what may come of it: records in the space, and a capture as before; the end, with less than a packet left; a read that failed. It is
-- never stuck
abbrev pub Comes : Came → ℕ → ℕ → Capture → Type 0
Comes (Records n) full space c = Live full c × (n ≤ space)
Comes (Ended n) full space c = n < packet_length
Comes Unread full space c = Unit {0}
Comes Stuck full space c = ⊥

abbrev pub GoesOn : ℕ → ℕ → Turn → Type 0
GoesOn full space t = Comes t.came full space t.capture

feeds-on :
    (c : Capture) (piece old : List ℕ) → Live (length piece) c → is_fed c.course ≡ false → room_for c.course.setting ≤ length old
    → GoesOn (length piece) (length old) (fed_turn c piece old)
feeds-on c piece old v e enough =
    let m = feeds_some c piece old v (leb-false _ _ e) enough in
    subst (GoesOn (length piece) (length old)) (sym m.turn) (
      record {
        ready = m.ready;
        even = omega (arith, v.even);
        within = v.within;
        unbroken = v.unbroken;
      },
      m.fits,
    )

reads_on :
    (c : Capture) (full space : ℕ) → Live full c → (got : Got) → fits_in got full ≡ true → GoesOn full space (read_turn c got full)
reads_on c full space v Failed e = tt
reads_on c full space v (Bytes n) e = (
  record {
    ready = v.ready;
    even = refl;
    within = leb-true n full e;
    unbroken = go (ltb n full);
  },
  omega arith,
)
  where
    go : (t : Bool) → is_broken (pick t Last More) ≡ false
    go true = refl
    go false = refl

goes_from :
    (c : Capture) (piece old : List ℕ) (got : Got) → Live (length piece) c → room_for c.course.setting ≤ length old → fits_in got (length piece) ≡ true
    → GoesOn (length piece) (length old) (turn_from c.course.stage c got piece old)
goes_from c piece old got v enough inside = go c.course.stage v.unbroken
  where
    last : (t : Bool) → is_fed c.course ≡ t → GoesOn (length piece) (length old) (pick t (ended_turn (looked_capture c piece)) (fed_turn c piece old))
    last true e = omega arith
    last false e = feeds-on c piece old v e enough

    more :
        (t : Bool) → is_fed c.course ≡ t
        → GoesOn (length piece) (length old) (pick t (read_turn (looked_capture c piece) got (length piece)) (fed_turn c piece old))
    more true e =
        reads_on (looked_capture c piece) (length piece) (length old)
        (record {
          ready = v.ready;
          even = v.even;
          within = v.within;
          unbroken = v.unbroken;
        })
        got inside
    more false e = feeds-on c piece old v e enough

    go : (stage : Stage) → is_broken stage ≡ false → GoesOn (length piece) (length old) (turn_from stage c got piece old)
    go More e = more (is_fed c.course) refl
    go Last e = last (is_fed c.course) refl
    go Over e = omega arith
    go Broken e = let z : ◌≡◌ {A = ℕ} 1 0 = cc in omega arith

-- with room for one packet's records, what a call makes of a capture as calls leave it
pub never_stuck :
    (c : Capture) {piece piece' records records' pages pages' : List ℕ} {r : Turn}
    → Pulled c piece piece' records records' pages pages' r → Live (length piece) c → room_for c.course.setting ≤ length records
    → GoesOn (length piece) (length records) r
never_stuck c {piece = piece} {records = records} w v enough =
    subst (GoesOn (length piece) (length records)) (sym w.turn) (goes_from c piece records w.got v enough w.inside)

-- a capture that starts with a setting in range, of one stream or of two, is one
pub starts_live :
    (g : Streams) (verbose : Bool) (full : ℕ) → pick (is_one g) (in_range (first_of g)) (in_range_of_two g) ≡ true → Live full (started g verbose)
starts_live g verbose full i =
    record {
      ready = go (is_one g) i;
      even = refl;
      within = omega arith;
      unbroken = refl;
    }
  where
    go :
        (one : Bool) → pick one (in_range (first_of g)) (in_range_of_two g) ≡ true
        → ReadyAs one g (reader_of fresh_state) (readers_of fresh_of_two)
    go true h = (h, record { state = fresh_state; sound = sound-fresh; held = refl })
    go false h = (h, record { state = fresh_of_two; sound = both-sound-fresh; held = refl })
