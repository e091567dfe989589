-- Calls in a row, whatever a packet does, of a reader that works: every call with room is taken, since the state stays in range; what it writes is whole
-- records; a list of packets in one call is a call for each of them, as far as there is room; and packets that are handed on as the calls allow, by
-- `feed` or many at a time by `feed_all`, give what a call of `feed` for each of them gives. Assumes nothing.
use mathlib.Core.Path.{◌≡◌, ◌∙◌, refl, sym, ap, ap₂, subst}
use mathlib.Core.Bool.{Bool, true, false}
use mathlib.Core.Logic.{◌⊎◌, inl, inr, ⊎_map}
use mathlib.Core.List.{List, [], ◌∷◌, ◌++◌, append_assoc, append-nil}
use Prim.Native.Nat.{ℕ, suc, ◌+◌, ◌*◌, ◌/◌, ◌%◌, ◌≤◌, ◌<◌}
use native.Mathlib.Nat.{zero-add, le_refl}
use native.Mathlib.Omega.{arith}
use lib.Dec.{leb}
use lib.ListN.{length, replicate, take, drop, length-append, length-replicate, take-append-drop}
use lib.Seq.{take-append_seam, take_at, drop_at}
use borrow.Author.Tests.{le-leb, leb-false, eq-eqb}
use Rattle.laws.specs.Pick.{either}
use Rattle.laws.specs.Each.{Each, nil, and}
use Rattle.laws.proofs.Eaches.{each_append}
use Rattle.laws.proofs.Tests.{either_false, either_assoc}
use Rattle.packet.specs.Packet.{packet_length}
use Rattle.writer.specs.Cutting.{joined, FortyTwo, none, more}
use Rattle.writer.proofs.Numbering.{forty_front, forty_take, forty_drop}
use Rattle.reader.specs.Taking.{Heard, HeardAll, took, took_all}
use Rattle.std.specs.declared.result.Result.TheVariants.{Ok}
use Rattle.reader.specs.Values.{number_of, count_of, written_of, dropped_of, number_of_all, packets_of_all, count_of_all, written_of_all, dropped_of_all}
use Rattle.reader.specs.Calls.{Does, Ran, begun, ran_on, run, handed_bytes, feed_heard, feed_reader, feed_out, feed_all_heard, feed_all_reader, feed_all_out}
use Rattle.claims.specs.Rows.{Feeder, Call, packets_of, heard, comes_out, leaves, drops, in_one, AsCalls, Fed, end, one, many, TellsAll}

-- ---- calls

-- a call for a packet
abbrev pub call_for : {room : ℕ} → List ℕ → Call room
call_for {room} p = record { packet = p; lent = replicate room 0; enough = rw length-replicate (le_refl room) }

unfoldable pub calls_for : {room : ℕ} → List (List ℕ) → List (Call room)
calls_for [] = []
calls_for (p ∷ ps) = call_for p ∷ calls_for ps

pub packets_of_calls : (room : ℕ) (ps : List (List ℕ)) → packets_of (calls_for {room = room} ps) ≡ ps
unfolding packets_of calls_for
packets_of_calls room [] = refl
packets_of_calls room (p ∷ ps) = ap (λ (l : List (List ℕ)). p ∷ l) (packets_of_calls room ps)

module _ {room : ℕ} where
  list-joined : (cs : List (Call room)) → in_one cs ≡ joined (packets_of cs)
  unfolding in_one joined packets_of
  list-joined [] = refl
  list-joined (c ∷ cs) = ap (λ (l : List ℕ). c.packet ++ l) (list-joined cs)

  packets-append : (a b : List (Call room)) → packets_of (a ++ b) ≡ packets_of a ++ packets_of b
  unfolding packets_of
  packets-append [] b = refl
  packets-append (c ∷ a) b = ap (λ (ps : List (List ℕ)). c.packet ∷ ps) (packets-append a b)

  packets-length : (cs : List (Call room)) → length (packets_of cs) ≡ length cs
  unfolding packets_of
  packets-length [] = refl
  packets-length (c ∷ cs) = ap suc (packets-length cs)

  length-one : (cs : List (Call room)) → FortyTwo (packets_of cs) → length (in_one cs) ≡ packet_length * length cs
  unfolding in_one packets_of
  length-one [] e = refl
  length-one (c ∷ cs) (more l e) = rw length-append (omega (arith, l, length-one cs e))

  -- what a call for a list leaves of the packets that the list was taken from
  rest_of :
      (n : ℕ) (qs : List (List ℕ)) (cs : List (Call room)) (behind : List (List ℕ)) → take n qs ≡ packets_of cs ++ behind
      → qs ≡ packets_of cs ++ drop (length cs) qs
  rest_of n qs cs behind e =
      let whole : qs ≡ packets_of cs ++ (behind ++ drop n qs) =
      sym (take-append-drop n qs) ∙ ap (λ (l : List (List ℕ)). l ++ drop n qs) e ∙ append_assoc (packets_of cs) behind (drop n qs) in
      whole
      ∙ ap (λ (l : List (List ℕ)). packets_of cs ++ l)
      (sym (ap (drop (length cs)) whole ∙ drop_at (packets_of cs) (behind ++ drop n qs) (length cs) (packets-length cs)))

-- ---- what a reader owes

-- the setting is in range; a state that calls leave (`Sound`) stays one, is held without loss and in range; and the blocks that a packet hands out, whole
-- ones, are read back from their bytes
pub record Works {R S B : Type 0} (f : Feeder R S B) (Sound : S → Type 0) (Whole : B → Type 0) : Type 0 where
  pub fits : f.tuned.fits ≡ true
  pub after : (st : S) (p : List ℕ) → Sound st → Sound (f.tuned.does.act st p)
  pub held : (st : S) → Sound st → f.tuned.state (f.tuned.held st) ≡ st
  pub in_range : (st : S) → Sound st → f.tuned.in_range (f.tuned.held st) ≡ true
  pub whole : (st : S) (p : List ℕ) → Sound st → Each Whole (f.tuned.does.handed st p)
  pub back : {bs : List B} → Each Whole bs → f.blocks (f.tuned.does.bytes bs) ≡ bs
  pub none : f.tuned.does.bytes [] ≡ []

-- what holds of each block that a packet gives holds of each that a list of packets gives
pub each-heard :
    {S B : Type 0} (d : Does S B) (Sound : S → Type 0) (P : B → Type 0) → ((st : S) (p : List ℕ) → Sound st → Sound (d.act st p))
    → ((st : S) (p : List ℕ) → Sound st → Each P (d.handed st p)) → (st : S) → Sound st → (ps : List (List ℕ)) → Each P (heard d st ps)
unfolding heard
each-heard d Sound P after each st r [] = nil
each-heard d Sound P after each st r (p ∷ ps) =
    each_append (each st p r) (each-heard d Sound P after each (d.act st p) (after st p r) ps)

module _ {R S B : Type 0} (f : Feeder R S B) {Sound : S → Type 0} {Whole : B → Type 0} (w : Works f Sound Whole) where
  -- a call to a reader whose state is sound, with a packet of 42 bytes
  module _ (st : S) (r : Sound st) (c : Call f.tuned.does.room) (l : length c.packet ≡ packet_length) where
    pub call-reader : feed_reader f.tuned (f.tuned.held st) c.packet c.lent ≡ f.tuned.held (f.tuned.does.act st c.packet)
    call-reader = rw (w.fits, w.in_range st r, eq-eqb _ _ l, le-leb _ _ c.enough, w.held st r)

    -- it is taken
    call-took :
        feed_heard f.tuned (f.tuned.held st) c.packet c.lent
        ≡ Ok (took (length (f.tuned.does.handed st c.packet)) (length (handed_bytes f.tuned.does st c.packet)) (f.tuned.does.dropped st c.packet))
    call-took = rw (w.fits, w.in_range st r, eq-eqb _ _ l, le-leb _ _ c.enough, w.held st r)

    call-out :
        feed_out f.tuned (f.tuned.held st) c.packet c.lent
        ≡ handed_bytes f.tuned.does st c.packet ++ drop (length (handed_bytes f.tuned.does st c.packet)) c.lent
    call-out = rw (w.fits, w.in_range st r, eq-eqb _ _ l, le-leb _ _ c.enough, w.held st r)

    pub call-taken : number_of (feed_heard f.tuned (f.tuned.held st) c.packet c.lent) ≡ 0
    call-taken = ap number_of call-took

    pub call-counts : count_of (feed_heard f.tuned (f.tuned.held st) c.packet c.lent) ≡ length (f.tuned.does.handed st c.packet)
    call-counts = ap count_of call-took

    pub call-drops : dropped_of (feed_heard f.tuned (f.tuned.held st) c.packet c.lent) ≡ f.tuned.does.dropped st c.packet
    call-drops = ap dropped_of call-took

    -- what it writes is whole records
    pub call-blocks :
        f.blocks
        (take (written_of (feed_heard f.tuned (f.tuned.held st) c.packet c.lent)) (feed_out f.tuned (f.tuned.held st) c.packet c.lent))
        ≡ f.tuned.does.handed st c.packet
    call-blocks =
        ap₂ (λ (n : ℕ) (x : List ℕ). f.blocks (take n x)) (ap written_of call-took) call-out
        ∙ ap f.blocks (take-append_seam (handed_bytes f.tuned.does st c.packet) _)
        ∙ w.back (w.whole st c.packet r)

    -- it counts the records
    pub call-tells :
        count_of (feed_heard f.tuned (f.tuned.held st) c.packet c.lent)
        ≡ length
        (f.blocks
        (take (written_of (feed_heard f.tuned (f.tuned.held st) c.packet c.lent)) (feed_out f.tuned (f.tuned.held st) c.packet c.lent)))
    call-tells = call-counts ∙ ap length (sym call-blocks)

  -- calls give what the definitions of reading give
  pub fed-blocks :
      (st : S) → Sound st → (cs : List (Call f.tuned.does.room)) → FortyTwo (packets_of cs)
      → comes_out f (f.tuned.held st) cs ≡ heard f.tuned.does st (packets_of cs)
  unfolding packets_of comes_out heard
  fed-blocks st r [] e = refl
  fed-blocks st r (c ∷ cs) (more l e) =
      ap₂ (λ (x y : List B). x ++ y) (call-blocks st r c l)
      (ap (λ (x : R). comes_out f x cs) (call-reader st r c l)
      ∙ fed-blocks (f.tuned.does.act st c.packet) (w.after st c.packet r) cs e)

  -- ---- calls one after the other, by the definition of a list

  unfoldable after : Ran S B → List (Call f.tuned.does.room) → Ran S B
  after a [] = a
  after a (c ∷ cs) = after (ran_on f.tuned.does a c.packet) cs

  after-packets : (a : Ran S B) (cs : List (Call f.tuned.does.room)) → (after a cs).packets ≡ a.packets + length cs
  unfolding after
  after-packets a [] = omega arith
  after-packets a (c ∷ cs) = omega (arith, after-packets (ran_on f.tuned.does a c.packet) cs)

  after-reader :
      (a : Ran S B) → Sound a.state → (cs : List (Call f.tuned.does.room)) → FortyTwo (packets_of cs)
      → f.tuned.held (after a cs).state ≡ leaves f (f.tuned.held a.state) cs
  unfolding after leaves packets_of
  after-reader a r [] e = refl
  after-reader a r (c ∷ cs) (more l e) =
      after-reader (ran_on f.tuned.does a c.packet) (w.after a.state c.packet r) cs e
      ∙ ap (λ (x : R). leaves f x cs) (sym (call-reader a.state r c l))

  after-blocks :
      (a : Ran S B) → Sound a.state → (cs : List (Call f.tuned.does.room)) → FortyTwo (packets_of cs)
      → (after a cs).blocks ≡ a.blocks ++ comes_out f (f.tuned.held a.state) cs
  unfolding after comes_out packets_of
  after-blocks a r [] e = sym (append-nil a.blocks)
  after-blocks a r (c ∷ cs) (more l e) =
      after-blocks (ran_on f.tuned.does a c.packet) (w.after a.state c.packet r) cs e
      ∙ append_assoc a.blocks (f.tuned.does.handed a.state c.packet) _
      ∙ ap₂ (λ (x : List B) (y : R). a.blocks ++ (x ++ comes_out f y cs)) (sym (call-blocks a.state r c l))
      (sym (call-reader a.state r c l))

  after-dropped :
      (a : Ran S B) → Sound a.state → (cs : List (Call f.tuned.does.room)) → FortyTwo (packets_of cs)
      → (after a cs).dropped ≡ either a.dropped (drops f (f.tuned.held a.state) cs)
  unfolding after drops packets_of
  after-dropped a r [] e = sym (either_false a.dropped)
  after-dropped a r (c ∷ cs) (more l e) =
      after-dropped (ran_on f.tuned.does a c.packet) (w.after a.state c.packet r) cs e
      ∙ either_assoc a.dropped (f.tuned.does.dropped a.state c.packet) _
      ∙ ap₂ (λ (x : Bool) (y : R). either a.dropped (either x (drops f y cs))) (sym (call-drops a.state r c l))
      (sym (call-reader a.state r c l))

  -- ---- a list ends where there is no room

  record Split (long : ℕ) (a : Ran S B) (cs : List (Call f.tuned.does.room)) : Type 0 where
    front : List (Call f.tuned.does.room)
    back : List (Call f.tuned.does.room)
    whole : cs ≡ front ++ back
    fed : FortyTwo (packets_of front)
    ran : run f.tuned.does long (length cs) a (in_one cs) ≡ after a front
    stops : (back ≡ []) ⊎ (long < length (f.tuned.does.bytes (after a front).blocks) + f.tuned.does.room)

  split : (long : ℕ) (a : Ran S B) (cs : List (Call f.tuned.does.room)) → FortyTwo (packets_of cs) → Split long a cs
  unfolding after in_one packets_of
  split long a [] e = record { front = []; back = []; whole = refl; fed = e; ran = refl; stops = inl refl }
  split long a (c ∷ cs) (more l e) =
      go (leb (length (f.tuned.does.bytes a.blocks) + f.tuned.does.room) long) refl (split long (ran_on f.tuned.does a c.packet) cs e)
    where
      go :
          (t : Bool) → t ≡ leb (length (f.tuned.does.bytes a.blocks) + f.tuned.does.room) long
          → Split long (ran_on f.tuned.does a c.packet) cs → Split long a (c ∷ cs)
      go true q rest =
          record {
            front = c ∷ rest.front;
            back = rest.back;
            whole = ap (λ (x : List (Call f.tuned.does.room)). c ∷ x) rest.whole;
            fed = more l rest.fed;
            ran =
                rw (← q, take_at c.packet (in_one cs) packet_length l, drop_at c.packet (in_one cs) packet_length l) rest.ran;
            stops = rest.stops;
          }
      go false q rest =
          record {
            front = [];
            back = c ∷ cs;
            whole = refl;
            fed = none;
            ran = rw (← q);
            stops = inr (leb-false _ _ (sym q));
          }

  -- ---- the two calls

  module _ (st : S) (r : Sound st) (l old : List ℕ) (z : length l % packet_length ≡ 0) (enough : f.tuned.does.room ≤ length old)
      {a : Ran S B} (e : run f.tuned.does (length old) (length l / packet_length) (begun st) l ≡ a) where
    all-heard :
        feed_all_heard f.tuned (f.tuned.held st) l old
        ≡ Ok (took_all a.packets (length a.blocks) (length (f.tuned.does.bytes a.blocks)) a.dropped)
    all-heard = rw (w.fits, w.in_range st r, eq-eqb _ _ z, le-leb _ _ enough, w.held st r, e)

    all-reader : feed_all_reader f.tuned (f.tuned.held st) l old ≡ f.tuned.held a.state
    all-reader = rw (w.fits, w.in_range st r, eq-eqb _ _ z, le-leb _ _ enough, w.held st r, e)

    all-out :
        feed_all_out f.tuned (f.tuned.held st) l old
        ≡ f.tuned.does.bytes a.blocks ++ drop (length (f.tuned.does.bytes a.blocks)) old
    all-out = rw (w.fits, w.in_range st r, eq-eqb _ _ z, le-leb _ _ enough, w.held st r, e)

  pub one_by_one :
      (st : S) → Sound st → (old : List ℕ) → f.tuned.does.room ≤ length old → (cs : List (Call f.tuned.does.room))
      → FortyTwo (packets_of cs)
      → (front : List (Call f.tuned.does.room)) × (back : List (Call f.tuned.does.room)) × (cs ≡ front ++ back)
      × AsCalls f (f.tuned.held st) old front back
  one_by_one st r old enough cs e =
      let p = split (length old) (begun st) cs e in
      let n = length-one cs e in
      let bs = after-blocks (begun st) r p.front p.fed in
      let ran : run f.tuned.does (length old) (length (in_one cs) / packet_length) (begun st) (in_one cs) ≡ after (begun st) p.front =
      (let k : length (in_one cs) / packet_length ≡ length cs = omega (arith, n) in rw k p.ran) in
      let k : (after (begun st) p.front).packets ≡ length p.front = after-packets (begun st) p.front ∙ zero-add _ in
      let z : length (in_one cs) % packet_length ≡ 0 = omega (arith, n) in (
        p.front,
        p.back,
        p.whole,
        record {
          heard =
              rw (← p.whole)
              (all-heard st r (in_one cs) old z enough ran ∙ rw (bs, k, after-dropped (begun st) r p.front p.fed));
          reader = rw (← p.whole) (all-reader st r (in_one cs) old z enough ran ∙ after-reader (begun st) r p.front p.fed);
          out = rw (← p.whole) (all-out st r (in_one cs) old z enough ran ∙ rw bs);
          stops = rw bs at p.stops;
        },
      )

  -- ---- calls of `feed` in a row

  comes-append :
      (r : R) (a b : List (Call f.tuned.does.room)) → comes_out f r (a ++ b) ≡ comes_out f r a ++ comes_out f (leaves f r a) b
  unfolding comes_out leaves
  comes-append r [] b = refl
  comes-append r (c ∷ a) b =
      let here = f.blocks (take (written_of (feed_heard f.tuned r c.packet c.lent)) (feed_out f.tuned r c.packet c.lent)) in
      ap (λ (bs : List B). here ++ bs) (comes-append (feed_reader f.tuned r c.packet c.lent) a b) ∙ sym (append_assoc here _ _)

  -- a reader that calls leave: it holds a state in range
  record Left (r : R) : Type 0 where
    state : S
    sound : Sound state
    held : r ≡ f.tuned.held state

  leaves-sound : (st : S) → Sound st → (cs : List (Call f.tuned.does.room)) → FortyTwo (packets_of cs) → Left (leaves f (f.tuned.held st) cs)
  unfolding leaves packets_of
  leaves-sound st r [] e = record { state = st; sound = r; held = refl }
  leaves-sound st r (c ∷ cs) (more l e) =
      rw (call-reader st r c l) (leaves-sound (f.tuned.does.act st c.packet) (w.after st c.packet r) cs e)

  -- what they give is whole records
  comes_back :
      (st : S) → Sound st → (cs : List (Call f.tuned.does.room)) → FortyTwo (packets_of cs)
      → f.blocks (f.tuned.does.bytes (comes_out f (f.tuned.held st) cs)) ≡ comes_out f (f.tuned.held st) cs
  comes_back st r cs e =
      rw (fed-blocks st r cs e) (w.back (each-heard f.tuned.does Sound Whole w.after w.whole st r (packets_of cs)))

  -- ---- a list in one call

  -- calls for the packets that it takes
  record Ones (st : S) (old : List ℕ) (ps : List (List ℕ)) : Type 0 where
    calls : List (Call f.tuned.does.room)
    behind : List (List ℕ)
    whole : ps ≡ packets_of calls ++ behind
    number : number_of_all (feed_all_heard f.tuned (f.tuned.held st) (joined ps) old) ≡ 0
    packets : packets_of_all (feed_all_heard f.tuned (f.tuned.held st) (joined ps) old) ≡ length calls
    gives :
        f.blocks
        (take (written_of_all (feed_all_heard f.tuned (f.tuned.held st) (joined ps) old)) (feed_all_out f.tuned (f.tuned.held st) (joined ps) old))
        ≡ comes_out f (f.tuned.held st) calls
    counts : count_of_all (feed_all_heard f.tuned (f.tuned.held st) (joined ps) old) ≡ length (comes_out f (f.tuned.held st) calls)
    dropped : dropped_of_all (feed_all_heard f.tuned (f.tuned.held st) (joined ps) old) ≡ drops f (f.tuned.held st) calls
    reader : feed_all_reader f.tuned (f.tuned.held st) (joined ps) old ≡ leaves f (f.tuned.held st) calls
    left : Left (leaves f (f.tuned.held st) calls)
    stops : (behind ≡ []) ⊎ (length old < length (f.tuned.does.bytes (comes_out f (f.tuned.held st) calls)) + f.tuned.does.room)

  ones : (st : S) → Sound st → (old : List ℕ) → f.tuned.does.room ≤ length old → {ps : List (List ℕ)} → FortyTwo ps → Ones st old ps
  unfolding packets_of
  ones st r old enough {ps} e = go (one_by_one st r old enough (calls_for ps) (rw (packets_of_calls f.tuned.does.room ps) e))
    where
      go :
          (front : List (Call f.tuned.does.room)) × (back : List (Call f.tuned.does.room)) × (calls_for ps ≡ front ++ back)
          × AsCalls f (f.tuned.held st) old front back → Ones st old ps
      go (front, back, q, a) =
          let all : ps ≡ packets_of (front ++ back) = sym (packets_of_calls f.tuned.does.room ps) ∙ ap packets_of q in
          let bytes : joined ps ≡ in_one (front ++ back) = ap joined all ∙ sym (list-joined (front ++ back)) in
          let whole : ps ≡ packets_of front ++ packets_of back = all ∙ packets-append front back in
          let fed : FortyTwo (packets_of front) = forty_front (packets_of front) (packets_of back) (subst FortyTwo whole e) in
          let there = f.tuned.does.bytes (comes_out f (f.tuned.held st) front) in
          record {
            calls = front;
            behind = packets_of back;
            whole = whole;
            number = rw (bytes, a.heard);
            packets = rw (bytes, a.heard);
            gives =
                rw (bytes, a.heard, a.out)
                (ap f.blocks (take-append_seam there (drop (length there) old)) ∙ comes_back st r front fed);
            counts = rw (bytes, a.heard);
            dropped = rw (bytes, a.heard);
            reader = rw bytes a.reader;
            left = leaves-sound st r front fed;
            stops = ⊎_map (ap packets_of) (λ l. l) a.stops;
          }

  -- with room, and a packet to take, it takes one: so calls that go on where the last one stopped come to an end
  pub moves :
      (st : S) → Sound st → {ps : List (List ℕ)} → FortyTwo ps → 1 ≤ length ps → (old : List ℕ) {h : HeardAll}
      → f.tuned.does.room ≤ length old → h ≡ feed_all_heard f.tuned (f.tuned.held st) (joined ps) old → 1 ≤ packets_of_all h
  unfolding packets_of comes_out
  moves st r {ps} e some old enough said =
      let here = ones st r old enough e in
      let n = ap packets_of_all said ∙ here.packets in
      subst (λ (k : ℕ). 1 ≤ k) (sym n) (go here.calls here.whole here.stops)
    where
      go :
          (cs : List (Call f.tuned.does.room)) {behind : List (List ℕ)} → ps ≡ packets_of cs ++ behind
          → (behind ≡ []) ⊎ (length old < length (f.tuned.does.bytes (comes_out f (f.tuned.held st) cs)) + f.tuned.does.room) → 1 ≤ length cs
      go [] q (inl z) = absurd (omega (arith, ap length (q ∙ z)))
      go [] q (inr l) = absurd (omega (arith, l, ap length w.none))
      go (c ∷ cs) q x = omega arith

  -- what it answers of the records that it writes, and of a block that was dropped
  pub all-tells : TellsAll f Sound (feed_all_heard f.tuned) (feed_all_out f.tuned)
  all-tells =
      record {
        counts = λ st r ps e old enough. let here = ones st r old enough e in here.counts ∙ ap length (sym here.gives);
        dropped =
            λ st r ps e old enough.
            let here = ones st r old enough e in
            let front = packets_of here.calls in
            let taken : front ≡ take (packets_of_all (feed_all_heard f.tuned (f.tuned.held st) (joined ps) old)) ps =
            sym (ap₂ take (here.packets ∙ sym (packets-length here.calls)) here.whole ∙ take-append_seam front here.behind) in
            (here.calls, taken, here.dropped);
      }

  -- ---- any of them

  -- calls of `feed` for the packets of a chain of calls
  pub record AsOnes (st : S) (qs : List (List ℕ)) (numbers : List ℕ) (bs : List B) : Type 0 where
    pub calls : List (Call f.tuned.does.room)
    pub packets : packets_of calls ≡ qs
    pub gives : bs ≡ comes_out f (f.tuned.held st) calls
    pub taken : Each (λ number. number ≡ 0) numbers

  -- calls for the first packets, and then for the rest
  then-ones :
      {st st' : S} (cs : List (Call f.tuned.does.room)) → leaves f (f.tuned.held st) cs ≡ f.tuned.held st'
      → {qs rest : List (List ℕ)} {number : ℕ} {numbers : List ℕ} {a bs : List B} → qs ≡ packets_of cs ++ rest → number ≡ 0
      → a ≡ comes_out f (f.tuned.held st) cs → AsOnes st' rest numbers bs → AsOnes st qs (number ∷ numbers) (a ++ bs)
  then-ones {st} cs e whole zero gives on =
      record {
        calls = cs ++ on.calls;
        packets =
            packets-append cs on.calls ∙ ap (λ (ps : List (List ℕ)). packets_of cs ++ ps) on.packets ∙ sym whole;
        gives =
            ap₂ (λ (a b : List B). a ++ b) gives (on.gives ∙ ap (λ (x : R). comes_out f x on.calls) (sym e))
            ∙ sym (comes-append (f.tuned.held st) cs on.calls);
        taken = and zero on.taken;
      }

  -- the calls as their contracts have them say what the definitions say
  module _ {Feeds : R → List ℕ → List ℕ → Heard → R → List ℕ → Type 0} {FeedsAll : R → List ℕ → List ℕ → HeardAll → R → List ℕ → Type 0}
      (feeds :
      (r after : R) (p old out : List ℕ) (h : Heard) → Feeds r p old h after out
      → (h ≡ feed_heard f.tuned r p old) × (after ≡ feed_reader f.tuned r p old) × (out ≡ feed_out f.tuned r p old))
      (feeds-all :
      (r after : R) (l old out : List ℕ) (h : HeardAll) → FeedsAll r l old h after out
      → (h ≡ feed_all_heard f.tuned r l old) × (after ≡ feed_all_reader f.tuned r l old) × (out ≡ feed_all_out f.tuned r l old)) where
    pub as_ones :
        {r : R} {qs : List (List ℕ)} {numbers : List ℕ} {bs : List B} → Fed f.tuned.does.room f.blocks Feeds FeedsAll r qs numbers bs → (st : S) → Sound st
        → r ≡ f.tuned.held st → FortyTwo qs → AsOnes st qs numbers bs
    unfolding packets_of comes_out leaves
    as_ones end st r e l = record { calls = []; packets = refl; gives = refl; taken = nil }
    as_ones (one {old = old} enough call fed) st r e (more {p = q} l m) =
        let c : Call f.tuned.does.room = record { packet = q; lent = old; enough = enough } in
        let said = rw e at (feeds _ _ _ _ _ _ call) in
        then-ones (c ∷ []) (call-reader st r c l) refl (ap number_of said.0 ∙ call-taken st r c l)
        (ap₂ (λ (x : Heard) (o : List ℕ). f.blocks (take (written_of x) o)) said.0 said.2 ∙ sym (append-nil _))
        (as_ones fed (f.tuned.does.act st q) (w.after st q r) (said.1 ∙ call-reader st r c l) m)
    as_ones (many {old = old} {qs = qs} {h = h} n enough call fed) st r e m =
        let said = rw e at (feeds-all _ _ _ _ _ _ call) in
        let here = ones st r old enough (forty_take n m) in
        let left = here.left in
        then-ones here.calls left.held
        (rest_of n qs here.calls here.behind here.whole
        ∙ ap (λ (k : ℕ). packets_of here.calls ++ drop k qs) (sym (ap packets_of_all said.0 ∙ here.packets)))
        (ap number_of_all said.0 ∙ here.number)
        (ap₂ (λ (x : HeardAll) (o : List ℕ). f.blocks (take (written_of_all x) o)) said.0 said.2 ∙ here.gives)
        (as_ones fed left.state left.sound (said.1 ∙ here.reader ∙ left.held) (forty_drop (packets_of_all h) m))

    -- so every call is accepted, and the blocks are what the packets hand out, in order
    pub fed-heard :
        {r : R} {qs : List (List ℕ)} {numbers : List ℕ} {bs : List B} → Fed f.tuned.does.room f.blocks Feeds FeedsAll r qs numbers bs → (st : S) → Sound st
        → r ≡ f.tuned.held st → FortyTwo qs → Each (λ number. number ≡ 0) numbers × (bs ≡ heard f.tuned.does st qs)
    fed-heard fed st r e l =
        let on = as_ones fed st r e l in
        let long : FortyTwo (packets_of on.calls) = subst FortyTwo (sym on.packets) l in
        (on.taken, on.gives ∙ fed-blocks st r on.calls long ∙ ap (heard f.tuned.does st) on.packets)

-- ---- such calls can be made

module _ {R S B : Type 0} (f : Feeder R S B) {Feeds : R → List ℕ → List ℕ → Heard → R → List ℕ → Type 0}
    {FeedsAll : R → List ℕ → List ℕ → HeardAll → R → List ℕ → Type 0}
    (can : (r : R) (p old : List ℕ) → Feeds r p old (feed_heard f.tuned r p old) (feed_reader f.tuned r p old) (feed_out f.tuned r p old)) where
  pub can_feed_all : (r : R) (qs : List (List ℕ)) → (numbers : List ℕ) × (bs : List B) × Fed f.tuned.does.room f.blocks Feeds FeedsAll r qs numbers bs
  can_feed_all r [] = ([], [], end)
  can_feed_all r (q ∷ qs) =
      let old : List ℕ = replicate f.tuned.does.room 0 in
      let enough : f.tuned.does.room ≤ length old = rw length-replicate (le_refl f.tuned.does.room) in
      let rest = can_feed_all (feed_reader f.tuned r q old) qs in
      (_, _, one enough (can r q old) rest.2)
