-- Packets taken one after the other, and what a reader's calls answer, hand back and leave of them (SCOPE 3.5, 10.5, 10.6). It is said once, of any
-- reader: what a packet does to its state, and how it holds that. `Feeding` and `Many` take it for one stream, `Two` for two.
use Rattle.std.specs.Prelude.{Bool, false, List, [], ◌∷◌, ◌++◌, ℕ, zero, suc, ◌+◌, ◌%◌, ◌/◌, eqb, leb, length, take, drop}
use Rattle.laws.specs.Pick.{pick, both, either}
use Rattle.answer.specs.Rules.{Rule, rule, judged}
use Rattle.answer.specs.Values.{refusal}
use Rattle.packet.specs.Packet.{packet_length}
use Rattle.reader.specs.Taking.{Heard, HeardAll, took, took_all}
use Rattle.std.specs.declared.result.Result.TheVariants.{Ok, Err}

-- ---- packets one after the other

-- what a packet does to a state, which blocks it finishes, and whether it drops one; the bytes that blocks go out as; and the bytes of output
-- that must be lent for one packet
pub record Does (S B : Type 0) : Type 0 where
  pub act : S → List ℕ → S
  pub handed : S → List ℕ → List B
  pub dropped : S → List ℕ → Bool
  pub bytes : List B → List ℕ
  pub room : ℕ

-- what packets taken one after the other have come to
pub record Ran (S B : Type 0) : Type 0 where
  pub packets : ℕ
  pub state : S
  pub blocks : List B
  pub dropped : Bool

abbrev pub begun : {S B : Type 0} → S → Ran S B
begun st = record { packets = 0; state = st; blocks = []; dropped = false }

-- one packet more
abbrev pub ran_on : {S B : Type 0} → Does S B → Ran S B → List ℕ → Ran S B
ran_on d a p =
    record {
      packets = suc a.packets;
      state = d.act a.state p;
      blocks = a.blocks ++ d.handed a.state p;
      dropped = either a.dropped (d.dropped a.state p);
    }

-- at most n packets from the front of l, into an output so long: each is taken while the room left is enough for one (SCOPE 10.6)
abbrev pub run : {S B : Type 0} → Does S B → ℕ → ℕ → Ran S B → List ℕ → Ran S B
run d long zero a l = a
run d long (suc n) a l =
    pick (leb (length (d.bytes a.blocks) + d.room) long) (run d long n (ran_on d a (take packet_length l)) (drop packet_length l)) a

-- ---- the calls

-- a reader with its setting: what packets do, whether the setting is in range and whether what is held is, the state that is held, and how a
-- state is held
pub record Tuned (R S B : Type 0) : Type 0 where
  pub does : Does S B
  pub fits : Bool
  pub in_range : R → Bool
  pub state : R → S
  pub held : S → R

abbrev pub refused_heard : ℕ → ℕ → Heard
refused_heard number offset = Err (refusal number offset)

abbrev pub refused_all : ℕ → ℕ → HeardAll
refused_all number offset = Err (refusal number offset)

-- 16 for setting, state or what isn't whole packets, and after it 1, whatever the packets are (SCOPE 3.5, 10.6)
abbrev pub rules : {R S B : Type 0} → Tuned R S B → R → Bool → List ℕ → List Rule
rules t r whole old = rule (both t.fits (both (t.in_range r) whole)) 16 0 ∷ rule (leb t.does.room (length old)) 1 0 ∷ []

-- one packet
abbrev pub feed_rules : {R S B : Type 0} → Tuned R S B → R → List ℕ → List ℕ → List Rule
feed_rules t r p old = rules t r (eqb (length p) packet_length) old

-- the bytes of the blocks that it finishes
abbrev pub handed_bytes : {S B : Type 0} → Does S B → S → List ℕ → List ℕ
handed_bytes d st p = d.bytes (d.handed st p)

-- the answer: how many blocks, how many bytes, whether one was dropped (SCOPE 10.5)
abbrev pub feed_heard : {R S B : Type 0} → Tuned R S B → R → List ℕ → List ℕ → Heard
feed_heard t r p old =
    judged refused_heard (feed_rules t r p old)
    (Ok (took (length (t.does.handed (t.state r) p)) (length (handed_bytes t.does (t.state r) p)) (t.does.dropped (t.state r) p)))

-- the reader handed back: a refusal's is equal to the one handed in (SCOPE 3.2)
abbrev pub feed_reader : {R S B : Type 0} → Tuned R S B → R → List ℕ → List ℕ → R
feed_reader t r p old = judged (λ number offset. r) (feed_rules t r p old) (t.held (t.does.act (t.state r) p))

-- the output afterwards
abbrev pub feed_out : {R S B : Type 0} → Tuned R S B → R → List ℕ → List ℕ → List ℕ
feed_out t r p old =
    let bytes = handed_bytes t.does (t.state r) p in
    judged (λ number offset. old) (feed_rules t r p old) (bytes ++ drop (length bytes) old)

-- a list of packets
abbrev pub ran_all : {R S B : Type 0} → Tuned R S B → R → List ℕ → List ℕ → Ran S B
ran_all t r l old = run t.does (length old) (length l / packet_length) (begun (t.state r)) l

abbrev pub feed_all_rules : {R S B : Type 0} → Tuned R S B → R → List ℕ → List ℕ → List Rule
feed_all_rules t r l old = rules t r (eqb (length l % packet_length) 0) old

-- the answer: how many packets, how many blocks, how many bytes, whether a block was dropped
abbrev pub feed_all_heard : {R S B : Type 0} → Tuned R S B → R → List ℕ → List ℕ → HeardAll
feed_all_heard t r l old =
    let a = ran_all t r l old in
    judged refused_all (feed_all_rules t r l old)
    (Ok (took_all a.packets (length a.blocks) (length (t.does.bytes a.blocks)) a.dropped))

abbrev pub feed_all_reader : {R S B : Type 0} → Tuned R S B → R → List ℕ → List ℕ → R
feed_all_reader t r l old = judged (λ number offset. r) (feed_all_rules t r l old) (t.held (ran_all t r l old).state)

abbrev pub feed_all_out : {R S B : Type 0} → Tuned R S B → R → List ℕ → List ℕ → List ℕ
feed_all_out t r l old =
    let bytes = t.does.bytes (ran_all t r l old).blocks in
    judged (λ number offset. old) (feed_all_rules t r l old) (bytes ++ drop (length bytes) old)
