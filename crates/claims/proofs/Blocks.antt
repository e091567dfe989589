-- Any blocks through the reader's calls: cut by our writer and fed call by call to a fresh reader. What comes out is what was sent, in
-- order, each at most once; with no noise it is exactly what was sent. Over what may become of a byte (R) and whether loss is allowed
-- (L). Assumes nothing.
use mathlib.Core.Path.{◌≡◌, ◌∙◌, refl, sym, ap, ap₂}
use mathlib.Core.Bool.{true}
use mathlib.Core.Logic.{inl}
use mathlib.Core.List.{List, [], ◌∷◌, map}
use Prim.Native.Nat.{ℕ, ◌≤◌, ◌<◌}
use native.Mathlib.Nat.{mod-eq_of_lt}
use native.Mathlib.Omega.{arith}
use lib.Dec.{leb}
use borrow.Author.Tests.{leb-true}
use Rattle.laws.specs.Each.{Each, nil, and}
use Rattle.laws.proofs.Tests.{both_true}
use Rattle.octet.specs.Decoding.{nib}
use Rattle.octet.proofs.Laws.{nib-image}
use Rattle.blocks.specs.Block.{Block, blocks}
use Rattle.packet.specs.declared.Setting.{Setting}
use Rattle.packet.specs.Setting.{in_range}
use Rattle.symbols.specs.Stream.{stream_of}
use Rattle.writer.specs.Cutting.{packets, FortyTwo}
use Rattle.writer.proofs.Counting.{covered}
use Rattle.writer.proofs.Numbering.{packets_forty}
use Rattle.state.specs.State.{reader_of, fresh_state}
use Rattle.state.proofs.Ranging.{sound-fresh}
use Rattle.claims.specs.Noise.{Flipped, Hears, Aired, Came, Fits}
use Rattle.claims.specs.Mingled.{Shared}
use Rattle.claims.specs.Damage.{stream_in, Sending, sendings, landed, unharmed}
use Rattle.claims.specs.Feeding.{Call, packets_of, comes_out}
use Rattle.claims.proofs.Noise.{near}
use Rattle.claims.proofs.Losing.{came-exactly}
use Rattle.claims.proofs.Landing.{Heard, stream-near, sendings-near, landed-clean}
use Rattle.claims.proofs.Carried.{carried_blocks_wider}
use Rattle.claims.proofs.Mingling.{aired_shared, mingled-paired, mingled-long, rightly_long}
use Rattle.claims.proofs.Fed.{fed-blocks}

-- ---- a setting in range

pub record Range (s : Setting) : Type 0 where
  pub page : s.page < 256
  pub stream : s.stream < 16
  pub application : s.application < 32

pub range : (s : Setting) → in_range s ≡ true → Range s
unfolding in_range
range s e =
    let a = both_true (leb 1 s.magazine) _ e in
    let b = both_true (leb s.magazine 8) _ a.1 in
    let c = both_true (leb s.page 255) _ b.1 in
    let d = both_true (leb s.stream 15) _ c.1 in
    record {
      page = omega (arith, leb-true s.page 255 c.0);
      stream = omega (arith, leb-true s.stream 15 d.0);
      application = omega (arith, leb-true s.application 31 d.1);
    }

-- ---- every packet that arrives is 42 bytes long

pub aired_long : {R : ℕ → ℕ → Type 0} {s : Setting} {ps ours qs : List (List ℕ)} → FortyTwo ps → Aired R s ps ours qs → FortyTwo qs
aired_long {R} {s} r a = mingled-long (rightly_long R s) r (aired_shared {k = 0} a)

-- ---- the blocks

-- blocks of which no byte was damaged land as they were sent
pub all-clean : {xs : List Sending} → Each (Heard (λ a b. a ≡ b)) xs → map landed xs ≡ map unharmed xs
all-clean nil = refl
all-clean (and {a = x} n r) = ap₂ (λ (b : Block) (bs : List Block). b ∷ bs) (landed-clean x n) (all-clean r)

module _ (s : Setting) (within : in_range s ≡ true) (index k : ℕ) (low : index < 16) (least : 1 ≤ k) (most : k ≤ 25)
    (records : List ℕ) (fit : Each Fits (blocks records)) (calls : List Call) (ours : List (List ℕ)) where
  -- the blocks of the list, each with its bytes as they arrived
  abbrev pub arrived : List Sending
  arrived = sendings (blocks records) (stream_in k ours)

  -- the blocks of a list of records, cut and fed: each as it landed, or lost where L allows it
  pub carried-calls-wider :
      (R : ℕ → ℕ → Type 0) (L : Type 0) → Hears R L → Shared R s k (packets s index k records) ours (packets_of calls)
      → Came L ◌≡◌ (map landed arrived) (comes_out s (reader_of fresh_state) calls)
  unfolding packets
  carried-calls-wider R L hears shared =
      let r = range s within in
      let long = mingled-long (rightly_long R s) (packets_forty s index k records) shared in
      rw (fed-blocks s within fresh_state sound-fresh calls long)
      (carried_blocks_wider R L hears s r.page r.stream index k low least most fit shared)

  -- with packets of other magazines alone between
  pub carried-calls :
      (R : ℕ → ℕ → Type 0) (L : Type 0) → Hears R L → Aired R s (packets s index k records) ours (packets_of calls)
      → Came L ◌≡◌ (map landed arrived) (comes_out s (reader_of fresh_state) calls)
  carried-calls R L hears aired = carried-calls-wider R L hears (aired_shared aired)

  -- the bytes of each sending that arrived are near to those that were sent
  pub carried-near-wider :
      (R : ℕ → ℕ → Type 0) → Shared R s k (packets s index k records) ours (packets_of calls) → Each (Heard R) arrived
  unfolding packets
  carried-near-wider R shared =
      sendings-near (blocks records) _ (stream_in k ours) (covered (blocks records) k least)
      (stream-near k index _ s (stream_of (blocks records)) (mingled-paired shared))

  pub carried-near :
      (R : ℕ → ℕ → Type 0) → Aired R s (packets s index k records) ours (packets_of calls) → Each (Heard R) arrived
  carried-near R aired = carried-near-wider R (aired_shared aired)

  -- at most one flipped bit in each byte: exactly those blocks as they landed, each with its own 16 bits, its raw bytes as noise left them and
  -- the damage of its start and header as its part
  pub blocks-exactly :
      (d : ℕ) → d ≤ 1 → Aired (Flipped d) s (packets s index k records) ours (packets_of calls)
      → comes_out s (reader_of fresh_state) calls ≡ map landed arrived
  blocks-exactly d one aired =
      came-exactly (λ a b e. e) (λ x. omega arith)
      (carried-calls (Flipped d) (2 ≤ d) (λ n b h f. near d n b (omega arith) h f) aired)

  -- what is written reads back: with no noise, and packets of other magazines between, the blocks that were cut, nothing mended
  pub blocks-back :
      Aired (λ a b. a ≡ b) s (packets s index k records) ours (packets_of calls)
      → comes_out s (reader_of fresh_state) calls ≡ map unharmed arrived
  blocks-back aired =
      came-exactly (λ a b e. e) (λ x. x)
      (carried-calls (λ a b. a ≡ b) ⊥ (λ n b h e. inl (ap nib (sym e) ∙ nib-image n ∙ mod-eq_of_lt h)) aired)
      ∙ all-clean (carried-near (λ a b. a ≡ b) aired)
