-- Tables in each of two streams through our calls and a reader of both, and what is owed of that (SCOPE 27.7). `Calls` says it of one stream.
use Rattle.std.specs.Prelude.{◌≡◌, List, map, ℕ}
use Rattle.laws.specs.Each.{Each}
use Rattle.blocks.specs.Block.{Block, blocks as block_blocks}
use Rattle.packet.specs.declared.two.Streams.{Streams}
use Rattle.pages.specs.declared.two.Whose.{Whose}
use Rattle.pages.specs.Two.{setting_for}
use Rattle.state.specs.declared.two.Readers.{Readers}
use Rattle.state.specs.Two.{TwoState, Handed, readers_of, blocks_for, SoundOfTwo}
use Rattle.forms.specs.Tables.{Table}
use Rattle.claims.specs.Noise.{Came}
use Rattle.claims.specs.Damage.{stream_in, sendings, landed, Counted}
use Rattle.claims.specs.Calls.{Made, MadeWhole, ReadAgain, counted_forms}
use Rattle.claims.specs.CutLine.{HeldBy, LeavesBy, from_there, Resumed}
use Rattle.claims.specs.Two.{StartsTwo, FeedsTwo, FeedsAllTwo, FedOfTwo}
use Rattle.claims.specs.Woven.{cut_for, BothShared}

-- tables go through our calls, in each stream its own, and these forms come out of that stream with their counts; noise does to each byte what R
-- says. Index, packets of a page and tables are each stream's own
pub record ThroughBoth (R : ℕ → ℕ → Type 0) (s : Streams) (index k : Whose → ℕ) (ts : Whose → List Table) (forms : Whose → List (Counted (List ℕ)))
    : Type 0 where
  pub made : (w : Whose) → Made (setting_for w s) (index w) (k w) (ts w)
  -- the packets of both arrive in one row, whole pages of the one between whole pages of the other, and are fed to a fresh reader of two
  pub ours : Whose → List (List ℕ)
  pub arrived : List (List ℕ)
  pub aired : BothShared R s k (λ w. (made w).sent) ours arrived
  pub reader : Readers
  pub starts : StartsTwo reader
  pub numbers : List ℕ
  pub handed : List Handed
  pub fed : FedOfTwo s reader arrived numbers handed
  pub again : (w : Whose) → ReadAgain (setting_for w s).application (ts w) (blocks_for w handed) (forms w)

-- what is owed of them
pub record DeliversBoth {R : ℕ → ℕ → Type 0} {s : Streams} {index k : Whose → ℕ} {ts : Whose → List Table} {forms : Whose → List (Counted (List ℕ))}
    (L : Type 0) (c : ThroughBoth R s index k ts forms) : Type 0 where
  pub made : (w : Whose) → MadeWhole (c.made w)
  -- every packet that arrives is accepted
  pub taken : Each (λ number. number ≡ 0) c.numbers
  -- of each stream each block comes out once and in order as it landed, its second byte too, or is lost where L allows it
  pub blocks :
      (w : Whose) → Came L ◌≡◌ (map landed (sendings (block_blocks (c.made w).records) (stream_in (k w) (c.ours w)))) (blocks_for w c.handed)
  -- and so does each form, with its count
  pub came : (w : Whose) → Came L ◌≡◌ (counted_forms (k w) (ts w) (c.made w).records (c.ours w)) (forms w)

-- readers that hold this state, which is in range, and those that calls leave of others
abbrev pub HeldOfTwo : Readers → TwoState → Type 0
HeldOfTwo = HeldBy SoundOfTwo readers_of

abbrev pub LeavesOfTwo : Readers → Readers → Type 0
LeavesOfTwo = LeavesBy FeedsTwo FeedsAllTwo

-- after a cut line a stream's run goes on from its page j; and the blocks that come of that
abbrev pub ResumedFor : Streams → (Whose → ℕ) → (Whose → ℕ) → (Whose → List ℕ) → (Whose → List (List ℕ)) → List (List ℕ) → Whose → ℕ → Type 0
ResumedFor s index k records ours qs w j = Resumed (setting_for w s) (k w) j (cut_for s index k records w) (ours w) qs

abbrev pub coming_for : Streams → (Whose → ℕ) → (Whose → ℕ) → (Whose → List ℕ) → Whose → ℕ → List Block
coming_for s index k records w j = from_there (setting_for w s) (index w) (k w) j (records w)
