-- The third demand with more between: besides packets of other magazines anywhere, other pages of our magazine between whole pages of ours,
-- whole or not, rightly sent and with the same noise. One theorem over the number of flips, and its corollaries. Assumes nothing.
use mathlib.Core.Path.{◌≡◌, ◌∙◌, sym, ap, subst}
use mathlib.Core.Bool.{true}
use mathlib.Core.List.{List, map}
use Prim.Native.Nat.{ℕ, ◌≤◌, ◌<◌}
use native.Mathlib.Omega.{arith}
use Rattle.laws.specs.Each.{Each}
use Rattle.blocks.specs.Block.{Block, blocks}
use Rattle.packet.specs.declared.Setting.{Setting}
use Rattle.packet.specs.Setting.{in_range}
use Rattle.writer.specs.Cutting.{FortyTwo}
use Rattle.writer.proofs.Numbering.{packets_forty}
use Rattle.walk.specs.Reading.{room}
use Rattle.state.specs.State.{reader_of, fresh_state}
use Rattle.state.proofs.Ranging.{sound-fresh}
use Rattle.forms.specs.Tables.{Table, fits}
use Rattle.claims.specs.Noise.{Flipped, Hears, Came, Fits}
use Rattle.claims.specs.Mingled.{Shared}
use Rattle.claims.specs.Damage.{stream_in, sendings, landed, damaged}
use Rattle.claims.specs.Lists.{Among}
use Rattle.claims.specs.Carrying.{heard_blocks}
use Rattle.claims.specs.Feeding.{Call, packets_of, comes_out}
use Rattle.claims.specs.Tables.{records_of, sent, sent_damaged, tables_of, received}
use Rattle.claims.proofs.Noise.{near}
use Rattle.claims.proofs.Losing.{came-exactly, came-among}
use Rattle.claims.proofs.Landing.{Heard}
use Rattle.claims.proofs.Mingling.{mingled-long, rightly_long}
use Rattle.claims.proofs.Rows.{calls_for, packets_of_calls}
use Rattle.claims.proofs.Fed.{fed-blocks}
use Rattle.claims.proofs.Blocks.{range, carried-calls-wider, carried-near-wider}
use Rattle.claims.proofs.Tables.{table_block, all_fit, blocks-written, tables-came}

module _ (d : ℕ) (small : d ≤ 2) (s : Setting) (within : in_range s ≡ true) (index k : ℕ) (low : index < 16) (least : 1 ≤ k) (most : k ≤ 25)
    (ts : List Table) (fit : Each (λ t. fits t ≡ true) ts) (calls : List Call) (ours : List (List ℕ))
    (shared : Shared (Flipped d) s k (sent s index k ts) ours (packets_of calls)) where
  -- a flip in each byte is mended, and with two a byte is right or can't be decoded
  hears : Hears (Flipped d) (2 ≤ d)
  hears n b h f = near d n b small h f

  -- what comes out is tables that were sent, each with the number of bytes of its sending that arrived other than they were sent
  pub carried-wider : Came (2 ≤ d) ◌≡◌ (sent_damaged s k ts ours) (received s calls)
  carried-wider =
      let app = s.application in
      let made : blocks (records_of app ts) ≡ map (table_block app) ts = blocks-written app fit in
      let fitting : Each Fits (blocks (records_of app ts)) = subst (Each Fits) (sym made) (all_fit app fit) in
      let c = carried-calls-wider s within index k low least most (records_of app ts) fitting calls ours (Flipped d) (2 ≤ d) hears shared in
      let n = carried-near-wider s within index k low least most (records_of app ts) fitting calls ours (Flipped d) shared in
      subst (λ (bs : List Block). Came (2 ≤ d) ◌≡◌ (damaged ts (sendings bs (stream_in k ours))) (received s calls)) (sym made)
      (tables-came (Flipped d) (2 ≤ d) hears app (range s within).application ts (stream_in k ours) fit
      (subst (λ (bs : List Block). Each (Heard (Flipped d)) (sendings bs (stream_in k ours))) made n)
      (subst (λ (bs : List Block). Came (2 ≤ d) ◌≡◌ (map landed (sendings bs (stream_in k ours))) (comes_out s (reader_of fresh_state) calls)) made c))

  -- with one flip a byte at the most, the list itself comes out, with exactly those counts
  pub exactly-wider : d ≤ 1 → received s calls ≡ sent_damaged s k ts ours
  exactly-wider one = came-exactly (λ a b e. e) (λ x. omega arith) carried-wider

  -- up to two: only tables that were sent, in order, each at most once, and each with its own count
  pub never-wrong-wider : Among (received s calls) (sent_damaged s k ts ours)
  never-wrong-wider = came-among (λ a b e. e) carried-wider

-- the same of what a fresh reader hands out of a list of packets
pub heard_wider :
    (d : ℕ) → d ≤ 2 → (s : Setting) → in_range s ≡ true → (index k : ℕ) → index < 16 → 1 ≤ k → k ≤ 25 → (ts : List Table) → Each (λ t. fits t ≡ true) ts
    → (ours qs : List (List ℕ)) → Shared (Flipped d) s k (sent s index k ts) ours qs
    → Came (2 ≤ d) ◌≡◌ (sent_damaged s k ts ours) (tables_of s.application (heard_blocks s fresh_state qs))
heard_wider d small s within index k low least most ts fit ours qs shared =
    let calls : List Call = calls_for qs in
    let same = packets_of_calls room qs in
    let long = mingled-long (rightly_long (Flipped d) s) (packets_forty s index k (records_of s.application ts)) shared in
    let gives : comes_out s (reader_of fresh_state) calls ≡ heard_blocks s fresh_state qs =
    fed-blocks s within fresh_state sound-fresh calls (subst FortyTwo (sym same) long) ∙ ap (heard_blocks s fresh_state) same in
    subst (λ (bs : List Block). Came (2 ≤ d) ◌≡◌ (sent_damaged s k ts ours) (tables_of s.application bs)) gives
    (carried-wider d small s within index k low least most ts fit calls ours
    (subst (λ (ps : List (List ℕ)). Shared (Flipped d) s k (sent s index k ts) ours ps) (sym same) shared))
