-- Two runs of our writer in two streams of one page, fed to a reader of both: of each stream what is said of one stream holds, the third demand and
-- what comes after a cut line. To that stream the mixture is one run with other pages between (`Woven`), and its blocks are those of a reader of it
-- alone (`Beside`). Assumes nothing.
use mathlib.Core.Path.{◌≡◌}
use mathlib.Core.Bool.{true}
use mathlib.Core.List.{List, map}
use Prim.Native.Nat.{ℕ, ◌≤◌, ◌<◌}
use Rattle.laws.specs.Each.{Each}
use Rattle.blocks.specs.Block.{blocks}
use Rattle.packet.specs.declared.two.Streams.{Streams}
use Rattle.packet.specs.Two.{in_range_of_two}
use Rattle.writer.specs.Cutting.{packets}
use Rattle.pages.specs.declared.two.Whose.{Whose}
use Rattle.pages.specs.Two.{setting_for}
use Rattle.state.specs.Two.{TwoState, state_for, fresh_of_two, blocks_for}
use Rattle.forms.specs.Tables.{Table, fits}
use Rattle.claims.specs.Noise.{Flipped, Hears, Came, Fits}
use Rattle.claims.specs.Damage.{stream_in, sendings, landed}
use Rattle.claims.specs.Tables.{records_of, sent, sent_damaged, tables_of}
use Rattle.claims.specs.CutLine.{from_page, from_there, Resumed, Behind}
use Rattle.claims.specs.Two.{heard_by_two}
use Rattle.claims.specs.Woven.{cut_for, BothShared, BothClean}
use Rattle.claims.proofs.Blocks.{range}
use Rattle.claims.proofs.Carried.{carried_blocks_wider}
use Rattle.claims.proofs.Wider.{heard_wider}
use Rattle.claims.proofs.CutLine.{after-cut-line}
use Rattle.claims.proofs.Beside.{each-in-range, heard_beside, fresh_beside}
use Rattle.claims.proofs.Woven.{each_shared, each-resumed}

module _ (s : Streams) (within : in_range_of_two s ≡ true) (index k : Whose → ℕ) (low : (w : Whose) → index w < 16) (least : (w : Whose) → 1 ≤ k w)
    (most : (w : Whose) → k w ≤ 25) where
  module _ (records : Whose → List ℕ) (fit : (w : Whose) → Each Fits (blocks (records w))) (ours : Whose → List (List ℕ)) (qs : List (List ℕ)) where
    -- each block of a stream as it landed, or lost where L allows it
    pub each-landed :
        (R : ℕ → ℕ → Type 0) (L : Type 0) → Hears R L → BothShared R s k (cut_for s index k records) ours qs
        → (w : Whose) → Came L ◌≡◌ (map landed (sendings (blocks (records w)) (stream_in (k w) (ours w)))) (blocks_for w (heard_by_two s fresh_of_two qs))
    unfolding packets
    each-landed R L hears shared w =
        let one = setting_for w s in
        let r = range one (each-in-range s within w) in
        rw (fresh_beside s within w qs)
        (carried_blocks_wider R L hears one r.page r.stream (index w) (k w) (low w) (least w) (most w) (fit w)
        (each_shared s within k most index low records R ours shared w))

    -- from any state, of one stream whatever the other does: where its run goes on, undamaged, behind readable packets alone
    pub each-after-cut-line :
        (st : TwoState) (w : Whose) (j : ℕ) → Resumed (setting_for w s) (k w) j (cut_for s index k records w) (ours w) qs
        → Behind (state_for w st).mode (from_there (setting_for w s) (index w) (k w) j (records w)) (blocks_for w (heard_by_two s st qs))
    each-after-cut-line st w j resumed =
        rw (heard_beside s within w st qs)
        (after-cut-line (setting_for w s) (each-in-range s within w) (index w) (k w) (low w) (least w) (most w) (records w) (fit w) j (ours w) qs resumed
        (state_for w st))

    -- so of both, where both runs go on
    pub both-after-cut-line :
        (st : TwoState) (j : Whose → ℕ) → BothClean s k (λ w. from_page (k w) (j w) (cut_for s index k records w)) ours qs
        → (w : Whose) → Behind (state_for w st).mode (from_there (setting_for w s) (index w) (k w) (j w) (records w)) (blocks_for w (heard_by_two s st qs))
    both-after-cut-line st j clean w = each-after-cut-line st w (j w) (each-resumed s within k most index low records j ours clean w)

  -- each table of a stream with the number of bytes of its sending that arrived other than they were sent, or lost with two flips
  pub each-carried :
      (d : ℕ) → d ≤ 2 → (ts : Whose → List Table) → ((w : Whose) → Each (λ t. fits t ≡ true) (ts w)) → (ours : Whose → List (List ℕ)) (qs : List (List ℕ))
      → BothShared (Flipped d) s k (λ w. sent (setting_for w s) (index w) (k w) (ts w)) ours qs
      → (w : Whose)
      → Came (2 ≤ d) ◌≡◌ (sent_damaged (setting_for w s) (k w) (ts w) (ours w)) (tables_of (setting_for w s).application (blocks_for w (heard_by_two s fresh_of_two qs)))
  each-carried d small ts fit ours qs shared w =
      rw (fresh_beside s within w qs)
      (heard_wider d small (setting_for w s) (each-in-range s within w) (index w) (k w) (low w) (least w) (most w) (ts w) (fit w) (ours w) qs
      (each_shared s within k most index low (λ w. records_of (setting_for w s).application (ts w)) (Flipped d) ours shared w))
