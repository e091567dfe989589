-- The third demand (SCOPE 15.3, 19.6): what comes out of the reader of a list of tables that our writer has cut, with noise on each byte and
-- packets of other magazines between, and the count that each table comes with. One theorem over the number of flips, and its corollaries.
-- Assumes nothing.
use mathlib.Core.Path.{◌≡◌, ◌∙◌, refl, sym, ap, subst}
use mathlib.Core.Bool.{true}
use mathlib.Core.List.{List, [], ◌∷◌, map}
use Prim.Native.Nat.{ℕ, ◌≤◌, ◌<◌}
use native.Mathlib.Omega.{arith}
use lib.ListN.{length, length-map}
use Rattle.laws.specs.Each.{Each}
use Rattle.blocks.specs.Block.{Block}
use Rattle.packet.specs.declared.Setting.{Setting}
use Rattle.packet.specs.Setting.{in_range}
use Rattle.forms.specs.Tables.{Table, fits}
use Rattle.claims.specs.Noise.{Flipped, Aired, Came}
use Rattle.claims.specs.Damage.{Placed, stream_in, sendings, Counted, damaged}
use Rattle.claims.specs.Lists.{Among}
use Rattle.claims.specs.Feeding.{Call, packets_of}
use Rattle.claims.specs.Tables.{sent, sent_damaged, received}
use Rattle.claims.proofs.Losing.{came-exactly, came-among, among-map}
use Rattle.claims.proofs.Mingling.{aired_shared}
use Rattle.claims.proofs.Tables.{table_block, blocks-written}
use Rattle.claims.proofs.Wider.{carried-wider}

-- where there is a block for each thing, the things with the damage of their blocks are those things, all of them
pub damaged_what :
    {A : Type 0} (l : List A) (bs : List Block) (cs : List Placed) → length l ≡ length bs → map (λ c. c.what) (damaged l (sendings bs cs)) ≡ l
unfolding damaged sendings
damaged_what [] bs cs e = refl
damaged_what (a ∷ l) [] cs e = absurd (omega arith)
damaged_what {A} (a ∷ l) (b ∷ bs) cs e = ap (λ (m : List A). a ∷ m) (damaged_what l bs _ (omega arith))

module _ (d : ℕ) (small : d ≤ 2) (s : Setting) (within : in_range s ≡ true) (index k : ℕ) (low : index < 16) (least : 1 ≤ k) (most : k ≤ 25)
    (ts : List Table) (fit : Each (λ t. fits t ≡ true) ts) (calls : List Call) (ours : List (List ℕ))
    (aired : Aired (Flipped d) s (sent s index k ts) ours (packets_of calls)) where
  -- what comes out is tables that were sent, each with the number of bytes of its sending that arrived other than they were sent
  pub carried : Came (2 ≤ d) ◌≡◌ (sent_damaged s k ts ours) (received s calls)
  carried = carried-wider d small s within index k low least most ts fit calls ours (aired_shared aired)

  -- those are the tables that were sent, all of them and no other
  pub all-sent : map (λ c. c.what) (sent_damaged s k ts ours) ≡ ts
  all-sent =
      ap (λ (bs : List Block). map (λ c. c.what) (damaged ts (sendings bs (stream_in k ours)))) (blocks-written s.application fit)
      ∙ damaged_what ts (map (table_block s.application) ts) (stream_in k ours) (sym (length-map ts (table_block s.application)))

  -- with one flip a byte at the most, the list itself comes out, with exactly those counts
  pub exactly : d ≤ 1 → received s calls ≡ sent_damaged s k ts ours
  exactly one = came-exactly (λ a b e. e) (λ x. omega arith) carried

  pub exactly-tables : d ≤ 1 → map (λ c. c.what) (received s calls) ≡ ts
  exactly-tables one = ap (λ (l : List (Counted Table)). map (λ c. c.what) l) (exactly one) ∙ all-sent

  -- up to two: only tables that were sent, in order, each at most once, and each with its own count
  pub never-wrong : Among (received s calls) (sent_damaged s k ts ours)
  never-wrong = came-among (λ a b e. e) carried

  pub never-wrong-tables : Among (map (λ c. c.what) (received s calls)) ts
  never-wrong-tables = subst (Among (map (λ c. c.what) (received s calls))) all-sent (among-map (λ c. c.what) never-wrong)
