-- What is said of the writer's packets: which stands where, what a pointer names, and what is sent besides blocks.
use Rattle.std.specs.Prelude.{◌≡◌, List, [], ◌∷◌, ◌++◌, ℕ, zero, suc, ◌+◌, ◌*◌, ◌%◌, ◌<◌, get_or, drop, replicate}
use Rattle.blocks.specs.Block.{Block}
use Rattle.packet.specs.declared.Setting.{Setting}
use Rattle.packet.specs.Packet.{packet_zero}
use Rattle.symbols.specs.Stream.{Symbol, start, fill, cell, per_packet, symbols}
use Rattle.writer.specs.Cutting.{data_packet}

-- packet y of page j: packet 0 has n = k and the index j above the first, modulo 16 (SCOPE 11.4); the others go on with the stream where
-- the packets before it stopped
unfoldable pub numbered : Setting → ℕ → ℕ → List Symbol → ℕ → ℕ → List ℕ
numbered s index k ss j zero = packet_zero s ((index + j) % 16) k
numbered s index k ss j (suc w) = data_packet s (suc w) (drop ((j * k + w) * per_packet) ss)

-- what a pointer says: p is the cell of the first start, or 13 and there is none (SCOPE 11.5)
pub data Names (ss : List Symbol) : ℕ → Type 0 where
  first : {p : ℕ} → p < 13 → get_or ss (cell * p) fill ≡ start → ((i : ℕ) → i < cell * p → get_or ss i fill ≡ start → ⊥) → Names ss p
  none : ((i : ℕ) → get_or ss i fill ≡ start → ⊥) → Names ss 13

-- a stream is each block's symbols, with at most two fillers behind each, and nothing else
pub data Laid : List Block → List Symbol → Type 0 where
  end : Laid [] []
  and : {bs : List Block} {ss : List Symbol} (b : Block) (n : ℕ) → n < cell → Laid bs ss → Laid (b ∷ bs) (symbols b ++ (replicate n fill ++ ss))
