-- What a reader hands out of packets that are fed to it in order.
use Rattle.std.specs.Prelude.{List, ℕ}
use Rattle.blocks.specs.Block.{Block}
use Rattle.packet.specs.declared.Setting.{Setting}
use Rattle.state.specs.Acting.{State}
use Rattle.reader.specs.Feeding.{does_for}
use Rattle.claims.specs.Rows.{heard}

-- the blocks, packet by packet
unfoldable pub heard_blocks : Setting → State → List (List ℕ) → List Block
unfolding heard
heard_blocks s st qs = heard (does_for s) st qs
