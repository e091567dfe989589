-- `packet::passes_by` meets its contract: whether there is an address, then its magazine. Assumes nothing.
use Rattle.std.proofs.Common.{arith, ◌∙◌}
use borrow.Author.Tests.{lt-leb}
use Rattle.packet.proofs.Addressed.{no_address, an-address}
use Rattle.packet.proofs.passes_by.Goals as goal

pub returns-then-address-le255 : goal.returns-then-address-le255
returns-then-address-le255 c = let a = c.args in an-address a.setting a.address c.if-address-le255.true

pub returns-else-address-le255 : goal.returns-else-address-le255
returns-else-address-le255 c = let a = c.args in lt-leb a.address 255 (omega arith) ∙ no_address a.setting a.address (omega arith)
