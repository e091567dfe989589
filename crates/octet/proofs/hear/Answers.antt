-- `octet::hear` meets its contract: one law for each way to hear a byte. Assumes nothing.
use mathlib.Core.Path.{◌∙◌, sym}
use Rattle.octet.proofs.Hearing.{heard_neither, heard-image, heard-mended}
use Rattle.octet.proofs.hear.Goals as goal

pub returns-then-n-eq16 : goal.returns-then-n-eq16
returns-then-n-eq16 c = heard_neither _ _ c.decode-n.ensures c.if-n-eq16.true

pub returns-then-b-image : goal.returns-then-b-image
returns-then-b-image c = heard-image _ _ c.decode-n.ensures c.if-n-eq16.false (c.if-b-image.true ∙ c.image.ensures)

pub returns-else-b-image : goal.returns-else-b-image
returns-else-b-image c =
    heard-mended _ _ c.decode-n.ensures c.if-n-eq16.false (λ h. c.if-b-image.false (h ∙ sym c.image.ensures))
