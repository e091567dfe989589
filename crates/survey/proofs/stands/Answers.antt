-- `survey::stands` meets its contract: there are 42 bytes, and the verdict on them has an index. Assumes nothing.
use mathlib.Core.Path.{◌∙◌, ap}
use borrow.Author.Tests.{lt-leb}
use mathlib.Core.Bool.{not}
use lib.Dec.{eqb}
use lib.ListN.{take}
use Rattle.pages.specs.declared.headers.Verdict.{Verdict}
use Rattle.survey.specs.Either.{see_either}
use Rattle.survey.specs.Fitting.{fits}
use Rattle.survey.specs.Internal.{no_index}
use Rattle.survey.proofs.Fitting.{fits-short}
use Rattle.survey.proofs.Telling.{shaped_in, index-tells}
use Rattle.survey.proofs.stands.Goals as goal

pub returns-else-bytes-ge-PACKET : goal.returns-else-bytes-ge-PACKET
returns-else-bytes-ge-PACKET c = rw (lt-leb _ _ c.if-bytes-ge-PACKET.false) (fits-short _ _ c.if-bytes-ge-PACKET.false)

pub returns-then-bytes-ge-PACKET : goal.returns-then-bytes-ge-PACKET
unfolding fits
returns-then-bytes-ge-PACKET c =
    let a = c.args in
    let p = take 42 a.bytes.now in
    ap (λ (v : Verdict). not (eqb v.index no_index)) c.ask.ensures ∙ index-tells p 0 (see_either a.setting p) (shaped_in a.setting p)
