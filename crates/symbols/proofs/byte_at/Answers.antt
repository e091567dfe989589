-- `symbols::byte_at` meets its contract: each `return` is one kind of a block's symbols, by its number. Assumes nothing.
use borrow.Author.Rules.{rules}
use mathlib.Core.Path.{◌∙◌, ap}
use Rattle.octet.specs.Image.{image}
use Rattle.symbols.proofs.Sending.{byte-start, byte-bits, byte_raw, byte-fill}
use Rattle.symbols.proofs.byte_at.Goals as goal

pub returns-then-i-eq0 : goal.returns-then-i-eq0
returns-then-i-eq0 c = c.image.ensures ∙ byte-start _ _ c.if-i-eq0.true

pub returns-then-i-lt-LEAD : goal.returns-then-i-lt-LEAD
returns-then-i-lt-LEAD c =
    c.image-then-i-lt-LEAD.ensures ∙ ap image c.nibble.ensures
    ∙ byte-bits _ _ (search rules) (search rules)

pub returns-then-at-next : goal.returns-then-at-next
returns-then-at-next c =
    let a = c.args in
    byte_raw a.records.now a.head a.raw a.next a.i (search rules) (search rules) (search rules)

pub returns : goal.returns
returns c =
    let a = c.args in
    c.image-2.ensures
    ∙ byte-fill a.records.now a.head a.raw a.next a.i (search rules) (search rules) (search rules)
