-- `pages::headers::judge_zero` meets its contract: what its six bytes say decides. Assumes nothing.
use mathlib.Core.Path.{◌∙◌, sym}
use native.Mathlib.Omega.{arith}
use Rattle.pages.proofs.Headed.{legible-long, page_number, zero_junk, zero-foreign, zero-ours, as-lost, as-foreign, as_many, as-ours}
use Rattle.pages.proofs.headers.judge_zero.Goals as goal

pub returns-then-not-readable : goal.returns-then-not-readable
returns-then-not-readable c =
    let a = c.args in
    as-lost a.page a.last c.shut.ensures (zero_junk a.setting a.packet.now (sym c.if-not-readable.true ∙ c.readable.ensures))

-- ---- the bytes are there

pub bounds-packet-2 : goal.bounds-packet-2
bounds-packet-2 c = omega (arith, legible-long _ (sym c.if-not-readable.false ∙ c.readable.ensures))

pub bounds-packet-3 : goal.bounds-packet-3
bounds-packet-3 c = omega (arith, legible-long _ (sym c.if-not-readable.false ∙ c.readable.ensures))

pub bounds-packet-4 : goal.bounds-packet-4
bounds-packet-4 c = omega (arith, legible-long _ (sym c.if-not-readable.false ∙ c.readable.ensures))

pub bounds-packet-5 : goal.bounds-packet-5
bounds-packet-5 c = omega (arith, legible-long _ (sym c.if-not-readable.false ∙ c.readable.ensures))

pub bounds-packet-6 : goal.bounds-packet-6
bounds-packet-6 c = omega (arith, legible-long _ (sym c.if-not-readable.false ∙ c.readable.ensures))

pub bounds-packet-7 : goal.bounds-packet-7
bounds-packet-7 c = omega (arith, legible-long _ (sym c.if-not-readable.false ∙ c.readable.ensures))

pub overflow_mul-number : goal.overflow_mul-number
overflow_mul-number c = omega (arith, page_number _ (sym c.if-not-readable.false ∙ c.readable.ensures) c.decode.ensures c.decode-2.ensures)

pub overflow_add-number : goal.overflow_add-number
overflow_add-number c = omega (arith, page_number _ (sym c.if-not-readable.false ∙ c.readable.ensures) c.decode.ensures c.decode-2.ensures)

-- ---- whose it is, and what it says

pub returns-then-not-is_ours : goal.returns-then-not-is_ours
returns-then-not-is_ours c =
    let a = c.args in
    as-foreign a.page a.last c.shut-then-not-is_ours.ensures c.is_incomplete.ensures
    (zero-foreign a.setting a.packet.now (sym c.if-not-readable.false ∙ c.readable.ensures) c.decode.ensures c.decode-2.ensures
    c.decode-stream.ensures c.is_ours.ensures c.if-not-is_ours.true)

pub returns-then-n-gt25 : goal.returns-then-n-gt25
returns-then-n-gt25 c =
    let a = c.args in
    as_many a.page a.last c.shut-then-n-gt25.ensures (omega arith)
    (zero-ours a.setting a.packet.now (sym c.if-not-readable.false ∙ c.readable.ensures) c.decode.ensures c.decode-2.ensures
    c.decode-stream.ensures c.is_ours.ensures c.if-not-is_ours.false c.decode-index.ensures c.decode-3.ensures c.decode-4.ensures)

pub returns : goal.returns
returns c =
    let a = c.args in
    as-ours a.page a.last c.is_break.ensures (omega arith)
    (zero-ours a.setting a.packet.now (sym c.if-not-readable.false ∙ c.readable.ensures) c.decode.ensures c.decode-2.ensures
    c.decode-stream.ensures c.is_ours.ensures c.if-not-is_ours.false c.decode-index.ensures c.decode-3.ensures c.decode-4.ensures)
