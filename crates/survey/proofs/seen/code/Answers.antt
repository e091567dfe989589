-- `survey::seen::code` meets its contract: what is asked of the packet, in order, and then its number. Assumes nothing.
use mathlib.Core.Path.{◌∙◌, sym}
use native.Mathlib.Omega.{arith}
use Rattle.survey.proofs.Noting.{code-short, code-no-zero, code-broken, code-whole, nibbles}
use Rattle.survey.proofs.seen.code.Goals as goal

pub returns-then-packet-ne-PACKET : goal.returns-then-packet-ne-PACKET
returns-then-packet-ne-PACKET c = code-short _ c.if-packet-ne-PACKET.true

pub returns-then-address-gt7 : goal.returns-then-address-gt7
returns-then-address-gt7 c = code-no-zero c.args.packet.now c.if-packet-ne-PACKET.false c.address-address.ensures c.if-address-gt7.true

pub returns-then-not-are_nibbles : goal.returns-then-not-are_nibbles
returns-then-not-are_nibbles c =
    code-broken c.args.packet.now c.if-packet-ne-PACKET.false c.address-address.ensures (omega arith)
    c.decode-units.ensures c.decode-tens.ensures c.decode-stream.ensures c.are_nibbles.ensures c.if-not-are_nibbles.true

pub overflow_add-result-2 : goal.overflow_add-result-2
overflow_add-result-2 c =
    let n = nibbles c.decode-units.result c.decode-tens.result c.decode-stream.result (sym c.are_nibbles.ensures ∙ c.if-not-are_nibbles.false) in
    omega arith

pub overflow_add-result-3 : goal.overflow_add-result-3
overflow_add-result-3 c =
    let n = nibbles c.decode-units.result c.decode-tens.result c.decode-stream.result (sym c.are_nibbles.ensures ∙ c.if-not-are_nibbles.false) in
    omega arith

pub returns : goal.returns
returns c =
    code-whole c.args.packet.now c.if-packet-ne-PACKET.false c.address-address.ensures (omega arith)
    c.decode-units.ensures c.decode-tens.ensures c.decode-stream.ensures c.are_nibbles.ensures c.if-not-are_nibbles.false
