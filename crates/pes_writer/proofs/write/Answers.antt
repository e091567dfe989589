-- `pes_writer::write` meets its contract: a list is refused as it is judged, else for want of room, or its packet is stored from the front
-- on. Assumes nothing.
use mathlib.Core.Path.{◌≡◌, ◌∙◌, sym, ap}
use mathlib.Core.List.{List}
use native.Mathlib.Omega.{arith}
use Prim.Native.Nat.{ℕ}
use lib.ListN.{length}
use Rattle.std.specs.declared.result.Result.TheVariants.{Ok}
use Rattle.answer.specs.Answer.{Answer}
use Rattle.answer.specs.Rules.{Every, judged}
use Rattle.answer.specs.Values.{refused}
use Rattle.answer.proofs.Handing.{handed}
use Rattle.answer.proofs.Steps.{done_every, done-value}
use Rattle.answer.proofs.Lent.{lent-refused, lent-short, lent-done}
use Rattle.pes_writer.specs.Writing.{write_rules, packet_of}
use Rattle.pes_writer.specs.Internal.{packet_bytes}
use Rattle.pes_writer.proofs.Making.{packet_length_lem, fits-packet}
use Rattle.pes_writer.proofs.write.Goals as goal

-- what is judged to need n bytes passes every rule, and n are its packet's bytes
passed :
    (d : ℕ) (rs : List ℕ) {r : Answer} {n : ℕ} → r ≡ judged refused (write_rules d rs) (Ok (packet_bytes rs)) → r ≡ Ok n
    → Every (write_rules d rs) × (n ≡ length (packet_of d rs))
passed d rs e f =
    let g = sym e ∙ f in
    (done_every (write_rules d rs) _ _ g, done-value (write_rules d rs) _ _ g ∙ sym (packet_length_lem d rs))

pub returns-in_err-need : goal.returns-in_err-need
returns-in_err-need c =
    let d = c.args.data_identifier in
    let rs = c.args.records.now in
    let it = lent-refused (write_rules d rs) (packet_of d rs) c.args.out.now (packet_bytes rs) c.judge_records.ensures c.in_err-need.was in
    record { answer = handed c.from_residual.ensures ∙ it.0; bytes = it.1 }

pub returns-then-out-need : goal.returns-then-out-need
returns-then-out-need c =
    let d = c.args.data_identifier in
    let rs = c.args.records.now in
    let p = passed d rs c.judge_records.ensures c.in_ok-need.was in
    let it =
    lent-short (write_rules d rs) (packet_of d rs) c.args.out.now (packet_bytes rs) c.judge_records.ensures c.in_ok-need.was
    (omega (arith, p.1, c.if-out-need.true)) in
    record { answer = c.refuse.ensures ∙ it.0; bytes = it.1 }

pub put_packet-requires : goal.put_packet-requires
put_packet-requires c =
    let d = c.args.data_identifier in
    let rs = c.args.records.now in
    let p = passed d rs c.judge_records.ensures c.in_ok-need.was in
    (fits-packet d rs p.0, omega (arith, p.1, packet_length_lem d rs))

pub returns : goal.returns
returns c =
    let d = c.args.data_identifier in
    let rs = c.args.records.now in
    let p = passed d rs c.judge_records.ensures c.in_ok-need.was in
    let it =
    lent-done (write_rules d rs) (packet_of d rs) c.args.out.now (packet_bytes rs) c.judge_records.ensures c.in_ok-need.was
    (omega (arith, p.1, c.if-out-need.false)) in
    record { answer = ap Ok p.1 ∙ it.0; bytes = c.put_packet.ensures ∙ it.1 }
