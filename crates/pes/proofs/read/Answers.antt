-- `pes::read` meets its contract: a packet is refused as it is judged, else for want of room, or its records are stored from the
-- front on. Assumes nothing.
use mathlib.Core.Path.{◌≡◌, ◌∙◌, sym, ap}
use mathlib.Core.List.{List}
use native.Mathlib.Omega.{arith}
use Prim.Native.Nat.{ℕ}
use lib.ListN.{length}
use Rattle.std.specs.declared.result.Result.TheVariants.{Ok}
use Rattle.answer.specs.Answer.{Answer}
use Rattle.answer.specs.Rules.{Every, judged}
use Rattle.answer.specs.Values.{refused}
use Rattle.answer.proofs.Handing.{handed}
use Rattle.answer.proofs.Steps.{done_every, done-value}
use Rattle.answer.proofs.Lent.{back-holds, lent-refused, lent-short, lent-done}
use Rattle.pes.specs.Header.{header_rules}
use Rattle.pes.specs.Reading.{read_rules, records_of}
use Rattle.pes.proofs.read.Goals as goal

-- what is judged to need n bytes passes every rule, and n are its records' bytes
passed :
    (pes : List ℕ) {r : Answer} {n : ℕ} → r ≡ judged refused (read_rules pes) (Ok (length (records_of pes))) → r ≡ Ok n
    → Every (read_rules pes) × (n ≡ length (records_of pes))
passed pes e f =
    let d = sym e ∙ f in
    (done_every (read_rules pes) _ _ d, done-value (read_rules pes) _ _ d)

pub returns-in_err-need : goal.returns-in_err-need
returns-in_err-need c =
    let pes = c.args.pes.now in
    let it = lent-refused (read_rules pes) (records_of pes) c.args.out.now (length (records_of pes)) c.judge.ensures c.in_err-need.was in
    record { answer = handed c.from_residual.ensures ∙ it.0; bytes = it.1 }

pub returns-then-out-need : goal.returns-then-out-need
returns-then-out-need c =
    let pes = c.args.pes.now in
    let p = passed pes c.judge.ensures c.in_ok-need.was in
    let it =
    lent-short (read_rules pes) (records_of pes) c.args.out.now (length (records_of pes)) c.judge.ensures c.in_ok-need.was
    (omega (arith, p.1, c.if-out-need.true)) in
    record { answer = c.refuse.ensures ∙ it.0; bytes = it.1 }

pub put_records-requires : goal.put_records-requires
unfolding read_rules
put_records-requires c =
    let p = passed c.args.pes.now c.judge.ensures c.in_ok-need.was in
    (back-holds (header_rules _) _ p.0, omega (arith, p.1))

pub returns : goal.returns
returns c =
    let pes = c.args.pes.now in
    let p = passed pes c.judge.ensures c.in_ok-need.was in
    let it =
    lent-done (read_rules pes) (records_of pes) c.args.out.now (length (records_of pes)) c.judge.ensures c.in_ok-need.was
    (omega (arith, p.1, c.if-out-need.false)) in
    record { answer = ap Ok p.1 ∙ it.0; bytes = c.put_records.ensures ∙ it.1 }
