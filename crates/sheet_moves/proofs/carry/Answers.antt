-- `sheet_moves::carry` meets its contract: the sheet's rules first, then the numbers, then the size. Assumes nothing.
use mathlib.Core.Path.{◌∙◌, sym}
use Rattle.answer.proofs.Handing.{handed}
use Rattle.sheet_moves.proofs.Carried.{move-bad, move-mended, move-plainly, move-goes-on}
use Rattle.day_sheet.proofs.Counted.{counted-short, counted-as, counted-halfway}
use Rattle.sheet_moves.proofs.carry.Goals as goal

pub none_mended-requires : goal.none_mended-requires
none_mended-requires c =
    let a = c.args in
    counted-halfway a.from a.sheet.now c.count.ensures c.in_ok-held.was

pub returns-then-not-none_mended : goal.returns-then-not-none_mended
returns-then-not-none_mended c =
    let a = c.args in
    let d = move-mended a.from a.to a.sheet.now a.out.now c.count.ensures c.in_ok-held.was (sym c.if-not-none_mended.true ∙ c.none_mended.ensures) in
    record {
      answer = c.refuse.ensures ∙ d.0;
      output = d.1;
    }

pub carry_counted-requires : goal.carry_counted-requires
carry_counted-requires c =
    let a = c.args in
    let counts = c.count.ensures in
    let done = c.in_ok-held.was in (
      move-plainly a.from a.to a.sheet.now a.out.now counts done (sym c.if-not-none_mended.false ∙ c.none_mended.ensures),
      counted-short a.from a.sheet.now counts done,
      counted-as a.from a.sheet.now counts done,
    )

pub returns-in_err-held : goal.returns-in_err-held
returns-in_err-held c =
    let a = c.args in
    let it = move-bad a.from a.to a.sheet.now a.out.now c.count.ensures c.in_err-held.was in
    record { answer = handed c.from_residual.ensures ∙ it.0; output = it.1 }

pub returns : goal.returns
returns c =
    let a = c.args in
    let p = move-goes-on a.from a.to a.sheet.now a.out.now c.count.ensures c.in_ok-held.was (sym c.if-not-none_mended.false ∙ c.none_mended.ensures) in
    let e = c.carry_counted.ensures in
    record {
      answer = e.answer ∙ p.0;
      output = e.output ∙ p.1;
    }
