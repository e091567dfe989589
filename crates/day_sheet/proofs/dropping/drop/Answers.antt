-- `day_sheet::dropping::drop` meets its contract: the sheet's rules first, then those of what is left. Assumes nothing.
use borrow.Author.Rules.{rules}
use mathlib.Core.Path.{◌∙◌, ap}
use Prim.Native.Nat.{ℕ}
use Rattle.answer.proofs.Handing.{handed}
use Rattle.answer.specs.Writing.{answered, left}
use Rattle.day_sheet.specs.Entries.{sheet_text}
use Rattle.day_sheet.specs.Calls.{limited, entries_of}
use Rattle.day_sheet.specs.Internal.{without_key}
use Rattle.day_sheet.proofs.Counted.{counted-short, counted-as, counted-halfway}
use Rattle.day_sheet.proofs.Asked.{drop-bad, drop-goes-on}
use Rattle.day_sheet.proofs.dropping.drop.Goals as goal

pub drop_key-requires : goal.drop_key-requires
drop_key-requires c =
    let counts = c.count.ensures in
    let done = c.in_ok-held.was in
    let form = c.args.form in
    let sheet = c.args.sheet.now in
    (counted-halfway form sheet counts done, counted-short form sheet counts done, counted-as form sheet counts done)

pub returns-in_err-held : goal.returns-in_err-held
returns-in_err-held c =
    let it = drop-bad c.args.form c.args.network c.args.kind c.args.block (search rules) c.args.sheet.now c.args.out.now c.count.ensures c.in_err-held.was in
    record { answer = handed c.from_residual.ensures ∙ it.0; output = it.1 }

pub returns : goal.returns
returns c =
    let p = drop-goes-on c.args.form c.args.network c.args.kind c.args.block (search rules) c.args.sheet.now c.args.out.now c.count.ensures c.in_ok-held.was in
    let es = entries_of c.args.form c.args.sheet.now in
    let key = c.key_asked-key.ensures in
    let e = c.drop_key.ensures in record {
      answer = e.answer ∙ ap (λ (k : ℕ). answered (limited c.args.form (without_key k es)) (sheet_text c.args.form (without_key k es)) c.args.out.now) key ∙ p.0;
      output = e.output ∙ ap (λ (k : ℕ). left (limited c.args.form (without_key k es)) (sheet_text c.args.form (without_key k es)) c.args.out.now) key ∙ p.1;
    }
