-- `sheet_joins::adding::add` meets its contract: the form's rules first, then those of joining with the entry's text. Assumes nothing.
use borrow.Author.Rules.{rules}
use mathlib.Core.Path.{◌∙◌, ap}
use mathlib.Core.List.{List}
use Prim.Native.Nat.{ℕ, ◌≤◌}
use native.Mathlib.Omega.{arith}
use lib.ListN.{length, replicate, length-replicate}
use Rattle.answer.proofs.Handing.{handed}
use Rattle.answer.specs.Writing.{answered, left}
use Rattle.sheet_entry.specs.Entries.{stamp_most, entry_text}
use Rattle.sheet_entry.specs.Writing.{stamped}
use Rattle.sheet_entry.specs.Internal.{entry_most, entry_room}
use Rattle.sheet_entry.proofs.Spelling.{entry_most_lem, entry_answers}
use Rattle.day_sheet.specs.Entries.{sheet_text, byte_limit}
use Rattle.sheet_joins.specs.Calls.{join_rules, join_result}
use Rattle.day_sheet.proofs.Limits.{entry-within, entry-held}
use Rattle.sheet_joins.proofs.Added.{all_held, add-answers, add-leaves, add-refused, add-goes-on}
use Rattle.sheet_joins.proofs.adding.add.Goals as goal

pub slice_bounds-text-end : goal.slice_bounds-text-end
slice_bounds-text-end c =
    let w = c.write_entry in
    (all_held c.args.form c.args.mended c.args.table.now (entry_text c.args.form (stamped c.args.stamp c.args.mended c.args.table.now)) (replicate entry_room 0) w.ensures.answer c.in_ok-n.was w.ensures.output).3

pub slice_bounds-join-end : goal.slice_bounds-join-end
slice_bounds-join-end c =
    let w = c.write_entry in
    (all_held c.args.form c.args.mended c.args.table.now (entry_text c.args.form (stamped c.args.stamp c.args.mended c.args.table.now)) (replicate entry_room 0) w.ensures.answer c.in_ok-n.was w.ensures.output).2

pub returns-in_err-n : goal.returns-in_err-n
returns-in_err-n c =
    let a = c.args in
    let h : a.stamp ≤ stamp_most = search rules in
    let l = length-replicate {A = ℕ} entry_room 0 in
    let w = c.write_entry in
    let room : entry_most a.form ≤ length {A = ℕ} (replicate entry_room 0) = omega (arith, entry-held a.form) in
    let it = add-refused a.form a.stamp a.mended a.sheet.now a.table.now a.out.now _
    (w.ensures.answer ∙ entry_answers a.form a.stamp a.mended a.table.now (replicate entry_room 0) h room) c.in_err-n.was in
    record { answer = handed c.from_residual.ensures ∙ it.0; output = it.1 }

pub returns : goal.returns
returns c =
    let sheet : List ℕ = c.args.sheet.now in
    let f : List ℕ = c.args.table.now in
    let old : List ℕ = c.args.out.now in
    let h : c.args.stamp ≤ stamp_most = search rules in
    let w = c.write_entry in
    let k = all_held c.args.form c.args.mended c.args.table.now (entry_text c.args.form (stamped c.args.stamp c.args.mended c.args.table.now)) (replicate entry_room 0) w.ensures.answer c.in_ok-n.was w.ensures.output in
    let l = length-replicate {A = ℕ} entry_room 0 in
    let room : entry_most c.args.form ≤ length {A = ℕ} (replicate entry_room 0) = omega (arith, entry-held c.args.form) in
    let long : length (entry_text c.args.form (stamped c.args.stamp c.args.mended f)) ≤ byte_limit c.args.form =
    omega (arith, entry_most_lem c.args.form c.args.stamp c.args.mended f h k.0.1 k.0.0, entry-within c.args.form) in
    let p =
    add-goes-on c.args.form c.args.stamp c.args.mended sheet f old _ (w.ensures.answer ∙ entry_answers c.args.form c.args.stamp c.args.mended f (replicate entry_room 0) h room) c.in_ok-n.was in
    let e = c.join.ensures in record {
      answer = e.answer
          ∙ ap (λ (x : List ℕ). answered (join_rules c.args.form sheet x) (sheet_text c.args.form (join_result c.args.form sheet x)) old) k.1
          ∙ add-answers c.args.form c.args.stamp c.args.mended sheet f h k.0 long old ∙ p.0;
      output = e.output
          ∙ ap (λ (x : List ℕ). left (join_rules c.args.form sheet x) (sheet_text c.args.form (join_result c.args.form sheet x)) old) k.1
          ∙ add-leaves c.args.form c.args.stamp c.args.mended sheet f h k.0 long old ∙ p.1;
    }
