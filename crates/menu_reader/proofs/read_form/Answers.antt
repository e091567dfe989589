-- `menu_reader::read_form` meets its contract: the block is judged up to its checksum first, and where it is taken its two parts are there.
-- Assumes nothing.
use mathlib.Core.Path.{◌∙◌, ap}
use mathlib.Core.Bool.{true}
use mathlib.Core.List.{List}
use Prim.Native.Nat.{ℕ, ◌/◌}
use native.Mathlib.Omega.{arith}
use lib.ListN.{drop}
use Rattle.answer.proofs.Handing.{handed}
use Rattle.answer.specs.Answer.{Answer}
use Rattle.answer.specs.Writing.{answered, after, left}
use Rattle.blocks.specs.Block.{head_of}
use Rattle.kinds.specs.Reading.{one_of, carried}
use Rattle.kinds.proofs.Taking.{sum-refused, sum-taken, count-in, size-lent, control-lent, strings-lent}
use Rattle.menu_forms.specs.Menus.{NI, navigation}
use Rattle.menu_forms.specs.Form.{form}
use Rattle.menu_reader.specs.Reading.{sent_held, menu_held, menu_read, length_rules}
use Rattle.menu_reader.proofs.read_form.Goals as goal

pub overflow_add-end : goal.overflow_add-end
overflow_add-end c =
    omega (arith, count-in (one_of NI NI) true c.args.application c.args.rec.now c.judge.ensures c.in_ok-length.was, c.well_formed)

pub overflow_sub-rec : goal.overflow_sub-rec
overflow_sub-rec c =
    omega (arith, count-in (one_of NI NI) true c.args.application c.args.rec.now c.judge.ensures c.in_ok-length.was)

pub slice_bounds-read_parts-count-2 : goal.slice_bounds-read_parts-count-2
slice_bounds-read_parts-count-2 c =
    omega (arith, count-in (one_of NI NI) true c.args.application c.args.rec.now c.judge.ensures c.in_ok-length.was)

pub returns-in_err-length : goal.returns-in_err-length
returns-in_err-length c =
    let a = c.args in
    let r : List ℕ = a.rec.now in
    let it = sum-refused (one_of NI NI) true a.application r c.judge.ensures (length_rules (head_of r / 32) (carried navigation (drop 4 r)))
    (form (menu_read (drop 4 r))) a.out.now c.in_err-length.was in
    record { answer = handed c.from_residual.ensures ∙ it.0; output = it.1 }

pub returns : goal.returns
returns c =
    let a = c.args in
    let r : List ℕ = a.rec.now in
    let out : List ℕ = a.out.now in
    let j = c.judge.ensures in
    let e = c.in_ok-length.was in
    let p = c.read_parts.ensures in
    let bytes = form (menu_read (drop 4 r)) in
    let size = size-lent (one_of NI NI) true a.application r j e in
    let one = control-lent (one_of NI NI) true a.application r j e in
    let two = strings-lent (one_of NI NI) true a.application r j e in
    let on = sum-taken (one_of NI NI) true a.application r j (length_rules (head_of r / 32) (carried navigation (drop 4 r))) bytes out e in record {
      answer = p.answer ∙ (λ i. answered (length_rules (size i) (sent_held (one i) (two i))) (form (menu_held (one i) (two i))) out) ∙ on;
      output = p.output
          ∙ (λ i. left (length_rules (size i) (sent_held (one i) (two i))) (form (menu_held (one i) (two i))) out)
          ∙ ap (λ (x : Answer). after x bytes out) on;
    }

pub slice_bounds-read_parts-start-2 : goal.slice_bounds-read_parts-start-2
slice_bounds-read_parts-start-2 c =
    omega (arith, count-in (one_of NI NI) true c.args.application c.args.rec.now c.judge.ensures c.in_ok-length.was)

pub slice_bounds-read_parts-end : goal.slice_bounds-read_parts-end
slice_bounds-read_parts-end c =
    omega (arith, count-in (one_of NI NI) true c.args.application c.args.rec.now c.judge.ensures c.in_ok-length.was)
