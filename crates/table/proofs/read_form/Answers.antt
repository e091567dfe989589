-- `table::read_form` meets its contract: the frame is judged first, and where it is taken the block behind the head is there.
-- Assumes nothing.
use mathlib.Core.Path.{◌≡◌, ◌∙◌, ap, ap₂}
use mathlib.Core.List.{List, map}
use Prim.Native.Nat.{ℕ, ◌+◌, ◌/◌, ◌≤◌}
use native.Mathlib.Omega.{arith}
use lib.ListN.{length, length-drop}
use Rattle.laws.proofs.Lists.{part-rest}
use Rattle.answer.proofs.Handing.{handed}
use Rattle.answer.specs.Answer.{Answer}
use Rattle.answer.specs.Writing.{answered, after, left}
use Rattle.octet.specs.Decoding.{nib}
use Rattle.fields.specs.Fields.{whole}
use Rattle.forms.specs.Form.{form}
use Rattle.blocks.specs.Block.{head_of, nibbles_of}
use Rattle.table.specs.Control.{table_of}
use Rattle.blocks.specs.Framing.{framing}
use Rattle.table.specs.Internal.{body_rules}
use Rattle.table.specs.Reading.{table_read}
use Rattle.table.proofs.Judging.{same-answered}
use Rattle.blocks.proofs.Framed.{framed}
use Rattle.blocks.proofs.Judging.{head-every, head-value, frame_refused, frame-taken}
use Rattle.table.proofs.read_form.Goals as goal

pub slice_bounds-read_body-count : goal.slice_bounds-read_body-count
slice_bounds-read_body-count c =
    let taken-c : (let r = c.args.rec.now in
    (length r ≡ 4 + head_of r / 32) × (8 ≤ head_of r / 32)) = (let a = c.args in
    let rules = framing a.application a.rec.now in
    let k = framed a.application a.rec.now (head-every rules _ c.judge.ensures c.in_ok-head.was) in
    (k.long, k.eight)) in
    omega (arith, taken-c)

pub read_body-requires : goal.read_body-requires
read_body-requires c =
    let taken-c : (let r = c.args.rec.now in
    (length r ≡ 4 + head_of r / 32) × (8 ≤ head_of r / 32)) = (let a = c.args in
    let rules = framing a.application a.rec.now in
    let k = framed a.application a.rec.now (head-every rules _ c.judge.ensures c.in_ok-head.was) in
    (k.long, k.eight)) in
    rw (part-rest 4 c.args.rec.now, length-drop) (omega (arith, taken-c))

pub returns-in_err-head : goal.returns-in_err-head
returns-in_err-head c =
    let a = c.args in
    let r = a.rec.now in
    let out : List ℕ = a.out.now in
    let same = same-answered a.application r (form (table_read r)) out in
    let p =
    frame_refused (framing a.application r) (head_of r) c.judge.ensures (body_rules (head_of r) (nibbles_of r))
    (form (table_read r)) out c.in_err-head.was in
    record {
      answer = handed c.from_residual.ensures ∙ p.0 ∙ same;
      output = p.1 ∙ ap (λ (x : Answer). after x (form (table_read r)) out) same;
    }

pub returns : goal.returns
unfolding nibbles_of
returns c =
    let a = c.args in
    let r = a.rec.now in
    let j = c.judge.ensures in
    let d = c.in_ok-head.was in
    let h = head-value (framing a.application r) _ j d in
    let out : List ℕ = a.out.now in
    let bytes : List ℕ → List ℕ = λ l. form (table_of (whole 4 (map nib l))) in
    let one =
    ap₂ (λ (k : ℕ) (l : List ℕ). answered (body_rules k (map nib l)) (bytes l) out) h (part-rest 4 r) in
    let all =
    ap₂ (λ (k : ℕ) (l : List ℕ). left (body_rules k (map nib l)) (bytes l) out) h (part-rest 4 r) in
    let two =
    frame-taken (framing a.application r) (head_of r) j (body_rules (head_of r) (nibbles_of r)) (form (table_read r)) out d
    ∙ same-answered a.application r (form (table_read r)) out in record {
      answer = c.read_body.ensures.answer ∙ one ∙ two;
      output = c.read_body.ensures.output ∙ all ∙ ap (λ (x : Answer). after x (form (table_read r)) out) two;
    }

pub slice_bounds-read_body-start : goal.slice_bounds-read_body-start
slice_bounds-read_body-start c =
    let taken-c : (let r = c.args.rec.now in
    (length r ≡ 4 + head_of r / 32) × (8 ≤ head_of r / 32)) = (let a = c.args in
    let rules = framing a.application a.rec.now in
    let k = framed a.application a.rec.now (head-every rules _ c.judge.ensures c.in_ok-head.was) in
    (k.long, k.eight)) in
    omega (arith, taken-c)
