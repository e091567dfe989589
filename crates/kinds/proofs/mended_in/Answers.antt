-- `kinds::mended_in` meets its contract: the record is lent up to its last control byte. Assumes nothing.
use mathlib.Core.Path.{◌∙◌, sym, ap}
use mathlib.Core.List.{List}
use Prim.Native.Nat.{ℕ, ◌+◌}
use native.Mathlib.Omega.{arith}
use lib.ListN.{length, length-drop}
use lib.Seq.{length-take-le}
use Rattle.laws.proofs.Lists.{part-rest}
use Rattle.kinds.specs.Reading.{control_part}
use Rattle.kinds.proofs.Mending.{mended-silent, mended-short, mended-part}
use Rattle.kinds.proofs.mended_in.Goals as goal
use Rattle.kinds.proofs.mended_in.Goals.{then-not-spoken-via-then-not-spoken, then-not-spoken-via-else-not-spoken+then-rec}

pub returns-then-not-spoken : goal.returns-then-not-spoken
returns-then-not-spoken c =
    let a = c.args in
    elim c.then-not-spoken.branch [
      | then-not-spoken-via-then-not-spoken w ↦ c.mended_in.ensures ∙ mended-silent a.spoken a.rec.now w.if-not-spoken.true
      | then-not-spoken-via-else-not-spoken+then-rec w ↦ c.mended_in.ensures ∙ mended-short a.spoken a.rec.now w.if-not-spoken.false w.if-rec.true
    ]

pub slice_bounds-mended_in-end : goal.slice_bounds-mended_in-end
slice_bounds-mended_in-end c =
    let r : List ℕ = c.args.rec.now in
    let n = c.control_length-end in
    let most = rw (part-rest 4 r) at n.ensures.2 in
    sym (length-take-le (4 + n.result) r (omega (arith, most, length-drop 4 r, c.if-rec.false)))

pub returns : goal.returns
returns c =
    let a = c.args in
    let r : List ℕ = a.rec.now in
    let n = c.control_length-end in
    let count = n.ensures.0 ∙ ap (λ (l : List ℕ). length (control_part a.spoken l)) (part-rest 4 r) in
    c.mended_in-2.ensures ∙ mended-part a.spoken r n.result c.if-rec.false count
