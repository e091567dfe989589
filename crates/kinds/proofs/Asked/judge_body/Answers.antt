-- `kinds::Asked::judge_body` meets its contract: the raw bytes are lent in two parts. Assumes nothing.
use mathlib.Core.Path.{◌∙◌, sym, ap₂}
use mathlib.Core.List.{List, map}
use Prim.Native.Nat.{ℕ}
use native.Mathlib.Omega.{arith}
use lib.ListN.{length, length-drop}
use lib.Seq.{length-take-le}
use Rattle.std.specs.declared.result.Result.TheVariants.{Ok}
use Rattle.laws.proofs.Lists.{part-rest}
use Rattle.answer.specs.Rules.{judged}
use Rattle.answer.specs.Values.{refused}
use Rattle.octet.specs.Decoding.{nib}
use Rattle.kinds.specs.Reading.{one_of}
use Rattle.kinds.specs.Internal.{part_rules}
use Rattle.kinds.proofs.Counting.{cut-control, cut-strings}
use Rattle.kinds.proofs.Asked.judge_body.Goals as goal

pub slice_bounds-judge_parts-end : goal.slice_bounds-judge_parts-end
slice_bounds-judge_parts-end c = sym (length-take-le _ c.args.raw.now c.control_length-length.ensures.2)

pub judge_parts-requires : goal.judge_parts-requires
judge_parts-requires c =
    let n = c.control_length-length in
    let raw : List ℕ = c.args.raw.now in
    rw (length-take-le n.result raw n.ensures.2, part-rest n.result raw, length-drop)
    (n.ensures.1, omega (arith, n.ensures.2, c.well_formed))

pub returns : goal.returns
returns c =
    let raw : List ℕ = c.args.raw.now in
    let n = c.control_length-length in
    let one = cut-control c.args.self.spoken raw n.result c.requires n.ensures.0 in
    let two = part-rest n.result raw ∙ cut-strings c.args.self.spoken raw n.result c.requires n.ensures.0 in
    c.judge_parts.ensures
    ∙ ap₂ (λ (x y : List ℕ). judged refused (part_rules (one_of c.args.self.first c.args.self.second) c.args.self.spoken c.args.head (map nib x) y) (Ok (length x)))
    one two
