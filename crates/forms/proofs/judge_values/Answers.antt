-- `forms::judge_values` meets its contract: each `return` is a value that doesn't fit, and the last is all of them fitting.
-- Assumes nothing.
use mathlib.Core.Path.{◌≡◌, ◌∙◌, sym, ap}
use mathlib.Core.Bool.{true, false}
use mathlib.Core.List.{List}
use Prim.Native.Nat.{ℕ, ◌+◌, ◌-◌, ◌*◌}
use native.Mathlib.Omega.{arith}
use lib.ListN.{length}
use Rattle.std.specs.declared.result.Result.TheVariants.{Ok}
use Rattle.forms.specs.Tables.{bits, fits}
use Rattle.forms.specs.Form.{table_in}
use Rattle.forms.proofs.Measures.{length-form}
use Rattle.forms.proofs.Forms.{in-sendable, out_copyright, out_count, out_loops, out_bits, bits_in, count_room}
use Rattle.forms.proofs.judge_values.Goals as goal
use Rattle.forms.proofs.judge_values.Goals.{then-byte_at-gt1-via-then-byte_at-gt1, then-byte_at-gt1-via-else-byte_at-gt1+then-count-gt63, then-byte_at-gt1-via-else-byte_at-gt1+else-count-gt63+then-not-loops_fit}

pub returns-then-byte_at-gt1 : goal.returns-then-byte_at-gt1
returns-then-byte_at-gt1 c =
    let f : List ℕ = c.args.table.now in
    let e : fits (table_in f) ≡ false =
    elim c.then-byte_at-gt1.branch [
      | then-byte_at-gt1-via-then-byte_at-gt1 w ↦ out_copyright f (omega (arith, c.byte_at.ensures.0, w.if-byte_at-gt1.true))
      | then-byte_at-gt1-via-else-byte_at-gt1+then-count-gt63 w ↦ out_count f (omega (arith, c.byte_at-count.ensures.0, w.if-count-gt63.true))
      | then-byte_at-gt1-via-else-byte_at-gt1+else-count-gt63+then-not-loops_fit w ↦
          out_loops f (sym w.loops_fit.ensures ∙ w.if-not-loops_fit.true)
    ] in
    rw e c.refuse.ensures

pub overflow_sub-bits : goal.overflow_sub-bits
overflow_sub-bits c =
    omega (arith, c.requires, length-form (table_in c.args.table.now))

pub overflow_sub-bits-2 : goal.overflow_sub-bits-2
overflow_sub-bits-2 c =
    omega (arith, count_room c.args.table.now c.requires.1, c.byte_at-count.ensures.0)

pub returns-then-bits-gt-MOST : goal.returns-then-bits-gt-MOST
returns-then-bits-gt-MOST c =
    let f : List ℕ = c.args.table.now in
    let n = c.byte_at-count.ensures.0 in
    let e : fits (table_in f) ≡ false = out_bits f (omega (arith, bits_in f c.requires.1, n)) in
    rw e c.refuse-then-bits-gt-MOST.ensures

pub returns : goal.returns
returns c =
    let f : List ℕ = c.args.table.now in
    let n = c.byte_at-count.ensures.0 in
    let b : 58 + 8 * (length f - 6) - 6 * c.byte_at-count.result ≡ bits (table_in f) =
    ap (λ (x : ℕ). 58 + 8 * (length f - 6) - 6 * x) n ∙ bits_in f c.requires.1 in
    let e : fits (table_in f) ≡ true =
    in-sendable f (λ i. (c.type_inv.table i).fits) c.requires.0 c.requires.3
    (omega (arith, c.byte_at.ensures.0)) (omega (arith, n))
    (sym c.loops_fit.ensures ∙ c.if-not-loops_fit.false) (omega (arith, b)) in
    rw e (ap Ok b)
