-- `dvb_descriptor::judge_bytes` meets its contract: each `return` is the first rule that doesn't hold. Assumes nothing.
use mathlib.Core.Path.{◌≡◌, ◌∙◌, sym, ap}
use mathlib.Core.List.{List}
use Prim.Native.Nat.{ℕ, ◌+◌, ◌/◌, ◌%◌}
use native.Mathlib.Omega.{arith}
use lib.ListN.{length, get_or}
use Rattle.std.specs.declared.result.Result.TheVariants.{Ok}
use Rattle.dvb_descriptor.proofs.Judging.{read-tag, read_count, read_length, read_taken}
use Rattle.dvb_descriptor.proofs.judge_bytes.Goals as goal
use Rattle.dvb_descriptor.proofs.judge_bytes.Goals.{then-byte_at-ne-TAG-via-then-byte_at-ne-TAG, then-byte_at-ne-TAG-via-else-byte_at-ne-TAG+then-long-ne0, then-byte_at-ne-TAG-via-else-byte_at-ne-TAG+else-long-ne0+then-bytes-long}

pub returns-then-byte_at-ne-TAG : goal.returns-then-byte_at-ne-TAG
returns-then-byte_at-ne-TAG c =
    let b : List ℕ = c.args.bytes.now in
    let l = c.byte_at-long in
    let t = c.byte_at in (
      c.refuse.ensures
          ∙ elim c.then-byte_at-ne-TAG.branch [
            | then-byte_at-ne-TAG-via-then-byte_at-ne-TAG w ↦ sym (read-tag b _ (λ e. omega (arith, t.ensures.0, w.if-byte_at-ne-TAG.true)))
            | then-byte_at-ne-TAG-via-else-byte_at-ne-TAG+then-long-ne0 w ↦
                sym
                (read_count b _ (omega (arith, t.ensures.0, w.if-byte_at-ne-TAG.false))
                (λ e. omega (arith, l.ensures.0, w.if-long-ne0.true)))
            | then-byte_at-ne-TAG-via-else-byte_at-ne-TAG+else-long-ne0+then-bytes-long w ↦
                sym
                (read_length b _ (omega (arith, t.ensures.0, w.if-byte_at-ne-TAG.false)) (omega (arith, l.ensures.0, w.if-long-ne0.false))
                (λ e. omega (arith, l.ensures.0, w.if-bytes-long.true)))
          ],
      omega (arith, l.ensures.0, l.ensures.1),
    )

pub returns : goal.returns
returns c =
    let b : List ℕ = c.args.bytes.now in
    let l = c.byte_at-long in
    let t = c.byte_at in
    let h₀ : get_or b 0 0 ≡ 0x56 = omega (arith, t.ensures.0, c.if-byte_at-ne-TAG.false) in
    let h₁ : get_or b 1 0 % 5 ≡ 0 = omega (arith, l.ensures.0, c.if-long-ne0.false) in
    let h₂ : length b ≡ 2 + get_or b 1 0 = omega (arith, l.ensures.0, c.if-bytes-long.false) in
    (ap (λ (x : ℕ). Ok (x / 5)) l.ensures.0 ∙ sym (read_taken b _ h₀ h₁ h₂), omega (arith, l.ensures.0, l.ensures.1))
