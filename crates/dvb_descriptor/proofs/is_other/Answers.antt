-- `dvb_descriptor::is_other` meets its contract: an opening, a number of this edition, another kind. Assumes nothing.
use borrow.Author.Rules.{rules}
use mathlib.Core.Path.{◌∙◌, sym}
use mathlib.Core.List.{List}
use Prim.Native.Nat.{ℕ}
use borrow.Author.Tests.{lt-leb}
use Rattle.std.proofs.Common.{true≢false}
use Rattle.dvb_descriptor.proofs.Judging.{number_in, other-short, other-edition, other-kind}
use Rattle.dvb_descriptor.proofs.is_other.Goals as goal
use Rattle.dvb_descriptor.proofs.is_other.Goals.{then-table-ge-OPENING, else-table-ge-OPENING}

pub returns-then-numbered : goal.returns-then-numbered
returns-then-numbered c =
    let f : List ℕ = c.args.table.now in
    elim c.if-table-ge-OPENING.branch [
      | then-table-ge-OPENING w ↦
          let a = w.byte_at in
          let b = w.byte_at-then-table-ge-OPENING in
          let e = number_in f a.result b.result a.ensures.0 b.ensures.0 a.ensures.1 b.ensures.1 in
          rw c.byte_at-then-numbered.ensures.0
          (other-kind f (search rules) (sym e ∙ sym w.numbered.ensures ∙ sym w.value-is ∙ c.if-numbered.true))
      | else-table-ge-OPENING w ↦ absurd (true≢false (sym c.if-numbered.true ∙ w.value-is ∙ lt-leb 6 _ (search rules)))
    ]

pub returns-else-numbered : goal.returns-else-numbered
returns-else-numbered c =
    let f : List ℕ = c.args.table.now in
    c.if-numbered.false
    ∙ elim c.if-table-ge-OPENING.branch [
      | then-table-ge-OPENING w ↦
          let a = w.byte_at in
          let b = w.byte_at-then-table-ge-OPENING in
          let e = number_in f a.result b.result a.ensures.0 b.ensures.0 a.ensures.1 b.ensures.1 in
          other-edition f (search rules) (sym e ∙ sym w.numbered.ensures ∙ sym w.value-is ∙ c.if-numbered.false)
      | else-table-ge-OPENING w ↦ other-short f (search rules)
    ]
