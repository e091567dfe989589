-- `menu_writer::putting::put_fill` meets its contract: a nibble where the number is even, else nothing. Assumes nothing.
use borrow.Author.Rules.{rules}
use mathlib.Core.Path.{◌∙◌, sym, ap}
use mathlib.Core.List.{List}
use Prim.Native.Nat.{ℕ, ◌+◌}
use native.Mathlib.Nat.{add-zero}
use lib.ListN.{length}
use lib.Seq.{sets}
use Rattle.fields.proofs.Inking.{run-inked}
use Rattle.menu_writer.proofs.Entries.{sent-length}
use Rattle.menu_writer.proofs.Wholes.{even_fill, odd-fill}
use Rattle.menu_writer.proofs.putting.put_fill.Goals as goal

pub returns-then-descriptors-eq0 : goal.returns-then-descriptors-eq0
returns-then-descriptors-eq0 c =
    let a = c.args in
    let s = even_fill a.descriptors c.if-descriptors-eq0.true in (
      sym (ap (λ (l : List ℕ). a.to + length l) s ∙ ap (λ (k : ℕ). a.to + k) (sent-length 1 0)),
      search rules,
      c.put_field.ensures ∙ run-inked _ 1 _ _ ∙ ap (λ (l : List ℕ). sets a.out.now a.to l) (sym s),
    )

pub returns : goal.returns
returns c =
    let a = c.args in
    let s = odd-fill a.descriptors c.if-descriptors-eq0.false in (
      sym (ap (λ (l : List ℕ). a.to + length l) s ∙ add-zero a.to),
      search rules,
      sym (ap (λ (l : List ℕ). sets a.out.now a.to l) s),
    )
