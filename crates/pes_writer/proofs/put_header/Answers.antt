-- `pes_writer::put_header` meets its contract: its stores are the header's bytes in order. Assumes nothing.
use borrow.Author.Rules.{rules}
use mathlib.Core.Path.{◌∙◌, refl, ap}
use mathlib.Core.List.{List, ◌++◌}
use Prim.Native.Nat.{ℕ}
use native.Mathlib.Omega.{arith}
use lib.ListN.{set, drop, replicate, length-append, length-drop}
use lib.Seq.{sets}
use Rattle.pes_writer.specs.Writing.{header_of}
use Rattle.pes_writer.proofs.Fills.{filled, front-stored}
use Rattle.pes_writer.proofs.put_header.Goals as goal

pub returns : goal.returns
unfolding header_of
returns c =
    let out = c.args.out.now in
    let front = c.copy_from_slice.ensures.after in
    ap (λ (l : List ℕ). set l 45 c.args.d)
    (filled (c.copy_from_slice.new.self ++ drop 9 out) 9 36 (rw (length-append, length-drop, front) (omega arith)) refl (c.fill.ensures.after (search rules))
    ∙ ap (λ (l : List ℕ). sets l 9 (replicate 36 0xFF)) (front-stored out 9 front refl (omega arith)))
