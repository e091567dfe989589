-- `blocks::frames::head_of` meets its contract: the head's two bytes make its 16 bits. Assumes nothing.
use borrow.Author.Rules.{rules}
use mathlib.Core.Path.{◌≡◌}
use mathlib.Core.List.{List}
use Prim.Native.Nat.{ℕ}
use lib.ListN.{get_or}
use Rattle.blocks.proofs.frames.head_of.Goals as goal

pub returns : goal.returns
returns c =
    let l : List ℕ = c.args.rec.now in
    let e₀ : c.byte_at.result ≡ get_or l 0 0 = c.byte_at.ensures.0 in
    let e₁ : c.byte_at-2.result ≡ get_or l 1 0 = c.byte_at-2.ensures.0 in
    (rw (e₀, e₁), search rules)
