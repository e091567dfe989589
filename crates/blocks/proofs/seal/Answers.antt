-- `blocks::seal` meets its contract: the sum of the control bytes that are there, in its place. Assumes nothing.
use borrow.Author.Rules.{rules}
use mathlib.Core.Path.{◌≡◌, ◌∙◌, ap, ap₂}
use mathlib.Core.List.{List, map}
use Prim.Native.Nat.{ℕ, ◌/◌, ◌%◌}
use lib.ListN.{take, drop, set}
use Rattle.octet.specs.Image.{image}
use Rattle.octet.specs.Decoding.{nib}
use Rattle.fields.specs.Fields.{parts}
use Rattle.blocks.specs.Sums.{checksum}
use Rattle.blocks.specs.Sealing.{sealed}
use Rattle.blocks.proofs.Sealing.{no_room, part-there}
use Rattle.blocks.proofs.seal.Goals as goal

pub returns-then-out-lt-HEAD : goal.returns-then-out-lt-HEAD
returns-then-out-lt-HEAD c = let a = c.args in no_room a.head a.control a.out.now (search rules)

pub returns : goal.returns
unfolding sealed parts
returns c =
    let a = c.args in
    let o : List ℕ = a.out.now in
    let sum : c.checksum-sum.result ≡ checksum a.head (map nib (take a.control (drop 4 o))) =
    c.checksum-sum.ensures ∙ ap (λ (l : List ℕ). checksum a.head (map nib l)) (part-there o a.control _ c.control_end-end.ensures) in
    c.put-2.ensures
    ∙ ap₂ (λ (x : ℕ) (l : List ℕ). set l 5 x) (c.image-2.ensures ∙ ap (λ (s : ℕ). image (s / 16 % 16)) sum)
    (c.put.ensures ∙ ap (λ (x : ℕ). set o 4 x) (c.image.ensures ∙ ap (λ (s : ℕ). image (s % 16)) sum))
