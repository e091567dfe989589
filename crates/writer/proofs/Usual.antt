-- Pages where a number is named, and where none is (SCOPE 7.6): a call that names 25 gives what a call that named none gave while a page
-- had 25 packets then, and a call that names none gives what one that names 20 gives. Assumes nothing.
use mathlib.Core.Path.{◌≡◌}
use mathlib.Core.List.{List}
use Prim.Native.Nat.{ℕ}
use Rattle.answer.specs.Answer.{Answer}
use Rattle.answer.specs.Writing.{answered, left}
use Rattle.packet.specs.declared.Setting.{Setting}
use Rattle.writer.specs.Cutting.{cut_bytes, cut_rules}
use Rattle.writer.proofs.cut.Reads as cut
use Rattle.writer.proofs.cut_pages.Reads as cut-pages

-- what a call of the writer gives for pages of k packets: the answer, and the lent output afterwards
abbrev pub Gives : ℕ → Setting → ℕ → List ℕ → List ℕ → Answer → List ℕ → Type 0
Gives k s index records old x out =
    (x ≡ answered (cut_rules s index k records) (cut_bytes s index k records) old)
    × (out ≡ left (cut_rules s index k records) (cut_bytes s index k records) old)

-- where 25 is named, what `cut` gave while that was the usual page
pub as_before :
    (κs : _) (a : _) (x : _) (t : _) → cut-pages.Post κs a x t → a.1.1.0 ≡ 25
    → Gives 25 a.0 a.1.0 a.1.1.1.0.now a.1.1.1.1.0.now x t.1.1.1.1.0.now
as_before κs a x t p e = rw e at p

-- where none is named, 20
pub none_named :
    (κs : _) (a : _) (x : _) (t : _) → cut.Post κs a x t
    → Gives 20 a.0 a.1.0 a.1.1.0.now a.1.1.1.0.now x t.1.1.1.0.now
none_named κs a x t p = p
