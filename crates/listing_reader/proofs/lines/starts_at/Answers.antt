-- `listing_reader::lines::starts_at` meets its contract: past the end nothing stands; otherwise the rest begins with it. Assumes nothing.
use mathlib.Core.Path.{◌∙◌, sym}
use native.Mathlib.Omega.{arith}
use Rattle.std.proofs.Common.{inl, inr}
use Prim.Native.Nat.{◌≤◌}
use lib.ListN.{length, drop_of_length-le}
use Rattle.listing_reader.proofs.Matching.{begins-none}
use Rattle.listing_reader.proofs.lines.starts_at.Goals as goal

pub returns-in-None : goal.returns-in-None
returns-in-None c =
    let a = c.args in
    let past : length a.sheet.now ≤ a.at =
    elim c.in-None.ensures.lookup.0 [ inl h ↦ omega arith | inr h ↦ omega arith ] in
    c.is_empty.ensures ∙ rw (drop_of_length-le a.sheet.now {i = a.at} past) (sym (begins-none a.text.now))
