-- The rules of the listing before the room, judged. Assumes nothing.
use mathlib.Core.Path.{◌≡◌}
use mathlib.Core.Bool.{true, false}
use mathlib.Core.List.{List, []}
use Prim.Native.Nat.{ℕ, ◌≤◌, ◌<◌}
use borrow.Author.Tests.{lt-ltb, le-ltb, leb-true}
use lib.Dec.{leb}
use Rattle.std.specs.declared.result.Result.TheVariants.{Ok}
use Rattle.laws.proofs.Tests.{both_first}
use Rattle.answer.specs.Rules.{judged}
use Rattle.answer.specs.Values.{refused}
use Rattle.answer.specs.Writing.{answered, left}
use Rattle.blocks.specs.Block.{whole}
use Rattle.menu_listing.specs.Listing.{are_levels, levels_rules}
use Rattle.menu_listing.specs.Kept.{kept_rules}

module _ (application levels : ℕ) (records : List ℕ) where
  pub listed-16 : 32 ≤ application → judged refused (levels_rules application levels records) (Ok 0) ≡ refused 16 0
  listed-16 h = rw (le-ltb application 32 h)

  pub levels-16 :
      application < 32 → are_levels levels ≡ false → judged refused (levels_rules application levels records) (Ok 0) ≡ refused 16 0
  levels-16 h n = rw (lt-ltb application 32 h, n)

  pub listed-13 :
      application < 32 → are_levels levels ≡ true → whole records ≡ false
      → judged refused (levels_rules application levels records) (Ok 0) ≡ refused 13 0
  listed-13 h n w = rw (lt-ltb application 32 h, n, w)

  -- where they hold the room decides
  pub listed :
      application < 32 → are_levels levels ≡ true → whole records ≡ true → (text old : List ℕ)
      → (answered [] text old ≡ answered (levels_rules application levels records) text old)
      × (left [] text old ≡ left (levels_rules application levels records) text old)
  listed h n w text old = (rw (lt-ltb application 32 h, n, w), rw (lt-ltb application 32 h, n, w))

module _ (levels : ℕ) (text old : List ℕ) where
  pub kept-16 : are_levels levels ≡ false → (refused 16 0 ≡ answered (kept_rules levels) text old) × (old ≡ left (kept_rules levels) text old)
  kept-16 n = (rw n, rw n)

  pub kept :
      are_levels levels ≡ true → (answered [] text old ≡ answered (kept_rules levels) text old) × (left [] text old ≡ left (kept_rules levels) text old)
  kept n = (rw n, rw n)

-- one level at least
pub some_level : (levels : ℕ) → are_levels levels ≡ true → 1 ≤ levels
some_level levels h = leb-true 1 levels (both_first (leb 1 levels) _ h)
