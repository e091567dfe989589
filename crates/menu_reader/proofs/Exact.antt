-- Menu reading is exact: a record of bytes is accepted as a menu, with a count of mended bytes, exactly when it says that menu and has that
-- count. Menus are a kind whose format is lawful, and reading is exact for any of them. Assumes nothing.
use mathlib.Core.Path.{◌≡◌}
use mathlib.Core.Logic.{◌↔◌}
use mathlib.Core.List.{List}
use Prim.Native.Nat.{ℕ, ◌≤◌}
use Rattle.laws.specs.Bytes.{Bytes}
use Rattle.answer.specs.Rules.{Every}
use Rattle.blocks.specs.Outcome.{accepted}
use Rattle.kinds.proofs.Exact as Kinds
use Rattle.menu_forms.specs.Menus.{Menu, navigation, menu_sent}
use Rattle.menu_forms.specs.Block.{Says}
use Rattle.menu_forms.proofs.Formats.{owed}
use Rattle.menu_reader.specs.Reading.{mended_control, read_rules, read_menu}

module _ (application : ℕ) (r : List ℕ) (m : Menu) where
  -- what is accepted says the menu, and the count is its own
  pub accepted-says : (c : ℕ) → Bytes r → read_menu application r ≡ accepted m c → Says application r m × (c ≡ mended_control r)
  accepted-says c b = Kinds.accepted-means navigation owed menu_sent application r m c (λ t. b)

  -- and what says a menu is accepted as it
  pub says-accepted : Says application r m → read_menu application r ≡ accepted m (mended_control r)
  says-accepted = Kinds.means-accepted navigation owed menu_sent application r m

  pub reads_exactly : (c : ℕ) → Bytes r → (read_menu application r ≡ accepted m c) ↔ (Says application r m × (c ≡ mended_control r))
  reads_exactly c b = Kinds.reads_exactly navigation owed menu_sent application r m c (λ t. b)

-- a count is at most 5 and twice the greatest control size
pub mended_most_lem : (application : ℕ) (r : List ℕ) → Every (read_rules application r) → mended_control r ≤ 2051
mended_most_lem = Kinds.mended_most_lem navigation owed
