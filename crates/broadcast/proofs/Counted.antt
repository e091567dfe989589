-- A record has a kind by the tests in their order, and counts as that kind where reading accepts it. Assumes nothing.
use mathlib.Core.Path.{◌≡◌}
use mathlib.Core.Bool.{true, false}
use mathlib.Core.List.{List}
use Prim.Native.Nat.{ℕ, ◌+◌, ◌≤◌}
use native.Mathlib.Omega.{arith}
use borrow.Author.Tests.{eq-eqb, ne_eqb, leb-true, eqb-true}
use lib.Dec.{eqb, ltb}
use lib.ListN.{length, drop}
use Rattle.laws.proofs.Tests.{both_first, both-second}
use Rattle.blocks.specs.Block.{head_length, head_of, application_of, size_of, record_length}
use Rattle.forms.specs.Kinds.{known}
use Rattle.menu_forms.specs.Menus.{NI}
use Rattle.table.specs.Reading.{read_rules as table_rules}
use Rattle.menu_reader.specs.Reading.{read_rules as menu_rules}
use Rattle.information.specs.Reading.{read_rules as information_rules}
use Rattle.broadcast.specs.Counting.{AI, holding, has_kind, kind_of, is_read, unseen, seen}
use Rattle.broadcast.specs.Internal.{network_in}
use Rattle.broadcast.proofs.Networks.{network-read}

module _ (application : ℕ) (r : List ℕ) where
  -- a record with a kind has its head, and eight bytes behind it
  pub kind-long : has_kind application r ≡ true → head_length + 8 ≤ length r
  unfolding has_kind
  kind-long k =
      let second = both-second (ltb application 32) _ k in
      let third = both-second (eqb (length r) (record_length r)) _ second in
      let fourth = both-second (eqb (application_of (head_of r)) application) _ third in
      omega (arith, eqb-true (length r) (record_length r) (both_first _ _ second), leb-true 8 (size_of (head_of r)) (both_first _ _ fourth))

  -- ---- what it counts as

  pub unseen-kindless : has_kind application r ≡ false → unseen ≡ seen application r
  unfolding seen
  unseen-kindless k = rw k

  module _ (k : has_kind application r ≡ true) {kind : ℕ} (e : kind ≡ kind_of r) where
    pub unseen-refused : is_read application kind r ≡ false → unseen ≡ seen application r
    unfolding seen
    unseen-refused n = rw (k, ← e, n)

    pub seen_read :
        is_read application kind r ≡ true → {network : ℕ} → network ≡ network_in kind (drop head_length r)
        → (record { kind = kind; network = network }) ≡ seen application r
    unfolding seen
    seen_read n f = rw (k, ← e, n, ← network-read application kind r n, ← f)

-- ---- by its kind, what reading says

module _ (application kind : ℕ) (r : List ℕ) where
  pub is-information : kind ≡ AI → holding (information_rules application r) ≡ is_read application kind r
  unfolding is_read
  is-information e = rw (eq-eqb kind AI e)

  module _ (n : kind ≡ AI → ⊥) where
    pub is-menu : kind ≡ NI → holding (menu_rules application r) ≡ is_read application kind r
    unfolding is_read
    is-menu e = rw (ne_eqb kind AI n, eq-eqb kind NI e)

    module _ (m : kind ≡ NI → ⊥) where
      pub is-table : known kind ≡ true → holding (table_rules application r) ≡ is_read application kind r
      unfolding is_read
      is-table e = rw (ne_eqb kind AI n, ne_eqb kind NI m, e)

      pub is-another : known kind ≡ false → true ≡ is_read application kind r
      unfolding is_read
      is-another e = rw (ne_eqb kind AI n, ne_eqb kind NI m, e)
