-- A sheet without the entry of a key (SCOPE 20.8).
use Rattle.std.specs.Prelude.{Bool, List, [], ◌∷◌, ℕ, eqb}
use Rattle.laws.specs.Pick.{pick, both}
use Rattle.sheet_entry.specs.Entries.{Entry}

-- whether an entry is that of a network, kind and block
abbrev pub named : ℕ → ℕ → ℕ → Entry → Bool
named network kind block e = both (eqb e.table.network network) (both (eqb e.table.kind kind) (eqb e.table.block block))

-- the entries but that one
unfoldable pub without : ℕ → ℕ → ℕ → List Entry → List Entry
without network kind block [] = []
without network kind block (e ∷ es) =
    pick (named network kind block e) (without network kind block es) (e ∷ without network kind block es)
