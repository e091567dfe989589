-- The order on the entries of a key tells any two of them apart: the key gives network, kind and block, the order the stamp and the
-- table's lines, and the lines give the descriptors. Assumes nothing.
use mathlib.Core.Path.{◌≡◌, ◌∙◌, refl, sym, ap}
use mathlib.Core.Bool.{Bool, true, false}
use Prim.Native.Nat.{ℕ, ◌≤◌}
use native.Mathlib.Omega.{arith}
use lib.Dec.{eqb}
use borrow.Author.Tests.{eqb-true}
use Rattle.laws.specs.Pick.{pick, either}
use Rattle.forms.specs.Tables.{TI, LI, known}
use Rattle.forms.proofs.Sendable.{Sendable, sendable}
use Rattle.sheet_entry.specs.Entries.{Entry, key_of, written}
use Rattle.sheet_entry.proofs.Entered.{written-parts}
use Rattle.sheet_entry.specs.declared.Form.{Form}

-- ---- an entry that can be written

module _ (form : Form) where
  pub written-sendable : (e : Entry) → written form e ≡ true → Sendable e.table
  written-sendable e w = sendable e.table (written-parts form e w).fit

-- ---- the key

-- a test's value as a bit
unfoldable pub bit : Bool → ℕ
bit t = pick t 1 0

pub bits-only : (s t : Bool) → bit s ≡ bit t → s ≡ t
unfolding bit
bits-only true true e = refl
bits-only true false e = absurd (omega arith)
bits-only false true e = absurd (omega arith)
bits-only false false e = refl

pub bit-small : (t : Bool) → bit t ≤ 1
unfolding bit
bit-small true = omega arith
bit-small false = omega arith

pub kinds_only : (k m : ℕ) → known k ≡ true → known m ≡ true → eqb k TI ≡ eqb m TI → k ≡ m
kinds_only k m p q e = go (eqb k TI) refl (eqb m TI) refl p q e
  where
    go :
        (s : Bool) → eqb k TI ≡ s → (t : Bool) → eqb m TI ≡ t → either s (eqb k LI) ≡ true → either t (eqb m LI) ≡ true → s ≡ t → k ≡ m
    go true s true t p q e = eqb-true k TI s ∙ sym (eqb-true m TI t)
    go true s false t p q e = absurd (clash e)
      where
        clash : true ≡ false → ⊥
        clash f = let z : ◌≡◌ {A = ℕ} 0 1 = ap (λ (b : Bool). pick b 0 1) f in omega arith
    go false s true t p q e = absurd (clash e)
      where
        clash : false ≡ true → ⊥
        clash f = let z : ◌≡◌ {A = ℕ} 0 1 = ap (λ (b : Bool). pick b 1 0) f in omega arith
    go false s false t p q e = eqb-true k LI p ∙ sym (eqb-true m LI q)

module _ (form : Form) where
  -- the key gives network, kind and block
  pub key-only :
      (x y : Entry) → written form x ≡ true → written form y ≡ true → key_of x ≡ key_of y
      → (x.table.network ≡ y.table.network) × (x.table.kind ≡ y.table.kind) × (x.table.block ≡ y.table.block)
  unfolding key_of bit
  key-only x y v w e =
      let s = written-sendable form x v in
      let t = written-sendable form y w in
      let b = s.block_fits in
      let c = t.block_fits in
      let f = bit-small (eqb x.table.kind TI) in
      let g = bit-small (eqb y.table.kind TI) in
      let k : bit (eqb x.table.kind TI) ≡ bit (eqb y.table.kind TI) = omega arith in (
        omega arith,
        kinds_only x.table.kind y.table.kind s.kind_known t.kind_known (bits-only (eqb x.table.kind TI) (eqb y.table.kind TI) k),
        omega arith,
      )
