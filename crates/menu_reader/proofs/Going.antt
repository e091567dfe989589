-- The walk that spells a menu, part by part: one part behind another, and what is left of them in a loop. Assumes nothing.
use mathlib.Core.Path.{◌≡◌, ◌∙◌, refl, sym, ap}
use mathlib.Core.List.{List, [], ◌++◌}
use Prim.Native.Nat.{ℕ, ◌+◌}
use native.Mathlib.Nat.{add_assoc, add-zero}
use lib.ListN.{length, length-append}
use lib.Seq.{sets}
use Rattle.laws.proofs.Lists.{sets-append}
use Rattle.menu_reader.specs.declared.Spot.{Spot}
use Rattle.menu_reader.specs.Internal.{Went}

-- the same by other words
pub went_same :
    {s r : Spot} {n n' c c' : ℕ} {f f' o o' : List ℕ} → Went s r n c f o o' → n ≡ n' → c ≡ c' → f ≡ f' → Went s r n' c' f' o o'
went_same {s = s} {o = o} w en ec ef =
    record {
      passes = w.passes ∙ ap (λ (k : ℕ). s.at + k) en;
      takes = w.takes ∙ ap (λ (k : ℕ). s.from + k) ec;
      fills = w.fills ∙ ap (λ (l : List ℕ). s.to + length l) ef;
      writes = w.writes ∙ ap (λ (l : List ℕ). sets o s.to l) ef;
    }

-- one part behind another
pub went_on :
    {s p r : Spot} {n₁ c₁ n₂ c₂ : ℕ} {f₁ f₂ o o₁ o₂ : List ℕ} → Went s p n₁ c₁ f₁ o o₁ → Went p r n₂ c₂ f₂ o₁ o₂
    → Went s r (n₁ + n₂) (c₁ + c₂) (f₁ ++ f₂) o o₂
went_on {s = s} {n₁ = n₁} {c₁ = c₁} {n₂ = n₂} {c₂ = c₂} {f₁ = f₁} {f₂ = f₂} {o = o} a b =
    record {
      passes = b.passes ∙ (rw a.passes (add_assoc s.at n₁ n₂));
      takes = b.takes ∙ (rw a.takes (add_assoc s.from c₁ c₂));
      fills = b.fills ∙ (rw (a.fills, length-append f₁ f₂) (add_assoc s.to (length f₁) (length f₂)));
      writes = b.writes ∙ (rw (a.writes, a.fills) (sym (sets-append o s.to f₁ f₂)));
    }

-- what is left to be done from p makes what was to be done from s
pub record Ahead (p : Spot) (n c : ℕ) (f out : List ℕ) (s : Spot) (n₀ c₀ : ℕ) (f₀ old : List ℕ) : Type 0 where
  pub passes : p.at + n ≡ s.at + n₀
  pub takes : p.from + c ≡ s.from + c₀
  pub fills : p.to + length f ≡ s.to + length f₀
  pub writes : sets out p.to f ≡ sets old s.to f₀

pub ahead_start : (s : Spot) (n c : ℕ) (f old : List ℕ) → Ahead s n c f old s n c f old
ahead_start s n c f old = record { passes = refl; takes = refl; fills = refl; writes = refl }

module _ {p s : Spot} {n c n₀ c₀ : ℕ} {f out f₀ old : List ℕ} (a : Ahead p n c f out s n₀ c₀ f₀ old) where
  pub ahead-on :
      {q : Spot} {n₁ c₁ n₂ c₂ : ℕ} {f₁ f₂ out' : List ℕ} → Went p q n₁ c₁ f₁ out out' → n ≡ n₁ + n₂ → c ≡ c₁ + c₂ → f ≡ f₁ ++ f₂
      → Ahead q n₂ c₂ f₂ out' s n₀ c₀ f₀ old
  ahead-on {n₁ = n₁} {c₁ = c₁} {n₂ = n₂} {c₂ = c₂} {f₁ = f₁} {f₂ = f₂} w en ec ef =
      record {
        passes = rw w.passes (add_assoc p.at n₁ n₂) ∙ ap (λ (k : ℕ). p.at + k) (sym en) ∙ a.passes;
        takes = rw w.takes (add_assoc p.from c₁ c₂) ∙ ap (λ (k : ℕ). p.from + k) (sym ec) ∙ a.takes;
        fills =
            rw w.fills (add_assoc p.to (length f₁) (length f₂)) ∙ ap (λ (k : ℕ). p.to + k) (sym (length-append f₁ f₂))
            ∙ ap (λ (l : List ℕ). p.to + length l) (sym ef)
            ∙ a.fills;
        writes =
            rw (w.writes, w.fills) (sym (sets-append out p.to f₁ f₂)) ∙ ap (λ (l : List ℕ). sets out p.to l) (sym ef) ∙ a.writes;
      }

  pub ahead-end : n ≡ 0 → c ≡ 0 → f ≡ [] → Went s p n₀ c₀ f₀ old out
  ahead-end en ec ef =
      record {
        passes = sym (ap (λ (k : ℕ). p.at + k) en ∙ add-zero p.at) ∙ a.passes;
        takes = sym (ap (λ (k : ℕ). p.from + k) ec ∙ add-zero p.from) ∙ a.takes;
        fills = sym (ap (λ (l : List ℕ). p.to + length l) ef ∙ add-zero p.to) ∙ a.fills;
        writes = sym (ap (λ (l : List ℕ). sets out p.to l) ef) ∙ a.writes;
      }
