-- Records that fit, one more: it decides, or the others do. Assumes nothing.
use mathlib.Core.Path.{◌≡◌, ◌∙◌}
use mathlib.Core.Bool.{Bool, true, false}
use mathlib.Core.List.{List}
use Prim.Native.Nat.{ℕ, ◌+◌, ◌-◌, ◌*◌, ◌<◌, ◌≤◌}
use native.Mathlib.Omega.{arith}
use Rattle.pes_writer.specs.Records.{record_fits, records_fit}
use Rattle.pes_writer.proofs.Fills.{one-more, none-left}

-- whether those of n records fit that come after the first i
abbrev pub fit_from : ℕ → List ℕ → ℕ → Bool
fit_from n rs i = records_fit (n - i) rs (44 * i)

pub fit_stops : (n : ℕ) (rs : List ℕ) (i : ℕ) → i < n → record_fits rs (44 * i) ≡ false → fit_from n rs i ≡ false
unfolding records_fit
fit_stops n rs i h f = one-more (λ (u : ℕ). records_fit u rs (44 * i)) n i h ∙ rw f

pub fit_goes : (n : ℕ) (rs : List ℕ) (i : ℕ) → i < n → record_fits rs (44 * i) ≡ true → fit_from n rs i ≡ fit_from n rs (i + 1)
unfolding records_fit
fit_goes n rs i h f = let p : 44 * (i + 1) ≡ 44 * i + 44 = omega arith in one-more (λ (u : ℕ). records_fit u rs (44 * i)) n i h ∙ rw (f, p)

pub fit_end : (n : ℕ) (rs : List ℕ) (i : ℕ) → n ≤ i → fit_from n rs i ≡ true
unfolding records_fit
fit_end n rs i h = none-left (λ (u : ℕ). records_fit u rs (44 * i)) n i h
