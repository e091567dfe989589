-- What the third demand (SCOPE 15.3) asks of any loader, at one flip a byte at the most: a loader is what comes out of a list of calls, under a
-- setting.
use Rattle.std.specs.Prelude.{◌≡◌, true, List, ℕ, ◌≤◌, ◌<◌}
use Rattle.laws.specs.Each.{Each}
use Rattle.packet.specs.declared.Setting.{Setting}
use Rattle.packet.specs.Setting.{in_range}
use Rattle.forms.specs.Tables.{Table, fits}
use Rattle.claims.specs.Noise.{Flipped, Aired}
use Rattle.claims.specs.Feeding.{Call, packets_of}
use Rattle.claims.specs.Damage.{Counted}
use Rattle.claims.specs.Tables.{sent, sent_damaged}

-- it gives exactly the tables that were sent, each with the number of bytes of its sending that arrived other than they were sent
pub record Carries (loader : Setting → List Call → List (Counted Table)) : Type 0 where
  pub exactly :
      (d : ℕ) → d ≤ 1 → (s : Setting) → in_range s ≡ true → (index k : ℕ) → index < 16 → 1 ≤ k → k ≤ 25 → (ts : List Table) → Each (λ t. fits t ≡ true) ts
      → (calls : List Call) (ours : List (List ℕ)) → Aired (Flipped d) s (sent s index k ts) ours (packets_of calls)
      → loader s calls ≡ sent_damaged s k ts ours
