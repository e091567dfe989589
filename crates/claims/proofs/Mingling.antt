-- What arrives with others between: `Aired` is the case with packets of other magazines alone, and ours are one to one with those that were
-- sent, each of 42 bytes. Assumes nothing.
use mathlib.Core.Path.{◌≡◌, ◌∙◌, sym}
use mathlib.Core.Bool.{Bool, false}
use mathlib.Core.List.{List}
use Prim.Native.Nat.{ℕ}
use native.Mathlib.Omega.{arith}
use lib.ListN.{length}
use Rattle.packet.specs.declared.Setting.{Setting}
use Rattle.packet.specs.Packet.{packet_length}
use Rattle.writer.specs.Cutting.{FortyTwo, more}
use Rattle.claims.specs.Noise.{Near, Elsewhere, Aired, ended as aired_ended, sent as aired_sent, between as aired_between}
use Rattle.claims.specs.Mingled.{Kind, following, elsewhere, header, row, Mingled, ended, sent, between, begins, goes, Rightly, Shared}
use Rattle.claims.specs.Lists.{Paired, both_end, with}
use Rattle.claims.proofs.Losing.{near-length}

module _ {R : ℕ → ℕ → Type 0} {s : Setting} {K : Kind → List ℕ → Type 0} {k : ℕ} where
  pub aired-mingled :
      ((q : List ℕ) → Elsewhere R s q → K elsewhere q) → {w : ℕ} {t : Bool} {ps ours qs : List (List ℕ)} → Aired R s ps ours qs
      → Mingled R K k w t ps ours qs
  aired-mingled f aired_ended = ended
  aired-mingled f {w = w} {t = t} (aired_sent n a) = sent n (aired-mingled f {w = following k w} {t = false} a)
  aired-mingled f {w = w} {t = t} (aired_between {q = q} e a) = between (f q e) (aired-mingled f {w = w} {t = t} a)

  -- with no packet of our magazine between it has been aired
  pub mingled-aired :
      ((q : List ℕ) → K elsewhere q → Elsewhere R s q) → ((q : List ℕ) → K header q → ⊥) → ((q : List ℕ) → K row q → ⊥) → {w : ℕ} {t : Bool} {ps ours qs : List (List ℕ)}
      → Mingled R K k w t ps ours qs → Aired R s ps ours qs
  mingled-aired f g h ended = aired_ended
  mingled-aired f g h (sent n a) = aired_sent n (mingled-aired f g h a)
  mingled-aired f g h (between {q = q} e a) = aired_between (f q e) (mingled-aired f g h a)
  mingled-aired f g h (begins {q = q} e a) = absurd (g q e)
  mingled-aired f g h (goes {q = q} e a) = absurd (h q e)

pub aired_shared : {R : ℕ → ℕ → Type 0} {s : Setting} {k : ℕ} {ps ours qs : List (List ℕ)} → Aired R s ps ours qs → Shared R s k ps ours qs
aired_shared a = aired-mingled (λ q e. e) a

module _ {R : ℕ → ℕ → Type 0} {K : Kind → List ℕ → Type 0} {k : ℕ} where
  pub mingled-paired : {w : ℕ} {t : Bool} {ps ours qs : List (List ℕ)} → Mingled R K k w t ps ours qs → Paired (Near R) ps ours
  mingled-paired ended = both_end
  mingled-paired (sent n a) = with n (mingled-paired a)
  mingled-paired (between e a) = mingled-paired a
  mingled-paired (begins e a) = mingled-paired a
  mingled-paired (goes e a) = mingled-paired a

  pub mingled-long :
      ((kind : Kind) (q : List ℕ) → K kind q → length q ≡ packet_length) → {w : ℕ} {t : Bool} {ps ours qs : List (List ℕ)} → FortyTwo ps
      → Mingled R K k w t ps ours qs → FortyTwo qs
  mingled-long f r ended = r
  mingled-long f (more h t) (sent n a) = more (sym (near-length n) ∙ h) (mingled-long f t a)
  mingled-long f r (between {q = q} e a) = more (f elsewhere q e) (mingled-long f r a)
  mingled-long f r (begins {q = q} e a) = more (f header q e) (mingled-long f r a)
  mingled-long f r (goes {q = q} e a) = more (f row q e) (mingled-long f r a)

pub rightly_long : (R : ℕ → ℕ → Type 0) (s : Setting) (kind : Kind) (q : List ℕ) → Rightly R s kind q → length q ≡ packet_length
rightly_long R s elsewhere q e = omega (arith, near-length e.near, e.long)
rightly_long R s header q e = omega (arith, near-length e.near, e.long)
rightly_long R s row q e = omega (arith, near-length e.near, e.long)
