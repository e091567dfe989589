-- The walk along a packet's units, one at a time: what each unit that is met adds to the answer. The places from
-- one on are that place and the places from the next unit on, since the fuel is never short. Assumes nothing.
use mathlib.Core.Path.{◌≡◌, ◌∙◌, refl, sym, ap}
use mathlib.Core.Bool.{Bool, true, false}
use mathlib.Core.List.{List, [], ◌∷◌, ◌++◌, flat_map}
use Prim.Native.Nat.{ℕ, zero, suc, ◌+◌, ◌<◌, ◌≤◌}
use native.Mathlib.Nat.{add-zero, add_assoc}
use native.Mathlib.Omega.{arith}
use lib.Dec.{ltb}
use lib.ListN.{length, length-append, length-map, length-take, length-drop}
use borrow.Author.Tests.{lt-ltb, le-ltb}
use Rattle.std.specs.declared.result.Result.{Result}
use Rattle.std.specs.declared.result.Result.TheVariants.{Ok, Err}
use Rattle.answer.specs.declared.Refusal.{Refusal}
use Rattle.answer.specs.Answer.{Answer}
use Rattle.answer.specs.Rules.{Rule, judged, Every}
use Rattle.answer.specs.Values.{refused}
use Rattle.answer.proofs.Judging.{passes, refuses}
use Rattle.answer.proofs.Lent.{front-holds, back-holds}
use Rattle.answer.proofs.Steps.{every_first, judged-append}
use Rattle.units.specs.declared.DataUnit.{DataUnit}
use Rattle.laws.specs.Pick.{pick}
use Rattle.units.specs.Units.{byte_at, stuffing_id, next_unit, rules_at}
use Rattle.units.proofs.Meets.{text_unit, Whole, Met}
use Rattle.pes.specs.Reading.{record_at, given_at, places_from}

-- ---- the places

places-end : (f : ℕ) (pes : List ℕ) (at : ℕ) → length pes ≤ at → places_from f pes at ≡ []
unfolding places_from
places-end zero pes at h = refl
places-end (suc f) pes at h =
    ap (λ (b : Bool). elim b as (λ _. List ℕ) [ true ↦ at ∷ places_from f pes (next_unit pes at) | false ↦ [] ]) (le-ltb at (length pes) h)

places_fuel :
    (f g : ℕ) (pes : List ℕ) (at : ℕ) → length pes ≤ at + f → length pes ≤ at + g → places_from f pes at ≡ places_from g pes at
unfolding places_from
places_fuel zero zero pes at h k = refl
places_fuel zero (suc g) pes at h k = sym (places-end (suc g) pes at (omega arith))
places_fuel (suc f) zero pes at h k = places-end (suc f) pes at (omega arith)
places_fuel (suc f) (suc g) pes at h k =
    ap (λ (l : List ℕ). elim (ltb at (length pes)) as (λ _. List ℕ) [ true ↦ at ∷ l | false ↦ [] ])
    (places_fuel f g pes (next_unit pes at) (omega arith) (omega arith))

-- the places of the units from a place on
abbrev pub from : List ℕ → ℕ → List ℕ
from pes at = places_from (length pes) pes at

pub from_end : (pes : List ℕ) (at : ℕ) → length pes ≤ at → from pes at ≡ []
from_end pes at h = places-end (length pes) pes at h

pub from_step : (pes : List ℕ) (at : ℕ) → at < length pes → from pes at ≡ at ∷ from pes (next_unit pes at)
unfolding places_from
from_step pes at h = go (length pes) refl
  where
    go : (n : ℕ) → length pes ≡ n → places_from n pes at ≡ at ∷ places_from n pes (next_unit pes at)
    go zero e = absurd (omega arith)
    go (suc n) e =
        ap (λ (b : Bool). elim b as (λ _. List ℕ) [ true ↦ at ∷ places_from n pes (next_unit pes at) | false ↦ [] ])
        (lt-ltb at (length pes) h)
        ∙ ap (λ (l : List ℕ). at ∷ l) (places_fuel n (suc n) pes (next_unit pes at) (omega arith) (omega arith))

-- ---- judging and counting

pub record_length_lem : (pes : List ℕ) (at : ℕ) → at + 46 ≤ length pes → length (record_at pes at) ≡ 44
unfolding record_at
record_length_lem pes at h = simp (length-map, length-take, length-drop) (omega arith)

-- the answer of judging the units from a place on, with n bytes of records before it
abbrev pub scanned : List ℕ → ℕ → ℕ → Answer
scanned pes at n = judged refused (flat_map (rules_at pes) (from pes at)) (Ok (n + length (flat_map (given_at pes) (from pes at))))

-- the same where the unit at the place is known
abbrev pub onward : List ℕ → ℕ → Result DataUnit Refusal → Answer
onward pes n (Ok DataUnit.End) = Ok n
onward pes n (Ok (DataUnit.Text next)) = scanned pes next (n + 44)
onward pes n (Ok (DataUnit.Stuffing next)) = scanned pes next n
onward pes n (Err r) = Err r

-- the rules of the first unit come before those of the others
scan-first :
    (pes : List ℕ) (at n : ℕ) → at < length pes
    → scanned pes at n
    ≡ judged refused (rules_at pes at)
    (judged refused (flat_map (rules_at pes) (from pes (next_unit pes at)))
    (Ok (n + length (given_at pes at ++ flat_map (given_at pes) (from pes (next_unit pes at))))))
unfolding flat_map
scan-first pes at n h = rw (from_step pes at h) (judged-append refused (rules_at pes at) _ _)

pub scan_step : (pes : List ℕ) (at n : ℕ) (u : Result DataUnit Refusal) → Met pes at u → scanned pes at n ≡ onward pes n u
unfolding flat_map
scan_step pes at n (Ok DataUnit.End) m = rw (from_end pes at m, add-zero)
scan_step pes at n (Ok (DataUnit.Text next)) m =
    let t = text_unit pes at m.kind m.every in
    scan-first pes at n m.within ∙ passes refused _ m.every
    ∙ rw (m.after, m.kind, length-append, record_length_lem pes at t.ends, ← (add_assoc n 44))
scan_step pes at n (Ok (DataUnit.Stuffing next)) m =
    scan-first pes at n m.within ∙ passes refused _ m.every ∙ rw (m.after, m.kind)
scan_step pes at n (Err r) m =
    scan-first pes at n m.0 ∙ refuses refused _ m.1.1 ∙ rw m.1.2

-- ---- what the units give

-- what the units from a place on give, where a text unit gives g of its place, and stuffing nothing
abbrev pub spread : (ℕ → List ℕ) → List ℕ → ℕ → List ℕ
spread g pes at = flat_map (λ (a : ℕ). pick (stuffing_id (byte_at pes a)) [] (g a)) (from pes at)

-- the records of the units from a place on
abbrev pub rest : List ℕ → ℕ → List ℕ
rest pes at = spread (record_at pes) pes at

-- the units' rules from a place on
abbrev pub lawful : List ℕ → ℕ → List Rule
lawful pes at = flat_map (rules_at pes) (from pes at)

module _ (g : ℕ → List ℕ) (pes : List ℕ) (at : ℕ) where
  pub spread_end : length pes ≤ at → spread g pes at ≡ []
  unfolding flat_map
  spread_end h = rw (from_end pes at h)

  pub spread-text : (next : ℕ) → Whole pes at next false → spread g pes at ≡ g at ++ spread g pes next
  unfolding flat_map
  spread-text next w = rw (from_step pes at w.within, w.after, w.kind)

  pub spread-stuffing : (next : ℕ) → Whole pes at next true → spread g pes at ≡ spread g pes next
  unfolding flat_map
  spread-stuffing next w = rw (from_step pes at w.within, w.after, w.kind)

pub rest_end : (pes : List ℕ) (at : ℕ) → length pes ≤ at → rest pes at ≡ []
rest_end pes at h = spread_end (record_at pes) pes at h

pub rest-text : (pes : List ℕ) (at next : ℕ) → Whole pes at next false → rest pes at ≡ record_at pes at ++ rest pes next
rest-text pes at next w = spread-text (record_at pes) pes at next w

pub rest_stuffing : (pes : List ℕ) (at next : ℕ) → Whole pes at next true → rest pes at ≡ rest pes next
rest_stuffing pes at next w = spread-stuffing (record_at pes) pes at next w

pub lawful-next : (pes : List ℕ) (at next : ℕ) (s : Bool) → Whole pes at next s → Every (lawful pes at) → Every (lawful pes next)
unfolding flat_map
lawful-next pes at next s w e = rw w.after (back-holds (rules_at pes at) _ (rw (from_step pes at w.within) at e))

-- where all rules hold, the walk is never refused
pub lawful-met : (pes : List ℕ) (at : ℕ) (r : Refusal) → Met pes at (Err r) → Every (lawful pes at) → ⊥
unfolding flat_map
lawful-met pes at r m e =
    every_first (front-holds (rules_at pes at) _ (rw (from_step pes at m.0) at e)) m.1.1
