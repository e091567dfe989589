-- Writing what the text units of an accepted packet give, one unit after the other: what the units from a place on give, stored now,
-- gives the whole. A text unit gives g of its place, always w bytes. Assumes nothing.
use mathlib.Core.Path.{◌≡◌, ◌∙◌, refl, sym, ap}
use mathlib.Core.Bool.{true, false}
use mathlib.Core.List.{List}
use Prim.Native.Nat.{ℕ, ◌+◌, ◌≤◌}
use native.Mathlib.Nat.{zero-add}
use native.Mathlib.Omega.{arith}
use lib.ListN.{length, length-append}
use lib.Seq.{sets}
use Rattle.laws.proofs.Stores.{sets_next}
use Rattle.answer.specs.Rules.{Every}
use Rattle.units.proofs.Meets.{Whole, text_unit}
use Rattle.pes.specs.Reading.{first_unit, places, units_rules}
use Rattle.pes.proofs.Walk.{spread, lawful, spread_end, spread-text, spread-stuffing, lawful-next}

-- at the place `at`, with what the units before it give stored in front of `to`
pub record Filled (g : ℕ → List ℕ) (pes old : List ℕ) (at to : ℕ) (out : List ℕ) : Type 0 where
  pub rules : Every (lawful pes at)
  pub long : length out ≡ length old
  pub room : to + length (spread g pes at) ≤ length out
  pub whole : sets out to (spread g pes at) ≡ sets old 0 (spread g pes first_unit)

pub filled-start :
    (g : ℕ → List ℕ) (pes old : List ℕ) → Every (units_rules pes) → length (spread g pes first_unit) ≤ length old
    → Filled g pes old first_unit 0 old
unfolding units_rules places
filled-start g pes old e h = record { rules = e; long = refl; room = rw zero-add h; whole = refl }

module _ (g : ℕ → List ℕ) (pes old : List ℕ) (at to : ℕ) (out : List ℕ) (f : Filled g pes old at to out) where
  pub filled-end : length pes ≤ at → out ≡ sets old 0 (spread g pes first_unit)
  filled-end h = sym (ap (sets out to) (spread_end g pes at h)) ∙ f.whole

  pub filled-stuffing : (next : ℕ) → Whole pes at next true → Filled g pes old next to out
  filled-stuffing next w =
      let e = spread-stuffing g pes at next w in
      record {
        rules = lawful-next pes at next true w f.rules;
        long = f.long;
        room = rw e at f.room;
        whole = rw e at f.whole;
      }

  module _ (w : ℕ) (sized : at + 46 ≤ length pes → length (g at) ≡ w) where
    pub filled-room : (next : ℕ) → Whole pes at next false → to + w + length (spread g pes next) ≤ length out
    filled-room next t =
        let u = text_unit pes at t.kind t.every in
        let e = ap length (spread-text g pes at next t) ∙ length-append (g at) (spread g pes next) in
        let l = sized u.ends in
        omega (arith, e, l, f.room)

    pub filled-text :
        (next : ℕ) (out' : List ℕ) → Whole pes at next false → length out' ≡ length out → out' ≡ sets out to (g at)
        → Filled g pes old next (to + w) out'
    filled-text next out' t k e =
        let u = text_unit pes at t.kind t.every in
        record {
          rules = lawful-next pes at next false t f.rules;
          long = k ∙ f.long;
          room = rw k (filled-room next t);
          whole = sets_next out out' to w (g at) (spread g pes next) _ (spread-text g pes at next t) (sized u.ends) e ∙ f.whole;
        }
