-- The records that reading gives: whole records, each with a text unit's id and a line offset that is taken, and never more than a
-- packet holds. Assumes nothing.
use mathlib.Core.Path.{◌≡◌, ◌∙◌, refl, subst}
use mathlib.Core.Bool.{true}
use mathlib.Core.List.{List, [], ◌++◌}
use Prim.Native.Nat.{ℕ, zero, suc, ◌+◌, ◌*◌, ◌≤◌}
use native.Mathlib.Nat.{add_assoc}
use native.Mathlib.Omega.{arith}
use lib.ListN.{length, length-append}
use lib.Seq.{get_or-append-add}
use Rattle.std.specs.declared.result.Result.{Result}
use Rattle.std.specs.declared.result.Result.TheVariants.{Ok, Err}
use Rattle.laws.proofs.Tests.{both-holds}
use Rattle.answer.specs.declared.Refusal.{Refusal}
use Rattle.answer.specs.Rules.{Every}
use Rattle.units.specs.declared.DataUnit.{DataUnit}
use Rattle.units.specs.Units.{text_id, line_fits, unit_at, byte_at}
use Rattle.units.proofs.Meets.{Met, met, text_unit, whole_moves}
use Rattle.pes.specs.Reading.{record_at}
use Rattle.pes_writer.specs.Writing.{record_fits, records_fit}
use Rattle.pes.proofs.Walk.{record_length_lem, rest, lawful, rest_end, rest-text, rest_stuffing, lawful-next, lawful-met}

-- records behind others fit as they do alone
fit-shift : (u : ℕ) (r g : List ℕ) (i : ℕ) → records_fit u (r ++ g) (length r + i) ≡ records_fit u g i
unfolding records_fit
fit-shift zero r g i = refl
fit-shift (suc u) r g i =
    rw (
      add_assoc (length r) i 1,
      add_assoc (length r) i 44,
      get_or-append-add r g i 0,
      get_or-append-add r g (i + 1) 0,
      fit-shift u r g (i + 44),
    )

-- u whole records that fit, from as many units of 46 bytes at least
pub record Given (pes : List ℕ) (at : ℕ) (g : List ℕ) : Type 0 where
  pub count : ℕ
  pub long : length g ≡ 44 * count
  pub fit : records_fit count g 0 ≡ true
  pub few : at + 46 * count ≤ length pes

given-none : (pes : List ℕ) (at : ℕ) → at ≤ length pes → Given pes at []
unfolding records_fit
given-none pes at h = record { count = 0; long = refl; fit = refl; few = omega arith }

given-text :
    (pes : List ℕ) (at : ℕ) (g : List ℕ) → text_id (byte_at pes at) ≡ true → line_fits (byte_at pes (at + 2)) ≡ true
    → at + 46 ≤ length pes → Given pes (at + 46) g → Given pes at (record_at pes at ++ g)
unfolding records_fit record_at
given-text pes at g i l h k =
    let n = record_length_lem pes at h in
    record {
      count = suc k.count;
      long = length-append (record_at pes at) g ∙ (let m = k.long in omega (arith, n));
      fit =
          both-holds (record_fits (record_at pes at ++ g) 0) _ (both-holds (text_id (byte_at pes at)) _ i l)
          (subst (λ (p : ℕ). records_fit k.count (record_at pes at ++ g) (p + 0) ≡ true) n (fit-shift k.count (record_at pes at) g 0 ∙ k.fit));
      few = omega (arith, k.few);
    }

pub given :
    (f : ℕ) (pes : List ℕ) (at : ℕ) → length pes ≤ at + f → at ≤ length pes → Every (lawful pes at) → Given pes at (rest pes at)
given zero pes at b h e = rw (rest_end pes at (omega arith)) (given-none pes at h)
given (suc f) pes at b h e = go (λ next. given f pes next) (unit_at pes at) (met pes at)
  where
    go :
        ((next : ℕ) → length pes ≤ next + f → next ≤ length pes → Every (lawful pes next) → Given pes next (rest pes next))
        → (u : Result DataUnit Refusal) → Met pes at u → Given pes at (rest pes at)
    go later (Ok DataUnit.End) m = rw (rest_end pes at m) (given-none pes at h)
    go later (Ok (DataUnit.Text next)) w =
        let t = text_unit pes at w.kind w.every in
        let m = whole_moves pes at next _ w in
        let e' = lawful-next pes at next _ w e in
        let n : next ≡ at + 46 = w.after ∙ t.next in
        rw (rest-text pes at next w)
        (given-text pes at (rest pes next) t.id t.line t.ends
        (subst (λ (p : ℕ). Given pes p (rest pes next)) n (later next (omega arith) m.inside e')))
    go later (Ok (DataUnit.Stuffing next)) w =
        let m = whole_moves pes at next _ w in
        let k = later next (omega arith) m.inside (lawful-next pes at next _ w e) in
        rw (rest_stuffing pes at next w) (record { count = k.count; long = k.long; fit = k.fit; few = omega (arith, k.few, m.past) })
    go later (Err r) m = absurd (lawful-met pes at r m e)
