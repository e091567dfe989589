-- What a unit that is met tells, and which bytes make a unit that is met. Assumes nothing.
use mathlib.Core.Path.{◌≡◌, ◌∙◌, refl, sym, subst}
use mathlib.Core.Bool.{Bool, true, false}
use mathlib.Core.Logic.{⊎_elim}
use mathlib.Core.List.{List, []}
use Prim.Native.Nat.{ℕ, ◌+◌, ◌<◌, ◌≤◌}
use native.Mathlib.Omega.{arith}
use lib.Dec.{T, ltb}
use lib.ListN.{length}
use borrow.Author.Tests.{le-leb, leb-true, ltb-true, ltb-false, eq-eqb, ne_eqb, eqb-true}
use Rattle.std.specs.declared.result.Result.{Result}
use Rattle.std.specs.declared.result.Result.TheVariants.{Ok, Err}
use Rattle.laws.specs.Pick.{pick}
use Rattle.laws.proofs.Tests.{either_first}
use Rattle.answer.specs.declared.Refusal.{Refusal}
use Rattle.answer.specs.Rules.{Rule, judged, Every, none, more, First}
use Rattle.answer.specs.Values.{refusal}
use Rattle.answer.proofs.Judging.{passes, refuses, decided, every_append}
use Rattle.answer.proofs.Lent.{front-holds, back-holds}
use Rattle.answer.proofs.Steps.{first_holds, others_hold}
use Rattle.units.specs.declared.DataUnit.{DataUnit}
use Rattle.units.specs.Units.{byte_at, text_id, stuffing_id, line_fits, framing, next_unit, unit_rules, text_rules, rules_at, bad_unit, unit_at}

-- ---- what a unit tells whose rules all hold

pub unit_ends : (pes : List ℕ) (at : ℕ) → Every (rules_at pes at) → next_unit pes at ≤ length pes
unfolding unit_rules
unit_ends pes at e =
    leb-true _ _ (first_holds (others_hold (others_hold (front-holds (unit_rules pes at) (pick (stuffing_id (byte_at pes at)) [] (text_rules pes at)) e))))

-- a text unit
pub record TextUnit (pes : List ℕ) (at : ℕ) : Type 0 where
  pub id : text_id (byte_at pes at) ≡ true
  pub line : line_fits (byte_at pes (at + 2)) ≡ true
  pub next : next_unit pes at ≡ at + 46
  pub ends : at + 46 ≤ length pes

pub text_unit : (pes : List ℕ) (at : ℕ) → stuffing_id (byte_at pes at) ≡ false → Every (rules_at pes at) → TextUnit pes at
unfolding unit_rules text_rules
text_unit pes at s e =
    let u = front-holds (unit_rules pes at) (pick (stuffing_id (byte_at pes at)) [] (text_rules pes at)) e in
    let t : Every (text_rules pes at) = subst (λ (b : Bool). Every (pick b [] (text_rules pes at))) s (back-holds (unit_rules pes at) _ e) in
    let sized : byte_at pes (at + 1) ≡ 44 = eqb-true _ _ (first_holds t) in
    let n : next_unit pes at ≡ at + 46 = omega (arith, sized) in
    record {
      id = either_first _ (stuffing_id (byte_at pes at)) (first_holds (others_hold u)) s;
      line = first_holds (others_hold t);
      next = n;
      ends = omega (arith, n, unit_ends pes at e);
    }

-- ---- the unit met

pub record Whole (pes : List ℕ) (at next : ℕ) (stuffed : Bool) : Type 0 where
  pub within : at < length pes
  pub kind : stuffing_id (byte_at pes at) ≡ stuffed
  pub every : Every (rules_at pes at)
  pub after : next ≡ next_unit pes at

abbrev pub Met : List ℕ → ℕ → Result DataUnit Refusal → Type 0
Met pes at (Ok DataUnit.End) = length pes ≤ at
Met pes at (Ok (DataUnit.Text next)) = Whole pes at next false
Met pes at (Ok (DataUnit.Stuffing next)) = Whole pes at next true
Met pes at (Err r) =
    (at < length pes) × ((q : Rule) × First q (rules_at pes at) × (r ≡ refusal q.number q.offset))

pub met : (pes : List ℕ) (at : ℕ) → Met pes at (unit_at pes at)
unfolding unit_at
met pes at = go (ltb at (length pes)) refl (stuffing_id (byte_at pes at)) refl
  where
    found :
        at < length pes → (u : Result DataUnit Refusal) → (Every (rules_at pes at) → Met pes at u)
        → Met pes at (judged bad_unit (rules_at pes at) u)
    found w u f =
        ⊎_elim (λ (every : Every (rules_at pes at)). subst (Met pes at) (sym (passes bad_unit u every)) (f every))
        (λ (n : (q : Rule) × First q (rules_at pes at)).
        subst (Met pes at) (sym (refuses bad_unit u n.1)) (w, (n.0, n.1, refl)))
        (decided (rules_at pes at))

    go :
        (w : Bool) → ltb at (length pes) ≡ w → (s : Bool) → stuffing_id (byte_at pes at) ≡ s
        → Met pes at (pick w (judged bad_unit (rules_at pes at) (Ok (pick s (DataUnit.Stuffing (next_unit pes at)) (DataUnit.Text (next_unit pes at))))) (Ok DataUnit.End))
    go false e s k = ltb-false _ _ e
    go true e true k = found (ltb-true _ _ e) (Ok (DataUnit.Stuffing (next_unit pes at))) (λ every. record { within = ltb-true _ _ e; kind = k; every = every; after = refl })
    go true e false k = found (ltb-true _ _ e) (Ok (DataUnit.Text (next_unit pes at))) (λ every. record { within = ltb-true _ _ e; kind = k; every = every; after = refl })

-- what the walk's answer r tells, where it is u
pub met_by : (pes : List ℕ) (at : ℕ) {r u : Result DataUnit Refusal} → r ≡ unit_at pes at → r ≡ u → Met pes at u
met_by pes at e f = subst (Met pes at) (sym e ∙ f) (met pes at)

-- where the walk goes on: within the packet, past the unit
pub record Moves (pes : List ℕ) (at next : ℕ) : Type 0 where
  pub past : at + 2 ≤ next
  pub inside : next ≤ length pes

pub whole_moves : (pes : List ℕ) (at next : ℕ) (s : Bool) → Whole pes at next s → Moves pes at next
whole_moves pes at next s w =
    record { past = omega (arith, w.after); inside = omega (arith, w.after, unit_ends pes at w.every) }

pub text-next : (pes : List ℕ) (at next : ℕ) → Whole pes at next false → next ≡ at + 46
text-next pes at next w = w.after ∙ (text_unit pes at w.kind w.every).next

-- ---- units that are as they should be

text_not_stuffing : (i : ℕ) → text_id i ≡ true → stuffing_id i ≡ false
text_not_stuffing i h = ne_eqb i 0xFF (λ e. subst (λ (k : ℕ). T (text_id k)) e (subst T (sym h) tt))

pub whole-text :
    (pes : List ℕ) (at : ℕ) → text_id (byte_at pes at) ≡ true → byte_at pes (at + 1) ≡ 44 → line_fits (byte_at pes (at + 2)) ≡ true
    → byte_at pes (at + 3) ≡ framing → at + 46 ≤ length pes → Whole pes at (at + 46) false
unfolding unit_rules text_rules
whole-text pes at i l b f h =
    let s = text_not_stuffing (byte_at pes at) i in
    let n : next_unit pes at ≡ at + 46 = omega (arith, l) in
    record {
      within = omega arith;
      kind = s;
      every =
          every_append (more (le-leb (at + 2) (length pes) (omega arith)) (more (rw i) (more (le-leb (next_unit pes at) (length pes) (omega (arith, n))) none)))
          (subst (λ (t : Bool). Every (pick t [] (text_rules pes at))) (sym s) (more (eq-eqb _ _ l) (more b (more (eq-eqb _ _ f) none))));
      after = sym n;
    }

pub whole_stuffing : (pes : List ℕ) (at : ℕ) → byte_at pes at ≡ 0xFF → at + 2 ≤ length pes → next_unit pes at ≤ length pes → Whole pes at (next_unit pes at) true
unfolding unit_rules
whole_stuffing pes at i h n =
    let s : stuffing_id (byte_at pes at) ≡ true = eq-eqb _ _ i in
    record {
      within = omega arith;
      kind = s;
      every =
          every_append (more (le-leb _ _ h) (more (rw i) (more (le-leb _ _ n) none)))
          (subst (λ (t : Bool). Every (pick t [] (text_rules pes at))) (sym s) none);
      after = refl;
    }
