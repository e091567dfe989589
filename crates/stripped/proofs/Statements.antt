-- What the call answers, in SCOPE's numbers: 0 with the packets' bytes where every rule of reading holds; the number and offset of
-- the first that doesn't, with the 42 bytes that stand for the loss; and 1 with none, where what goes out has no room. Assumes nothing.
use mathlib.Core.Path.{◌≡◌, refl}
use mathlib.Core.Bool.{Bool, true, false}
use mathlib.Core.List.{List, [], ◌∷◌}
use Prim.Native.Nat.{ℕ}
use lib.Dec.{leb}
use lib.ListN.{length}
use Rattle.laws.specs.Pick.{pick}
use Rattle.answer.specs.Rules.{Rule, judged}
use Rattle.answer.specs.Values.{refusal}
use Rattle.pes.specs.Reading.{read_rules}
use Rattle.stripped.specs.Loss.{unreadable}
use Rattle.stripped.specs.Stripped.{packets_of, goes_out, Values, values, values_of, answer_of}
use Rattle.stripped.specs.declared.Stripped.{Stripped as Stripped-as-Stripped}
use Rattle.stripped.specs.declared.Stripped.TheVariants.{Packets, Lost, Refused}

-- a list of rules judged, as the call's case and as its values
abbrev cases : List Rule → ℕ → Stripped-as-Stripped
cases rs n = judged (λ m o. Lost (refusal m o)) rs (Packets n)

abbrev pub numbers : List Rule → ℕ → Values
numbers rs n = judged (λ m o. values m o (length unreadable)) rs (values 0 0 n)

values-pick :
    (b : Bool) (c d : Stripped-as-Stripped) (v w : Values) → values_of c ≡ v → values_of d ≡ w → values_of (pick b c d) ≡ pick b v w
values-pick true c d v w e f = e
values-pick false c d v w e f = f

values-judged : (rs : List Rule) (n : ℕ) → values_of (cases rs n) ≡ numbers rs n
values-judged [] n = refl
values-judged (r ∷ rs) n = values-pick r.holds (cases rs n) (Lost (refusal r.number r.offset)) _ _ (values-judged rs n) refl

pub strip-values :
    (pes packets : List ℕ)
    → values_of (answer_of pes packets)
    ≡ pick (leb (length (goes_out pes)) (length packets)) (numbers (read_rules pes) (length (packets_of pes))) (values 1 0 0)
unfolding answer_of
strip-values pes packets =
    values-pick (leb (length (goes_out pes)) (length packets)) (cases (read_rules pes) (length (packets_of pes))) (Refused (refusal 1 0)) _ _
    (values-judged (read_rules pes) (length (packets_of pes))) refl
