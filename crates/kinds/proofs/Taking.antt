-- What a caller of `judge` has of its answer: how a refusal ends the call and how the rules behind go on, and where control bytes and
-- string bytes lie in the record. Assumes nothing.
use mathlib.Core.Path.{◌≡◌, ◌∙◌, refl, sym, ap}
use mathlib.Core.Bool.{Bool, true, false}
use mathlib.Core.List.{List, [], ◌∷◌, ◌++◌, append_assoc}
use Prim.Native.Nat.{ℕ, ◌+◌, ◌-◌, ◌/◌, ◌≤◌}
use native.Mathlib.Nat.{le_refl}
use native.Mathlib.Omega.{arith}
use lib.ListN.{length, take, drop, length-take, length-drop}
use lib.Seq.{drop-drop}
use Rattle.std.specs.declared.result.Result.TheVariants.{Ok, Err}
use Rattle.laws.proofs.Lists.{part-rest, part_of}
use Rattle.answer.specs.declared.Refusal.{Refusal}
use Rattle.answer.specs.Answer.{Answer}
use Rattle.answer.specs.Rules.{Rule, judged, Every}
use Rattle.answer.specs.Values.{refused}
use Rattle.answer.specs.Writing.{room, answered, left}
use Rattle.answer.proofs.Lent.{lent-refused, front-holds}
use Rattle.answer.proofs.Steps.{ends, goes_on, done-value, done_every}
use Rattle.blocks.specs.Block.{head_of}
use Rattle.blocks.specs.Framing.{framing}
use Rattle.blocks.proofs.Framed.{Framed, framed}
use Rattle.kinds.specs.Reading.{control_length, control_part, string_part, body_rules, sum_rules}
use Rattle.kinds.proofs.Counting.{cut-control, cut-strings}

part_le : (spoken : Bool) (raw : List ℕ) → length (control_part spoken raw) ≤ length raw
part_le true raw = omega (arith, length-take (control_length raw) raw)
part_le false raw = le_refl (length raw)

module _ (asked : ℕ → Bool) (spoken : Bool) (application : ℕ) (r : List ℕ) {first : Answer}
    (judges : first ≡ judged refused (sum_rules asked spoken application r) (Ok (length (control_part spoken (drop 4 r))))) where
  abbrev rules : List Rule
  rules = sum_rules asked spoken application r

  abbrev all : ℕ
  all = length (control_part spoken (drop 4 r))

  module _ (qs : List Rule) (bytes old : List ℕ) where
    pub sum-refused : {w : Refusal} → first ≡ Err w → (Err w ≡ answered (rules ++ qs) bytes old) × (old ≡ left (rules ++ qs) bytes old)
    sum-refused e = lent-refused (rules ++ qs) bytes old all (ends rules qs all judges (Ok all) e) refl

    pub sum-taken : {n : ℕ} → first ≡ Ok n → answered qs bytes old ≡ answered (rules ++ qs) bytes old
    sum-taken e =
        goes_on rules (qs ++ room bytes old ∷ []) all judges (Ok (length bytes)) e
        ∙ ap (λ (l : List Rule). judged refused l (Ok (length bytes))) (sym (append_assoc rules qs (room bytes old ∷ [])))

  module _ {n : ℕ} (e : first ≡ Ok n) where
    -- every rule up to the checksum holds
    pub sum-every : Every rules
    sum-every = done_every rules all n (sym judges ∙ e)

    taken : Framed application r
    taken = framed application r (front-holds (framing application r) (body_rules asked spoken (head_of r) (drop 4 r)) sum-every)

    pub count-is : n ≡ length (control_part spoken (drop 4 r))
    count-is = done-value rules all n (sym judges ∙ e)

    -- the block's size, and that head and control bytes are there
    pub size-lent : length r - 4 ≡ head_of r / 32
    size-lent = omega (arith, taken.long)

    pub long-lent : 12 ≤ length r
    long-lent = omega (arith, taken.long, taken.eight)

    pub count-in : 4 + n ≤ length r
    count-in = omega (arith, count-is, part_le spoken (drop 4 r), length-drop 4 r, long-lent)

    -- the two parts as they are lent
    pub control-lent : take (4 + n - 4) (drop 4 r) ≡ control_part spoken (drop 4 r)
    control-lent = part_of 4 n r ∙ cut-control spoken (drop 4 r) n (omega (arith, length-drop 4 r, long-lent)) count-is

    pub strings-lent : take (length r - (4 + n)) (drop (4 + n) r) ≡ string_part spoken (drop 4 r)
    strings-lent =
        part-rest (4 + n) r ∙ sym (drop-drop n 4 r)
        ∙ cut-strings spoken (drop 4 r) n (omega (arith, length-drop 4 r, long-lent)) count-is
