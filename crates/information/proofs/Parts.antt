-- A record that is read up to its checksum: its control bytes and string bytes, and how the rules go on behind it. Assumes nothing.
use mathlib.Core.Path.{◌≡◌, ◌∙◌, sym, ap, ap₂}
use mathlib.Core.Bool.{true}
use mathlib.Core.List.{List, [], ◌∷◌, ◌++◌, append_assoc}
use Prim.Native.Nat.{ℕ, ◌+◌, ◌-◌, ◌/◌, ◌≤◌}
use native.Mathlib.Omega.{arith}
use lib.ListN.{length, take, drop, length-take, length-drop}
use lib.Seq.{drop-drop, length-take-le}
use Rattle.std.specs.declared.result.Result.TheVariants.{Ok, Err}
use Rattle.laws.proofs.Lists.{part-rest, part_of}
use Rattle.answer.specs.Rules.{Rule, judged}
use Rattle.answer.specs.Values.{refused}
use Rattle.answer.specs.Writing.{answered, after, left, room}
use Rattle.answer.specs.Answer.{Answer}
use Rattle.answer.specs.declared.Refusal.{Refusal}
use Rattle.answer.proofs.Steps.{done_every, done-value, ends, goes_on}
use Rattle.answer.proofs.Lent.{front-holds}
use Rattle.blocks.specs.Block.{head_of, size_of}
use Rattle.blocks.specs.Framing.{framing}
use Rattle.blocks.proofs.Framed.{framed}
use Rattle.kinds.specs.Reading.{one_of, control_part, string_part, control_length, body_rules, sum_rules, carried_by, carried, length_rules}
use Rattle.kinds.specs.Kind.{content_of}
use Rattle.kinds.proofs.Counting.{cut-control, cut-strings}
use Rattle.information_forms.specs.Information.{Information}
use Rattle.information_forms.specs.Form.{form}
use Rattle.information_forms.specs.Kind.{information, value}
use Rattle.information.specs.Reading.{read_rules, information_read}
use Rattle.information.specs.Internal.{held}
use Rattle.information.proofs.Lengths.{held_carried}

module _ (application : ℕ) (r : List ℕ) {first : Answer}
    (judges : first ≡ judged refused (sum_rules (one_of 1 1) true application r) (Ok (length (control_part true (drop 4 r))))) where
  abbrev sums : List Rule
  sums = sum_rules (one_of 1 1) true application r

  abbrev raw : List ℕ
  raw = drop 4 r

  abbrev lengths : List Rule
  lengths = length_rules information (size_of (head_of r)) (carried information raw)

  abbrev bytes : List ℕ
  bytes = form (information_read raw)

  -- a rule up to the checksum refuses
  pub sum-refused :
      (old : List ℕ) {w : Refusal} → first ≡ Err w
      → (Err w ≡ answered (read_rules application r) bytes old) × (old ≡ left (read_rules application r) bytes old)
  sum-refused old e =
      let a = ends sums (lengths ++ room bytes old ∷ []) _ judges (Ok (length bytes)) e
      ∙ ap (λ (rs : List Rule). judged refused rs (Ok (length bytes))) (sym (append_assoc sums lengths (room bytes old ∷ []))) in
      (a, ap (λ (x : Answer). after x bytes old) a)

  module _ {n : ℕ} (e : first ≡ Ok n) where
    long : n ≡ length (control_part true raw)
    long = done-value sums _ n (sym judges ∙ e)

    framed-parts : (length r ≡ 4 + head_of r / 32) × (8 ≤ head_of r / 32)
    framed-parts =
        let k = framed application r (front-holds (framing application r) (body_rules (one_of 1 1) true (head_of r) raw) (done_every sums _ n (sym judges ∙ e))) in
        (k.long, k.eight)

    eight : 8 ≤ length raw
    eight = omega (arith, framed-parts, length-drop 4 r)

    control-cut : take n raw ≡ control_part true raw
    control-cut = cut-control true raw n eight long

    strings-cut : drop n raw ≡ string_part true raw
    strings-cut = cut-strings true raw n eight long

    -- the control bytes end within the record
    pub within : 4 + n ≤ length r
    within = omega (arith, long, length-drop 4 r, length-take (control_length raw) raw, framed-parts)

    -- all of them with all string bytes are the block
    parts-long : length (take n raw) + length (drop n raw) ≡ head_of r / 32
    parts-long = omega (arith, length-take-le n raw (omega (arith, within, length-drop 4 r)), length-drop n raw, length-drop 4 r, framed-parts, within)

    -- as they are lent
    abbrev control : List ℕ
    control = take (4 + n - 4) (drop 4 r)

    abbrev strings : List ℕ
    strings = take (length r - (4 + n)) (drop (4 + n) r)

    strings-lent : strings ≡ drop n raw
    strings-lent = part-rest (4 + n) r ∙ sym (drop-drop n 4 r)

    lent-long : length control + length strings ≡ head_of r / 32
    lent-long = ap₂ (λ (x y : List ℕ). length x + length y) (part_of 4 n r) strings-lent ∙ parts-long

    pub lent-most : length control + length strings ≤ length r
    lent-most = omega (arith, lent-long, framed-parts)

    -- no rule up to the checksum refuses: the lengths decide
    pub sum-taken :
        (old : List ℕ)
        → answered (length_rules information (length control + length strings) (carried_by information control strings)) (form (held control strings)) old
        ≡ answered (read_rules application r) bytes old
    sum-taken old =
        let one : control ≡ control_part true raw = part_of 4 n r ∙ control-cut in
        let two : strings ≡ string_part true raw = strings-lent ∙ strings-cut in
        ap₂ (λ (x : ℕ) (i : Information). answered (length_rules information x (carried_by information control strings)) (form i) old) lent-long (sym (held_carried control strings))
        ∙ ap₂ (λ (x y : List ℕ). answered (length_rules information (head_of r / 32) (carried_by information x y)) (form (value (content_of (carried_by information x y)))) old) one two
        ∙ goes_on sums (lengths ++ room bytes old ∷ []) _ judges (Ok (length bytes)) e
        ∙ ap (λ (rs : List Rule). judged refused rs (Ok (length bytes))) (sym (append_assoc sums lengths (room bytes old ∷ [])))

    -- and of the output it is that which they leave
    pub sum-leaves :
        (old : List ℕ)
        → left (length_rules information (length control + length strings) (carried_by information control strings)) (form (held control strings)) old
        ≡ left (read_rules application r) bytes old
    sum-leaves old =
        let same : form (held control strings) ≡ bytes =
        ap form (sym (held_carried control strings))
        ∙ ap₂ (λ (x y : List ℕ). form (value (content_of (carried_by information x y)))) (part_of 4 n r ∙ control-cut) (strings-lent ∙ strings-cut) in
        ap₂ (λ (x : Answer) (l : List ℕ). after x l old) (sum-taken old) same
