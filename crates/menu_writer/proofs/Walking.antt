-- One entry on in a loop of a form. Assumes nothing.
use mathlib.Core.Path.{◌≡◌, ◌∙◌, sym, ap}
use mathlib.Core.Bool.{true}
use mathlib.Core.List.{List, [], ◌++◌}
use Prim.Native.Nat.{ℕ, ◌+◌, ◌-◌, ◌*◌, ◌≤◌, ◌<◌}
use native.Mathlib.Nat.{add_assoc, add-zero, mod-eq_of_lt}
use native.Mathlib.Numerals.{add-one}
use lib.ListN.{length, get_or, drop, length-append}
use lib.Seq.{sets, drop-drop, get_or-drop}
use Rattle.laws.specs.Pick.{both}
use Rattle.laws.proofs.Countdown.{at_none, at_more}
use Rattle.laws.proofs.Stores.{sets_next}
use Rattle.menu_forms.specs.Form.{number_in}
use Rattle.menu_writer.specs.declared.Loop.{Loop}
use Rattle.menu_writer.specs.Internal.{entry_length, entry_fine, entry_bytes, loop_length, loop_fine, loop_bytes}

module _ (what : Loop) (f : List ℕ) (at left n : ℕ) (some : 0 < left) (e : n ≡ entry_length what (drop at f)) where
  pub length-on : at + n + loop_length what (left - 1) (drop (at + n) f) ≡ at + loop_length what left (drop at f)
  unfolding loop_length
  length-on =
      sym
      (ap (λ (x : ℕ). at + x) (at_more (λ (k : ℕ). loop_length what k (drop at f)) left some)
      ∙ (rw (← e, drop-drop n at f) (sym (add_assoc at n _))))

  pub fine-on : loop_fine what left (drop at f) ≡ both (entry_fine what (drop at f)) (loop_fine what (left - 1) (drop (at + n) f))
  unfolding loop_fine
  fine-on = at_more (λ (k : ℕ). loop_fine what k (drop at f)) left some ∙ (rw (← e, drop-drop n at f))

  pub bytes_on : loop_bytes what left (drop at f) ≡ entry_bytes what (drop at f) ++ loop_bytes what (left - 1) (drop (at + n) f)
  unfolding loop_bytes
  bytes_on = at_more (λ (k : ℕ). loop_bytes what k (drop at f)) left some ∙ (rw (← e, drop-drop n at f))

  pub sent-on :
      (q k : ℕ) → k ≡ length (entry_bytes what (drop at f))
      → q + k + length (loop_bytes what (left - 1) (drop (at + n) f)) ≡ q + length (loop_bytes what left (drop at f))
  sent-on q k l =
      sym
      (ap (λ (x : List ℕ). q + length x) bytes_on ∙ (rw (length-append (entry_bytes what (drop at f)) (loop_bytes what (left - 1) (drop (at + n) f)), ← l) (sym (add_assoc q k _))))

  pub stores-on :
      (q k : ℕ) (out out' : List ℕ) → k ≡ length (entry_bytes what (drop at f)) → out' ≡ sets out q (entry_bytes what (drop at f))
      → sets out' (q + k) (loop_bytes what (left - 1) (drop (at + n) f)) ≡ sets out q (loop_bytes what left (drop at f))
  stores-on q k out out' l e =
      sets_next out out' q k (entry_bytes what (drop at f)) (loop_bytes what (left - 1) (drop (at + n) f)) (loop_bytes what left (drop at f)) bytes_on (sym l) e

module _ (what : Loop) (f : List ℕ) (at left : ℕ) (none : left ≤ 0) where
  pub length-end : at + loop_length what left (drop at f) ≡ at
  unfolding loop_length
  length-end = ap (λ (x : ℕ). at + x) (at_none (λ (k : ℕ). loop_length what k (drop at f)) left none) ∙ add-zero at

  pub fine_end : loop_fine what left (drop at f) ≡ true
  unfolding loop_fine
  fine_end = at_none (λ (k : ℕ). loop_fine what k (drop at f)) left none

  pub bytes_end : loop_bytes what left (drop at f) ≡ []
  unfolding loop_bytes
  bytes_end = at_none (λ (k : ℕ). loop_bytes what k (drop at f)) left none

-- one byte of a number on
pub number-on : (i at n b : ℕ) (f : List ℕ) → b ≡ get_or f (at + i) 0 → b < 256 → n ≡ number_in i (drop at f) → n * 256 + b ≡ number_in (i + 1) (drop at f)
unfolding number_in
number-on i at n b f e l h = rw (add-one i, get_or-drop at f i 0, ← e, ← h, mod-eq_of_lt l)
