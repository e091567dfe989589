-- How many bits and bytes a table takes. Assumes nothing.
use mathlib.Core.Path.{◌≡◌, ◌∙◌, refl, ap}
use mathlib.Core.List.{List, [], ◌∷◌}
use mathlib.Core.Bool.{Bool, true, false}
use Prim.Native.Nat.{ℕ, ◌+◌, ◌*◌, ◌%◌, ◌<◌}
use native.Mathlib.Nat.{mod-eq_of_lt}
use native.Mathlib.Omega.{arith}
use lib.Dec.{eqb}
use lib.ListN.{length, length-append}
use Rattle.laws.specs.Pick.{pick}
use Rattle.fields.specs.Fields.{width}
use Rattle.forms.specs.Tables.{Descriptor, Table, TI, per, loops, fields, bits}
use Rattle.forms.specs.Form.{spelled, listed, opening_of, form}
use Rattle.fields.proofs.Laid.{width-append, width-row}

pub per_pos : (kind : ℕ) → 0 < per kind
unfolding per
per_pos kind = go (eqb kind TI)
  where
    go : (b : Bool) → 0 < pick b 2 1
    go true = omega arith
    go false = omega arith

-- what `words_of` answers, of a count below 256
pub words_counted : (kind c e r : ℕ) → r ≡ per kind * (c % 256) → c < 256 → c ≡ e → r ≡ per kind * e
words_counted kind c e r h l q = h ∙ ap (λ (x : ℕ). per kind * x) (mod-eq_of_lt l ∙ q)

-- ---- bits

pub width-loops :
    (kind : ℕ) (d : Descriptor) (ds : List Descriptor)
    → width (loops kind (d ∷ ds)) ≡ 10 + 24 * length d.words + width (loops kind ds)
unfolding width loops
width-loops kind d ds = rw (width-append, width-row) (omega arith)

pub bits_of : (t : Table) → bits t ≡ 58 + width (loops t.kind t.descriptors)
unfolding width fields loops
bits_of t = omega arith

-- ---- bytes of the form

pub length-spelled : (ws : List ℕ) → length (spelled ws) ≡ 3 * length ws
unfolding spelled
length-spelled [] = refl
length-spelled (w ∷ ws) = omega (arith, length-spelled ws)

pub length-listed :
    (kind : ℕ) (d : Descriptor) (ds : List Descriptor)
    → length (listed kind (d ∷ ds)) ≡ 2 + 3 * length d.words + length (listed kind ds)
unfolding listed
length-listed kind d ds = rw (length-append, length-spelled) (omega arith)

pub length-form : (t : Table) → length (form t) ≡ 6 + length (listed t.kind t.descriptors)
unfolding form opening_of
length-form t = omega arith

-- the one by the other
pub eights :
    (kind : ℕ) (ds : List Descriptor) → width (loops kind ds) + 6 * length ds ≡ 8 * length (listed kind ds)
eights kind [] = unfold width loops listed in refl
eights kind (d ∷ ds) = rw (width-loops, length-listed) (omega (arith, eights kind ds))
