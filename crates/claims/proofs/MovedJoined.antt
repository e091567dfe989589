-- Moved sheets joined, by the calls' rules: sheets that join in the old form join in the new one to the moved sheet, and where they have room
-- together, so have the moved ones. Assumes nothing.
use mathlib.Core.Path.{◌≡◌, ◌∙◌, refl, sym, ap}
use mathlib.Core.Bool.{Bool, true, false}
use mathlib.Core.List.{List, [], ◌∷◌, map}
use Prim.Native.Nat.{ℕ, suc, ◌+◌, ◌*◌, ◌≤◌}
use native.Mathlib.Omega.{arith}
use lib.Dec.{eqb, leb, ltb}
use lib.ListN.{length, length-map, length-append}
use borrow.Author.Tests.{eqb-true, le-leb, lt-leb, leb-true, leb-false}
use Rattle.laws.specs.Pick.{pick}
use Rattle.laws.specs.Each.{Each, nil, and}
use Rattle.laws.specs.Keyed.{into, merge}
use Rattle.laws.specs.Orders.{greater}
use Rattle.laws.specs.Together.{Measure, longer, added, measured, together as all_together}
use Rattle.laws.proofs.Tests.{both_true}
use Rattle.answer.specs.Rules.{Every, none as all_hold, more}
use Rattle.answer.proofs.Steps.{first_holds, others_hold}
use Rattle.sheet_entry.specs.declared.Form.TheVariants.{Old, New}
use Rattle.sheet_entry.specs.Entries.{Entry, key_of, entry_text}
use Rattle.day_sheet.specs.Entries.{sheet_text, entry_limit, byte_limit}
use Rattle.day_sheet.specs.Reading.{InForm}
use Rattle.sheet_joins.specs.Along.{Stands, in_first, in_second, in_both, up_to, along}
use Rattle.sheet_joins.specs.Joining.{staying, joined}
use Rattle.day_sheet.specs.Calls.{entries_of}
use Rattle.sheet_joins.specs.Calls.{join_rules, join_result}
use Rattle.sheet_joins.specs.AnyOrder.{size_of, Room}
use Rattle.sheet_moves.specs.Moving.{unmended, up_rules, up_text}
use Rattle.day_sheet.proofs.Exact.{read-written}
use Rattle.sheet_joins.proofs.AnyOrder.{sheet-of, text_of, sheet-joined}
use Rattle.sheet_moves.proofs.Carried.{text-marks, old_unmended}
use Rattle.sheet_moves.proofs.Moved.{moved-read, up-long, up-read}

-- along two lists there are at least as many as in either
Both : ℕ → ℕ → ℕ → Type 0
Both n m l = (n ≤ l) × (m ≤ l)

up_to-long :
    (x : Entry) (rest : List Entry → List Stands) (n : ℕ) → ((zs : List Entry) → Both n (length zs) (length (rest zs))) → (ys : List Entry)
    → Both (suc n) (length ys) (length (up_to x rest ys))
unfolding up_to Both
up_to-long x rest n h [] = let r = h [] in (omega arith, omega arith)
up_to-long x rest n h (y ∷ ys) = go (ltb (key_of x) (key_of y)) (eqb (key_of x) (key_of y)) (up_to-long x rest n h ys)
  where
    go :
        (p q : Bool) → Both (suc n) (length ys) (length (up_to x rest ys))
        → Both (suc n) (length (y ∷ ys))
        (length {A = Stands}
        (elim p [
          | true ↦ in_first x ∷ rest (y ∷ ys)
          | false ↦ elim q [ true ↦ in_both x y ∷ rest ys | false ↦ in_second y ∷ up_to x rest ys ]
        ]))
    go true q ih = let r = h (y ∷ ys) in (omega arith, omega arith)
    go false true ih = let r = h ys in (omega arith, omega arith)
    go false false ih = (omega arith, omega arith)

along-long : (xs ys : List Entry) → Both (length xs) (length ys) (length (along xs ys))
unfolding along Both
along-long [] ys = let l = length-map ys in_second in (omega arith, omega arith)
along-long (x ∷ xs) ys = up_to-long x (along xs) (length xs) (along-long xs) ys

joined-long : (xs ys : List Entry) → Both (length xs) (length ys) (length (joined xs ys))
unfolding joined Both
joined-long xs ys = let a = along-long xs ys in let l = length-map (along xs ys) staying in (omega arith, omega arith)

-- where two sheets of the old form join, each moves to the new one, and so does the joined sheet; the moved ones join to it
module _ (first second : List ℕ) (every : Every (join_rules Old first second)) where
  abbrev together : List Entry
  together = join_result Old first second

  abbrev sheet : List ℕ
  sheet = sheet_text Old (join_result Old first second)

  first_in : InForm Old first
  unfolding join_rules
  first_in = first_holds (others_hold (others_hold every))

  second_in : InForm Old second
  unfolding join_rules
  second_in = first_holds (others_hold (others_hold (others_hold every)))

  within : (length together ≤ entry_limit) × (length sheet ≤ byte_limit Old)
  unfolding join_rules
  within =
      let l = others_hold (others_hold (others_hold (others_hold every))) in
      (leb-true (length together) entry_limit (first_holds l), leb-true (length sheet) (byte_limit Old) (first_holds (others_hold l)))

  pub first-up : Every (up_rules first)
  unfolding join_rules up_rules join_result Both
  first-up =
      let w = within.0 in
      let j = joined-long (entries_of Old first) (entries_of Old second) in
      more (first_holds every) (more first-in (more (le-leb (length (entries_of Old first)) entry_limit (omega arith)) all_hold))

  pub second-up : Every (up_rules second)
  unfolding join_rules up_rules join_result Both
  second-up =
      let w = within.0 in
      let j = joined-long (entries_of Old first) (entries_of Old second) in
      more (first_holds (others_hold every)) (more second-in (more (le-leb (length (entries_of Old second)) entry_limit (omega arith)) all_hold))

  joined-read : InForm Old sheet × (entries_of Old sheet ≡ together)
  unfolding join_result
  joined-read = text_of Old (sheet-joined Old (sheet-of Old first first-in) (sheet-of Old second second-in))

  pub joined-up : Every (up_rules sheet)
  unfolding up_rules
  joined-up =
      let w = within in
      let r = joined-read in
      let k = ap length r.1 in
      more (le-leb (length sheet) (byte_limit Old) w.1) (more r.0 (more (le-leb (length (entries_of Old sheet)) entry_limit (omega arith)) all_hold))

  same_entries : join_result New (up_text first) (up_text second) ≡ together
  unfolding join_result
  same_entries = rw ((up-read first first-up).1, (up-read second second-up).1)

  pub ups-join : Every (join_rules New (up_text first) (up_text second)) × (sheet_text New (join_result New (up_text first) (up_text second)) ≡ up_text sheet)
  unfolding join_rules up_text
  ups-join =
      let a = (up-long first first-up).1 in
      let b = (up-long second second-up).1 in
      let c = (up-long sheet joined-up).1 in
      let w = within.0 in
      let k = ap length same_entries in
      let same : sheet_text New (join_result New (up_text first) (up_text second)) ≡ sheet_text New (entries_of Old sheet) =
      ap (sheet_text New) (same_entries ∙ sym joined-read.1) in
      let l = ap length same in (
        more (le-leb (length (up_text first)) (byte_limit New) (omega arith))
            (more (le-leb (length (up_text second)) (byte_limit New) (omega arith))
            (more (up-read first first-up).0
            (more (up-read second second-up).0
            (more (le-leb (length (join_result New (up_text first) (up_text second))) entry_limit (omega arith))
            (more (le-leb (length (sheet_text New (join_result New (up_text first) (up_text second)))) (byte_limit New) (omega arith)) all_hold))))),
        same,
      )

-- ---- the premise: the longest entries of each key take 9 bytes more each

abbrev shift : Measure → Measure
shift m = record { place = m.place; long = m.long + 9 }

abbrev place : Measure → ℕ
place m = m.place

leb_shift : (a b : ℕ) → leb (a + 9) (b + 9) ≡ leb a b
leb_shift a b = go (leb a b) refl
  where
    go : (z : Bool) → leb a b ≡ z → leb (a + 9) (b + 9) ≡ z
    go true z = let h = leb-true a b z in le-leb (a + 9) (b + 9) (omega arith)
    go false z = let h = leb-false a b z in lt-leb (a + 9) (b + 9) (omega arith)

greater_shift : (m n : Measure) → greater longer (shift m) (shift n) ≡ shift (greater longer m n)
greater_shift m n = rw (leb_shift m.long n.long) (go (leb m.long n.long))
  where
    go : (z : Bool) → pick z (shift n) (shift m) ≡ shift (pick z n m)
    go true = refl
    go false = refl

into_shift :
    (m : Measure) (rest others : List Measure → List Measure) → ((ns : List Measure) → others (map shift ns) ≡ map shift (rest ns)) → (ns : List Measure)
    → into place (greater longer) (shift m) others (map shift ns) ≡ map shift (into place (greater longer) m rest ns)
unfolding into
into_shift m rest others e [] = ap (λ (l : List Measure). shift m ∷ l) (e [])
into_shift m rest others e (n ∷ ns) = go (ltb m.place n.place) (eqb m.place n.place) (into_shift m rest others e ns)
  where
    go :
        (p q : Bool) → into place (greater longer) (shift m) others (map shift ns) ≡ map shift (into place (greater longer) m rest ns)
        → elim p [
          | true ↦ shift m ∷ others (shift n ∷ map shift ns)
          | false ↦
              elim q [ true ↦ greater longer (shift m) (shift n) ∷ others (map shift ns) | false ↦ shift n ∷ into place (greater longer) (shift m) others (map shift ns) ]
        ]
        ≡ map shift
        (elim p [
          | true ↦ m ∷ rest (n ∷ ns)
          | false ↦ elim q [ true ↦ greater longer m n ∷ rest ns | false ↦ n ∷ into place (greater longer) m rest ns ]
        ])
    go true q i = ap (λ (l : List Measure). shift m ∷ l) (e (n ∷ ns))
    go false true i = ap (λ (x : Measure). x ∷ others (map shift ns)) (greater_shift m n) ∙ ap (λ (l : List Measure). shift (greater longer m n) ∷ l) (e ns)
    go false false i = ap (λ (l : List Measure). shift n ∷ l) i

merge_shift : (ms ns : List Measure) → merge place (greater longer) (map shift ms) (map shift ns) ≡ map shift (merge place (greater longer) ms ns)
unfolding merge
merge_shift [] ns = refl
merge_shift (m ∷ ms) ns = into_shift m (merge place (greater longer) ms) (merge place (greater longer) (map shift ms)) (merge_shift ms) ns

size-shift : (e : Entry) → e.mended ≡ 0 → size_of New e ≡ size_of Old e + 9
unfolding sheet_text unmended
size-shift e z =
    let m = text-marks New (e ∷ []) (rw z) in
    let a = length-append (entry_text New e) [] in
    let b = length-append (entry_text Old e) [] in
    omega arith

measured-shift : (es : List Entry) → unmended es ≡ true → measured key_of (size_of New) es ≡ map shift (measured key_of (size_of Old) es)
unfolding measured unmended
measured-shift [] u = refl
measured-shift (e ∷ es) u =
    let q = both_true (eqb e.mended 0) (unmended es) u in
    ap (λ (n : ℕ). record { place = key_of e; long = n } ∷ measured key_of (size_of New) es) (size-shift e (eqb-true e.mended 0 q.0))
    ∙ ap (λ (l : List Measure). record { place = key_of e; long = size_of Old e + 9 } ∷ l) (measured-shift es q.1)

added-shift : (ms : List Measure) → added (map shift ms) ≡ added ms + 9 * length ms
unfolding added
added-shift [] = refl
added-shift (m ∷ ms) = let i = added-shift ms in omega arith

-- the moved sheets have the same keys, each with its longest entry 9 bytes longer
moved_together :
    {sheets : List (List ℕ)} → Each (InForm Old) sheets
    → all_together key_of (size_of New) (map (entries_of New) (map up_text sheets)) ≡ map shift (all_together key_of (size_of Old) (map (entries_of Old) sheets))
unfolding all_together up_text
moved_together nil = refl
moved_together (and {a = x} {l = xs} f e) =
    let u = old_unmended (entries_of Old x) (read-written Old x 0 f).2 in
    let r = (moved-read Old New x f u).1 in
    rw (r, measured-shift (entries_of Old x) u, moved_together e)
    (merge_shift (measured key_of (size_of Old) (entries_of Old x)) (all_together key_of (size_of Old) (map (entries_of Old) xs)))

-- so where the premise holds of sheets of the old form, it holds of the moved ones: 64 times 9 bytes more are within the new limit
pub room-up : (sheets : List (List ℕ)) → Each (InForm Old) sheets → Room Old sheets → Room New (map up_text sheets)
room-up sheets e r =
    let ms = all_together key_of (size_of Old) (map (entries_of Old) sheets) in
    let t = moved_together e in
    let k = ap length t ∙ length-map ms shift in
    let a = ap added t ∙ added-shift ms in
    let f = r.few in
    let s = r.short in
    record { few = omega arith; short = omega arith }
