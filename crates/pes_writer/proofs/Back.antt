-- What is written reads back: the walk along a written packet meets each unit as it was made, first those of the records and then
-- the stuffing. Assumes nothing.
use mathlib.Core.Path.{◌≡◌, ◌∙◌, refl, sym, ap, ap₂}
use mathlib.Core.Bool.{Bool, true, false}
use mathlib.Core.List.{List, [], ◌∷◌, ◌++◌, map, flat_map, append_assoc}
use Prim.Native.Nat.{ℕ, zero, suc, ◌+◌, ◌*◌, ◌<◌, ◌≤◌}
use native.Mathlib.Nat.{add-zero, zero-add}
use native.Mathlib.Numerals.{add-one, add-two}
use native.Mathlib.Omega.{arith}
use lib.ListN.{length, get_or, take, drop, length-append, length-map, length-take, length-drop}
use lib.Seq.{drop-cons, take-add, take_at, drop_at, drop-drop, get_or-drop}
use Rattle.laws.specs.Bytes.{Bytes}
use Rattle.laws.proofs.Byted.{bytes_take, bytes_drop}
use Rattle.laws.proofs.Tests.{both_first, both-second}
use Rattle.answer.specs.Rules.{Every, none}
use Rattle.answer.proofs.Judging.{every_append}
use Rattle.octet.specs.Turning.{turned}
use Rattle.octet.proofs.Laws.{turned-turned}
use Rattle.units.specs.Units.{byte_at, text_id, next_unit}
use Rattle.units.proofs.Meets.{Whole, whole-text, whole_stuffing}
use Rattle.pes.specs.Reading.{record_at}
use Rattle.pes_writer.specs.Writing.{record_fits, records_fit, unit_of, units_of, stuffing_unit, stuffing_units}
use Rattle.pes.proofs.Walk.{from, from_end, from_step, rest, lawful, rest_end, rest-text, rest_stuffing}
use Rattle.pes_writer.proofs.Making.{unit_length, stuffing_unit-length}

-- ---- a packet known from a place on

-- the walk from a place on meets n units, all lawful, that give these records
pub record Walked (pes : List ℕ) (at n : ℕ) (given : List ℕ) : Type 0 where
  pub rules : Every (lawful pes at)
  pub gives : rest pes at ≡ given
  pub count : length (from pes at) ≡ n

walked_end : (pes : List ℕ) (at : ℕ) → length pes ≤ at → Walked pes at 0 []
unfolding flat_map
walked_end pes at h =
    record { rules = rw (from_end pes at h) none; gives = rest_end pes at h; count = ap length (from_end pes at h) }

lawful-step :
    (pes : List ℕ) (at next : ℕ) (s : Bool) → Whole pes at next s → Every (lawful pes next) → Every (lawful pes at)
unfolding flat_map
lawful-step pes at next s w e = rw (from_step pes at w.within) (every_append w.every (rw w.after at e))

count-step : (pes : List ℕ) (at next n : ℕ) (s : Bool) → Whole pes at next s → length (from pes next) ≡ n → length (from pes at) ≡ suc n
count-step pes at next n s w e = rw (from_step pes at w.within) (ap suc (rw w.after at e))

walked-text :
    (pes : List ℕ) (at next n : ℕ) (given : List ℕ) → Whole pes at next false → Walked pes next n given
    → Walked pes at (suc n) (record_at pes at ++ given)
walked-text pes at next n given w k =
    record {
      rules = lawful-step pes at next false w k.rules;
      gives = rest-text pes at next w ∙ ap (λ (l : List ℕ). record_at pes at ++ l) k.gives;
      count = count-step pes at next n false w k.count;
    }

walked_stuffing :
    (pes : List ℕ) (at next n : ℕ) (given : List ℕ) → Whole pes at next true → Walked pes next n given → Walked pes at (suc n) given
walked_stuffing pes at next n given w k =
    record {
      rules = lawful-step pes at next true w k.rules;
      gives = rest_stuffing pes at next w ∙ k.gives;
      count = count-step pes at next n true w k.count;
    }

-- where the packet goes on with a part, its bytes are the part's, and after it comes the tail
module _ (pes : List ℕ) (at : ℕ) (part tail : List ℕ) (goes : drop at pes ≡ part ++ tail) where
  byte_of : (k : ℕ) → byte_at pes (at + k) ≡ byte_at (part ++ tail) k
  byte_of k = sym (get_or-drop at pes k 0) ∙ ap (λ (l : List ℕ). get_or l k 0) goes

  byte-first : byte_at pes at ≡ byte_at (part ++ tail) 0
  byte-first = rw add-zero at (byte_of 0)

  ends_at : 0 < length part → at + length part ≤ length pes
  ends_at h =
      let e = sym (length-drop at pes) ∙ ap length goes ∙ length-append part tail in
      omega (arith, e)

  goes_on : (n : ℕ) → length part ≡ n → drop (at + n) pes ≡ tail
  goes_on n l = sym (drop-drop n at pes) ∙ ap (drop n) goes ∙ drop_at part tail n l

-- ---- stuffing

back_stuffing : (k : ℕ) (pes : List ℕ) (at : ℕ) → drop at pes ≡ stuffing_units k → Walked pes at k []
unfolding stuffing_units stuffing_unit
back_stuffing zero pes at goes =
    walked_end pes at (let e = sym (length-drop at pes) ∙ ap length goes in omega (arith, e))
back_stuffing (suc k) pes at goes =
    let l = byte_of pes at stuffing_unit (stuffing_units k) goes 1 in
    let h = ends_at pes at stuffing_unit (stuffing_units k) goes (omega (arith, stuffing_unit-length)) in
    let n : next_unit pes at ≡ at + 46 = omega (arith, l) in
    let i = byte-first pes at stuffing_unit (stuffing_units k) goes in
    walked_stuffing pes at (next_unit pes at) k []
    (whole_stuffing pes at i (omega (arith, h, stuffing_unit-length)) (omega (arith, h, n, stuffing_unit-length)))
    (back_stuffing k pes (next_unit pes at) (rw n (goes_on pes at stuffing_unit (stuffing_units k) goes 46 stuffing_unit-length)))

-- ---- the records' units

-- turned twice, bytes are as they were
turned_again : (l : List ℕ) → Bytes l → map turned (map turned l) ≡ l
turned_again [] b = refl
turned_again (x ∷ l) b = ap₂ (λ (y : ℕ) (m : List ℕ). y ∷ m) (turned-turned x (b 0)) (turned_again l (λ i. b (suc i)))

-- 44 bytes are the first, the second and 42 more
record_parts : (rs : List ℕ) (i : ℕ) → i + 44 ≤ length rs → take 44 (drop i rs) ≡ byte_at rs i ∷ byte_at rs (i + 1) ∷ take 42 (drop (i + 2) rs)
record_parts rs i h =
    let p : i < length rs = omega arith in
    let q : suc i < length rs = omega arith in
    rw (add-one i, add-two i, drop-cons rs i 0 p, drop-cons rs (suc i) 0 q)

module _ (rs : List ℕ) (b : Bytes rs) (i : ℕ) (h : i + 44 ≤ length rs) (f : record_fits rs i ≡ true) (pes : List ℕ) (at : ℕ) (tail : List ℕ)
    (goes : drop at pes ≡ unit_of rs i ++ tail) where
  back_whole : Whole pes at (at + 46) false
  unfolding unit_of
  back_whole =
      let byte = byte_of pes at (unit_of rs i) tail goes in
      let l = unit_length rs i h in
      whole-text pes at (rw (byte-first pes at (unit_of rs i) tail goes) (both_first (text_id (byte_at rs i)) _ f)) (byte 1)
      (rw (byte 2) (both-second (text_id (byte_at rs i)) _ f)) (byte 3)
      (rw l at (ends_at pes at (unit_of rs i) tail goes (omega (arith, l))))

  back-record : record_at pes at ≡ take 44 (drop i rs)
  unfolding unit_of record_at
  back-record =
      let x = take 42 (drop (i + 2) rs) in
      let l : length (map turned x) ≡ 42 = simp (length-map, length-take, length-drop) (omega arith) in
      let run : drop (at + 4) pes ≡ map turned x ++ tail = sym (drop-drop 4 at pes) ∙ ap (drop 4) goes in
      let same : map turned (take 42 (drop (at + 4) pes)) ≡ x =
      ap (λ (y : List ℕ). map turned (take 42 y)) run ∙ ap (map turned) (take_at (map turned x) tail 42 l)
      ∙ turned_again x (bytes_take 42 (drop (i + 2) rs) (bytes_drop (i + 2) rs b)) in
      rw (byte-first pes at (unit_of rs i) tail goes, byte_of pes at (unit_of rs i) tail goes 2, same) (sym (record_parts rs i h))

pub back_units :
    (u k : ℕ) (rs : List ℕ) → Bytes rs → (i : ℕ) → i + 44 * u ≤ length rs → records_fit u rs i ≡ true
    → (pes : List ℕ) (at : ℕ) → drop at pes ≡ units_of u rs i ++ stuffing_units k → Walked pes at (u + k) (take (44 * u) (drop i rs))
unfolding records_fit units_of
back_units zero k rs b i h f pes at goes = rw zero-add (back_stuffing k pes at goes)
back_units (suc u) k rs b i h f pes at goes =
    let goes' : drop at pes ≡ unit_of rs i ++ (units_of u rs (i + 44) ++ stuffing_units k) = goes ∙ append_assoc (unit_of rs i) _ _ in
    let f₁ = both_first (record_fits rs i) (records_fit u rs (i + 44)) f in
    let f₂ = both-second (record_fits rs i) (records_fit u rs (i + 44)) f in
    let m : i + 44 ≤ length rs = omega arith in
    let tail = units_of u rs (i + 44) ++ stuffing_units k in
    let w = back_whole rs b i m f₁ pes at tail goes' in
    let e : 44 * suc u ≡ 44 + 44 * u = omega arith in
    let n : suc (u + k) ≡ suc u + k = omega arith in
    let later = back_units u k rs b (i + 44) (omega arith) f₂ pes (at + 46) (goes_on pes at (unit_of rs i) tail goes' 46 (unit_length rs i m)) in
    rw (e, take-add 44 (44 * u) (drop i rs), drop-drop 44 i rs, ← n, ← (back-record rs b i m f₁ pes at tail goes'))
    (walked-text pes at (at + 46) (u + k) _ w later)
