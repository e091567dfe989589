-- How a pen goes on: nibble by nibble within a field, and field by field. Assumes nothing.
use mathlib.Core.Path.{◌≡◌, ◌∙◌, refl, sym, ap, ap₂, subst}
use mathlib.Core.Bool.{Bool, true, false}
use mathlib.Core.List.{List, [], ◌∷◌, ◌++◌, map, map-append}
use Prim.Native.Nat.{ℕ, suc, ◌+◌, ◌-◌, ◌*◌, ◌/◌, ◌%◌, ◌^◌, ◌≤◌, ◌<◌, min}
use native.Mathlib.Nat.{add-zero, mul_assoc, mul_comm, mul-add-div_right, mul-add-mod_self_right, one-mul, zero-mul, zero-add, add_comm, div-one, mod-mod, mod-lt, mod-eq_of_lt, lt_of_lt_of_le}
use native.Mathlib.Numerals.{add-one}
use native.Mathlib.Omega.{arith}
use borrow.Author.Tests.{leb-true, leb-false}
use lib.Dec.{leb}
use lib.ListN.{length, set, length-map}
use lib.Pow.{pow_pos, pow-lt, pow-add, pow_mono, shl_lt, shl_exact, shr_lt, shr-shr}
use lib.Seq.{sets, length-sets}
use Rattle.laws.proofs.Lists.{sets-append}
use Rattle.lent_bytes.proofs.Moving.{sets_out}
use Rattle.octet.specs.Image.{image}
use Rattle.fields.specs.Fields.{Field, width, laid, parts}
use Rattle.fields.specs.Pens.{last, in_hand, ready, inked, moved, begun, Fine}
use Rattle.fields.specs.declared.pen.Pen.{Pen}
use Rattle.fields.proofs.Laid.{laid_lt, laid-first, laid-append, laid-above, width-append, length-parts, parts-append, parts_same}

-- ---- within a field

-- `1 << w`
power : (w : ℕ) → w ≤ 32 → 1 * 2 ^ w % 2 ^ 64 ≡ 2 ^ w
power w h = rw one-mul (mod-eq_of_lt (pow-lt {i = w} {j = 64} (omega arith)))

pub power_pos : (w : ℕ) → w ≤ 32 → 0 < 1 * 2 ^ w % 2 ^ 64
power_pos w h = rw (power w h) (pow_pos w)

-- the bits in hand as the code adds them up
abbrev pub added : Pen → ℕ → ℕ → ℕ
added p w v =
    p.bits % (1 * 2 ^ (p.held % 4) % 2 ^ 64) + v % (1 * 2 ^ w % 2 ^ 64) * 2 ^ (p.held % 4) % 2 ^ 64

module _ (p : Pen) (w v : ℕ) (h : w ≤ 32) where
  pub add-up : added p w v ≡ in_hand p ((w, v) ∷ [])
  unfolding laid
  add-up =
      let wide : w + p.held % 4 ≤ 64 = omega arith in
      rw (power w h, power (p.held % 4) (omega arith), shl_exact w (p.held % 4) 64 (mod-lt v (pow_pos w)) wide, zero-mul, zero-add)
      (add_comm (p.bits % 2 ^ (p.held % 4)) (v % 2 ^ w * 2 ^ (p.held % 4)))

  -- a field of at most 32 bits and what is held fit together
  pub added-lt : added p w v < 2 ^ 36
  added-lt =
      let a : p.bits % 2 ^ (p.held % 4) < 2 ^ 3 = lt_of_lt_of_le (mod-lt p.bits (pow_pos (p.held % 4))) (pow_mono {i = p.held % 4} {j = 3} (omega arith)) in
      let b : v % 2 ^ w * 2 ^ (p.held % 4) < 2 ^ 35 = lt_of_lt_of_le (shl_lt w (p.held % 4) (mod-lt v (pow_pos w))) (pow_mono {i = w + p.held % 4} {j = 35} (omega arith)) in
      rw (power w h, power (p.held % 4) (omega arith), shl_exact w (p.held % 4) 64 (mod-lt v (pow_pos w)) (omega arith)) (omega arith)

-- no byte is at the last place, so that a pen may stop there
stays : (out xs : List ℕ) (at next : ℕ) → length out ≤ last → next ≡ min at last → sets out next xs ≡ sets out at xs
stays out xs at next l e = go (leb at last) refl
  where
    go : (b : Bool) → leb at last ≡ b → sets out next xs ≡ sets out at xs
    go true h =
        let le : at ≤ last = leb-true at last h in
        let q : next ≡ at = omega arith in
        ap (λ (x : ℕ). sets out x xs) q
    go false h =
        let gt : last < at = leb-false at last h in
        sets_out out next xs (omega arith) ∙ sym (sets_out out at xs (omega arith))

-- one nibble on
module _ (at held bits : ℕ) (h : 4 ≤ held) where
  pub next-bits : bits / 16 / 2 ^ (4 * ((held - 4) / 4)) ≡ bits / 2 ^ (4 * (held / 4))
  next-bits =
      let e : 4 + 4 * ((held - 4) / 4) ≡ 4 * (held / 4) = omega arith in
      shr-shr bits 4 (4 * ((held - 4) / 4)) ∙ ap (λ (x : ℕ). bits / 2 ^ x) e

  pub next-stored :
      (x next : ℕ) (out out' whole : List ℕ) → length out' ≤ last → x ≡ image (bits % 16) → next ≡ min (at + 1) last → out' ≡ set out at x
      → sets out at (map image (parts 4 (held / 4) bits)) ≡ whole
      → sets out' next (map image (parts 4 ((held - 4) / 4) (bits / 16))) ≡ whole
  unfolding parts
  next-stored x next out out' whole l e n s inv =
      let k : held / 4 ≡ suc ((held - 4) / 4) = omega arith in
      let one = subst (λ (n : ℕ). sets out at (map image (parts 4 n bits)) ≡ whole) k inv in
      stays out' (map image (parts 4 ((held - 4) / 4) (bits / 16))) (suc at) next l (n ∙ ap (λ (y : ℕ). min y last) (add-one at)) ∙ (rw (s, e) one)

-- nothing more in hand than is held
pub last_stored :
    (at held bits : ℕ) (out whole : List ℕ) → held < 4 → sets out at (map image (parts 4 (held / 4) bits)) ≡ whole → out ≡ whole
unfolding parts
last_stored at held bits out whole h inv =
    let k : held / 4 ≡ 0 = omega arith in
    subst (λ (n : ℕ). sets out at (map image (parts 4 n bits)) ≡ whole) k inv

pub last-bits : (held bits whole : ℕ) → held < 4 → bits / 2 ^ (4 * (held / 4)) ≡ whole → bits ≡ whole
last-bits held bits whole h inv =
    let k : 4 * (held / 4) ≡ 0 = omega arith in
    sym (div-one bits) ∙ subst (λ (n : ℕ). bits / 2 ^ n ≡ whole) k inv

pub width_one : (w v : ℕ) → width ((w, v) ∷ []) ≡ w
unfolding width
width_one w v = add-zero w

-- the pen and the output after a field
pub lay_done :
    (p : Pen) (w v at held bits : ℕ) (out out₀ : List ℕ) → w ≤ 32 → held < 4 → at ≤ last
    → min (at + held / 4) last ≡ min (p.at + (p.held % 4 + w) / 4) last
    → held % 4 ≡ (p.held % 4 + w) % 4
    → bits / 2 ^ (4 * (held / 4)) ≡ added p w v / 2 ^ (4 * ((p.held % 4 + w) / 4))
    → sets out at (map image (parts 4 (held / 4) bits)) ≡ sets out₀ p.at (map image (parts 4 ((p.held % 4 + w) / 4) (added p w v)))
    → (◌≡◌ {A = Pen} (record { at = at; held = held; bits = bits }) (moved p ((w, v) ∷ [])))
    × (out ≡ inked p ((w, v) ∷ []) out₀)
unfolding moved inked
lay_done p w v at held bits out out₀ h small place ea eh eb es =
    let a : at ≡ min (p.at + (p.held % 4 + w) / 4) last = omega arith in
    let k : held ≡ (p.held % 4 + w) % 4 = omega arith in
    let b = last-bits held bits _ small eb in
    let s = last_stored at held bits out _ small es in
    rw (← (add-up p w v h), width_one w v) ((λ i. record { at = a i; held = k i; bits = b i }), s)

-- ---- field by field

-- what is in hand fits the bits that it has
hand_fits : (p : Pen) (fs : List Field) → in_hand p fs < 2 ^ (p.held % 4 + width fs)
hand_fits p fs = unfold width in subst (λ (x : ℕ). in_hand p fs < 2 ^ x) (zero-add (p.held % 4 + width fs)) (laid_lt ((p.held % 4, p.bits) ∷ fs) 0 0 (pow_pos 0))

-- a pen that has laid fields is fine
pub moved_fine : (p : Pen) (fs : List Field) → Fine (moved p fs)
unfolding moved
moved_fine p fs =
    let n = p.held % 4 + width fs in
    let e : n ≡ n % 4 + 4 * (n / 4) = omega arith in
    record {
      place = omega arith;
      few = omega arith;
      low = shr_lt (n % 4) (4 * (n / 4)) (subst (λ (x : ℕ). in_hand p fs < 2 ^ x) e (hand_fits p fs));
    }

pub moved_at : (p : Pen) (fs : List Field) → (moved p fs).at ≡ min (p.at + ready p fs) last
unfolding moved
moved_at p fs = refl

pub length-inked : (p : Pen) (fs : List Field) (out : List ℕ) → length (inked p fs out) ≡ length out
unfolding inked
length-inked p fs out = length-sets out p.at (map image (parts 4 (ready p fs) (in_hand p fs)))

module _ (p : Pen) (fs gs : List Field) where
  n : ℕ
  n = p.held % 4 + width fs

  q : ℕ
  q = n / 4

  -- what is in hand at the end, over what was in hand in between
  above : in_hand p (fs ++ gs) ≡ laid gs 0 * 2 ^ n + in_hand p fs
  unfolding n width
  above = laid-append ((p.held % 4, p.bits) ∷ fs) gs 0 ∙ laid-above ((p.held % 4, p.bits) ∷ fs) (laid gs 0)

  over : laid gs 0 * 2 ^ n + in_hand p fs ≡ laid gs 0 * 2 ^ (n % 4) * 2 ^ (4 * q) + in_hand p fs
  unfolding q
  over =
      let e : n % 4 + 4 * (n / 4) ≡ n = omega arith in
      ap (λ (x : ℕ). x + in_hand p fs)
      (sym (mul_assoc (laid gs 0) (2 ^ (n % 4)) (2 ^ (4 * (n / 4))) ∙ ap (λ (x : ℕ). laid gs 0 * x) (sym (pow-add 2 (n % 4) (4 * (n / 4))) ∙ ap (λ (x : ℕ). 2 ^ x) e)))

  then-hand : in_hand p (fs ++ gs) / 2 ^ (4 * q) ≡ in_hand (moved p fs) gs
  unfolding moved n q laid
  then-hand =
      ap (λ (x : ℕ). x / 2 ^ (4 * q)) (above ∙ over) ∙ mul-add-div_right (pow_pos (4 * q)) (laid gs 0 * 2 ^ (n % 4)) (in_hand p fs)
      ∙ ap (λ (x : ℕ). laid gs 0 * 2 ^ (n % 4) + x) (sym (mod-eq_of_lt (moved_fine p fs).low))
      ∙ ap (λ (x : ℕ). laid gs 0 * 2 ^ x + in_hand p fs / 2 ^ (4 * q) % 2 ^ x) (sym (mod-mod n 4))

  then_ready : ready p (fs ++ gs) ≡ q + ready (moved p fs) gs
  unfolding moved n q
  then_ready = rw width-append (omega arith)

  then-held : (p.held % 4 + width (fs ++ gs)) % 4 ≡ ((moved p fs).held % 4 + width gs) % 4
  unfolding moved
  then-held = rw width-append (omega arith)

  then-bits : in_hand p (fs ++ gs) / 2 ^ (4 * ready p (fs ++ gs)) ≡ in_hand (moved p fs) gs / 2 ^ (4 * ready (moved p fs) gs)
  then-bits =
      let e : 4 * (q + ready (moved p fs) gs) ≡ 4 * q + 4 * ready (moved p fs) gs = omega arith in
      ap (λ (x : ℕ). in_hand p (fs ++ gs) / 2 ^ x) (ap (λ (x : ℕ). 4 * x) then_ready ∙ e)
      ∙ sym (shr-shr (in_hand p (fs ++ gs)) (4 * q) (4 * ready (moved p fs) gs))
      ∙ ap (λ (x : ℕ). x / 2 ^ (4 * ready (moved p fs) gs)) then-hand

  then_at : min ((moved p fs).at + ready (moved p fs) gs) last ≡ min (p.at + ready p (fs ++ gs)) last
  unfolding moved q n
  then_at = omega (arith, then_ready)

  pub moved_then : moved (moved p fs) gs ≡ moved p (fs ++ gs)
  unfolding moved
  moved_then = λ i. record { at = then_at i; held = sym then-held i; bits = sym then-bits i }

  then-parts :
      parts 4 (ready p fs) (in_hand p fs) ++ parts 4 (ready (moved p fs) gs) (in_hand (moved p fs) gs)
      ≡ parts 4 (ready p (fs ++ gs)) (in_hand p (fs ++ gs))
  unfolding q n
  then-parts =
      let m = ready (moved p fs) gs in
      let same : in_hand p (fs ++ gs) % 2 ^ (q * 4) ≡ in_hand p fs % 2 ^ (q * 4) =
      ap (λ (x : ℕ). in_hand p (fs ++ gs) % 2 ^ x) (mul_comm q 4) ∙ ap (λ (x : ℕ). x % 2 ^ (4 * q)) (above ∙ over)
      ∙ mul-add-mod_self_right (laid gs 0 * 2 ^ (n % 4)) (2 ^ (4 * q)) (in_hand p fs)
      ∙ ap (λ (x : ℕ). in_hand p fs % 2 ^ x) (mul_comm 4 q) in
      sym
      (ap (λ (k : ℕ). parts 4 k (in_hand p (fs ++ gs))) then_ready ∙ parts-append 4 q m (in_hand p (fs ++ gs))
      ∙ ap₂ (λ (a b : List ℕ). a ++ b) (parts_same 4 q (in_hand p (fs ++ gs)) (in_hand p fs) same)
      (ap (λ (x : ℕ). parts 4 m (in_hand p (fs ++ gs) / 2 ^ x)) (mul_comm q 4) ∙ ap (parts 4 m) then-hand))

  pub inked-then : (out : List ℕ) → length out ≤ last → inked (moved p fs) gs (inked p fs out) ≡ inked p (fs ++ gs) out
  unfolding inked
  inked-then out l =
      let la = map image (parts 4 (ready p fs) (in_hand p fs)) in
      let lb = map image (parts 4 (ready (moved p fs) gs) (in_hand (moved p fs) gs)) in
      let long : length la ≡ ready p fs = length-map (parts 4 (ready p fs) (in_hand p fs)) image ∙ length-parts 4 (ready p fs) (in_hand p fs) in
      let place : (moved p fs).at ≡ min (p.at + length la) last = moved_at p fs ∙ ap (λ (x : ℕ). min (p.at + x) last) (sym long) in
      stays (sets out p.at la) lb (p.at + length la) (moved p fs).at (rw (length-sets out p.at la) l) place
      ∙ sym (sets-append out p.at la lb)
      ∙ ap (sets out p.at)
      (sym (map-append image (parts 4 (ready p fs) (in_hand p fs)) (parts 4 (ready (moved p fs) gs) (in_hand (moved p fs) gs))) ∙ ap (map image) then-parts)

-- fields laid as one
pub pressed_hand : (p : Pen) (fs : List Field) → in_hand p ((width fs, laid fs 0) ∷ []) ≡ in_hand p fs
unfolding laid
pressed_hand p fs =
    ap (λ (x : ℕ). x * 2 ^ (p.held % 4) + p.bits % 2 ^ (p.held % 4))
    (ap (λ (x : ℕ). x + laid fs 0 % 2 ^ width fs) (zero-mul (2 ^ width fs)) ∙ zero-add (laid fs 0 % 2 ^ width fs)
    ∙ mod-eq_of_lt (subst (λ (x : ℕ). laid fs 0 < 2 ^ x) (zero-add (width fs)) (laid_lt fs 0 0 (pow_pos 0))))

pub pressed_moved : (p : Pen) (fs : List Field) → moved p ((width fs, laid fs 0) ∷ []) ≡ moved p fs
unfolding moved
pressed_moved p fs = rw (pressed_hand, width_one)

pub pressed_inked : (p : Pen) (fs : List Field) (out : List ℕ) → inked p ((width fs, laid fs 0) ∷ []) out ≡ inked p fs out
unfolding inked
pressed_inked p fs out = rw (pressed_hand, width_one)

-- fields from a pen that holds nothing
pub begun_fine : (to : ℕ) → to ≤ last → Fine (begun to)
begun_fine to h = record { place = h; few = omega arith; low = pow_pos 0 }

pub begun-inked : (to : ℕ) (fs : List Field) (out : List ℕ) → inked (begun to) fs out ≡ sets out to (map image (parts 4 (width fs / 4) (laid fs 0)))
unfolding inked
begun-inked to fs out =
    let held : 0 % 4 + width fs ≡ width fs = omega arith in
    let hand : in_hand (begun to) fs ≡ laid fs 0 = unfold laid in (omega arith) in
    rw (held, hand)

-- a run of k nibbles is a field
pub run-inked : (to k v : ℕ) (out : List ℕ) → inked (begun to) ((4 * k, v) ∷ []) out ≡ sets out to (map image (parts 4 k v))
run-inked to k v out =
    let wide : width ((4 * k, v) ∷ []) / 4 ≡ k = unfold width in (omega arith) in
    let low : laid ((4 * k, v) ∷ []) 0 % 2 ^ (k * 4) ≡ v % 2 ^ (k * 4) =
    ap (λ (x : ℕ). laid ((4 * k, v) ∷ []) 0 % 2 ^ x) (mul_comm k 4) ∙ laid-first (4 * k, v) [] 0 ∙ ap (λ (x : ℕ). v % 2 ^ x) (mul_comm 4 k) in
    begun-inked to ((4 * k, v) ∷ []) out
    ∙ ap (λ (n : ℕ). sets out to (map image (parts 4 n (laid ((4 * k, v) ∷ []) 0)))) wide
    ∙ ap (λ (l : List ℕ). sets out to (map image l)) (parts_same 4 k (laid ((4 * k, v) ∷ []) 0) v low)

-- ---- as the loops have it: fields laid from here make what was to be laid from the start

module _ (p : Pen) (fs gs all : List Field) (e : all ≡ fs ++ gs) {r : Pen} (m : r ≡ moved p fs) where
  pub on_fine : Fine r
  on_fine = rw m (moved_fine p fs)

  pub on-moved : moved r gs ≡ moved p all
  on-moved = ap (λ (x : Pen). moved x gs) m ∙ moved_then p fs gs ∙ ap (moved p) (sym e)

  pub on-inked : (out : List ℕ) {out' : List ℕ} → length out ≤ last → out' ≡ inked p fs out → inked r gs out' ≡ inked p all out
  on-inked out l k =
      ap₂ (λ (x : Pen) (l : List ℕ). inked x gs l) m k ∙ inked-then p fs gs out l ∙ ap (λ (l : List Field). inked p l out) (sym e)

-- nothing is left to be laid
module _ (p : Pen) (f : Fine p) where
  few-held : p.held % 4 ≡ p.held
  few-held = mod-eq_of_lt f.few

  none-ready : ready p [] ≡ 0
  unfolding width
  none-ready = omega (arith, few-held, f.few)

  pub none_left : moved p [] ≡ p
  unfolding moved laid width
  none_left =
      let a : min (p.at + (p.held % 4 + 0) / 4) last ≡ p.at = omega (arith, none-ready, f.place) in
      let k : (p.held % 4 + 0) % 4 ≡ p.held = omega (arith, few-held) in
      let b : (0 * 2 ^ (p.held % 4) + p.bits % 2 ^ (p.held % 4)) / 2 ^ (4 * ready p []) ≡ p.bits =
      rw (none-ready, few-held, zero-mul, zero-add, div-one) (mod-eq_of_lt f.low) in
      λ i. record { at = a i; held = k i; bits = b i }

  pub none-inked : (out : List ℕ) → inked p [] out ≡ out
  unfolding inked parts
  none-inked out = rw none-ready
