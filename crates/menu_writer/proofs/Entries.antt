-- One entry of a form: whether its values fit, and the number that its fields make. Assumes nothing.
use mathlib.Core.Path.{◌≡◌, ◌∙◌, refl, sym, ap}
use mathlib.Core.List.{List, [], ◌∷◌, map}
use Prim.Native.Nat.{ℕ, zero, suc, ◌+◌, ◌*◌, ◌/◌, ◌%◌, ◌^◌, ◌≤◌, ◌<◌, min}
use native.Mathlib.Nat.{add-zero, zero-add, zero-mul, mod-eq_of_lt, lt_of_lt_of_le}
use native.Mathlib.Omega.{arith}
use borrow.Author.Tests.{lt-ltb}
use lib.Dec.{ltb}
use lib.ListN.{length, get_or, drop, length-map}
use lib.Pow.{pow_pos, pow-add, pow_mono}
use lib.Seq.{sets, get_or-drop, drop-drop}
use Rattle.laws.specs.Pick.{both}
use Rattle.laws.proofs.Tests.{both_right}
use Rattle.octet.specs.Image.{image}
use Rattle.fields.specs.Fields.{Field, width, laid, fitting, parts, whole}
use Rattle.fields.specs.Pens.{last, inked, moved, begun}
use Rattle.fields.specs.declared.pen.Pen.{Pen}
use Rattle.fields.proofs.Laid.{length-parts}
use Rattle.fields.proofs.Inking.{begun-inked, on-inked}
use Rattle.menu_forms.specs.Menus.{info_bytes, descriptor_fields, escape_fields, attribute_fields}
use Rattle.menu_forms.specs.Form.{number_in, descriptor_in, escape_in, attribute_in}
use Rattle.menu_forms.specs.Block.{in_nibbles}

pub byte-front : (at : ℕ) (f : List ℕ) → get_or (drop at f) 0 0 ≡ get_or f at 0
byte-front at f = get_or-drop at f 0 0 ∙ ap (λ (x : ℕ). get_or f x 0) (add-zero at)

-- two bytes, the low one first
pub low_high : (a b : ℕ) → a < 256 → b < 256 → whole 8 (a ∷ b ∷ []) ≡ a + 256 * b
unfolding whole
low_high a b ha hb = rw (mod-eq_of_lt ha, mod-eq_of_lt hb) (omega arith)

-- ---- fitting

pub descriptor-fits :
    (f : List ℕ) (at w i e : ℕ) → w ≡ get_or f at 0 → i ≡ get_or f (at + 1) 0 → e ≡ get_or f (at + 2) 0
    → fitting (descriptor_fields (descriptor_in (drop at f))) ≡ both (ltb w 64) (both (ltb i 64) (ltb e 256))
unfolding fitting
descriptor-fits f at w i e hw hi he =
    rw (byte-front at f, get_or-drop at f 1 0, get_or-drop at f 2 0, ← hw, ← hi, ← he, both_right)

pub escape_fits :
    (f : List ℕ) (at a b m e : ℕ) → a ≡ get_or f at 0 → b ≡ get_or f (at + 1) 0 → m ≡ get_or f (at + 2) 0 → e ≡ get_or f (at + 3) 0
    → a < 256 → b < 256
    → fitting (escape_fields (escape_in (drop at f))) ≡ both (ltb (a + 256 * b) 1024) (both (ltb m 64) (ltb e 256))
unfolding fitting
escape_fits f at a b m e ha hb hm he la lb =
    rw (byte-front at f, get_or-drop at f 1 0, get_or-drop at f 2 0, get_or-drop at f 3 0, ← ha, ← hb, ← hm, ← he, low_high a b la lb, both_right)

pub number_lt : (k : ℕ) (f : List ℕ) → number_in k f < 2 ^ (8 * k)
unfolding number_in
number_lt zero f = pow_pos 0
number_lt (suc k) f =
    let e : 8 * suc k ≡ 8 * k + 8 = omega arith in
    let p : 2 ^ (8 * suc k) ≡ 2 ^ (8 * k) * 256 = ap (λ (x : ℕ). 2 ^ x) e ∙ pow-add 2 (8 * k) 8 in
    rw p (omega (arith, number_lt k f))

pub number_small : (k : ℕ) (f : List ℕ) → k ≤ 4 → number_in k f < 2 ^ 32
number_small k f h = lt_of_lt_of_le (number_lt k f) (pow_mono {i = 8 * k} {j = 32} (omega arith))

pub attribute_fits :
    (f : List ℕ) (at kind : ℕ) → kind ≡ get_or f at 0 → fitting (attribute_fields (attribute_in (drop at f))) ≡ ltb kind 256
unfolding fitting
attribute_fits f at kind h =
    rw (byte-front at f, ← h, lt-ltb (number_in (info_bytes kind) (drop 1 (drop at f))) (2 ^ (8 * info_bytes kind)) (number_lt (info_bytes kind) (drop 1 (drop at f))), both_right)

-- ---- the numbers that are sent

pub descriptor-number :
    (f : List ℕ) (at w i e : ℕ) → w ≡ get_or f at 0 → i ≡ get_or f (at + 1) 0 → e ≡ get_or f (at + 2) 0 → e < 256
    → in_nibbles (descriptor_fields (descriptor_in (drop at f))) ≡ parts 4 5 ((e * 64 + i % 64) * 64 + w % 64)
unfolding in_nibbles width laid
descriptor-number f at w i e hw hi he le =
    rw (byte-front at f, get_or-drop at f 1 0, get_or-drop at f 2 0, ← hw, ← hi, ← he, mod-eq_of_lt le, zero-mul, zero-add)

pub escape_number :
    (f : List ℕ) (at a b m e : ℕ) → a ≡ get_or f at 0 → b ≡ get_or f (at + 1) 0 → m ≡ get_or f (at + 2) 0 → e ≡ get_or f (at + 3) 0
    → a < 256 → b < 256 → e < 256
    → in_nibbles (escape_fields (escape_in (drop at f))) ≡ parts 4 6 ((e * 64 + m % 64) * 1024 + (a + 256 * b) % 1024)
unfolding in_nibbles width laid
escape_number f at a b m e ha hb hm he la lb le =
    rw (byte-front at f, get_or-drop at f 1 0, get_or-drop at f 2 0, get_or-drop at f 3 0, ← ha, ← hb, ← hm, ← he, low_high a b la lb, mod-eq_of_lt le, zero-mul, zero-add)

pub sent-length : (k n : ℕ) → length (map image (parts 4 k n)) ≡ k
sent-length k n = length-map (parts 4 k n) image ∙ length-parts 4 k n

-- an attribute is sent in two fields, its kind and its information
pub attribute_sent :
    (f : List ℕ) (at to kind k info : ℕ) (out o₁ o₂ : List ℕ) {p : Pen} → kind ≡ get_or f at 0 → k ≡ info_bytes kind → k ≤ 4
    → info ≡ number_in k (drop (at + 1) f)
    → length out ≤ last
    → p ≡ moved (begun to) ((8, kind) ∷ [])
    → o₁ ≡ inked (begun to) ((8, kind) ∷ []) out
    → o₂ ≡ inked p ((min (8 * k) 32, info) ∷ []) o₁
    → (2 + 2 * k ≡ length (map image (in_nibbles (attribute_fields (attribute_in (drop at f))))))
    × (o₂ ≡ sets out to (map image (in_nibbles (attribute_fields (attribute_in (drop at f))))))
unfolding in_nibbles
attribute_sent f at to kind k info out o₁ o₂ {p} h hk few hi l m e₁ e₂ =
    let fs : List Field = (8, kind) ∷ (8 * k, info) ∷ [] in
    let row : attribute_fields (attribute_in (drop at f)) ≡ fs = rw (byte-front at f, ← h, ← hk, drop-drop 1 at f, ← hi) in
    let wide : width fs / 4 ≡ 2 + 2 * k = unfold width in (omega arith) in
    let all : min (8 * k) 32 ≡ 8 * k = omega arith in (
      sym (ap (λ (gs : List Field). length (map image (parts 4 (width gs / 4) (laid gs 0)))) row ∙ sent-length (width fs / 4) (laid fs 0) ∙ wide),
      e₂ ∙ ap (λ (w : ℕ). inked p ((w, info) ∷ []) o₁) all
          ∙ on-inked (begun to) ((8, kind) ∷ []) ((8 * k, info) ∷ []) fs refl m out l e₁
          ∙ begun-inked to fs out
          ∙ ap (λ (gs : List Field). sets out to (map image (parts 4 (width gs / 4) (laid gs 0)))) (sym row),
    )
