-- Fields of whole nibbles are in_nibbles one after the other. Assumes nothing.
use mathlib.Core.Path.{◌≡◌, ◌∙◌, refl, ap, ap₂}
use mathlib.Core.List.{List, [], ◌∷◌, ◌++◌}
use Prim.Native.Nat.{ℕ, ◌+◌, ◌*◌, ◌/◌, ◌%◌, ◌^◌}
use native.Mathlib.Nat.{zero-add, zero-mul, mod-mod, mul-add-mod_self_right}
use native.Mathlib.Omega.{arith}
use lib.ListN.{length}
use Rattle.fields.specs.Fields.{Field, width, laid, parts}
use Rattle.fields.proofs.Laid.{laid-append, laid-past, laid-above, width-append, length-parts, parts-append, parts_same}
use Rattle.menu_forms.specs.Rows.{each}
use Rattle.menu_forms.specs.Block.{in_nibbles}

pub length-spelled : (fs : List Field) → length (in_nibbles fs) ≡ width fs / 4
unfolding in_nibbles
length-spelled fs = length-parts 4 (width fs / 4) (laid fs 0)

pub spelled-append : (fs gs : List Field) → width fs % 4 ≡ 0 → in_nibbles (fs ++ gs) ≡ in_nibbles fs ++ in_nibbles gs
unfolding in_nibbles
spelled-append fs gs h =
    let a = width fs / 4 in
    let b = width gs / 4 in
    let n = laid (fs ++ gs) 0 in
    let e : (width fs + width gs) / 4 ≡ a + b = omega arith in
    let w : a * 4 ≡ width fs = omega arith in
    let low : parts 4 a n ≡ parts 4 a (laid fs 0) =
    parts_same 4 a n (laid fs 0)
    (rw (laid-append, w, laid-above fs (laid gs 0)) (mul-add-mod_self_right (laid gs 0) (2 ^ width fs) (laid fs 0))) in
    let high : n / 2 ^ (a * 4) ≡ laid gs 0 = rw (laid-append, w) (laid-past fs (laid gs 0)) in
    ap (λ (k : ℕ). parts 4 k n) (ap (λ (x : ℕ). x / 4) (width-append fs gs) ∙ e) ∙ parts-append 4 a b n
    ∙ ap₂ (λ (x y : List ℕ). x ++ y) low (ap (parts 4 b) high)

-- a field of k nibbles
pub spelled-one : (w k v : ℕ) → w ≡ k * 4 → in_nibbles ((w, v) ∷ []) ≡ parts 4 k v
unfolding in_nibbles width laid
spelled-one w k v h =
    let e : (k * 4 + 0) / 4 ≡ k = omega arith in
    rw (h, e, zero-mul, zero-add) (parts_same 4 k (v % 2 ^ (k * 4)) v (mod-mod v (2 ^ (k * 4))))

pub spelled-first : (w k v : ℕ) (fs : List Field) → w ≡ k * 4 → in_nibbles ((w, v) ∷ fs) ≡ parts 4 k v ++ in_nibbles fs
spelled-first w k v fs h =
    spelled-append ((w, v) ∷ []) fs (unfold width in omega arith) ∙ ap (λ (l : List ℕ). l ++ in_nibbles fs) (spelled-one w k v h)

-- ---- entries in a row

module _ {E : Type 0} (fields_of : E → List Field) (nibbled : (e : E) → width (fields_of e) % 4 ≡ 0) where
  pub each-nibbled : (es : List E) → width (each fields_of es) % 4 ≡ 0
  each-nibbled [] = unfold width in refl
  each-nibbled (e ∷ es) = rw width-append (omega (arith, nibbled e, each-nibbled es))

  pub each-spelled : (es : List E) → in_nibbles (each fields_of es) ≡ each (λ (e : E). in_nibbles (fields_of e)) es
  each-spelled [] = unfold in_nibbles width parts in refl
  each-spelled (e ∷ es) =
      spelled-append (fields_of e) (each fields_of es) (nibbled e) ∙ ap (λ (l : List ℕ). in_nibbles (fields_of e) ++ l) (each-spelled es)
