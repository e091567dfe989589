-- The whole block: its opening in two fields, its descriptors, its fill; then the checksum in its place. Assumes nothing.
use mathlib.Core.Path.{◌≡◌, ◌∙◌, refl, sym, ap, ap₂}
use mathlib.Core.Bool.{true}
use mathlib.Core.List.{List, [], ◌∷◌, ◌++◌, map}
use Prim.Native.Nat.{ℕ, ◌+◌, ◌*◌, ◌/◌, ◌^◌, ◌≤◌, ◌<◌}
use native.Mathlib.Nat.{add-zero, zero-mul, zero-mod}
use native.Mathlib.Omega.{arith}
use lib.ListN.{length, get_or, drop}
use lib.Seq.{sets}
use Rattle.octet.specs.Image.{image}
use Rattle.fields.specs.Fields.{Field, width, laid, whole}
use Rattle.fields.specs.Pens.{last, inked, moved, begun, Fine}
use Rattle.fields.specs.declared.pen.Pen.{Pen}
use Rattle.fields.proofs.Laid.{laid-append, width-append}
use Rattle.fields.proofs.Inking.{length-inked, begun-inked, on-inked, moved_fine, pressed_moved, pressed_inked}
use Rattle.forms.specs.Tables.{Table, per, loops, fields, bits, control, fill, size, fits}
use Rattle.forms.specs.Form.{table_in}
use Rattle.forms.specs.Block.{nibbles}
use Rattle.forms.proofs.Sendable.{sendable}
use Rattle.forms.proofs.Blocks.{nibbles-any}
use Rattle.forms.proofs.Forms.{length_in, two_bytes}
use Rattle.table_writer.specs.Internal.{first_fields, second_fields}

abbrev pub last_field : Table → List Field
last_field t = (fill t, 0) ∷ []

-- all that is laid
laid-all : Table → List Field
laid-all t = first_fields (control t) t ++ (second_fields t ++ (loops t.kind t.descriptors ++ last_field t))

pub first_width : (c : ℕ) (t : Table) → width (first_fields c t) ≡ 28
unfolding width fields
first_width c t = refl

pub second-width : (t : Table) → width (second_fields t) ≡ 30
unfolding width fields
second-width t = refl

pub first-laid :
    (c : ℕ) (t : Table) → c < 1024 → t.kind < 64 → t.copyright < 2
    → ((t.copyright * 256 + t.kind) * 1024 + c) * 256 ≡ laid (first_fields c t) 0
unfolding laid fields
first-laid c t hc hk hy = omega arith

pub second-laid :
    (t : Table) → t.block < 65536 → t.network < 256 → length t.descriptors < 64
    → (length t.descriptors * 256 + t.network) * 65536 + t.block ≡ laid (second_fields t) 0
unfolding laid fields
second-laid t hb hn hd = omega arith

all-fields : (t : Table) → laid-all t ≡ fields 0 (control t) 0 t ++ last_field t
unfolding laid-all fields loops
all-fields t = refl

all-wide : (t : Table) → width (laid-all t) / 4 ≡ size t
all-wide t =
    let w : width (laid-all t) ≡ bits t + fill t =
    ap width (all-fields t) ∙ width-append (fields 0 (control t) 0 t) (last_field t)
    ∙ ap₂ (λ (a b : ℕ). a + b) (unfold width fields in refl) (unfold width in add-zero (fill t)) in
    omega arith

filled : (w : ℕ) → laid ((w, 0) ∷ []) 0 ≡ 0
filled w = unfold laid in (rw (zero-mul, zero-mod))

all_laid : (t : Table) → laid (laid-all t) 0 ≡ laid (fields 0 (control t) 0 t) 0
all_laid t =
    ap (λ (l : List Field). laid l 0) (all-fields t) ∙ laid-append (fields 0 (control t) 0 t) (last_field t) 0
    ∙ ap (laid (fields 0 (control t) 0 t)) (filled (fill t))

all-inked : (t : Table) (out : List ℕ) → inked (begun 4) (laid-all t) out ≡ sets out 4 (map image (nibbles 0 0 0 t))
all-inked t out = begun-inked 4 (laid-all t) out ∙ (rw (all-wide, all_laid, nibbles-any))

-- the two parts from the form's bytes
pub first_of :
    (f : List ℕ) (c k y : ℕ) → k ≡ get_or f 0 0 → y ≡ get_or f 1 0 → fits (table_in f) ≡ true → c < 1024
    → (((y * 256 + k) * 1024 + c) * 256 ≡ laid (first_fields c (table_in f)) 0) × (((y * 256 + k) * 1024 + c) * 256 < 2 ^ 28)
unfolding table_in
first_of f c k y ek ey h hc =
    let s = sendable (table_in f) h in
    let hk : k < 64 = rw ek s.kind_fits in
    let hy : y < 2 = rw ey s.copyright_fits in (
      ap₂ (λ (a b : ℕ). ((a * 256 + b) * 1024 + c) * 256) ey ek ∙ first-laid c (table_in f) hc s.kind_fits s.copyright_fits,
      omega arith,
    )

pub second_of_lem :
    (f : List ℕ) (b₀ b₁ n d : ℕ) → b₀ ≡ get_or f 2 0 → b₁ ≡ get_or f 3 0 → n ≡ get_or f 4 0 → d ≡ get_or f 5 0 → b₀ < 256 → b₁ < 256
    → fits (table_in f) ≡ true
    → ((d * 256 + n) * 65536 + (b₀ + 256 * b₁) ≡ laid (second_fields (table_in f)) 0) × ((d * 256 + n) * 65536 + (b₀ + 256 * b₁) < 2 ^ 30)
unfolding table_in
second_of_lem f b₀ b₁ n d e₀ e₁ en ed h₀ h₁ h =
    let s = sendable (table_in f) h in
    let count : length (table_in f).descriptors ≡ d = length_in (per (get_or f 0 0)) (get_or f 5 0) (drop 6 f) ∙ sym ed in
    let block : (table_in f).block ≡ b₀ + 256 * b₁ =
    ap₂ (λ (a b : ℕ). whole 8 (a ∷ b ∷ [])) (sym e₀) (sym e₁) ∙ sym (two_bytes b₀ b₁ h₀ h₁) in
    let hn : n < 256 = rw en s.network_fits in
    let hd : d < 64 = rw count at s.count_fits in (
      ap₂ (λ (a b : ℕ). a * 65536 + b) (ap₂ (λ (a b : ℕ). a * 256 + b) (sym count) en) (sym block)
          ∙ second-laid (table_in f) s.block_fits s.network_fits s.count_fits,
      omega arith,
    )

-- ---- laid one after the other

-- one field for several
module _ (w v : ℕ) (fs : List Field) (ew : width fs ≡ w) (ev : v ≡ laid fs 0) where
  one : ◌≡◌ {A = List Field} ((w, v) ∷ []) ((width fs, laid fs 0) ∷ [])
  one = ap₂ (λ (a b : ℕ). (a, b) ∷ []) (sym ew) ev

  as_moved : (p : Pen) → moved p ((w, v) ∷ []) ≡ moved p fs
  as_moved p = ap (moved p) one ∙ pressed_moved p fs

  as-inked : (p : Pen) (out : List ℕ) → inked p ((w, v) ∷ []) out ≡ inked p fs out
  as-inked p out = ap (λ (l : List Field). inked p l out) one ∙ pressed_inked p fs out

module _ (t : Table) where
  rest₁ : List Field
  rest₁ = second_fields t ++ (loops t.kind t.descriptors ++ last_field t)

  rest₂ : List Field
  rest₂ = loops t.kind t.descriptors ++ last_field t

  module _ (x : ℕ) (ex : x ≡ laid (first_fields (control t) t) 0) {a : Pen} (ma : a ≡ moved (begun 4) ((28, x) ∷ []))
      (y : ℕ) (ey : y ≡ laid (second_fields t) 0) {b : Pen} (mb : b ≡ moved a ((30, y) ∷ [])) where
    laid-1 : a ≡ moved (begun 4) (first_fields (control t) t)
    laid-1 = ma ∙ as_moved 28 x (first_fields (control t) t) (first_width (control t) t) ex (begun 4)

    laid-2 : b ≡ moved a (second_fields t)
    laid-2 = mb ∙ as_moved 30 y (second_fields t) (second-width t) ey a

    pub fine-2 : Fine b
    fine-2 = rw laid-2 (moved_fine a (second_fields t))

    pub all-stored :
        {c : Pen} (out : List ℕ) {out₁ out₂ out₃ out₄ : List ℕ} → length out ≤ last → c ≡ moved b (loops t.kind t.descriptors)
        → out₁ ≡ inked (begun 4) ((28, x) ∷ []) out
        → out₂ ≡ inked a ((30, y) ∷ []) out₁
        → out₃ ≡ inked b (loops t.kind t.descriptors) out₂
        → out₄ ≡ inked c (last_field t) out₃
        → out₄ ≡ sets out 4 (map image (nibbles 0 0 0 t))
    unfolding rest₁ rest₂ laid-all
    all-stored {c} out {out₁} {out₂} {out₃} l mc k₁ k₂ k₃ k₄ =
        let l₁ : length out₁ ≤ last = rw (k₁, length-inked) l in
        let l₂ : length out₂ ≤ last = rw (k₂, length-inked) l₁ in
        k₄ ∙ on-inked b (loops t.kind t.descriptors) (last_field t) rest₂ refl mc out₂ l₂ k₃
        ∙ on-inked a (second_fields t) rest₂ rest₁ refl laid-2 out₁ l₁
        (k₂ ∙ as-inked 30 y (second_fields t) (second-width t) ey a out₁)
        ∙ on-inked (begun 4) (first_fields (control t) t) rest₁ (laid-all t) refl laid-1 out l
        (k₁ ∙ as-inked 28 x (first_fields (control t) t) (first_width (control t) t) ex (begun 4) out)
        ∙ all-inked t out
