-- What is laid and put makes the record of the information that a form stands for. Assumes nothing.
use mathlib.Core.Path.{◌≡◌, ◌∙◌, refl, sym, ap, ap₂, subst}
use mathlib.Core.List.{List, [], ◌∷◌, ◌++◌, map, map-append}
use Prim.Native.Nat.{ℕ, suc, ◌+◌, ◌-◌, ◌*◌, ◌/◌, ◌%◌, ◌≤◌, ◌<◌}
use native.Mathlib.Omega.{arith}
use lib.ListN.{length, get_or, drop, length-append, length-map}
use lib.Seq.{sets}
use Rattle.laws.proofs.Lists.{sets-append}
use Rattle.octet.specs.Image.{image}
use Rattle.parity.specs.Parity.{letter}
use Rattle.fields.specs.Fields.{Field, width, laid, whole, parts}
use Rattle.fields.specs.Pens.{last, inked, moved, begun, Fine}
use Rattle.fields.specs.declared.pen.Pen.{Pen}
use Rattle.fields.proofs.Inking.{moved_fine, length-inked, on-inked, begun-inked}
use Rattle.codecs.specs.Rows.{each, codes_in, rowed}
use Rattle.codecs.proofs.Codes.{codes-count}
use Rattle.blocks.specs.Block.{header}
use Rattle.blocks.specs.Sums.{checksum}
use Rattle.blocks.specs.Sealing.{head_bytes, sealed}
use Rattle.blocks.proofs.Sealing.{head_of, record-sealed}
use Rattle.kinds.specs.Kind.{Kind, Content, sent, fields, control, strings, size}
use Rattle.kinds.specs.Block.{nibbles, checksum_of, block_with}
use Rattle.kinds.proofs.Fronts.{bits-any, four}
use Rattle.kinds.proofs.Laying.{nibbles-long, nibbles-again, behind_sum}
use Rattle.information_forms.specs.Rows.{cut, row_in}
use Rattle.information_forms.specs.Information.{Network, Information, opening_widths, network_format, fill_up, Behind, names}
use Rattle.information_forms.specs.Form.{information_in}
use Rattle.information_forms.specs.Kind.{information, content, record_of}
use Rattle.information_forms.proofs.Sizes.{bits-whole, control-of, strings-of}
use Rattle.information_writer.specs.Internal.{networks_from, row_at, laid_from, spoken_from, front_bytes, front_widths, control_fields}
use Rattle.information_writer.proofs.Listed.{service-name, networks-found, count-said}
use Rattle.information_writer.proofs.Fits.{counts}

-- ---- control data

-- the opening fields of a block
front-row :
    (control copyright : ℕ) → control < 5000 → copyright < 256
    → row_at front_widths 0 (front_bytes control copyright) ≡ (8, 0) ∷ (10, control) ∷ (6, 1) ∷ (2, 0) ∷ (1, copyright) ∷ (1, 0) ∷ []
unfolding cut row_in rowed whole codes_in
front-row control copyright h k =
    let c : (0 * 256 + control / 256 % 256 % 256) * 256 + control % 256 % 256 ≡ control = omega arith in
    let r : 0 * 256 + copyright % 256 ≡ copyright = omega arith in
    rw (c, r)

-- a pen behind what it laid is fine
pub behind_fine : (p : Pen) (fs : List Field) {r : Pen} → r ≡ moved p fs → Fine r
behind_fine p fs e = subst Fine (sym e) (moved_fine p fs)

below : (x : ℕ) → x < 2 → x < 256
below x h = omega arith

-- the parts in the order in which they are laid
pub all_laid :
    (start a b c d : Pen) (fr op two nets fl : List Field) (o o₁ o₂ o₃ o₄ o₅ : List ℕ) → length o ≤ last → a ≡ moved start fr → o₁ ≡ inked start fr o
    → b ≡ moved a op
    → o₂ ≡ inked a op o₁
    → c ≡ moved b two
    → o₃ ≡ inked b two o₂
    → d ≡ moved c nets
    → o₄ ≡ inked c nets o₃
    → o₅ ≡ inked d fl o₄
    → o₅ ≡ inked start (fr ++ (op ++ (two ++ (nets ++ fl)))) o
all_laid start a b c d fr op two nets fl o o₁ o₂ o₃ o₄ o₅ l ma e₁ mb e₂ mc e₃ md e₄ e₅ =
    let l₁ : length o₁ ≤ last = subst (λ (x : ℕ). x ≤ last) (sym (ap length e₁ ∙ length-inked start fr o)) l in
    let l₂ : length o₂ ≤ last = subst (λ (x : ℕ). x ≤ last) (sym (ap length e₂ ∙ length-inked a op o₁)) l₁ in
    let l₃ : length o₃ ≤ last = subst (λ (x : ℕ). x ≤ last) (sym (ap length e₃ ∙ length-inked b two o₂)) l₂ in
    e₅ ∙ on-inked c nets fl (nets ++ fl) refl md o₃ l₃ e₄ ∙ on-inked b two (nets ++ fl) (two ++ (nets ++ fl)) refl mc o₂ l₂ e₃
    ∙ on-inked a op (two ++ (nets ++ fl)) (op ++ (two ++ (nets ++ fl))) refl mb o₁ l₁ e₂
    ∙ on-inked start fr (op ++ (two ++ (nets ++ fl))) (fr ++ (op ++ (two ++ (nets ++ fl)))) refl ma o l e₁

module _ (f : List ℕ) (networks name : ℕ) (en : networks ≡ get_or f 16 0) (hn : networks < 256) (em : name ≡ get_or f 18 0) (hm : name < 256) (hb : (information_in f).copyright < 2) where
  abbrev i : Information
  i = information_in f

  abbrev c : Content Behind
  c = content i

  found : i.networks ≡ networks_from networks 0 name f
  found = networks-found f name em hm networks en hn

  fields_laid : (k : ℕ) → k < 5000 → control_fields k networks name f ≡ fields information 0 k c
  unfolding information_in cut
  fields_laid k h =
      ap (λ (l : List Field). l ++ (row_at opening_widths 2 f ++ ((2, 0) ∷ (laid_from networks 0 name f ++ (fill_up networks).fields 0)))) (front-row k (get_or f 1 0) h (below (get_or f 1 0) hb))
      ∙ ap₂ (λ (ns : List Network) (n : ℕ). ((8, 0) ∷ (10, k) ∷ (6, 1) ∷ (2, 0) ∷ (1, get_or f 1 0) ∷ (1, 0) ∷ []) ++ (row_at opening_widths 2 f ++ ((2, 0) ∷ (each network_format.fields ns ++ (fill_up n).fields 0))))
      (sym found) (sym (count-said f networks en hn))

  pub control-laid :
      (k : ℕ) (out : List ℕ) → k ≡ control information c → k < 5000
      → inked (begun 4) (control_fields k networks name f) out ≡ sets out 4 (map image (nibbles information 0 0 c))
  unfolding nibbles
  control-laid k out e h =
      let own = (counts f).2 in
      let same : control_fields k networks name f ≡ fields information 0 (control information c) c = fields_laid k h ∙ ap (λ (x : ℕ). fields information 0 x c) e in
      let wide : width (fields information 0 (control information c) c) / 4 ≡ 2 * control information c = omega (arith, bits-any information (sent 0 (control information c) c), bits-whole c own) in
      ap (λ (fs : List Field). inked (begun 4) fs out) same ∙ begun-inked 4 (fields information 0 (control information c) c) out
      ∙ ap (λ (n : ℕ). sets out 4 (map image (parts 4 n (laid (fields information 0 (control information c) c) 0)))) wide

  -- ---- names

  pub names-put :
      (to : ℕ) (o₁ o₂ o₃ : List ℕ) → o₂ ≡ sets o₁ to (map letter (codes_in name (drop 20 f)))
      → o₃ ≡ sets o₂ (to + name) (map letter (spoken_from networks 0 name f))
      → o₃ ≡ sets o₁ to (map letter (strings information c))
  names-put to o₁ o₂ o₃ e₂ e₃ =
      let cs = codes_in name (drop 20 f) in
      let rest = spoken_from networks 0 name f in
      let long : name ≡ length (map letter cs) = sym (length-map cs letter ∙ codes-count name (drop 20 f)) in
      let all : cs ++ rest ≡ strings information c =
      sym (strings-of c ∙ ap₂ (λ (x : List ℕ) (ns : List Network). x ++ each (λ (n : Network). n.name) ns) (service-name f name em hm) found) in
      e₃ ∙ ap₂ (λ (l : List ℕ) (k : ℕ). sets l (to + k) (map letter rest)) e₂ long ∙ sym (sets-append o₁ to (map letter cs) (map letter rest))
      ∙ ap (sets o₁ to) (sym (map-append letter cs rest) ∙ ap (map letter) all)

-- ---- the checksum's two nibbles, and the others, of any kind

module _ {B : Type 0} (k : Kind B) (c : Content B) where
  split_two : (n m : ℕ) → 2 ≤ n → parts 4 n m ≡ m % 16 ∷ m / 16 % 16 ∷ drop 2 (parts 4 n m)
  unfolding parts
  split_two n m h =
      let e : suc (suc (n - 2)) ≡ n = omega arith in
      subst (λ (x : ℕ). parts 4 x m ≡ m % 16 ∷ m / 16 % 16 ∷ drop 2 (parts 4 x m)) e refl

  low_two :
      (sum : ℕ) (fs : List Field) (rest : ℕ) → sum < 256
      → (laid ((8, sum) ∷ fs) rest % 16 ≡ sum % 16) × (laid ((8, sum) ∷ fs) rest / 16 % 16 ≡ sum / 16 % 16)
  unfolding laid
  low_two sum fs rest h = (omega arith, omega arith)

  pub nibbles-split : (s : ℕ) → s < 256 → nibbles k s 0 c ≡ s % 16 ∷ s / 16 % 16 ∷ drop 2 (nibbles k 0 0 c)
  unfolding nibbles
  nibbles-split s h =
      let low = low_two s (drop 1 (fields k 0 (control k c) c)) 0 h in
      let same = behind_sum k s 0 c ∙ sym (behind_sum k 0 0 c) in
      split_two (2 * control k c) _ (omega (arith, four k c))
      ∙ ap₂ (λ (a b : ℕ). a ∷ b ∷ drop 2 (nibbles k s 0 c)) low.0 low.1
      ∙ ap (λ (l : List ℕ). s % 16 ∷ s / 16 % 16 ∷ l) same

-- ---- the record

pub record_put :
    (application : ℕ) (f : List ℕ) (head : ℕ) (out : List ℕ) → application < 32 → size information (content (information_in f)) < 2048
    → head ≡ application + 32 * size information (content (information_in f))
    → 4 + size information (content (information_in f)) ≤ length out
    → (o₁ o₂ o₃ o₄ : List ℕ) → o₁ ≡ sets out 0 (head_bytes head) → o₂ ≡ sets o₁ 4 (map image (nibbles information 0 0 (content (information_in f))))
    → o₃ ≡ sets o₂ (4 + 2 * control information (content (information_in f))) (map letter (strings information (content (information_in f))))
    → o₄ ≡ sealed head (2 * control information (content (information_in f))) o₃
    → o₄ ≡ sets out 0 (record_of application (information_in f))
unfolding block_with checksum_of
record_put application f head out la ls eh room o₁ o₂ o₃ o₄ e₁ e₂ e₃ e₄ =
    let c = content (information_in f) in
    let z = size information c in
    let hd = head_of application z la ls in
    let small : head < 65536 = subst (λ (x : ℕ). x < 65536) (sym eh) hd.1 in
    let same : head ≡ laid (header application z) 0 = eh ∙ hd.0 in
    let ctl : ℕ → List ℕ = λ (s : ℕ). nibbles information s 0 c in
    let long : 2 * control information c ≡ length (ctl 0) = sym (nibbles-long information 0 0 c) in
    let xs = map image (ctl 0) in
    let ys = map letter (strings information c) in
    let far : length (xs ++ ys) ≡ z = omega (arith, length-append xs ys, length-map (ctl 0) image, length-map (strings information c) letter, long) in
    record-sealed head ctl ys out (drop 2 (ctl 0)) (nibbles-split information c) small (nibbles-again information 0 0 c) (omega (arith, far, room)) (2 * control information c) long e₁ e₂ e₃ e₄
    ∙ ap (λ (h : ℕ). sets out 0 (h % 256 ∷ h / 256 ∷ 0 ∷ 0 ∷ (map image (nibbles information (checksum h (nibbles information 0 0 c)) 0 c) ++ ys))) same

-- a block that can be counted has fewer codes
pub codes_few : (i : Information) (codes : ℕ) → codes ≡ length (names i) → size information (content i) < 2048 → codes < 2048
codes_few i codes e h = omega (arith, e, h, ap length (strings-of (content i)))

-- the 16 bits as they are added up
pub head-counted :
    (f : List ℕ) (application networks name codes : ℕ) → networks ≡ get_or f 16 0 → networks < 256 → name ≡ get_or f 18 0 → name < 256
    → codes ≡ length (names (information_in f))
    → (20 + (25 * networks + networks % 2) / 2 ≡ control information (content (information_in f)))
    × (application + 32 * (2 * (20 + (25 * networks + networks % 2) / 2) + codes) ≡ application + 32 * size information (content (information_in f)))
head-counted f application networks name codes en hn em hm ec =
    let i = information_in f in
    let c = content i in
    let own = (counts f).2 in
    let many : length i.networks ≡ networks = own ∙ count-said f networks en hn in
    let k : control information c ≡ 20 + (25 * networks + networks % 2) / 2 =
    control-of c own ∙ ap (λ (x : ℕ). 20 + (25 * x + x % 2) / 2) many in
    let s = ap length (strings-of c) in
    (sym k, ap (λ (x : ℕ). application + 32 * x) (ap₂ (λ (x y : ℕ). 2 * x + y) (sym k) (ec ∙ sym s)))
