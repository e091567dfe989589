-- One entry on in a loop of control data, and one byte on in what is written. Assumes nothing.
use mathlib.Core.Path.{◌≡◌, ◌∙◌, refl, sym, ap, ap₂}
use mathlib.Core.List.{List, [], ◌∷◌, ◌++◌, map}
use Prim.Native.Nat.{ℕ, zero, suc, ◌+◌, ◌-◌, ◌*◌, ◌/◌, ◌%◌, ◌^◌, ◌≤◌, ◌<◌}
use native.Mathlib.Nat.{add-zero}
use native.Mathlib.Omega.{arith}
use lib.ListN.{length, get_or, take, drop, set, length-append}
use native.Mathlib.Nat.{div-div-eq-div-mul, pow-suc}
use Rattle.std.specs.Int.{w64, byte_at, bytes_low_first, to_le_bytes}
use lib.Seq.{sets, drop-drop, get_or-drop}
use Rattle.laws.proofs.Countdown.{at_none, at_more}
use Rattle.fields.specs.Fields.{width, field, parts, whole}
use Rattle.fields.proofs.Laid.{field_past, field_in, field-first}
use Rattle.menu_forms.specs.Rows.{each, in_row}
use Rattle.menu_forms.specs.Menus.{Descriptor, Escape, Attribute, info_bytes}
use Rattle.menu_forms.specs.Form.{high_first, descriptor_form, escape_form, attribute_form, codes_in}
use Rattle.menu_forms.proofs.Spelling.{length-spelled}
use Rattle.menu_forms.proofs.Forms.{row_count}
use Rattle.menu_reader.specs.Internal.{bits_at, descriptor_at, escape_at, attribute_at, descriptor_nibbles, escape_nibbles, attribute_nibbles}
use Rattle.kinds.specs.Reading.{code_of}
use Rattle.menu_reader.specs.declared.Loop.{Loop}
use Rattle.menu_reader.specs.declared.Loop.TheVariants.{Descriptors, Escapes, Attributes}
use Rattle.menu_reader.specs.Internal.{entry_nibbles, entry_form, loop_nibbles, loop_form}

-- ---- entries in a row, with what is made of each

module _ {E : Type 0} (spell : E → List ℕ) (read : List ℕ → E) (make : E → List ℕ) (ns : List ℕ) (at left : ℕ) where
  row_on :
      {at' : ℕ} → 0 < left → at' ≡ at + length (spell (read (drop at ns)))
      → each make (in_row spell read left (drop at ns))
      ≡ make (read (drop at ns)) ++ each make (in_row spell read (left - 1) (drop at' ns))
  unfolding in_row
  row_on some e =
      at_more (λ (k : ℕ). each make (in_row spell read k (drop at ns))) left some
      ∙ ap (λ (l : List ℕ). make (read (drop at ns)) ++ each make (in_row spell read (left - 1) l))
      (drop-drop (length (spell (read (drop at ns)))) at ns ∙ ap (λ (k : ℕ). drop k ns) (sym e))

  row-long :
      {at' : ℕ} → 0 < left → at' ≡ at + length (spell (read (drop at ns)))
      → length (each make (in_row spell read left (drop at ns)))
      ≡ length (make (read (drop at ns))) + length (each make (in_row spell read (left - 1) (drop at' ns)))
  row-long {at'} some e =
      ap length (row_on some e)
      ∙ length-append (make (read (drop at ns))) (each make (in_row spell read (left - 1) (drop at' ns)))

  row-end : left ≤ 0 → each make (in_row spell read left (drop at ns)) ≡ []
  unfolding in_row
  row-end none = at_none (λ (k : ℕ). each make (in_row spell read k (drop at ns))) left none

module _ (ns : List ℕ) (at left : ℕ) where
  pub form-on :
      (what : Loop) {at' : ℕ} → 0 < left → at' ≡ at + entry_nibbles what (drop at ns)
      → loop_form what left (drop at ns) ≡ entry_form what (drop at ns) ++ loop_form what (left - 1) (drop at' ns)
  form-on Descriptors some e = row_on descriptor_nibbles descriptor_at descriptor_form ns at left some e
  form-on Escapes some e = row_on escape_nibbles escape_at escape_form ns at left some e
  form-on Attributes some e = row_on attribute_nibbles attribute_at attribute_form ns at left some e

  pub nibbles-on :
      (what : Loop) {at' : ℕ} → 0 < left → at' ≡ at + entry_nibbles what (drop at ns)
      → loop_nibbles what left (drop at ns) ≡ entry_nibbles what (drop at ns) + loop_nibbles what (left - 1) (drop at' ns)
  nibbles-on Descriptors some e = row-long descriptor_nibbles descriptor_at descriptor_nibbles ns at left some e
  nibbles-on Escapes some e = row-long escape_nibbles escape_at escape_nibbles ns at left some e
  nibbles-on Attributes some e = row-long attribute_nibbles attribute_at attribute_nibbles ns at left some e

  pub form-end : (what : Loop) → left ≤ 0 → loop_form what left (drop at ns) ≡ []
  form-end Descriptors none = row-end descriptor_nibbles descriptor_at descriptor_form ns at left none
  form-end Escapes none = row-end escape_nibbles escape_at escape_form ns at left none
  form-end Attributes none = row-end attribute_nibbles attribute_at attribute_form ns at left none

  pub nibbles-end : (what : Loop) → left ≤ 0 → loop_nibbles what left (drop at ns) ≡ 0
  nibbles-end Descriptors none = ap length (row-end descriptor_nibbles descriptor_at descriptor_nibbles ns at left none)
  nibbles-end Escapes none = ap length (row-end escape_nibbles escape_at escape_nibbles ns at left none)
  nibbles-end Attributes none = ap length (row-end attribute_nibbles attribute_at attribute_nibbles ns at left none)

-- ---- how long entries are

pub descriptor-long : (d : Descriptor) → length (descriptor_nibbles d) ≡ 5
unfolding width
descriptor-long d = length-spelled _

pub escape_long : (e : Escape) → length (escape_nibbles e) ≡ 6
unfolding width
escape_long e = length-spelled _

pub attribute_long : (a : Attribute) → length (attribute_nibbles a) ≡ 2 + 2 * info_bytes a.kind
unfolding width
attribute_long a =
    let e : (8 + (8 * info_bytes a.kind + 0)) / 4 ≡ 2 + 2 * info_bytes a.kind = omega arith in
    length-spelled _ ∙ e

-- entries of one length
each_long : {E : Type 0} (make : E → List ℕ) (n : ℕ) → ((e : E) → length (make e) ≡ n) → (es : List E) → length (each make es) ≡ n * length es
each_long make n long [] = omega arith
each_long make n long (e ∷ es) =
    length-append (make e) (each make es) ∙ ap₂ (λ (x y : ℕ). x + y) (long e) (each_long make n long es) ∙ (omega arith)

pub descriptors_long : (k : ℕ) (l : List ℕ) → loop_nibbles Descriptors k l ≡ 5 * k
descriptors_long k l =
    each_long descriptor_nibbles 5 descriptor-long (in_row descriptor_nibbles descriptor_at k l)
    ∙ ap (λ (x : ℕ). 5 * x) (row_count descriptor_nibbles descriptor_at k l)

pub escapes_long : (k : ℕ) (l : List ℕ) → loop_nibbles Escapes k l ≡ 6 * k
escapes_long k l =
    each_long escape_nibbles 6 escape_long (in_row escape_nibbles escape_at k l) ∙ ap (λ (x : ℕ). 6 * x) (row_count escape_nibbles escape_at k l)

-- ---- bytes of a number, the lowest first

pub byte_more : (k v a : ℕ) → a < 256 → parts 8 (suc k) (a + 256 * v) ≡ a ∷ parts 8 k v
unfolding parts
byte_more k v a h =
    let e : (a + 256 * v) % 256 ≡ a = omega arith in
    let f : (a + 256 * v) / 256 ≡ v = omega arith in
    rw (e, f)

-- two of them
pub word_more : (k v a : ℕ) → a < 65536 → parts 8 (suc (suc k)) (a + 65536 * v) ≡ a % 256 ∷ a / 256 ∷ parts 8 k v
word_more k v a h =
    let e : a + 65536 * v ≡ a % 256 + 256 * (a / 256 + 256 * v) = omega arith in
    ap (parts 8 (suc (suc k))) e ∙ byte_more (suc k) (a / 256 + 256 * v) (a % 256) (omega arith)
    ∙ ap (λ (l : List ℕ). a % 256 ∷ l) (byte_more k v (a / 256) (omega arith))

pub byte_last : (a : ℕ) → a < 256 → parts 8 1 a ≡ a ∷ []
unfolding parts
byte_last a h = let e : a % 256 ≡ a = omega arith in rw e

pub word-last : (a : ℕ) → a < 65536 → parts 8 2 a ≡ a % 256 ∷ a / 256 ∷ []
unfolding parts
word-last a h = let e : a / 256 % 256 ≡ a / 256 = omega arith in rw e

-- the bytes that std takes a number apart into, from byte i on
bytes-at : (i k m v : ℕ) → k ≤ m → take k (bytes_low_first i m v) ≡ parts 8 k (v / 256 ^ i)
unfolding parts
bytes-at i zero m v h = refl
bytes-at i (suc k) zero v h = absurd (omega arith)
bytes-at i (suc k) (suc m) v h =
    let next : v / 256 ^ i / 256 ≡ v / 256 ^ suc i = div-div-eq-div-mul v (256 ^ i) 256 ∙ ap (λ (x : ℕ). v / x) (sym (pow-suc 256 i)) in
    ap₂ (λ (x : ℕ) (l : List ℕ). x ∷ l) (byte_is i v) (bytes-at (suc i) k m v (omega arith) ∙ ap (parts 8 k) (sym next))
  where
    byte_is : (i v : ℕ) → byte_at i v ≡ v / 256 ^ i % 256
    byte_is zero v = let e : v / 1 ≡ v = omega arith in ap (λ (x : ℕ). x % 256) (sym e)
    byte_is (suc i) v = refl

pub bytes-taken : (k v : ℕ) → k ≤ 8 → take k (to_le_bytes w64 v) ≡ parts 8 k v
bytes-taken k v h = let e : v / 1 ≡ v = omega arith in bytes-at 0 k 8 v h ∙ ap (parts 8 k) e

-- ---- bytes of a number, the highest first

high_top : (k n : ℕ) → high_first (suc k) n ≡ field (8 * k) 8 n ∷ high_first k n
unfolding high_first
high_top zero n = ap (λ (x : ℕ). x ∷ []) (sym (field-first 8 n))
high_top (suc k) n =
    let e : 8 + 8 * k ≡ 8 * suc k = omega arith in
    ap (λ (l : List ℕ). l ++ n % 256 ∷ []) (high_top k (n / 256))
    ∙ ap (λ (x : ℕ). x ∷ high_first (suc k) n) (field_past (8 * k) 8 8 n ∙ ap (λ (x : ℕ). field x 8 n) e)

-- byte i of information of k bytes, counted from the lowest, which is the first
info_byte : (ns : List ℕ) (k i : ℕ) → i < k → field (8 * i) 8 (bits_at 8 (8 * k) ns) ≡ bits_at (8 * suc i) 8 ns
unfolding field
info_byte ns k i h =
    let n = whole 4 ns in
    let e : 8 + 8 * i ≡ 8 * suc i = omega arith in
    field_in (8 * i) 8 (8 * k) (n / 2 ^ 8) (omega arith) ∙ field_past (8 * i) 8 8 n ∙ ap (λ (x : ℕ). field x 8 n) e

pub info_on :
    (ns : List ℕ) (k i to b : ℕ) (out out' whole : List ℕ) → i < k → b ≡ bits_at (8 * (k - i)) 8 ns → out' ≡ set out (to + i) b
    → sets out (to + i) (high_first (k - i) (bits_at 8 (8 * k) ns)) ≡ whole
    → sets out' (to + (i + 1)) (high_first (k - (i + 1)) (bits_at 8 (8 * k) ns)) ≡ whole
info_on ns k i to b out out' whole some e eo inv =
    let v = bits_at 8 (8 * k) ns in
    let left = k - (i + 1) in
    let up : k - i ≡ suc left = omega arith in
    let on : to + (i + 1) ≡ suc (to + i) = omega arith in
    let first : field (8 * left) 8 v ≡ b =
    info_byte ns k left (omega arith) ∙ ap (λ (x : ℕ). bits_at (8 * x) 8 ns) (sym up) ∙ sym e in
    let all = ap (λ (j : ℕ). high_first j v) up ∙ high_top left v ∙ ap (λ (x : ℕ). x ∷ high_first left v) first in
    rw (eo, on) (sym (ap (λ (l : List ℕ). sets out (to + i) l) all) ∙ inv)

pub info_end :
    (left q v : ℕ) (out whole : List ℕ) → left ≤ 0 → sets out q (high_first left v) ≡ whole → out ≡ whole
unfolding high_first
info_end left q v out whole none inv = sym (at_none (λ (k : ℕ). sets out q (high_first k v)) left none) ∙ inv

-- ---- codes

code_at : (ss : List ℕ) (i : ℕ) → get_or (drop i (map code_of ss)) 0 0 ≡ code_of (get_or ss i 0)
code_at ss i = get_or-drop i (map code_of ss) 0 0 ∙ ap (λ (k : ℕ). get_or (map code_of ss) k 0) (add-zero i) ∙ go ss i
  where
    go : (ss : List ℕ) (i : ℕ) → get_or (map code_of ss) i 0 ≡ code_of (get_or ss i 0)
    go [] zero = refl
    go [] (suc i) = refl
    go (x ∷ ss) zero = refl
    go (x ∷ ss) (suc i) = go ss i

pub codes-on :
    (ss : List ℕ) (count i from to b : ℕ) (out out' whole : List ℕ) → i < count → b ≡ get_or ss (from + i) 0 → out' ≡ set out (to + i) (b % 128)
    → sets out (to + i) (codes_in (count - i) (drop (from + i) (map code_of ss))) ≡ whole
    → sets out' (to + (i + 1)) (codes_in (count - (i + 1)) (drop (from + (i + 1)) (map code_of ss))) ≡ whole
unfolding codes_in
codes-on ss count i from to b out out' whole some e eo inv =
    let cs = map code_of ss in
    let up : count - i ≡ suc (count - (i + 1)) = omega arith in
    let q : to + (i + 1) ≡ suc (to + i) = omega arith in
    let p : from + (i + 1) ≡ from + i + 1 = omega arith in
    rw (eo, e, q, p, ← (drop-drop 1 (from + i) cs), ← (code_at ss (from + i)))
    (sym (ap (λ (k : ℕ). sets out (to + i) (codes_in k (drop (from + i) cs))) up) ∙ inv)

pub codes-end :
    (cs : List ℕ) (left q : ℕ) (out whole : List ℕ) → left ≤ 0 → sets out q (codes_in left cs) ≡ whole → out ≡ whole
unfolding codes_in
codes-end cs left q out whole none inv = sym (at_none (λ (k : ℕ). sets out q (codes_in k cs)) left none) ∙ inv
