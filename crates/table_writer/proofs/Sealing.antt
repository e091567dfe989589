-- A record whose checksum is put in last is the table's record. Assumes nothing.
use mathlib.Core.Path.{◌≡◌, ◌∙◌, refl, sym, ap, ap₂, subst}
use mathlib.Core.Bool.{true}
use mathlib.Core.List.{List, [], ◌∷◌, ◌++◌, map, append-nil}
use Prim.Native.Nat.{ℕ, suc, ◌+◌, ◌-◌, ◌/◌, ◌%◌, ◌≤◌, ◌<◌}
use native.Mathlib.Omega.{arith}
use borrow.Author.Tests.{ltb-true}
use lib.ListN.{length, drop, length-map}
use lib.Seq.{sets}
use Rattle.std.specs.declared.result.Result.TheVariants.{Ok}
use Rattle.answer.specs.Rules.{judged}
use Rattle.answer.specs.Answer.{Answer}
use Rattle.answer.specs.Values.{refused}
use Rattle.answer.proofs.Steps.{done_every, done-value, first_holds, others_hold}
use Rattle.octet.specs.Image.{image}
use Rattle.fields.specs.Fields.{Field, width, laid, parts}
use Rattle.fields.proofs.Laid.{length-parts}
use Rattle.parity.specs.Parity.{letter}
use Rattle.kinds.specs.Kind.{strings}
use Rattle.kinds.specs.Block.{nibbles as kind_nibbles, checksum_of as kind_checksum_of, block_with as kind_block_with}
use Rattle.kinds.proofs.Laying.{behind_sum, nibbles-again}
use Rattle.forms.specs.Tables.{Table, bits, tables, content, fields, control, size, fits}
use Rattle.blocks.specs.Block.{header}
use Rattle.forms.specs.Block.{nibbles, checksum_of, record_of}
use Rattle.blocks.specs.Sums.{checksum}
use Rattle.blocks.specs.Sealing.{head_bytes, sealed}
use Rattle.forms.specs.Writing.{form_rules, write_rules}
use Rattle.forms.specs.Form.{table_in}
use Rattle.forms.proofs.Measures.{bits_of}
use Rattle.forms.proofs.Sendable.{sendable}
use Rattle.forms.proofs.Formats.{no_strings}
use Rattle.forms.proofs.Blocks.{head-any, nibbles-any, raw-any}
use Rattle.blocks.proofs.Sealing.{record-sealed}

length-nibbles : (sum reserved filling : ℕ) (t : Table) → length (map image (nibbles sum reserved filling t)) ≡ size t
length-nibbles sum reserved filling t =
    length-map (nibbles sum reserved filling t) image ∙ ap length (nibbles-any reserved t sum filling) ∙ length-parts 4 (size t) _

-- the checksum's two nibbles, and the others
split_two : (k n : ℕ) → 2 ≤ k → parts 4 k n ≡ n % 16 ∷ n / 16 % 16 ∷ drop 2 (parts 4 k n)
unfolding parts
split_two k n h =
    let e : suc (suc (k - 2)) ≡ k = omega arith in
    subst (λ (m : ℕ). parts 4 m n ≡ n % 16 ∷ n / 16 % 16 ∷ drop 2 (parts 4 m n)) e refl

low_two :
    (sum : ℕ) (fs : List Field) (rest : ℕ) → sum < 256
    → (laid ((8, sum) ∷ fs) rest % 16 ≡ sum % 16) × (laid ((8, sum) ∷ fs) rest / 16 % 16 ≡ sum / 16 % 16)
unfolding laid
low_two sum fs rest h = (omega arith, omega arith)

nibbles-split :
    (sum reserved filling : ℕ) (t : Table) → sum < 256
    → nibbles sum reserved filling t ≡ sum % 16 ∷ sum / 16 % 16 ∷ drop 2 (nibbles 0 reserved filling t)
unfolding kind_nibbles fields width
nibbles-split sum reserved filling t h =
    let n = laid (fields sum (control t) reserved t) filling in
    let low = low_two sum (drop 1 (fields 0 (control t) reserved t)) filling h in
    let same = behind_sum tables sum filling (content reserved t) ∙ sym (behind_sum tables 0 filling (content reserved t)) in
    split_two (size t) n (omega (arith, bits_of t))
    ∙ ap₂ (λ (a b : ℕ). a ∷ b ∷ drop 2 (nibbles sum reserved filling t)) low.0 low.1
    ∙ ap (λ (l : List ℕ). sum % 16 ∷ sum / 16 % 16 ∷ l) same

pub record_stored :
    (application head : ℕ) (t : Table) (out : List ℕ) → head ≡ laid (header application (size t)) 0 → head < 65536 → 4 + size t ≤ length out
    → {o₁ o₂ o₃ : List ℕ} → o₁ ≡ sets out 0 (head_bytes head) → o₂ ≡ sets o₁ 4 (map image (nibbles 0 0 0 t)) → o₃ ≡ sealed head (size t) o₂
    → o₃ ≡ sets out 0 (record_of application t)
unfolding kind_block_with kind_checksum_of
record_stored application head t out e small room e₁ e₂ e₃ =
    let control : ℕ → List ℕ = λ (s : ℕ). nibbles s 0 0 t in
    let long : size t ≡ length (control 0) = sym (length-nibbles 0 0 0 t) ∙ length-map (control 0) image in
    let fits : length (map image (control 0) ++ []) ≡ size t = rw append-nil (length-nibbles 0 0 0 t) in
    record-sealed head control [] out (drop 2 (control 0)) (λ s h. nibbles-split s 0 0 t h) small (nibbles-again tables 0 0 (content 0 t)) (omega (arith, fits, room)) (size t) long e₁ e₂ refl e₃
    ∙ ap (λ (l : List ℕ). sets out 0 (head % 256 ∷ head / 256 ∷ 0 ∷ 0 ∷ map image (control (checksum head (control 0))) ++ map letter l)) (sym (no_strings (content 0 t)))
    ∙ ap
    (λ (h : ℕ). sets out 0 (h % 256 ∷ h / 256 ∷ 0 ∷ 0 ∷ map image (control (checksum h (control 0))) ++ map letter (strings tables (content 0 t))))
    (e ∙ sym (head-any 0 t application))

-- ---- what the rules of writing say

pub length_record : (application : ℕ) (t : Table) → length (record_of application t) ≡ 4 + size t
length_record application t = omega (arith, ap length (raw-any 0 t application 0), length-nibbles (checksum_of application 0 0 t) 0 0 t)

pub writable :
    (application : ℕ) (f : List ℕ) (n m : ℕ) → judged refused (write_rules application f) (Ok n) ≡ Ok m
    → (application < 32) × (fits (table_in f) ≡ true)
unfolding form_rules
writable application f n m e =
    let all = done_every (write_rules application f) n m e in (
      ltb-true application 32 (first_holds all),
      first_holds (others_hold (others_hold (others_hold (others_hold (others_hold all))))),
    )

-- where `judge` accepts, with the bits that it answers
pub accepted :
    (application : ℕ) (f : List ℕ) {first : Answer} {m : ℕ} → first ≡ judged refused (write_rules application f) (Ok (bits (table_in f))) → first ≡ Ok m
    → (application < 32) × (fits (table_in f) ≡ true) × (m ≡ bits (table_in f)) × (m ≤ 8184)
accepted application f judges e =
    let w = writable application f _ _ (sym judges ∙ e) in
    let v = done-value (write_rules application f) _ _ (sym judges ∙ e) in
    (w.0, w.1, v, omega (arith, v, (sendable (table_in f) w.1).control_fits))
