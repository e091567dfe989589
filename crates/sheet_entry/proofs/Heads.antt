-- The lines of an entry's head, one after the other at a place: a law for each that may be at fault. Assumes nothing.
use mathlib.Core.Path.{◌≡◌, ◌∙◌, refl, sym, ap}
use mathlib.Core.Bool.{Bool, true, false}
use mathlib.Core.List.{List, [], ◌∷◌}
use Prim.Native.Nat.{ℕ, ◌+◌, ◌≤◌, ◌<◌}
use native.Mathlib.Omega.{arith}
use borrow.Author.Tests.{lt-ltb, le-ltb}
use lib.ListN.{length, drop}
use lib.Seq.{drop-drop}
use Rattle.listing.specs.Lines.{network_name, block_name}
use Rattle.listing_reader.specs.declared.lines.Line.{Line}
use Rattle.listing_reader.specs.Lines.{number_at, kind_at}
use Rattle.listing_reader.specs.Many.{Many, none, behind}
use Rattle.sheet_entry.specs.declared.Form.{Form}
use Rattle.sheet_entry.specs.declared.Named.{Named}
use Rattle.sheet_entry.specs.Entries.{HeadLine, number_head, kind_head, mended_head, stamp_name, stamp_most, key_lines, heading}
use Rattle.sheet_entry.specs.Reading.{lines_at}
use Rattle.sheet_entry.specs.Internal.{named_in, named_of, head_of}
use Rattle.laws.specs.Pick.{pick}
use Rattle.std.specs.declared.result.Result.{Result}
use Rattle.std.specs.declared.result.Result.TheVariants.{Ok, Err}
use Rattle.sheet_entry.proofs.Heading.{no_more}
use Rattle.listing_reader.specs.Internal.{Inside}
use Rattle.listing_reader.proofs.Walks.{within_on}
use Rattle.sheet_entry.proofs.Entered.{key_within, mended-within}

module _ (r : HeadLine) (rs : List HeadLine) (sheet : List ℕ) (at : ℕ) (l : Line) (e : l ≡ r.reads (drop at sheet)) where
  line-no : l.long < r.least → lines_at (r ∷ rs) (drop at sheet) ≡ none false 0
  unfolding lines_at
  line-no z = rw (← e, lt-ltb l.long r.least z)

  line-yes : r.least ≤ l.long → lines_at (r ∷ rs) (drop at sheet) ≡ behind l.value l.long (lines_at rs (drop (at + l.long) sheet))
  unfolding lines_at
  line-yes n = rw (← e, le-ltb l.long r.least n, drop-drop l.long at sheet)

some_bytes : {n : ℕ} → (n ≡ 0 → ⊥) → 1 ≤ n
some_bytes h = omega arith

-- ---- what was read of all lines, or of none

abbrev pub value_of : {A E : Type 0} → A → Result A E → A
value_of a (Ok x) = x
value_of a (Err n) = a

abbrev pub error_of : {A E : Type 0} → E → Result A E → E
error_of n (Ok x) = n
error_of n (Err m) = m

abbrev pub came : {A E : Type 0} → Result A E → ℕ
came (Ok x) = 1
came (Err n) = 0

module _ {A B : Type 0} (of : Many B → A) (m : Many B) where
  pub read_all : {k : A} → Ok k ≡ pick m.fine (Ok (of m)) (Err m.long) → (k ≡ of m) × (m.fine ≡ true)
  read_all {k} e = go m.fine refl e
    where
      go : (b : Bool) → m.fine ≡ b → Ok k ≡ pick b (Ok (of m)) (Err m.long) → (k ≡ of m) × (m.fine ≡ true)
      go true f q = (ap (value_of k) q, f)
      go false f q = let z = ap came q in absurd (omega arith)

  pub read_none : {n : ℕ} → Err n ≡ pick m.fine (Ok (of m)) (Err m.long) → (n ≡ m.long) × (m.fine ≡ false)
  read_none {n} e = go m.fine refl e
    where
      go : (b : Bool) → m.fine ≡ b → Err n ≡ pick b (Ok (of m)) (Err m.long) → (n ≡ m.long) × (m.fine ≡ false)
      go true f q = let z = ap came q in absurd (omega arith)
      go false f q = (ap (error_of n) q, f)

all_read : (m : Many ℕ) {k : Named} → Ok k ≡ named_of m → (k ≡ named_in m) × (m.fine ≡ true)
all_read m = read_all named_in m

unread : (m : Many ℕ) {n : ℕ} → Err n ≡ named_of m → (n ≡ m.long) × (m.fine ≡ false)
unread m = read_none named_in m

-- ---- the key

module _ (sheet : List ℕ) (at : ℕ) (l₁ : Line) (e₁ : l₁ ≡ kind_at (drop at sheet)) where
  pub key-unkind : l₁.long ≡ 0 → Err 0 ≡ named_of (lines_at key_lines (drop at sheet))
  key-unkind z = sym (ap named_of (line-no kind_head (drop 1 key_lines) sheet at l₁ e₁ (omega arith)))

  module _ (s₁ : l₁.long ≡ 0 → ⊥) (l₂ : Line) (e₂ : l₂ ≡ number_at network_name 255 (drop (at + l₁.long) sheet)) where
    first : lines_at key_lines (drop at sheet) ≡ behind l₁.value l₁.long (lines_at (drop 1 key_lines) (drop (at + l₁.long) sheet))
    first = line-yes kind_head (drop 1 key_lines) sheet at l₁ e₁ (some_bytes s₁)

    pub key-unnetwork :
        l₂.long ≡ 0 → Err l₁.long ≡ named_of (lines_at key_lines (drop at sheet))
    key-unnetwork z =
        let m = first ∙ ap (behind l₁.value l₁.long) (line-no (number_head network_name 255) (drop 2 key_lines) sheet (at + l₁.long) l₂ e₂ (omega arith)) in
        let a : l₁.long ≡ l₁.long + 0 = omega arith in
        ap Err a ∙ sym (ap named_of m)

    module _ (s₂ : l₂.long ≡ 0 → ⊥) (l₃ : Line) (e₃ : l₃ ≡ number_at block_name 65535 (drop (at + l₁.long + l₂.long) sheet)) where
      second :
          lines_at key_lines (drop at sheet)
          ≡ behind l₁.value l₁.long (behind l₂.value l₂.long (lines_at (drop 2 key_lines) (drop (at + l₁.long + l₂.long) sheet)))
      second = first ∙ ap (behind l₁.value l₁.long) (line-yes (number_head network_name 255) (drop 2 key_lines) sheet (at + l₁.long) l₂ e₂ (some_bytes s₂))

      pub key-unblock :
          l₃.long ≡ 0 → Err (l₁.long + l₂.long) ≡ named_of (lines_at key_lines (drop at sheet))
      key-unblock z =
          let third = line-no (number_head block_name 65535) [] sheet (at + l₁.long + l₂.long) l₃ e₃ (omega arith) in
          let m = second ∙ ap (λ (x : Many ℕ). behind l₁.value l₁.long (behind l₂.value l₂.long x)) third in
          let a : l₁.long + l₂.long ≡ l₁.long + (l₂.long + 0) = omega arith in
          ap Err a ∙ sym (ap named_of m)

      pub key-all :
          (l₃.long ≡ 0 → ⊥)
          → Ok (record { kind = l₁.value; network = l₂.value; block = l₃.value; long = l₁.long + l₂.long + l₃.long })
          ≡ named_of (lines_at key_lines (drop at sheet))
      key-all s₃ =
          let rest = no_more (drop (at + l₁.long + l₂.long + l₃.long) sheet) in
          let third = line-yes (number_head block_name 65535) [] sheet (at + l₁.long + l₂.long) l₃ e₃ (some_bytes s₃) ∙ ap (behind l₃.value l₃.long) rest in
          let m = second ∙ ap (λ (x : Many ℕ). behind l₁.value l₁.long (behind l₂.value l₂.long x)) third in
          let a : l₁.long + l₂.long + l₃.long ≡ l₁.long + (l₂.long + (l₃.long + 0)) = omega arith in
          (rw (← a) refl) ∙ sym (ap named_of m)

-- ---- what opens the entry, and its key

module _ (form : Form) (sheet : List ℕ) (at : ℕ) (l₁ : Line) (e₁ : l₁ ≡ number_at stamp_name stamp_most (drop at sheet)) where
  pub head-unstamped :
      l₁.long ≡ 0 → Err 0 ≡ head_of (lines_at (heading form) (drop at sheet))
  head-unstamped z = sym (ap head_of (line-no (number_head stamp_name stamp_most) (drop 1 (heading form)) sheet at l₁ e₁ (omega arith)))

  module _ (s₁ : l₁.long ≡ 0 → ⊥) (l₂ : Line) (e₂ : l₂ ≡ (mended_head form).reads (drop (at + l₁.long) sheet)) where
    stamped : lines_at (heading form) (drop at sheet) ≡ behind l₁.value l₁.long (lines_at (mended_head form ∷ key_lines) (drop (at + l₁.long) sheet))
    stamped = line-yes (number_head stamp_name stamp_most) (mended_head form ∷ key_lines) sheet at l₁ e₁ (some_bytes s₁)

    pub head-unmended :
        l₂.long < (mended_head form).least
        → Err l₁.long
        ≡ head_of (lines_at (heading form) (drop at sheet))
    head-unmended z =
        let m = stamped ∙ ap (behind l₁.value l₁.long) (line-no (mended_head form) key_lines sheet (at + l₁.long) l₂ e₂ z) in
        let a : l₁.long ≡ l₁.long + 0 = omega arith in
        ap Err a ∙ sym (ap head_of m)

    abbrev key : Many ℕ
    key = lines_at key_lines (drop (at + l₁.long + l₂.long) sheet)

    rest_read : (mended_head form).least ≤ l₂.long → lines_at (heading form) (drop at sheet) ≡ behind l₁.value l₁.long (behind l₂.value l₂.long key)
    unfolding lines_at
    rest_read n = stamped ∙ ap (behind l₁.value l₁.long) (line-yes (mended_head form) key_lines sheet (at + l₁.long) l₂ e₂ n)

    pub head-unnamed :
        (mended_head form).least ≤ l₂.long → {c : ℕ} → Err c ≡ named_of (lines_at key_lines (drop (at + l₁.long + l₂.long) sheet))
        → Err (l₁.long + l₂.long + c) ≡ head_of (lines_at (heading form) (drop at sheet))
    head-unnamed n {c} reads =
        let r = unread key reads in
        let a : l₁.long + l₂.long + c ≡ l₁.long + (l₂.long + key.long) = omega (arith, r.0) in
        let q : Err (l₁.long + (l₂.long + key.long)) ≡ head_of (behind l₁.value l₁.long (behind l₂.value l₂.long key)) = rw r.1 in
        ap Err a ∙ q ∙ sym (ap head_of (rest_read n))

    pub head-all :
        (mended_head form).least ≤ l₂.long → (k : Named) → Ok k ≡ named_of (lines_at key_lines (drop (at + l₁.long + l₂.long) sheet))
        → Ok (record {
          stamp = l₁.value;
          mended = l₂.value;
          kind = k.kind;
          network = k.network;
          block = k.block;
          long = l₁.long + l₂.long + k.long;
        })
        ≡ head_of (lines_at (heading form) (drop at sheet))
    head-all n k reads =
        let r = all_read key reads in
        let a : l₁.long + l₂.long + key.long ≡ l₁.long + (l₂.long + key.long) = omega arith in
        let q :
        Ok (record { stamp = l₁.value; mended = l₂.value; kind = (named_in key).kind; network = (named_in key).network; block = (named_in key).block; long = l₁.long + l₂.long + key.long })
        ≡ head_of (behind l₁.value l₁.long (behind l₂.value l₂.long key)) =
        rw (a, r.1) in
        ap
        (λ (x : Named). Ok (record {
          stamp = l₁.value;
          mended = l₂.value;
          kind = x.kind;
          network = x.network;
          block = x.block;
          long = l₁.long + l₂.long + x.long;
        }))
        r.0
        ∙ q ∙ sym (ap head_of (rest_read n))

-- ---- places

pub named-within : (sheet : List ℕ) (at : ℕ) {k : Named} → Ok k ≡ named_of (lines_at key_lines (drop at sheet)) → k.long ≤ length (drop at sheet)
named-within sheet at e = let r = all_read (lines_at key_lines (drop at sheet)) e in rw r.0 (key_within (drop at sheet))

pub unnamed-within : (sheet : List ℕ) (at : ℕ) {c : ℕ} → Err c ≡ named_of (lines_at key_lines (drop at sheet)) → c ≤ length (drop at sheet)
unnamed-within sheet at e = let r = unread (lines_at key_lines (drop at sheet)) e in rw r.0 (key_within (drop at sheet))

pub mended-place :
    (form : Form) {sheet : List ℕ} {at : ℕ} {l : Line} → Inside sheet at → l ≡ (mended_head form).reads (drop at sheet) → Inside sheet (at + l.long)
mended-place form {sheet} {at} {l} w e = within_on l.long w (rw e (mended-within form (drop at sheet)))
