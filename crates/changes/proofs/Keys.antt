-- The line of a key: it is read back where it stands, so the lines of two keys never begin with each other. Assumes nothing.
use mathlib.Core.Path.{◌≡◌, ◌∙◌, refl, sym, ap}
use mathlib.Core.Bool.{Bool, true, false}
use mathlib.Core.List.{List, [], ◌∷◌, ◌++◌, append_assoc}
use Prim.Native.Nat.{ℕ, ◌+◌, ◌*◌, ◌/◌, ◌%◌, ◌≤◌}
use native.Mathlib.Omega.{arith}
use lib.Dec.{eqb}
use lib.ListN.{length, drop}
use lib.Seq.{drop-append_seam}
use borrow.Author.Tests.{eqb-true}
use Rattle.laws.specs.Pick.{pick}
use Rattle.texts.specs.Texts.{begins_with}
use Rattle.forms.specs.Tables.{Table, TI, LI, known}
use Rattle.text_lines.specs.Lines.{decimal, number_line}
use Rattle.listing_reader.specs.Lines.{line_of}
use Rattle.listing_reader.proofs.Spells.{begins_with_lem, digits_back, number-back}
use Rattle.sheet_entry.specs.Entries.{Entry, key_in, key_of}
use Rattle.day_sheet.proofs.Fronts.{Fit}
use Rattle.day_sheet.proofs.Choosing.{written-sendable}
use Rattle.changes.specs.Lines.{new_name, kind_word, key_name, key_line}
use Rattle.changes.specs.Applying.{key_of_table, new_kind, new_network, new_line}
use Rattle.changes.specs.Internal.{key_text}
use Rattle.sheet_entry.specs.declared.Form.{Form}

-- a key within its fields
pub record Keyed (t : Table) : Type 0 where
  pub kind_known : known t.kind ≡ true
  pub network_fits : t.network ≤ 255
  pub block_fits : t.block ≤ 65535

module _ (form : Form) where
  pub keyed : (e : Entry) → Fit form e → Keyed e.table
  keyed e w =
      let s = written-sendable form e w in
      let n = s.network_fits in
      let b = s.block_fits in
      record { kind_known = s.kind_known; network_fits = omega arith; block_fits = omega arith }

-- a known kind is one of the two
pub by_kind : (P : ℕ → Type 0) (kind : ℕ) → known kind ≡ true → P TI → P LI → P kind
by_kind P kind k p q = go (eqb kind TI) refl k
  where
    go : (z : Bool) → eqb kind TI ≡ z → known kind ≡ true → P kind
    go true e k' = rw (eqb-true kind TI e) p
    go false e k' = let l : kind ≡ LI = eqb-true kind LI (rw e at k') in rw l q

-- ---- by its number

key_text_lem : (name : List ℕ) (kind network block : ℕ) → known kind ≡ true → block ≤ 65535 → key_text name (key_in network kind block) ≡ number_line (key_name name kind network) block
unfolding key_text
key_text_lem name kind network block k h =
    by_kind (λ (m : ℕ). key_text name (key_in network m block) ≡ number_line (key_name name m network) block) kind k
    (spelled TI 1 refl refl (omega arith)) (spelled LI 0 refl refl (omega arith))
  where
    spelled :
        (m bit : ℕ) → pick (eqb m TI) 1 0 ≡ bit → pick (eqb bit 1) TI LI ≡ m → bit ≤ 1
        → key_text name (key_in network m block) ≡ number_line (key_name name m network) block
    spelled m bit e f l =
        let p : ((network * 2 + bit) * 65536 + block) / 65536 % 2 ≡ bit = omega arith in
        let q : ((network * 2 + bit) * 65536 + block) / 65536 / 2 ≡ network = omega arith in
        let r : ((network * 2 + bit) * 65536 + block) % 65536 ≡ block = omega arith in
        rw (e, p, q, r, f)

module _ (form : Form) where
  pub key-line : (name : List ℕ) (e : Entry) → Fit form e → key_text name (key_of e) ≡ key_line name e.table
  unfolding key_of key_line
  key-line name e w =
      let k = keyed form e w in key_text_lem name e.table.kind e.table.network e.table.block k.kind_known k.block_fits

-- ---- read back

new_kind_lem : (kind network block : ℕ) (rest : List ℕ) → known kind ≡ true → new_kind (number_line (key_name new_name kind network) block ++ rest) ≡ kind
unfolding number_line key_name kind_word begins_with
new_kind_lem kind network block rest k =
    by_kind (λ (m : ℕ). new_kind (number_line (key_name new_name m network) block ++ rest) ≡ m) kind k ti li
  where
    ti : new_kind (number_line (key_name new_name TI network) block ++ rest) ≡ TI
    ti = refl

    li : new_kind (number_line (key_name new_name LI network) block ++ rest) ≡ LI
    li = refl

new_network_lem :
    (kind network block : ℕ) (rest : List ℕ) → known kind ≡ true → network ≤ 255
    → new_network (number_line (key_name new_name kind network) block ++ rest) ≡ network
unfolding number_line key_name kind_word
new_network_lem kind network block rest k h =
    by_kind (λ (m : ℕ). new_network (number_line (key_name new_name m network) block ++ rest) ≡ network) kind k ti li
  where
    behind : ((decimal network ++ (44 ∷ [])) ++ decimal block ++ (10 ∷ [])) ++ rest ≡ decimal network ++ (44 ∷ (decimal block ++ (10 ∷ rest)))
    behind = simp append_assoc

    ti : new_network (number_line (key_name new_name TI network) block ++ rest) ≡ network
    ti = rw behind (digits_back network 44 (decimal block ++ (10 ∷ rest)) (omega arith) refl)

    li : new_network (number_line (key_name new_name LI network) block ++ rest) ≡ network
    li = rw behind (digits_back network 44 (decimal block ++ (10 ∷ rest)) (omega arith) refl)

-- kind, network and block of a `new=` line at the front
pub record ReadBack (t : Table) (text : List ℕ) : Type 0 where
  pub kind_is : new_kind text ≡ t.kind
  pub network_is : new_network text ≡ t.network
  pub line_is : new_line text ≡ line_of true t.block (key_line new_name t)

pub new_back : (t : Table) (rest : List ℕ) → Keyed t → ReadBack t (key_line new_name t ++ rest)
unfolding new_line key_line
new_back t rest k =
    let a = new_kind_lem t.kind t.network t.block rest k.kind_known in
    let b = new_network_lem t.kind t.network t.block rest k.kind_known k.network_fits in
    record {
      kind_is = a;
      network_is = b;
      line_is = rw (a, b) (number-back (key_name new_name t.kind t.network) 65535 t.block rest k.block_fits (omega arith));
    }

-- ---- two keys

-- what stands behind the name
tail_of : Table → List ℕ
tail_of t = kind_word t.kind ++ (decimal t.network ++ (44 ∷ (decimal t.block ++ (10 ∷ []))))

named : (name : List ℕ) (t : Table) (rest : List ℕ) → key_line name t ++ rest ≡ name ++ (tail_of t ++ rest)
unfolding key_line number_line key_name tail_of
named name t rest = simp append_assoc

renamed : (name other : List ℕ) (t u : Table) (r s : List ℕ) → key_line name t ++ r ≡ key_line name u ++ s → key_line other t ++ r ≡ key_line other u ++ s
renamed name other t u r s e =
    let d : tail_of t ++ r ≡ tail_of u ++ s =
    sym (drop-append_seam name (tail_of t ++ r))
    ∙ ap (drop (length name)) (sym (named name t r) ∙ e ∙ named name u s)
    ∙ drop-append_seam name (tail_of u ++ s) in
    named other t r ∙ ap (λ (l : List ℕ). other ++ l) d ∙ sym (named other u s)

-- the same line is that of the same key
same_key : (name : List ℕ) (t u : Table) (r s : List ℕ) → Keyed t → Keyed u → key_line name t ++ r ≡ key_line name u ++ s → key_of_table t ≡ key_of_table u
same_key name t u r s k l e =
    let a = new_back t r k in
    let b = new_back u s l in
    let f = renamed name new_name t u r s e in
    let kind : t.kind ≡ u.kind = sym a.kind_is ∙ ap new_kind f ∙ b.kind_is in
    let network : t.network ≡ u.network = sym a.network_is ∙ ap new_network f ∙ b.network_is in
    let block : t.block ≡ u.block = ap (λ x. x.value) (sym a.line_is ∙ ap new_line f ∙ b.line_is) in
    rw (kind, network, block)

pub keys_apart :
    (name : List ℕ) (t u : Table) (rest : List ℕ) → Keyed t → Keyed u → (key_of_table t ≡ key_of_table u → ⊥)
    → begins_with (key_line name t) (key_line name u ++ rest) ≡ false
keys_apart name t u rest k l d = go (begins_with (key_line name t) (key_line name u ++ rest)) refl
  where
    go : (z : Bool) → begins_with (key_line name t) (key_line name u ++ rest) ≡ z → z ≡ false
    go false e = refl
    go true e =
        absurd
        (d (same_key name t u (drop (length (key_line name t)) (key_line name u ++ rest)) rest k l (sym (begins_with_lem (key_line name t) (key_line name u ++ rest) e))))
