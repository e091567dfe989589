-- The key that `drop` is asked for as one number, and its rules in their order. Assumes nothing.
use mathlib.Core.Path.{◌≡◌, refl, sym, ap}
use mathlib.Core.Bool.{Bool, true, false}
use mathlib.Core.List.{List, [], ◌∷◌}
use Prim.Native.Nat.{ℕ, ◌+◌, ◌*◌, ◌≤◌}
use native.Mathlib.Omega.{arith}
use lib.Dec.{eqb}
use lib.ListN.{length}
use borrow.Author.Tests.{eq-eqb, ne_eqb, eqb-true, eqb-false, le-leb}
use Rattle.std.specs.declared.result.Result.TheVariants.{Ok, Err}
use Rattle.laws.specs.Pick.{pick, both}
use Rattle.laws.proofs.Tests.{both_true, both_false}
use Rattle.answer.specs.declared.Refusal.{Refusal}
use Rattle.answer.specs.Answer.{Answer}
use Rattle.answer.specs.Rules.{judged}
use Rattle.answer.specs.Values.{refused}
use Rattle.answer.specs.Writing.{answered, after, left}
use Rattle.answer.proofs.Lent.{lent-refused}
use Rattle.forms.specs.Tables.{TI, LI, known}
use Rattle.forms.proofs.Sendable.{Sendable}
use Rattle.sheet_entry.specs.Entries.{Entry, key_in, key_of, written}
use Rattle.sheet_entry.proofs.Finding.{key_small}
use Rattle.day_sheet.specs.Entries.{sheet_text, all_written, byte_limit}
use Rattle.day_sheet.specs.Dropping.{named, without}
use Rattle.day_sheet.specs.Calls.{limited, entries_of, count_rules, drop_rules, drop_result}
use Rattle.day_sheet.specs.Internal.{asked, without_key}
use Rattle.day_sheet.proofs.Choosing.{written-sendable, bit, bit-small, bits-only, kinds_only}
use Rattle.day_sheet.proofs.Exact.{read-written}
use Rattle.day_sheet.proofs.Counted.{counted-bad, counted-short, counted-fine}
use Rattle.sheet_entry.specs.declared.Form.{Form}

-- ---- the key

-- a key's number has one network, kind and block
same_key :
    (n a m c : ℕ) (s t : Bool) → a ≤ 65535 → c ≤ 65535 → (n * 2 + bit s) * 65536 + a ≡ (m * 2 + bit t) * 65536 + c → (n ≡ m) × (s ≡ t) × (a ≡ c)
same_key n a m c s t h l e =
    let p = bit-small s in
    let q = bit-small t in
    (omega arith, bits-only s t (omega arith), omega arith)

module _ (form : Form) where
  pub named-known :
      (network kind block : ℕ) → block ≤ 65535 → known kind ≡ true → (e : Entry) → written form e ≡ true
      → named network kind block e ≡ eqb (key_of e) (key_in network kind block)
  unfolding key_of bit
  named-known network kind block small k e w = go (eqb (key_of e) (key_in network kind block)) refl
    where
      s : Sendable e.table
      s = written-sendable form e w

      go : (x : Bool) → eqb (key_of e) (key_in network kind block) ≡ x → named network kind block e ≡ x
      go true f =
          let b = s.block_fits in
          let g =
          same_key e.table.network e.table.block network block (eqb e.table.kind TI) (eqb kind TI) (omega arith) small
          (eqb-true (key_of e) (key_in network kind block) f) in
          rw (
            eq-eqb e.table.network network g.0,
            eq-eqb e.table.kind kind (kinds_only e.table.kind kind s.kind_known k g.1),
            eq-eqb e.table.block block g.2,
          )
      go false f = one-differs (eqb e.table.network network) refl (eqb e.table.kind kind) refl (eqb e.table.block block) refl
        where
          one-differs :
              (x : Bool) → eqb e.table.network network ≡ x → (y : Bool) → eqb e.table.kind kind ≡ y → (z : Bool)
              → eqb e.table.block block ≡ z → both x (both y z) ≡ false
          one-differs true p true q true r =
              absurd
              (eqb-false (key_of e) (key_in network kind block) f
              (rw (eqb-true e.table.network network p, eqb-true e.table.kind kind q, eqb-true e.table.block block r)))
          one-differs true p true q false r = refl
          one-differs true p false q z r = refl
          one-differs false p y q z r = refl

  named-asked :
      (network kind block : ℕ) → block ≤ 65535 → (e : Entry) → written form e ≡ true
      → named network kind block e ≡ eqb (key_of e) (asked network kind block)
  named-asked network kind block small e w = go (eqb kind TI) refl (eqb kind LI) refl
    where
      clash : false ≡ true → ⊥
      clash f = let z : ◌≡◌ {A = ℕ} 0 1 = ap (λ (b : Bool). pick b 1 0) f in omega arith

      go :
          (p : Bool) → eqb kind TI ≡ p → (q : Bool) → eqb kind LI ≡ q
          → named network kind block e ≡ eqb (key_of e) (pick p (key_in network TI block) (pick q (key_in network LI block) 33554432))
      go true p q r = rw (eqb-true kind TI p) (named-known network TI block small refl e w)
      go false p true r = rw (eqb-true kind LI r) (named-known network LI block small refl e w)
      go false p false r =
          let other : eqb e.table.kind kind ≡ false =
          ne_eqb e.table.kind kind (λ z. let k = (written-sendable form e w).kind_known in clash (rw (z, p, r) at k)) in
          let above = key_small form e w in
          rw (ne_eqb (key_of e) 33554432 (λ z. omega arith), other) (both_false (eqb e.table.network network))

  pub without-key :
      (network kind block : ℕ) → block ≤ 65535 → (es : List Entry) → all_written form es ≡ true
      → without network kind block es ≡ without_key (asked network kind block) es
  unfolding without without_key all_written
  without-key network kind block small [] w = refl
  without-key network kind block small (e ∷ es) w =
      let p = both_true (written form e) (all_written form es) w in
      rw (named-asked network kind block small e p.0, without-key network kind block small es p.1)

  -- ---- the rules

  module _ (network kind block : ℕ) (small : block ≤ 65535) (sheet old : List ℕ) where
    abbrev bytes : List ℕ
    bytes = sheet_text form (drop_result form network kind block sheet)

    module _ {r : Answer} (counts : r ≡ judged refused (count_rules form sheet) (Ok (length (entries_of form sheet)))) where
      pub drop-bad :
          {w : Refusal} → r ≡ Err w
          → (Err w ≡ answered (drop_rules form network kind block sheet) bytes old) × (old ≡ left (drop_rules form network kind block sheet) bytes old)
      drop-bad {w} e =
          let a : Err w ≡ judged refused (drop_rules form network kind block sheet) (Ok 0) =
          (unfold drop_rules in counted-bad form sheet counts e (limited form (drop_result form network kind block sheet)) (Ok 0)) in
          lent-refused (drop_rules form network kind block sheet) bytes old 0 a refl

      module _ {m : ℕ} (done : r ≡ Ok m) where
        same-result : without_key (asked network kind block) (entries_of form sheet) ≡ drop_result form network kind block sheet
        unfolding drop_result
        same-result = sym (without-key network kind block small (entries_of form sheet) (read-written form sheet 0 (counted-fine form sheet counts done)).2)

        pub drop-goes-on :
            (answered (limited form (without_key (asked network kind block) (entries_of form sheet))) (sheet_text form (without_key (asked network kind block) (entries_of form sheet))) old
            ≡ answered (drop_rules form network kind block sheet) bytes old)
            × (left (limited form (without_key (asked network kind block) (entries_of form sheet))) (sheet_text form (without_key (asked network kind block) (entries_of form sheet))) old
            ≡ left (drop_rules form network kind block sheet) bytes old)
        drop-goes-on =
            let e : answered (limited form (drop_result form network kind block sheet)) bytes old ≡ answered (drop_rules form network kind block sheet) bytes old =
            (unfold drop_rules in rw (le-leb (length sheet) (byte_limit form) (counted-short form sheet counts done), counted-fine form sheet counts done) refl) in
            (rw same-result e, rw same-result (ap (λ (x : Answer). after x bytes old) e))
