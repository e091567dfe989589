-- A shelf that holds the menus of a list of records lists what the list does. Assumes nothing.
use mathlib.Core.Path.{◌≡◌, ◌∙◌, refl, sym, ap}
use mathlib.Core.Bool.{Bool, true, false}
use mathlib.Core.Logic.{◌⊎◌, inl, inr}
use mathlib.Core.List.{List, [], ◌∷◌, ◌++◌, append_assoc}
use Prim.Native.Nat.{ℕ, zero, suc, ◌+◌, ◌-◌, ◌≤◌}
use native.Mathlib.Omega.{arith}
use borrow.Author.Tests.{ne_eqb}
use lib.Dec.{eqb}
use lib.ListN.{length, take, drop, replicate}
use lib.Seq.{take-append-add}
use Rattle.laws.specs.Pick.{pick}
use Rattle.laws.specs.Each.{Each, nil, and}
use Rattle.laws.proofs.Eaches.{each_first}
use Rattle.laws.proofs.Tests.{both_first}
use Rattle.answer.specs.Rules.{Rule, Every, First}
use Rattle.answer.proofs.Judging.{refuses, decided}
use Rattle.blocks.specs.Block.{head_length, size_of, head_of, record_of, record_length, begins, block_of, blocks, blocks_within}
use Rattle.laws.specs.Bytes.{Bytes}
use Rattle.laws.proofs.Byted.{bytes_take, bytes_drop}
use Rattle.menu_forms.specs.Menus.{Menu, fits}
use Rattle.menu_forms.specs.Form.{form, menu_in}
use Rattle.menu_forms.proofs.Forms.{form-back-on}
use Rattle.menu_reader.specs.Reading.{read_rules, menu_read}
use Rattle.menu_listing.specs.Lines.{menu_lines}
use Rattle.menu_listing.specs.Listing.{holding, is_menu, menus_of, lines_of, listing}
use Rattle.menu_listing.specs.Kept.{form_most, form_at, kept_menus, kept_listing, HasAt, none, first, Holds}
use Rattle.menu_listing.proofs.Accepted.{accepted-fits, form-fits}

-- ---- the menus of a list can be sent

record_bytes : (l : List ℕ) → Bytes l → Bytes (record_of (block_of l))
record_bytes l b zero = omega arith
record_bytes l b (suc zero) = let low = b 0 in let high = b 1 in omega arith
record_bytes l b (suc (suc zero)) = b 2
record_bytes l b (suc (suc (suc zero))) = b 3
record_bytes l b (suc (suc (suc (suc i)))) = bytes_take (size_of (head_of l)) (drop head_length l) (bytes_drop head_length l b) i

every_holding : (rules : List Rule) → holding rules ≡ true → Every rules
every_holding rules h = go (decided rules)
  where
    go : Every rules ⊎ ((q : Rule) × First q rules) → Every rules
    go (inl e) = e
    go (inr q) = let z : ◌≡◌ {A = Bool} false true = sym (refuses {A = Bool} (λ number offset. false) true q.1) ∙ h in let y : ◌≡◌ {A = ℕ} 0 1 = cc in absurd (omega arith)

module _ (application number : ℕ) where
  abbrev Sent : Menu → Type 0
  Sent m = fits m ≡ true

  record-sent : (l : List ℕ) → Bytes l → is_menu application number (block_of l) ≡ true → Sent (menu_read (block_of l).raw)
  unfolding is_menu
  record-sent l b h =
      accepted-fits application (record_of (block_of l)) (record_bytes l b)
      (every_holding (read_rules application (record_of (block_of l))) (both_first (holding (read_rules application (record_of (block_of l)))) _ h))

  menus-sent : (k : ℕ) (l : List ℕ) → Bytes l → Each Sent (menus_of application number (blocks_within k l))
  unfolding menus_of blocks_within
  menus-sent zero l b = nil
  menus-sent (suc k) l b =
      let rest = menus-sent k (drop (record_length l) l) (bytes_drop (record_length l) l b) in
      go (begins l) (is_menu application number (block_of l)) refl rest
    where
      go :
          (t u : Bool) → is_menu application number (block_of l) ≡ u → Each Sent (menus_of application number (blocks_within k (drop (record_length l) l)))
          → Each Sent (menus_of application number (pick t (block_of l ∷ blocks_within k (drop (record_length l) l)) []))
      go false u e rest = nil
      go true true e rest = rw e (and (record-sent l b e) rest)
      go true false e rest = rw e rest

-- ---- what is read of a form on the shelf

front-taken : (n : ℕ) (xs ys zs : List ℕ) → length xs ≤ n → take n ((xs ++ ys) ++ zs) ≡ xs ++ take (n - length xs) (ys ++ zs)
front-taken n xs ys zs h =
    let e : n ≡ length xs + (n - length xs) = omega arith in
    ap (λ (l : List ℕ). take n l) (append_assoc xs ys zs)
    ∙ ap (λ (k : ℕ). take k (xs ++ (ys ++ zs))) e
    ∙ take-append-add xs (ys ++ zs) (n - length xs)

form-read : (m : Menu) (place : ℕ) (shelf rest : List ℕ) → fits m ≡ true → drop place shelf ≡ form m ++ rest → menu_in (form_at place shelf) ≡ m
unfolding form_at
form-read m place shelf rest h e =
    ap (λ (l : List ℕ). menu_in (take form_most (l ++ replicate form_most 0))) e
    ∙ ap menu_in (front-taken form_most (form m) rest (replicate form_most 0) (form-fits m h))
    ∙ form-back-on m h (take (form_most - length (form m)) (rest ++ replicate form_most 0))

-- ---- the lines

module _ (follow : ℕ → List ℕ) (level number : ℕ) (shelf : List ℕ) where
  has-lines :
      {ms : List Menu} {place : ℕ} → HasAt shelf ms place → Each (λ (m : Menu). fits m ≡ true) ms
      → menu_lines follow level number (pick (eqb place 0) [] (menu_in (form_at place shelf) ∷ [])) ≡ menu_lines follow level number ms
  unfolding menu_lines
  has-lines none s = refl
  has-lines (first {m} {ms} {place} rest n e) s =
      rw (ne_eqb place 0 n) (ap (λ (x : Menu). menu_lines follow level number (x ∷ [])) (form-read m place shelf rest (each_first s) e))

module _ (one other : ℕ → List Menu)
    (same : (follow : ℕ → List ℕ) (level number : ℕ) → menu_lines follow level number (one number) ≡ menu_lines follow level number (other number)) where
  lines_same : (levels left number : ℕ) → lines_of one levels left number ≡ lines_of other levels left number
  unfolding lines_of
  lines_same levels zero number = refl
  lines_same levels (suc left) number =
      same (lines_of one levels left) (levels - left) number
      ∙ ap (λ (follow : ℕ → List ℕ). menu_lines follow (levels - left) number (other number)) (λ i n. lines_same levels left n i)

-- the shelf's listing is the list's
pub kept-listed :
    (application number levels : ℕ) (records heads shelf : List ℕ) → Bytes records → Holds application records heads shelf
    → kept_listing number levels heads shelf ≡ listing application number levels records
unfolding kept_listing kept_menus listing
kept-listed application number levels records heads shelf b holds =
    lines_same (kept_menus heads shelf) (λ (n : ℕ). menus_of application n (blocks records))
    (λ follow level n. has-lines follow level n shelf (holds n) (menus-sent application n (length records) records b))
    levels levels number
