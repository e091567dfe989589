-- The search for a menu, record by record. Assumes nothing.
use mathlib.Core.Path.{◌≡◌, ◌∙◌, refl, sym, ap, ap₂, subst}
use mathlib.Core.Logic.{◌⊎◌, inl, inr}
use mathlib.Core.Bool.{Bool, true, false}
use mathlib.Core.List.{List, [], ◌∷◌, ◌++◌}
use Prim.Native.Nat.{ℕ, suc, ◌+◌, ◌-◌, ◌*◌, ◌/◌, ◌%◌, ◌≤◌}
use native.Mathlib.Omega.{arith}
use borrow.Author.Tests.{eq-eqb, ne_eqb}
use lib.Dec.{eqb}
use lib.ListN.{length, take, drop, length-drop, drop_of_length-le}
use Rattle.std.specs.declared.result.Result.{Result}
use Rattle.std.specs.declared.result.Result.TheVariants.{Ok, Err}
use Rattle.std.specs.Result.{is_ok}
use Rattle.laws.specs.Pick.{pick, both}
use Rattle.laws.proofs.Tests.{both_false}
use Rattle.answer.specs.Rules.{Rule, Every, First}
use Rattle.answer.specs.Writing.{answered, left}
use Rattle.answer.specs.Answer.{Answer}
use Rattle.answer.specs.declared.Refusal.{Refusal}
use Rattle.answer.proofs.Judging.{passes, refuses, decided}
use Rattle.answer.proofs.Lent.{lent-accepted, lent-all}
use Rattle.blocks.specs.Block.{head_length, size_of, record_of, record_length, begins, block_of, whole, blocks, whole_within, blocks_within}
use Rattle.blocks.specs.Place.{found_at}
use Rattle.blocks.specs.declared.Found.{Found}
use Rattle.blocks.specs.declared.Found.TheVariants.{End, Broken, Record}
use Rattle.blocks.specs.declared.Taken.{Taken}
use Rattle.blocks.proofs.Walking.{Standing, begins-head, blocks_at, blocks_not, whole_not, ended, broken}
use Rattle.fields.specs.Fields.{field}
use Rattle.fields.specs.Compound.{compound}
use Rattle.laws.specs.Bytes.{Bytes}
use Rattle.blocks.specs.Framing.{frame_rules}
use Rattle.blocks.specs.Values.{counted}
use Rattle.blocks.specs.Taking.{taken}
use Rattle.menu_forms.specs.Menus.{Menu, navigation}
use Rattle.menu_forms.specs.Form.{form, menu_in}
use Rattle.menu_forms.proofs.Forms.{form-back-on}
use Rattle.kinds.specs.Reading.{body_rules, carried}
use Rattle.menu_reader.specs.Reading.{length_rules, read_rules, menu_read}
use Rattle.menu_listing.specs.Listing.{holding, is_menu, menus_of}
use Rattle.menu_listing.specs.Internal.{Held, none, first, Judged}
use Rattle.menu_listing.specs.Kept.{form_most}
use Rattle.menu_listing.proofs.Accepted.{accepted-fits, accepted-form, accepted-number}

-- ---- whether these are whole records

pub whole-ended : (l : List ℕ) (p : ℕ) → p ≡ length l → true ≡ whole (drop p l)
unfolding whole_within
whole-ended l p e = let h : length l ≤ p = omega arith in rw (drop_of_length-le l h)

pub whole-broken : (l : List ℕ) (p : ℕ) → p ≤ length l → (p ≡ length l → ⊥) × (begins (drop p l) ≡ false) → false ≡ whole (drop p l)
whole-broken l p h b =
    let n : length (drop p l) ≡ 0 → ⊥ = λ e. b.0 (omega (arith, length-drop p l)) in
    sym (whole_not (drop p l) n b.1)

-- ---- one record

-- the 16 bits of two bytes, spelled again
head_again : (h : ℕ) → h % 256 + 256 * (h / 256) ≡ h
head_again h = omega arith

-- a record that a list begins with is that of its block, as far as reading goes
module _ (application : ℕ) where
  pub same-record :
      (g : List ℕ) → begins g ≡ true
      → (read_rules application (take (record_length g) g) ≡ read_rules application (record_of (block_of g)))
      × (drop head_length (take (record_length g) g) ≡ (block_of g).raw)
  same-record (a ∷ b ∷ c ∷ d ∷ g) h =
      let n = size_of (a + 256 * b) in
      let e : 4 + n ≡ suc (suc (suc (suc n))) = omega arith in
      (rw e (sym (ap (λ (k : ℕ). (frame_rules application (length (a ∷ b ∷ c ∷ d ∷ take n g)) k c d ++ body_rules navigation.asked true k (take n g)) ++ length_rules (size_of k) (carried navigation (take n g))) (head_again (a + 256 * b)))), rw e)
  same-record [] h = let k = begins-head [] h in absurd (omega arith)
  same-record (a ∷ []) h = let k = begins-head (a ∷ []) h in absurd (omega arith)
  same-record (a ∷ b ∷ []) h = let k = begins-head (a ∷ b ∷ []) h in absurd (omega arith)
  same-record (a ∷ b ∷ c ∷ []) h = let k = begins-head (a ∷ b ∷ c ∷ []) h in absurd (omega arith)

-- ---- the search

module _ (application number : ℕ) {l : List ℕ} {p head raw next : ℕ} (s : Standing l p head raw next) {f : List ℕ} {r : Bool}
    (j : Judged application number (take (next - p) (drop p l)) f r) where
  abbrev from : List ℕ
  from = drop p l

  its-record : take (next - p) from ≡ take (record_length from) from
  its-record = let e : next - p ≡ record_length from = omega (arith, s.its_next) in ap (λ (n : ℕ). take n from) e

  its_raw : drop head_length (take (next - p) from) ≡ (block_of from).raw
  its_raw = ap (drop head_length) its-record ∙ (same-record application from s.whole_there).1

  told : r ≡ is_menu application number (block_of from)
  unfolding is_menu
  told =
      j.says
      ∙ ap₂ (λ (rules : List Rule) (bytes : List ℕ). both (holding rules) (eqb (menu_read bytes).block number))
      (ap (read_rules application) its-record ∙ (same-record application from s.whole_there).0)
      its_raw

  here : menus_of application number (blocks from) ≡ pick r (menu_read (block_of from).raw ∷ []) [] ++ menus_of application number (blocks (drop next l))
  unfolding menus_of
  here = ap (menus_of application number) (blocks_at s) ∙ (rw told)

  -- it isn't one: the search goes on
  pub passed_over : r ≡ false → menus_of application number (blocks from) ≡ menus_of application number (blocks (drop next l))
  passed_over e = here ∙ (rw e)

  -- it is the first
  pub found_first : {ms : List Menu} → r ≡ true → menus_of application number (blocks from) ≡ ms → Held ms f true
  found_first {ms} e h =
      let m = menu_read (block_of from).raw in
      let q : menu_in f ≡ m = j.stands e ∙ ap menu_read its_raw in
      let same : m ∷ menus_of application number (blocks (drop next l)) ≡ ms = sym (here ∙ (rw e)) ∙ h in
      subst (λ (x : List Menu). Held x f true) same (first q)

-- none is left
pub none-ended : (application number : ℕ) (l : List ℕ) (p : ℕ) → p ≡ length l → menus_of application number (blocks (drop p l)) ≡ []
unfolding menus_of blocks_within
none-ended application number l p e = let h : length l ≤ p = omega arith in rw (drop_of_length-le l h)

pub none-broken : (application number : ℕ) (g : List ℕ) → begins g ≡ false → menus_of application number (blocks g) ≡ []
unfolding menus_of
none-broken application number g b = ap (menus_of application number) (blocks_not g b)

-- no record stands there
pub none-left :
    (application number : ℕ) (l : List ℕ) (p : ℕ) (f : Found) → f ≡ found_at l p → ((x x' x'' : ℕ) → f ≡ Record x x' x'' → ⊥)
    → menus_of application number (blocks (drop p l)) ≡ []
none-left application number l p End e never = none-ended application number l p (ended l p (sym e))
none-left application number l p Broken e never = none-broken application number (drop p l) (broken l p (sym e)).1
none-left application number l p (Record x x' x'') e never = absurd (never x x' x'' refl)

pub none-held : {ms : List Menu} (f : List ℕ) → [] ≡ ms → Held ms f false
none-held f e = subst (λ (x : List Menu). Held x f false) e none

-- ---- one record judged

module _ (application number : ℕ) (rec f : List ℕ) (b : Bytes rec) where
  abbrev rules : List Rule
  rules = read_rules application rec

  abbrev bytes : List ℕ
  bytes = form (menu_read (drop head_length rec))

  refuses-it : {q : Rule} → First q rules → Judged application number rec f false
  refuses-it q =
      record {
        says = rw (refuses {A = Bool} (λ number offset. false) true q);
        stands = λ e. let z : ◌≡◌ {A = ℕ} 0 1 = cc in absurd (omega arith);
      }

  -- another number
  pub judged-other : (field 28 16 (compound (drop head_length rec)) ≡ number → ⊥) → Judged application number rec f false
  judged-other n = go (decided rules)
    where
      go : Every rules ⊎ ((q : Rule) × First q rules) → Judged application number rec f false
      go (inr q) = refuses-it q.1
      go (inl e) =
          let ne = ne_eqb (menu_read (drop head_length rec)).block number (λ (x : (menu_read (drop head_length rec)).block ≡ number). n (sym (accepted-number application rec b e) ∙ x)) in
          record {
            says = rw ne (sym (both_false (holding rules)));
            stands = λ x. let z : ◌≡◌ {A = ℕ} 0 1 = cc in absurd (omega arith);
          }

  module _ (old : List ℕ) (mended : ℕ) where
    -- accepted
    pub judged-taken :
        {written count : ℕ} → field 28 16 (compound (drop head_length rec)) ≡ number
        → counted mended (answered rules bytes old) ≡ Ok (taken written count) → f ≡ left rules bytes old
        → Judged application number rec f true
    judged-taken {written} {count} k h e = go (answered rules bytes old) refl h
      where
        go : (a : Answer) → answered rules bytes old ≡ a → counted mended a ≡ Ok (taken written count) → Judged application number rec f true
        go (Err w) ea ec = let z : ◌≡◌ {A = ℕ} 0 1 = cc in absurd (omega arith)
        go (Ok n) ea ec =
            let all = lent-all rules bytes old n ea in
            let there : (menu_read (drop head_length rec)).block ≡ number = accepted-number application rec b all.0 ∙ k in
            record {
              says = rw (passes {A = Bool} (λ number offset. false) true all.0) (sym (eq-eqb _ number there));
              stands = λ x.
                  ap menu_in (e ∙ (lent-accepted rules bytes old all.0 all.1).1)
                  ∙ form-back-on (menu_read (drop head_length rec)) (accepted-fits application rec b all.0) (drop (length bytes) old);
            }

    -- refused, though there is room for any form
    pub judged-refused :
        {why : Refusal} → length old ≡ form_most
        → counted mended (answered rules bytes old) ≡ Err why → Judged application number rec f false
    judged-refused {why} l h = go (decided rules)
      where
        go : Every rules ⊎ ((q : Rule) × First q rules) → Judged application number rec f false
        go (inr q) = refuses-it q.1
        go (inl e) =
            let d = (lent-accepted rules bytes old e (omega (arith, accepted-form application rec b e))).0 in
            let t : counted mended (Ok (length bytes)) ≡ Err why = sym (ap (counted mended) d) ∙ h in
            let z : ◌≡◌ {A = ℕ} 0 1 = cc in
            absurd (omega arith)

    -- whatever reading answers
    pub judged-read :
        (x : Result Taken Refusal) (r : Bool) → x ≡ counted mended (answered rules bytes old) → r ≡ is_ok x
        → field 28 16 (compound (drop head_length rec)) ≡ number → f ≡ left rules bytes old → length old ≡ form_most
        → Judged application number rec f r
    judged-read (Ok t) r h e k w l = subst (λ (x : Bool). Judged application number rec f x) (sym e) (judged-taken k (sym h) w)
    judged-read (Err w') r h e k w l = subst (λ (x : Bool). Judged application number rec f x) (sym e) (judged-refused l (sym h))
