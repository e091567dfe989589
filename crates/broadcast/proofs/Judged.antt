-- The rules judged by a tally, network by network and row by row. Assumes nothing.
use mathlib.Core.Path.{◌≡◌, ◌∙◌, refl, sym, ap}
use mathlib.Core.Bool.{Bool, true, false}
use mathlib.Core.List.{List, [], ◌∷◌, ◌++◌, append-nil}
use Prim.Native.Nat.{ℕ, suc, ◌+◌, ◌-◌, ◌≤◌, ◌<◌}
use native.Mathlib.Numerals.{add-one}
use native.Mathlib.Omega.{arith}
use borrow.Author.Tests.{lt-ltb, le-ltb, le-leb, lt-leb, eq-eqb, ne_eqb, eqb-true, eqb-false}
use Rattle.std.specs.Prelude.{Option, None, Some}
use lib.Dec.{leb, ltb, eqb}
use lib.ListN.{get_or, replicate}
use Rattle.laws.specs.Pick.{pick}
use Rattle.laws.specs.Range.{all}
use Rattle.answer.specs.Rules.{Rule}
use Rattle.answer.specs.Values.{refused}
use Rattle.answer.specs.Writing.{answered, left}
use Rattle.blocks.specs.Block.{whole, blocks}
use Rattle.forms.specs.Kinds.{LI, TI}
use Rattle.text_lines.specs.Codes.{codes}
use Rattle.broadcast.specs.declared.seeing.Seen.{Seen}
use Rattle.broadcast.specs.Counting.{AI, MI, UI, all_seen}
use Rattle.broadcast.specs.Lawful.{Counts, limit, each_within, minimum, verdict, number, channel_from, counted, line, guide_lines, counts_in, lawful_rules, lawful_lines}
use Rattle.broadcast.specs.Internal.{network_at, places, tallied, counts_by, name_by, said}
use Rattle.broadcast.proofs.Tallying.{capped_eqb, kind_at, same-verdict}

-- a network's blocks are within their limit
abbrev pub fits_at : List ℕ → ℕ → ℕ → ℕ → Bool
fits_at t kind channel network = leb (get_or t (network_at kind network) 0) (limit 1 2 channel network)

module _ (t : List ℕ) (kind channel network : ℕ) {a b : ℕ} (e : a ≡ get_or t (network_at kind network) 0) (e' : b ≡ limit 1 2 channel network) where
  pub fits-over : b < a → fits_at t kind channel network ≡ false
  fits-over h = rw (← e, ← e') (lt-leb a b h)

  pub fits-within : a ≤ b → fits_at t kind channel network ≡ true
  fits-within h = rw (← e, ← e') (le-leb a b h)

-- going through the networks
module _ (f : ℕ → Bool) (n : ℕ) where
  -- what is left, from a place on
  left-suc : n < 256 → 256 - n ≡ suc (255 - n)
  left-suc h = omega arith

  pub fits-step : n < 256 → f n ≡ true → all f (n + 1) (256 - (n + 1)) ≡ all f n (256 - n)
  fits-step h e = let k : 256 - (n + 1) ≡ 255 - n = omega arith in rw (k, left-suc h, add-one n, e)

  pub fits-stop : n < 256 → f n ≡ false → false ≡ all f n (256 - n)
  fits-stop h e = rw (left-suc h, e)

  pub fits-end : 256 ≤ n → true ≡ all f n (256 - n)
  fits-end h = let k : 256 - n ≡ 0 = omega arith in rw k

-- ---- the rows that can fail, in their order

module _ (c : Counts) where
  pub judged-ai : (c.number AI ≡ 1 → ⊥) → name_by (Some 65) ≡ verdict c minimum
  unfolding verdict
  judged-ai n = rw (ne_eqb (c.number AI) 1 n)

  module _ (a : c.number AI ≡ 1) where
    pub judged-mi : 255 < c.number MI → name_by (Some 77) ≡ verdict c minimum
    unfolding verdict
    judged-mi n = rw (eq-eqb (c.number AI) 1 a, lt-leb (c.number MI) 255 n)

    module _ (m : c.number MI ≤ 255) where
      pub judged-ui : 1 < c.number UI → name_by (Some 85) ≡ verdict c minimum
      unfolding verdict
      judged-ui n = rw (eq-eqb (c.number AI) 1 a, le-leb (c.number MI) 255 m, lt-leb (c.number UI) 1 n)

      module _ (u : c.number UI ≤ 1) where
        pub judged-li : each_within c LI 1 2 ≡ false → name_by (Some 76) ≡ verdict c minimum
        unfolding verdict
        judged-li n = rw (eq-eqb (c.number AI) 1 a, le-leb (c.number MI) 255 m, le-leb (c.number UI) 1 u, n)

        module _ (l : each_within c LI 1 2 ≡ true) where
          pub judged-ti : each_within c TI 1 2 ≡ false → name_by (Some 84) ≡ verdict c minimum
          unfolding verdict
          judged-ti n = rw (eq-eqb (c.number AI) 1 a, le-leb (c.number MI) 255 m, le-leb (c.number UI) 1 u, l, n)

          pub judged-lawful : each_within c TI 1 2 ≡ true → name_by None ≡ verdict c minimum
          unfolding verdict
          judged-lawful t = rw (eq-eqb (c.number AI) 1 a, le-leb (c.number MI) 255 m, le-leb (c.number UI) 1 u, l, t)

-- ---- what a walk along the records answers

pub walked-none : (w : Bool) (x : ℕ) {r : Option ℕ} → r ≡ pick w (Some x) None → ((y : ℕ) → r ≡ Some y → ⊥) → w ≡ false
walked-none true x e never = absurd (never x e)
walked-none false x e never = refl

pub walked-some : (w : Bool) (x : ℕ) {y : ℕ} {r : Option ℕ} → r ≡ pick w (Some x) None → r ≡ Some y → (w ≡ true) × (y ≡ x)
walked-some true x {y} e h = let k : Some y ≡ Some x = sym h ∙ e in (refl, cc)
walked-some false x e h = let z : ◌≡◌ {A = ℕ} 0 1 = cc in absurd (omega arith)

-- ---- what is said

pub said_no :
    (letter : ℕ)
    → line (codes "guide=") (codes "EPG") ++ (line (codes "lawful=") (codes "no") ++ line (codes "rule=") (letter ∷ codes "I"))
    ≡ said (name_by (Some letter))
unfolding said
said_no letter = refl

-- ---- the call's rules, with the tally of its records

module _ (application : ℕ) (records out : List ℕ) where
  abbrev rules : List Rule
  rules = lawful_rules application records

  abbrev text : List ℕ
  text = lawful_lines application records

  abbrev ss : List Seen
  ss = all_seen application (blocks records)

  pub lawful-16 : 32 ≤ application → (refused 16 0 ≡ answered rules text out) × (out ≡ left rules text out)
  lawful-16 h = (rw (le-ltb application 32 h), rw (le-ltb application 32 h))

  module _ (h : application < 32) where
    pub lawful-13 : whole records ≡ false → (refused 13 0 ≡ answered rules text out) × (out ≡ left rules text out)
    lawful-13 w = (rw (lt-ltb application 32 h, w), rw (lt-ltb application 32 h, w))

    module _ (w : whole records ≡ true) (t : List ℕ) (fresh : t ≡ replicate places 0) where
      none-counts : (b : Bool) → eqb (get_or (tallied t ss) 1 0) 0 ≡ b → ltb 0 ((counts_in application records).number AI) ≡ pick b false true
      unfolding counted
      none-counts b e =
          let n = number ss AI in
          let k : eqb n 0 ≡ b = sym (capped_eqb n 0 (omega arith)) ∙ ap (λ (m : ℕ). eqb m 0) (sym (kind_at t fresh application (blocks records) AI (omega arith))) ∙ e in
          go n b k
        where
          go : (n : ℕ) (b : Bool) → eqb n 0 ≡ b → ltb 0 n ≡ pick b false true
          go n true e = le-ltb 0 n (omega (arith, eqb-true n 0 e))
          go n false e = lt-ltb 0 n (some n (eqb-false n 0 e))
            where
              some : (n : ℕ) → (n ≡ 0 → ⊥) → 0 < n
              some n z = omega arith

      pub lawful-24 : eqb (get_or (tallied t ss) 1 0) 0 ≡ true → (refused 24 0 ≡ answered rules text out) × (out ≡ left rules text out)
      lawful-24 e =
          let z = none-counts true e in
          (rw (lt-ltb application 32 h, w, z), rw (lt-ltb application 32 h, w, z))

      module _ (name : List ℕ) (v : name ≡ verdict (counts_by (tallied t ss) (channel_from 0 ss)) minimum) where
        says-it : said name ≡ text
        unfolding said lawful_lines guide_lines
        says-it = ap said (v ∙ same-verdict t fresh application (blocks records)) ∙ sym (append-nil _)

        pub lawful-said :
            eqb (get_or (tallied t ss) 1 0) 0 ≡ false
            → (answered [] (said name) out ≡ answered rules text out) × (left [] (said name) out ≡ left rules text out)
        lawful-said e =
            let z = none-counts false e in
            (rw (lt-ltb application 32 h, w, z, says-it), rw (lt-ltb application 32 h, w, z, says-it))
