-- Lists joined in a row: one that is among them adds nothing, so the same lists come to the same whatever their order and however often each
-- of them stands there. Over any type of entry. Assumes nothing.
use mathlib.Core.Path.{◌≡◌, ◌∙◌, refl, sym, ap}
use mathlib.Core.Bool.{Bool}
use mathlib.Core.List.{List, [], ◌∷◌, map}
use Prim.Native.Nat.{ℕ}
use Rattle.laws.specs.Each.{Each, nil, and}
use Rattle.laws.specs.Keyed.{merge}
use Rattle.laws.specs.Orders.{greater, Decides}
use Rattle.laws.specs.Together.{Reordered, none, keep, swap, then, merge_all}
use Rattle.laws.proofs.Eaches.{each_all, each_map}
use Rattle.laws.proofs.Joined.{join-itself}
use Rattle.laws.proofs.Trees.{Good, good-all, either_order, either-grouping}
use Rattle.sheet_joins.specs.Work.{In, here, there, Same}

-- ---- members

pub each_in : {B : Type 0} {P : B → Type 0} {x : B} {xs : List B} → Each P xs → In x xs → P x
each_in {B = B} {P = P} nil x4 = elim x4 [ ]
each_in (and p e) here = p
each_in (and p e) (there i) = each_in e i

pub in_map : {B C : Type 0} (f : B → C) {x : B} {xs : List B} → In x xs → In (f x) (map f xs)
in_map f here = here
in_map f (there i) = there (in_map f i)

pub in_one_lem : {B : Type 0} {x y : B} → In x (y ∷ []) → x ≡ y
in_one_lem {B = B} {y = y} (there x4) = elim x4 [ ]
in_one_lem here = refl

pub same_map : {B C : Type 0} (f : B → C) {xs ys : List B} → Same xs ys → Same (map f xs) (map f ys)
same_map f s = record { first = each_map f (λ x i. in_map f i) s.first; second = each_map f (λ y i. in_map f i) s.second }

module _ {B : Type 0} where
  more-in : {x : B} {xs ys : List B} → Each (λ (y : B). In y xs) ys → Each (λ (y : B). In y (x ∷ xs)) ys
  more-in e = each_all (λ y i. there i) e

  -- one more on either side
  pub same-behind : (x : B) {xs ys : List B} → Same xs ys → Same (x ∷ xs) (x ∷ ys)
  same-behind x s = record { first = and here (more-in s.first); second = and here (more-in s.second) }

  all_in : (xs : List B) → Each (λ (x : B). In x xs) xs
  all_in [] = nil
  all_in (x ∷ xs) = and here (more-in (all_in xs))

  in_order : {x : B} {xs ys : List B} → Reordered xs ys → In x xs → In x ys
  in_order none i = elim i [ ]
  in_order (keep r) here = here
  in_order (keep r) (there i) = there (in_order r i)
  in_order swap here = there here
  in_order swap (there here) = here
  in_order swap (there (there i)) = there (there i)
  in_order (then r s) i = in_order s (in_order r i)

  back-order : {xs ys : List B} → Reordered xs ys → Reordered ys xs
  back-order none = none
  back-order (keep r) = keep (back-order r)
  back-order swap = swap
  back-order (then r s) = then (back-order s) (back-order r)

  -- the same in another order are the same
  pub reordered-same : {xs ys : List B} → Reordered xs ys → Same xs ys
  reordered-same {xs} {ys} r =
      record { first = each_all (λ x i. in_order r i) (all_in xs); second = each_all (λ y i. in_order (back-order r) i) (all_in ys) }

  pub as-they-are : (xs : List B) → Reordered xs xs
  as-they-are [] = none
  as-they-are (x ∷ xs) = keep (as-they-are xs)

-- ---- joined

module _ {A : Type 0} (key : A → ℕ) (Fit : A → Type 0) (leq : A → A → Bool) (d : Decides key Fit leq) where
  abbrev join : List A → List A → List A
  join = merge key (greater leq)

  abbrev all : List (List A) → List A
  all = merge_all key (greater leq)

  abbrev Sound : List A → Type 0
  Sound = Good key Fit leq d

  -- one that is among them adds nothing
  one-adds : {xs : List A} {xss : List (List A)} → Each Sound xss → In xs xss → join xs (all xss) ≡ all xss
  unfolding merge_all
  one-adds {xs = xs} nil x3 = elim x3 [ ]
  one-adds (and {a = xs} {l = xss} g e) here =
      either-grouping key Fit leq d g g (good-all key Fit leq d e)
      ∙ ap (λ (l : List A). join l (all xss)) (join-itself key Fit leq d 0 xs g.rises)
  one-adds {xs} (and {a = ys} {l = yss} g e) (there i) =
      let h = each_in e i in
      let r = good-all key Fit leq d e in
      either-grouping key Fit leq d h g r
      ∙ ap (λ (l : List A). join l (all yss)) (either_order key Fit leq d h g)
      ∙ sym (either-grouping key Fit leq d g h r)
      ∙ ap (join ys) (one-adds e i)

  -- and so do any that are
  some-add : {yss xss : List (List A)} → Each Sound yss → Each (λ (xs : List A). In xs yss) xss → join (all xss) (all yss) ≡ all yss
  unfolding merge_all merge
  some-add f nil = refl
  some-add f (and {a = xs} {l = xss} i e) =
      let g = each_in f i in
      let r = good-all key Fit leq d (each_all (λ l j. each_in f j) e) in
      sym (either-grouping key Fit leq d g r (good-all key Fit leq d f)) ∙ ap (join xs) (some-add f e) ∙ one-adds f i

  -- the same lists come to the same
  pub same-all : {xss yss : List (List A)} → Each Sound xss → Each Sound yss → Same xss yss → all xss ≡ all yss
  same-all e f s =
      sym (some-add e s.second) ∙ either_order key Fit leq d (good-all key Fit leq d f) (good-all key Fit leq d e) ∙ some-add f s.first
