-- Any number of rising lists joined in any order and grouping: a tree of joins is its leaves joined in a row, and a row may be
-- reordered. Assumes nothing.
use mathlib.Core.Path.{◌≡◌, ◌∙◌, refl, sym, ap}
use mathlib.Core.Bool.{Bool, true}
use mathlib.Core.List.{List, [], ◌∷◌, ◌++◌, map}
use Prim.Native.Nat.{ℕ}
use Rattle.laws.specs.Each.{Each, nil, and}
use Rattle.laws.specs.Keyed.{rising_from, rising, merge}
use Rattle.laws.specs.Orders.{greater, Decides}
use Rattle.laws.specs.Together.{Reordered, none, keep, swap, then, Tree, one, two, leaves, merge_all, merge_tree}
use Rattle.laws.proofs.Eaches.{each_left, each_right}
use Rattle.laws.proofs.Merging.{merge-right}
use Rattle.laws.proofs.Joined.{join-rises, join-each, join-either, join-grouping}

module _ {B : Type 0} {P : B → Type 0} where
  pub each-reordered : {xs ys : List B} → Reordered xs ys → Each P xs → Each P ys
  each-reordered none e = e
  each-reordered (keep r) (and p e) = and p (each-reordered r e)
  each-reordered swap (and p (and q e)) = and q (and p e)
  each-reordered (then r s) e = each-reordered s (each-reordered r e)

pub reordered_map : {B C : Type 0} (f : B → C) {xs ys : List B} → Reordered xs ys → Reordered (map f xs) (map f ys)
reordered_map f none = none
reordered_map f (keep r) = keep (reordered_map f r)
reordered_map f swap = swap
reordered_map f (then r s) = then (reordered_map f r) (reordered_map f s)

module _ {A : Type 0} (key : A → ℕ) (Fit : A → Type 0) (leq : A → A → Bool) (d : Decides key Fit leq) where
  abbrev join : List A → List A → List A
  join = merge key (greater leq)

  abbrev all : List (List A) → List A
  all = merge_all key (greater leq)

  -- a list that rises, of entries that may stand in it
  pub record Good (xs : List A) : Type 0 where
    pub rises : rising key xs ≡ true
    pub fit : Each Fit xs

  pub good_none : Good []
  unfolding rising_from
  good_none = record { rises = refl; fit = nil }

  pub good-join : {xs ys : List A} → Good xs → Good ys → Good (join xs ys)
  good-join {xs} {ys} g h =
      record {
        rises = join-rises key Fit leq d 0 xs ys g.rises h.rises;
        fit = join-each key Fit leq d Fit xs ys g.fit h.fit;
      }

  pub good-all : {xss : List (List A)} → Each Good xss → Good (all xss)
  unfolding merge_all
  good-all nil = good_none
  good-all (and g e) = good-join g (good-all e)

  pub either_order : {xs ys : List A} → Good xs → Good ys → join xs ys ≡ join ys xs
  either_order {xs} {ys} g h = join-either key Fit leq d 0 xs ys g.rises h.rises g.fit h.fit

  pub either-grouping : {xs ys zs : List A} → Good xs → Good ys → Good zs → join xs (join ys zs) ≡ join (join xs ys) zs
  either-grouping {xs} {ys} {zs} f g h =
      join-grouping key Fit leq d 0 xs ys zs f.rises g.rises h.rises f.fit g.fit h.fit

  -- two rows, one behind the other
  pub all_append : (xss yss : List (List A)) → Each Good xss → Each Good yss → all (xss ++ yss) ≡ join (all xss) (all yss)
  unfolding merge_all merge
  all_append [] yss e f = refl
  all_append (xs ∷ xss) yss (and g e) f = ap (join xs) (all_append xss yss e f) ∙ either-grouping g (good-all e) (good-all f)

  -- a tree of joins is its leaves in a row
  pub tree-row : (t : Tree (List A)) → Each Good (leaves t) → merge_tree key (greater leq) t ≡ all (leaves t)
  unfolding merge_all merge_tree leaves
  tree-row (one xs) e = sym (merge-right key (greater leq) xs)
  tree-row (two s t) e =
      let a = each_left (leaves s) (leaves t) e in
      let b = each_right (leaves s) (leaves t) e in
      rw (tree-row s a, tree-row t b) (sym (all_append (leaves s) (leaves t) a b))

  -- a row may be reordered
  pub all-reordered : {xss yss : List (List A)} → Reordered xss yss → Each Good xss → all xss ≡ all yss
  unfolding merge_all
  all-reordered none e = refl
  all-reordered (keep {x} r) (and g e) = ap (join x) (all-reordered r e)
  all-reordered (swap {x} {y} {xs}) (and g (and h e)) =
      either-grouping g h (good-all e) ∙ ap (λ (l : List A). join l (all xs)) (either_order g h) ∙ sym (either-grouping h g (good-all e))
  all-reordered (then r s) e = all-reordered r e ∙ all-reordered s (each-reordered r e)

  -- every tree of joins over every order of the lists gives the same
  pub any-tree :
      (s t : Tree (List A)) → Reordered (leaves s) (leaves t) → Each Good (leaves s)
      → merge_tree key (greater leq) s ≡ merge_tree key (greater leq) t
  any-tree s t r e = tree-row s e ∙ all-reordered r e ∙ sym (tree-row t (each-reordered r e))
