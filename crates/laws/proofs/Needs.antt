-- What any number of rising lists can need at most: every key once, with its longest entry. Whatever is joined of them, in any order and
-- grouping, needs no more, since at each key stands one of their entries. Assumes nothing.
use mathlib.Core.Path.{◌≡◌, ◌∙◌, refl, sym, ap}
use mathlib.Core.Bool.{Bool, true, false}
use mathlib.Core.List.{List, [], ◌∷◌, ◌++◌}
use mathlib.Core.Option.{Option, none, some}
use Prim.Native.Nat.{ℕ, suc, ◌+◌, ◌≤◌, ◌<◌}
use native.Mathlib.Omega.{arith}
use lib.Dec.{ltb, eqb}
use lib.ListN.{length}
use borrow.Author.Tests.{leb-true, ltb-true, ltb-false}
use Rattle.laws.specs.Pick.{pick}
use Rattle.laws.specs.Each.{Each, nil, and}
use Rattle.laws.specs.Keyed.{rising_from, rising, lookup, merge, chosen}
use Rattle.laws.specs.Orders.{greater, Decides}
use Rattle.laws.specs.Together.{Reordered, Tree, one, two, leaves, merge_all, merge_tree, Measure, longer, added, measured, together, total, totals, Within, Allowed}
use Rattle.laws.proofs.Merging.{merge-right, merge_less, merge-same, merge-more, along, rising-rest, rising-behind, lookup-here, lookup-past, lookup-below, at_key}
use Rattle.laws.proofs.Ordering.{ordered-numbers, ordered-on, greater-first, greater-second, greater-one}
use Rattle.laws.proofs.Joined.{join-lookup, join-itself}
use Rattle.laws.proofs.Eaches.{each_left, each_right, each_all}
use Rattle.laws.proofs.Trees.{Good, good-join, good-all, all_append, all-reordered, either-grouping}

-- ---- measures are keyed lists, joined by the longer

abbrev place : Measure → ℕ
place m = m.place

Any : Measure → Type 0
Any m = record {}

abbrev mk : ℕ → ℕ → Measure
mk p l = record { place = p; long = l }

same-measure : (x y : Measure) → place x ≡ place y → x.long ≡ y.long → x ≡ y
same-measure x y e f = ap (λ (p : ℕ). mk p x.long) e ∙ ap (λ (l : ℕ). mk y.place l) f

decides : Decides place Any longer
unfolding Any
decides =
    record {
      ordered = ordered-on ordered-numbers (λ (m : Measure). m.long);
      only =
          λ x y f g e p q.
          same-measure x y e (omega (arith, leb-true x.long y.long p, leb-true y.long x.long q));
    }

abbrev join : List Measure → List Measure → List Measure
join = merge place (greater longer)

abbrev GoodM : List Measure → Type 0
GoodM = Good place Any longer decides

any : (ms : List Measure) → Each Any ms
unfolding Any
any [] = nil
any (m ∷ ms) = and (record {}) (any ms)

-- ---- one list of measures needs no more than another

-- what stands at a key of the one, stands in the other and is as long
pub data Below : Option Measure → Option Measure → Type 0 where
  nothing : {o : Option Measure} → Below none o
  entry : (m n : Measure) → m.long ≤ n.long → Below (some m) (some n)

abbrev Under : List Measure → List Measure → Type 0
Under ms ns = (k : ℕ) → Below (lookup place k ms) (lookup place k ns)

below_itself : (o : Option Measure) → Below o o
below_itself none = nothing
below_itself (some m) = entry m m (omega arith)

below_trans : {a b c : Option Measure} → Below a b → Below b c → Below a c
below_trans nothing q = nothing
below_trans (entry a b p) (entry b₀ c q) = entry a c (omega arith)

below-first : (a b : Option Measure) → Below a (chosen (greater longer) a b)
unfolding chosen
below-first none b = nothing
below-first (some m) none = entry m m (omega arith)
below-first (some m) (some n) = entry m (greater longer m n) (leb-true m.long (greater longer m n).long (greater-first decides.ordered m n))

below-second : (a b : Option Measure) → Below b (chosen (greater longer) a b)
unfolding chosen
below-second none b = below_itself b
below-second (some m) none = nothing
below-second (some m) (some n) = entry n (greater longer m n) (leb-true n.long (greater longer m n).long (greater-second decides.ordered m n))

below_both :
    {a b c : Option Measure} → Below a c → Below b c → Below (chosen (greater longer) a b) c
unfolding chosen
below_both nothing q = q
below_both (entry m n p) nothing = entry m n p
below_both (entry m n p) (entry m' n₀ q) =
    entry (greater longer m m') n (greater-one decides.ordered (λ (w : Measure). w.long ≤ n.long) p q)

join_looks :
    {ms ns : List Measure} → GoodM ms → GoodM ns → (k : ℕ)
    → lookup place k (join ms ns) ≡ chosen (greater longer) (lookup place k ms) (lookup place k ns)
join_looks {ms} {ns} g h k = join-lookup place Any longer decides 0 k ms ns g.rises h.rises

under_join : {ms ns ms' ns' : List Measure} → GoodM ms → GoodM ns → GoodM ms' → GoodM ns' → Under ms ms' → Under ns ns' → Under (join ms ns) (join ms' ns')
under_join {ms} {ns} {ms'} {ns'} g h g' h' p q k =
    rw (join_looks g h k, join_looks g' h' k)
    (below_both (below_trans (p k) (below-first (lookup place k ms') (lookup place k ns')))
    (below_trans (q k) (below-second (lookup place k ms') (lookup place k ns'))))

under_first : {ms ns : List Measure} → GoodM ms → GoodM ns → Under ms (join ms ns)
under_first {ms} {ns} g h k = rw (join_looks g h k) (below-first (lookup place k ms) (lookup place k ns))

under_second : {ms ns : List Measure} → GoodM ms → GoodM ns → Under ns (join ms ns)
under_second {ms} {ns} g h k = rw (join_looks g h k) (below-second (lookup place k ms) (lookup place k ns))

-- ---- and so has no more keys, and no more bytes in all

clash : {m : Measure} → none ≡ some m → ⊥
clash p = let z : ◌≡◌ {A = ℕ} 0 1 = cc in omega arith

nothing-below : {a b : Option Measure} {m : Measure} → Below a b → a ≡ some m → b ≡ none → ⊥
nothing-below nothing e f = clash e
nothing-below (entry m n p) e f = clash (sym f)

heads-below : {a b : Option Measure} {m n : Measure} → Below a b → a ≡ some m → b ≡ some n → m.long ≤ n.long
heads-below nothing e f = absurd (clash e)
heads-below (entry m' n' p) e f = let g : m'.long ≡ _ = ap long_of e in let h : n'.long ≡ _ = ap long_of f in omega arith
  where
    long_of : Option Measure → ℕ
    long_of none = 0
    long_of (some m) = m.long

Sums : List Measure → List Measure → Type 0
Sums ms ns = (length ms ≤ length ns) × (added ms ≤ added ns)

under_sums : (l : ℕ) (ms ns : List Measure) → rising_from place l ms ≡ true → rising_from place l ns ≡ true → Under ms ns → Sums ms ns
unfolding Sums added lookup
under_sums l [] ns p q u = (omega arith, omega arith)
under_sums l (m ∷ ms) [] p q u = absurd (nothing-below (u (place m)) (lookup-here place (place m) m ms refl) refl)
under_sums l (m ∷ ms) (n ∷ ns) p q u =
    go (ltb (place m) (place n)) refl (ltb (place n) (place m)) refl (under_sums (suc (place n)) ms ns) (under_sums (suc (place n)) (m ∷ ms) ns)
  where
    Tails : List Measure → Type 0
    Tails ls = rising_from place (suc (place n)) ls ≡ true → rising_from place (suc (place n)) ns ≡ true → Under ls ns → Sums ls ns

    same_place : place m ≡ place n → Tails ms → Sums (m ∷ ms) (n ∷ ns)
    same_place e ih =
        let h = heads-below (u (place m)) (lookup-here place (place m) m ms refl) (lookup-here place (place m) n ns (sym e)) in
        let t =
        ih (rw (sym e) (rising-rest place l m ms p)) (rising-rest place l n ns q) λ k.
        at_key place m k
        (λ f. rw (lookup-below place k (suc (place m)) ms (omega arith) (rising-rest place l m ms p)) nothing)
        λ f. rw (sym (lookup-past place k m ms f), sym (lookup-past place k n ns (λ g. f (e ∙ g)))) (u k) in
        (omega arith, omega arith)

    later-place : place n < place m → Tails (m ∷ ms) → Sums (m ∷ ms) (n ∷ ns)
    later-place h ih =
        let b = rising-behind place l n m ms h p in
        let t =
        ih b (rising-rest place l n ns q) λ k.
        at_key place n k
        (λ f. rw (lookup-below place k (suc (place n)) (m ∷ ms) (omega arith) b) nothing)
        λ f. rw (sym (lookup-past place k n ns f)) (u k) in
        (omega arith, omega arith)

    go :
        (a : Bool) → ltb (place m) (place n) ≡ a → (b : Bool) → ltb (place n) (place m) ≡ b → Tails ms → Tails (m ∷ ms)
        → Sums (m ∷ ms) (n ∷ ns)
    go true a b₀ b ih ih' =
        absurd
        (nothing-below (u (place m)) (lookup-here place (place m) m ms refl)
        (lookup-below place (place m) (suc (place m)) (n ∷ ns) (omega arith) (rising-behind place l m n ns (ltb-true (place m) (place n) a) q)))
    go false a true b ih ih' = later-place (ltb-true (place n) (place m) b) ih'
    go false a false b ih ih' = same_place (omega (arith, ltb-false (place m) (place n) a, ltb-false (place n) (place m) b)) ih

-- ---- the measures of lists

module _ {A : Type 0} (key size : A → ℕ) where
  measured-rises : (l : ℕ) (xs : List A) → rising_from place l (measured key size xs) ≡ rising_from key l xs
  unfolding measured rising_from
  measured-rises l [] = refl
  measured-rises l (x ∷ xs) = rw (measured-rises (suc (key x)) xs)

  good-measured : (xs : List A) → rising key xs ≡ true → GoodM (measured key size xs)
  good-measured xs p = record { rises = measured-rises 0 xs ∙ p; fit = any (measured key size xs) }

  measured-length : (xs : List A) → length (measured key size xs) ≡ length xs
  unfolding measured
  measured-length [] = refl
  measured-length (x ∷ xs) = ap suc (measured-length xs)

  measured-added : (xs : List A) → added (measured key size xs) ≡ total size xs
  unfolding measured added total
  measured-added [] = refl
  measured-added (x ∷ xs) = rw (measured-added xs)

  measure : Option A → Option Measure
  measure none = none
  measure (some x) = some (record { place = key x; long = size x })

  measured-lookup : (k : ℕ) (xs : List A) → lookup place k (measured key size xs) ≡ measure (lookup key k xs)
  unfolding measured lookup measure
  measured-lookup k [] = refl
  measured-lookup k (x ∷ xs) = go (eqb (key x) k) (measured-lookup k xs)
    where
      go :
          (t : Bool) → lookup place k (measured key size xs) ≡ measure (lookup key k xs)
          → pick t (some (mk (key x) (size x))) (lookup place k (measured key size xs)) ≡ measure (pick t (some x) (lookup key k xs))
      go true ih = refl
      go false ih = ih

  -- rows of measures
  rows : List (List A) → List (List Measure)
  rows [] = []
  rows (xs ∷ xss) = measured key size xs ∷ rows xss

  together-all : (xss : List (List A)) → together key size xss ≡ merge_all place (greater longer) (rows xss)
  unfolding together rows merge_all
  together-all [] = refl
  together-all (xs ∷ xss) = rw (together-all xss)

  abbrev Rising : List A → Type 0
  Rising xs = rising key xs ≡ true

  good-rows : {xss : List (List A)} → Each Rising xss → Each GoodM (rows xss)
  unfolding rows
  good-rows nil = nil
  good-rows (and {a = x} p e) = and (good-measured x p) (good-rows e)

  good-together : {xss : List (List A)} → Each Rising xss → GoodM (together key size xss)
  good-together {xss} e = rw (together-all xss) (good-all place Any longer decides (good-rows e))

  rows_append : (xss yss : List (List A)) → rows (xss ++ yss) ≡ rows xss ++ rows yss
  unfolding rows
  rows_append [] yss = refl
  rows_append (xs ∷ xss) yss = rw (rows_append xss yss)

  together-append :
      (xss yss : List (List A)) → Each Rising xss → Each Rising yss
      → together key size (xss ++ yss) ≡ join (together key size xss) (together key size yss)
  together-append xss yss e f =
      rw (together-all (xss ++ yss), together-all xss, together-all yss, rows_append xss yss)
      (all_append place Any longer decides (rows xss) (rows yss) (good-rows e) (good-rows f))

  rows-reordered : {xss yss : List (List A)} → Reordered xss yss → Reordered (rows xss) (rows yss)
  unfolding rows
  rows-reordered Reordered.none = Reordered.none
  rows-reordered (Reordered.keep r) = Reordered.keep (rows-reordered r)
  rows-reordered Reordered.swap = Reordered.swap
  rows-reordered (Reordered.then r s) = Reordered.then (rows-reordered r) (rows-reordered s)

  -- the premise doesn't look at the order of the lists
  pub within-reordered :
      {keys bytes : ℕ} {xss yss : List (List A)} → Each Rising xss → Reordered xss yss → Within key size keys bytes xss
      → Within key size keys bytes yss
  within-reordered {xss} {yss} e r w =
      let t : together key size xss ≡ together key size yss =
      together-all xss ∙ all-reordered place Any longer decides (rows-reordered r) (good-rows e) ∙ sym (together-all yss) in
      record { few = rw (sym t) w.few; short = rw (sym t) w.short }

  -- what needs no more is within the same limits
  within-under :
      {keys bytes : ℕ} {xss yss : List (List A)} → Each Rising xss → Each Rising yss
      → Under (together key size xss) (together key size yss) → Within key size keys bytes yss → Within key size keys bytes xss
  unfolding Sums
  within-under {xss} {yss} e f u w =
      let s = under_sums 0 (together key size xss) (together key size yss) (good-together e).rises (good-together f).rises u in
      record { few = let g = w.few in omega arith; short = let g = w.short in omega arith }

  -- a part of the lists is within the limits of all
  pub within-left :
      {keys bytes : ℕ} (xss yss : List (List A)) → Each Rising (xss ++ yss) → Within key size keys bytes (xss ++ yss)
      → Within key size keys bytes xss
  within-left xss yss e w =
      let a = each_left xss yss e in
      let b = each_right xss yss e in
      within-under a e (rw (together-append xss yss a b) (under_first (good-together a) (good-together b))) w

  pub within-right :
      {keys bytes : ℕ} (xss yss : List (List A)) → Each Rising (xss ++ yss) → Within key size keys bytes (xss ++ yss)
      → Within key size keys bytes yss
  within-right xss yss e w =
      let a = each_left xss yss e in
      let b = each_right xss yss e in
      within-under b e (rw (together-append xss yss a b) (under_second (good-together a) (good-together b))) w

  -- ---- joined

  module _ (Fit : A → Type 0) (leq : A → A → Bool) (d : Decides key Fit leq) where
    abbrev GoodA : List A → Type 0
    GoodA = Good key Fit leq d

    all-rising : {xss : List (List A)} → Each GoodA xss → Each Rising xss
    all-rising e = each_all (λ xs g. g.rises) e

    measure-chosen : (a b : Option A) → Below (measure (chosen (greater leq) a b)) (chosen (greater longer) (measure a) (measure b))
    unfolding measure chosen
    measure-chosen none b = below_itself (measure b)
    measure-chosen (some x) none = below_itself (measure (some x))
    measure-chosen (some x) (some y) =
        greater-one d.ordered (λ (w : A). Below (measure (some w)) (some (greater longer (of x) (of y))))
        (below-first (some (of x)) (some (of y))) (below-second (some (of x)) (some (of y)))
      where
        of : A → Measure
        of w = mk (key w) (size w)

    measured-join :
        {xs ys : List A} → GoodA xs → GoodA ys
        → Under (measured key size (merge key (greater leq) xs ys)) (join (measured key size xs) (measured key size ys))
    measured-join {xs} {ys} g h k =
        rw (
          measured-lookup k (merge key (greater leq) xs ys),
          join-lookup key Fit leq d 0 k xs ys g.rises h.rises,
          join_looks (good-measured xs g.rises) (good-measured ys h.rises) k,
          measured-lookup k xs,
          measured-lookup k ys,
        )
        (measure-chosen (lookup key k xs) (lookup key k ys))

    -- the premise is closed under joining: with two of the lists joined it still holds
    pub within-joined :
        {keys bytes : ℕ} {xs ys : List A} {xss : List (List A)} → GoodA xs → GoodA ys → Each GoodA xss
        → Within key size keys bytes (xs ∷ ys ∷ xss) → Within key size keys bytes (merge key (greater leq) xs ys ∷ xss)
    unfolding together
    within-joined {xs} {ys} {xss} g h e w =
        let r = all-rising e in
        let j = good-join key Fit leq d g h in
        let m = good-measured xs g.rises in
        let n = good-measured ys h.rises in
        let t = good-together r in
        within-under (and j.rises r) (and g.rises (and h.rises r))
        (rw (either-grouping place Any longer decides m n t)
        (under_join (good-measured (merge key (greater leq) xs ys) j.rises) t (good-join place Any longer decides m n) t
        (measured-join g h) (λ k. below_itself (lookup place k (together key size xss))))) w

    good-tree : (t : Tree (List A)) → Each GoodA (leaves t) → GoodA (merge_tree key (greater leq) t)
    unfolding leaves merge_tree
    good-tree (one xs) (and g e) = g
    good-tree (two s t) e =
        good-join key Fit leq d (good-tree s (each_left (leaves s) (leaves t) e)) (good-tree t (each_right (leaves s) (leaves t) e))

    tree-under :
        (t : Tree (List A)) → Each GoodA (leaves t)
        → Under (measured key size (merge_tree key (greater leq) t)) (together key size (leaves t))
    unfolding leaves merge_tree together
    tree-under (one xs) e k = rw (merge-right place (greater longer) (measured key size xs)) (below_itself (lookup place k (measured key size xs)))
    tree-under (two s t) e k =
        let a = each_left (leaves s) (leaves t) e in
        let b = each_right (leaves s) (leaves t) e in
        let g = good-tree s a in
        let h = good-tree t b in
        rw (together-append (leaves s) (leaves t) (all-rising a) (all-rising b))
        (below_trans (measured-join g h k)
        (under_join (good-measured (merge_tree key (greater leq) s) g.rises) (good-measured (merge_tree key (greater leq) t) h.rises)
        (good-together (all-rising a)) (good-together (all-rising b)) (tree-under s a) (tree-under t b) k))

    -- where the premise holds of all the lists, what a tree of joins gives is within the limits
    pub within-allowed :
        {keys bytes : ℕ} (t : Tree (List A)) → Each GoodA (leaves t) → Within key size keys bytes (leaves t)
        → Allowed size keys bytes (merge_tree key (greater leq) t)
    unfolding Sums
    within-allowed t e w =
        let xs = merge_tree key (greater leq) t in
        let s =
        under_sums 0 (measured key size xs) (together key size (leaves t)) (good-measured xs (good-tree t e).rises).rises
        (good-together (all-rising e)).rises (tree-under t e) in
        let l = measured-length xs in
        let a = measured-added xs in
        record { entries = let f = w.few in omega arith; length_in_all = let f = w.short in omega arith }

    -- a list within the limits, with itself
    pub within-itself :
        {keys bytes : ℕ} {xs : List A} → GoodA xs → Allowed size keys bytes xs → Within key size keys bytes (xs ∷ xs ∷ [])
    unfolding together
    within-itself {keys} {bytes} {xs} g w =
        let m = measured key size xs in
        let e : join m (join m []) ≡ m =
        ap (join m) (merge-right place (greater longer) m)
        ∙ join-itself place Any longer decides 0 m (good-measured xs g.rises).rises in
        record {
          few = rw (e, measured-length xs) w.entries;
          short = rw (e, measured-added xs) w.length_in_all;
        }

-- ---- what is joined is no longer than all of it

Adds : List Measure → List Measure → Type 0
Adds ms ns = added (join ms ns) ≤ added ms + added ns

adds : (ms ns : List Measure) → Adds ms ns
unfolding Adds added merge
adds =
    along place (greater longer) Adds (λ ns. omega arith) (λ ms. rw (merge-right place (greater longer) ms) (omega arith))
    (λ m ms n ns h ih. rw (merge_less place (greater longer) m ms n ns h) (omega (arith, ih)))
    (λ m ms n ns h ih.
    let g : (greater longer m n).long ≤ m.long + n.long =
    greater-one decides.ordered (λ (w : Measure). w.long ≤ m.long + n.long) {x = m} {y = n} (omega arith) (omega arith) in
    rw (merge-same place (greater longer) m ms n ns h) (omega (arith, ih, g)))
    λ m ms n ns h ih. rw (merge-more place (greater longer) m ms n ns h) (omega (arith, ih))

module _ {A : Type 0} (key size : A → ℕ) where
  together-totals : (xss : List (List A)) → added (together key size xss) ≤ totals size xss
  unfolding together totals added Adds
  together-totals [] = omega arith
  together-totals (xs ∷ xss) =
      let a = adds (measured key size xs) (together key size xss) in
      let b = measured-added key size xs in
      let c = together-totals xss in
      omega arith

  -- "together" as the sum of the lists' bytes
  pub within-sum :
      {keys bytes : ℕ} (xss : List (List A)) → length (together key size xss) ≤ keys → totals size xss ≤ bytes
      → Within key size keys bytes xss
  within-sum xss f s = record { few = f; short = let t = together-totals xss in omega arith }
