-- The stream of a run from one of its pages on is that of its packets from there on, with the pages counted from there: a sending's first and last
-- byte stand in the same page or not, wherever the count begins. Assumes nothing.
use mathlib.Core.Path.{◌≡◌, ◌∙◌, refl, sym, ap}
use mathlib.Core.Bool.{Bool, true, false}
use mathlib.Core.List.{List, [], ◌∷◌, ◌++◌, map, map-append}
use Prim.Native.Nat.{ℕ, zero, suc, ◌+◌, ◌*◌}
use native.Mathlib.Nat.{suc-mul, zero-mul, add-zero, add-suc, suc-add}
use native.Mathlib.Omega.{arith}
use lib.Dec.{eqb}
use lib.ListN.{length, take, drop, length-map, length-drop}
use lib.Seq.{drop-nil, drop-drop, drop-append-add}
use borrow.Author.Tests.{eq-eqb, ne_eqb, eqb-true, eqb-false}
use Rattle.laws.proofs.Maps.{map-take, map-drop}
use Rattle.blocks.specs.Block.{Block}
use Rattle.symbols.specs.Stream.{per_packet, symbols, cells_of}
use Rattle.writer.specs.Cutting.{FortyTwo, none, more}
use Rattle.writer.proofs.Numbering.{forty_drop}
use Rattle.claims.specs.Damage.{Placed, placed, byte_in, carried_in, stream_in, last_page, sending_of, sendings, unharmed}
use Rattle.claims.specs.CutLine.{from_page, before_page}

-- ---- the count of pages

-- a byte that stands so many pages on
abbrev moved : ℕ → Placed → Placed
moved j c = record { byte = c.byte; page = c.page + j }

carried_moved : (k j page left : ℕ) (qs : List (List ℕ)) → carried_in k (page + j) left qs ≡ map (moved j) (carried_in k page left qs)
unfolding carried_in
carried_moved k j page left [] = refl
carried_moved k j page zero (q ∷ qs) = rw (← suc-add page j) (carried_moved k j (suc page) k qs)
carried_moved k j page (suc left) (q ∷ qs) =
    ap (λ (l : List Placed). map (placed (page + j)) (drop 3 q) ++ l) (carried_moved k j page left qs)
    ∙ ap (λ (l : List Placed). l ++ map (moved j) (carried_in k page left qs)) (again (drop 3 q))
    ∙ sym (map-append (moved j) (map (placed page) (drop 3 q)) (carried_in k page left qs))
  where
    again : (l : List ℕ) → map (placed (page + j)) l ≡ map (moved j) (map (placed page) l)
    again [] = refl
    again (b ∷ l) = ap (λ (m : List Placed). placed (page + j) b ∷ m) (again l)

last-moved : (j page : ℕ) (l : List Placed) → last_page (page + j) (map (moved j) l) ≡ last_page page l + j
unfolding last_page
last-moved j page [] = refl
last-moved j page (c ∷ l) = last-moved j c.page l

eqb_moved : (a b j : ℕ) → eqb (a + j) (b + j) ≡ eqb a b
eqb_moved a b j = go (eqb a b) refl
  where
    go : (t : Bool) → eqb a b ≡ t → eqb (a + j) (b + j) ≡ t
    go true e = eq-eqb (a + j) (b + j) (ap (λ (i : ℕ). i + j) (eqb-true a b e))
    go false e = ne_eqb (a + j) (b + j) (λ f. eqb-false a b e (omega arith))

byte-moved : (j : ℕ) (l : List Placed) → map byte_in (map (moved j) l) ≡ map byte_in l
byte-moved j [] = refl
byte-moved j (c ∷ l) = ap (λ (m : List ℕ). c.byte ∷ m) (byte-moved j l)

unharmed-moved : (j : ℕ) (b : Block) (l : List Placed) → unharmed (sending_of b (map (moved j) l)) ≡ unharmed (sending_of b l)
unfolding last_page
unharmed-moved j b [] = refl
unharmed-moved j b (c ∷ l) = rw (last-moved j c.page l, eqb_moved c.page (last_page c.page l) j)

sendings-moved : (j : ℕ) (bs : List Block) (l : List Placed) → map unharmed (sendings bs (map (moved j) l)) ≡ map unharmed (sendings bs l)
unfolding sendings
sendings-moved j [] l = refl
sendings-moved j (b ∷ bs) l =
    rw (← map-take (moved j) (length (symbols b)) l, ← map-drop (moved j) (length (cells_of b)) l, unharmed-moved j b (take (length (symbols b)) l))
    (ap (λ (m : List Block). unharmed (sending_of b (take (length (symbols b)) l)) ∷ m) (sendings-moved j bs (drop (length (cells_of b)) l)))

-- ---- the packets from a page on

-- the rest of a page
past-page :
    (k page w : ℕ) {qs : List (List ℕ)} → FortyTwo qs → drop (w * per_packet) (carried_in k page w qs) ≡ carried_in k page 0 (drop w qs)
unfolding carried_in
past-page k page zero r = refl
past-page k page (suc w) none = drop-nil (suc w * per_packet)
past-page k page (suc w) (more {p = q} {ps = qs} e r) =
    let bytes = map (placed page) (drop 3 q) in
    let long : length bytes ≡ per_packet = length-map (drop 3 q) (placed page) ∙ length-drop 3 q ∙ omega arith in
    let n : suc w * per_packet ≡ length bytes + w * per_packet = omega arith in
    ap (λ (i : ℕ). drop i (bytes ++ carried_in k page w qs)) n ∙ drop-append-add bytes (carried_in k page w qs) (w * per_packet)
    ∙ past-page k page w r

past-pages :
    (k page j : ℕ) {qs : List (List ℕ)} → FortyTwo qs → drop (before_page k j) (carried_in k page 0 qs) ≡ carried_in k (page + j) 0 (from_page k j qs)
unfolding carried_in
past-pages k page zero r = rw (zero-mul (k * per_packet), zero-mul (k + 1), add-zero page)
past-pages k page (suc j) none = drop-nil (before_page k (suc j)) ∙ rw (drop-nil {A = List ℕ} (suc j * (k + 1)))
past-pages k page (suc j) (more {p = q} {ps = qs} e r) =
    let n : before_page k (suc j) ≡ k * per_packet + before_page k j = omega (arith, suc-mul j (k * per_packet)) in
    let m : suc j * (k + 1) ≡ suc (k + j * (k + 1)) = omega (arith, suc-mul j (k + 1)) in
    ap (λ (i : ℕ). drop i (carried_in k (suc page) k qs)) n
    ∙ sym (drop-drop (before_page k j) (k * per_packet) (carried_in k (suc page) k qs))
    ∙ ap (drop (before_page k j)) (past-page k (suc page) k r)
    ∙ past-pages k (suc page) j (forty_drop k r)
    ∙ rw (m, drop-drop (j * (k + 1)) k qs, suc-add page j, add-suc page j)

-- the sendings of the blocks bs, whose bytes stand n behind the first of page j, are those of the whole run
pub sendings_tail :
    (k j n : ℕ) (bs : List Block) {qs : List (List ℕ)} → FortyTwo qs
    → map unharmed (sendings bs (drop n (stream_in k (from_page k j qs)))) ≡ map unharmed (sendings bs (drop (before_page k j + n) (stream_in k qs)))
sendings_tail k j n bs {qs} r =
    sym (sendings-moved j bs (drop n (stream_in k (from_page k j qs))))
    ∙ ap (λ (l : List Placed). map unharmed (sendings bs l))
    (map-drop (moved j) n (stream_in k (from_page k j qs))
    ∙ ap (drop n) (sym (carried_moved k j 0 0 (from_page k j qs)) ∙ sym (past-pages k 0 j r))
    ∙ drop-drop n (before_page k j) (stream_in k qs))
