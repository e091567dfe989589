-- What is printed depends on the tables alone, and of a sheet with itself nothing is. Assumes nothing.
use mathlib.Core.Path.{◌≡◌, ◌∙◌, refl, sym, ap}
use mathlib.Core.Bool.{true}
use mathlib.Core.List.{List, [], ◌∷◌, ◌++◌, map, append-nil}
use Prim.Native.Nat.{ℕ, ◌<◌}
use native.Mathlib.Omega.{arith}
use lib.ListN.{length}
use borrow.Author.Tests.{eq-eqb}
use Rattle.texts.specs.Texts.{begins_with, same_text}
use Rattle.listing_reader.proofs.Spells.{begins-append}
use Rattle.sheet_entry.specs.Entries.{Entry, key_of, table_lines}
use Rattle.sheet_joins.specs.Along.{in_first, in_second, in_both}
use Rattle.sheet_joins.proofs.Meeting.{along-less, along-more, along-same, along-second, along-none}
use Rattle.changes.specs.Lines.{change_lines, changes_of, printed}
use Rattle.changes.specs.Calls.{table_of}
use Rattle.changes.proofs.Applied.{going, printed-on}

-- ---- by the tables

abbrev Alike : List Entry → List Entry → Type 0
Alike xs ys = (zs : List Entry) → map table_of ys ≡ map table_of zs → printed xs ys ≡ printed xs zs

key_of_lem : (y z : Entry) → table_of y ≡ table_of z → key_of y ≡ key_of z
unfolding key_of
key_of_lem y z e = rw e

second_alike : (y z : Entry) → table_of y ≡ table_of z → change_lines (in_second y) ≡ change_lines (in_second z)
unfolding change_lines
second_alike y z e = rw e

both-alike : (x y z : Entry) → table_of y ≡ table_of z → change_lines (in_both x y) ≡ change_lines (in_both x z)
unfolding change_lines
both-alike x y z e = rw e

-- as many, and the first of them
split :
    (P : List Entry → Type 0) (y : Entry) (ys zs : List Entry) → map table_of (y ∷ ys) ≡ map table_of zs
    → ((z : Entry) (us : List Entry) → table_of y ≡ table_of z → map table_of ys ≡ map table_of us → P (z ∷ us)) → P zs
split P y ys [] e f = let z : ◌≡◌ {A = ℕ} 0 1 = cc in absurd (omega arith)
split P y ys (z ∷ us) e f =
    let a : table_of y ≡ table_of z = cc in
    let b : map table_of ys ≡ map table_of us = cc in
    f z us a b

none_left : (xs zs : List Entry) → [] ≡ map table_of zs → printed xs [] ≡ printed xs zs
none_left xs [] e = refl
none_left xs (z ∷ zs) e = let z : ◌≡◌ {A = ℕ} 0 1 = cc in absurd (omega arith)

alike_less : (x : Entry) (xs : List Entry) (y : Entry) (ys : List Entry) → key_of x < key_of y → Alike xs (y ∷ ys) → Alike (x ∷ xs) (y ∷ ys)
alike_less x xs y ys l i zs e =
    split (λ (zs : List Entry). printed (x ∷ xs) (y ∷ ys) ≡ printed (x ∷ xs) zs) y ys zs e
    (λ z us a b.
    let k = key_of_lem y z a in
    printed-on (x ∷ xs) (y ∷ ys) xs (y ∷ ys) (along-less x xs y ys l)
    ∙ ap (λ (r : List ℕ). change_lines (in_first x) ++ r) (i (z ∷ us) (rw (a, b)))
    ∙ sym (printed-on (x ∷ xs) (z ∷ us) xs (z ∷ us) (along-less x xs z us (omega arith))))

alike-more : (x : Entry) (xs : List Entry) (y : Entry) (ys : List Entry) → key_of y < key_of x → Alike (x ∷ xs) ys → Alike (x ∷ xs) (y ∷ ys)
alike-more x xs y ys l i zs e =
    split (λ (zs : List Entry). printed (x ∷ xs) (y ∷ ys) ≡ printed (x ∷ xs) zs) y ys zs e
    (λ z us a b.
    let k = key_of_lem y z a in
    printed-on (x ∷ xs) (y ∷ ys) (x ∷ xs) ys (along-more x xs y ys l)
    ∙ ap (λ (r : List ℕ). change_lines (in_second y) ++ r) (i us b)
    ∙ ap (λ (r : List ℕ). r ++ printed (x ∷ xs) us) (second_alike y z a)
    ∙ sym (printed-on (x ∷ xs) (z ∷ us) (x ∷ xs) us (along-more x xs z us (omega arith))))

alike_same : (x : Entry) (xs : List Entry) (y : Entry) (ys : List Entry) → key_of x ≡ key_of y → Alike xs ys → Alike (x ∷ xs) (y ∷ ys)
alike_same x xs y ys l i zs e =
    split (λ (zs : List Entry). printed (x ∷ xs) (y ∷ ys) ≡ printed (x ∷ xs) zs) y ys zs e
    (λ z us a b.
    printed-on (x ∷ xs) (y ∷ ys) xs ys (along-same x xs y ys l)
    ∙ ap (λ (r : List ℕ). change_lines (in_both x y) ++ r) (i us b)
    ∙ ap (λ (r : List ℕ). r ++ printed xs us) (both-alike x y z a)
    ∙ sym (printed-on (x ∷ xs) (z ∷ us) xs us (along-same x xs z us (l ∙ key_of_lem y z a))))

alike-second : (y : Entry) (ys : List Entry) → Alike [] ys → Alike [] (y ∷ ys)
alike-second y ys i zs e =
    split (λ (zs : List Entry). printed [] (y ∷ ys) ≡ printed [] zs) y ys zs e
    (λ z us a b.
    printed-on [] (y ∷ ys) [] ys (along-second y ys)
    ∙ ap (λ (r : List ℕ). change_lines (in_second y) ++ r) (i us b)
    ∙ ap (λ (r : List ℕ). r ++ printed [] us) (second_alike y z a)
    ∙ sym (printed-on [] (z ∷ us) [] us (along-second z us)))

-- of seconds with the same tables the same is printed
pub printed-alike : (xs ys zs : List Entry) → map table_of ys ≡ map table_of zs → printed xs ys ≡ printed xs zs
printed-alike =
    going Alike (λ zs e. none_left [] zs e) (λ x xs i zs e. none_left (x ∷ xs) zs e) alike-second alike_less alike-more alike_same

-- ---- of a sheet with itself

text_itself : (a : List ℕ) → same_text a a ≡ true
text_itself a =
    let b : begins_with a a ≡ true = rw (append-nil a) at (begins-append a []) in rw (eq-eqb (length a) (length a) refl, b)

pub printed_itself : (xs : List Entry) → printed xs xs ≡ []
unfolding printed changes_of change_lines
printed_itself [] = rw along-none
printed_itself (x ∷ xs) = rw (along-same x xs x xs refl, text_itself (table_lines x)) (printed_itself xs)
