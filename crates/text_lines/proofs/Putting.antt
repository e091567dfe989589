-- Puts one after the other are one. Assumes nothing.
use mathlib.Core.Path.{◌≡◌, ◌∙◌, refl, sym, ap}
use mathlib.Core.List.{List, [], ◌∷◌, ◌++◌}
use Prim.Native.Nat.{ℕ, ◌+◌, ◌≤◌, ◌<◌}
use native.Mathlib.Nat.{add-zero}
use native.Mathlib.Numerals.{add-one}
use native.Mathlib.Omega.{arith}
use lib.ListN.{length, get_or, take, drop, length-append, drop_of_length-le}
use lib.Seq.{sets, drop-cons, set_out, take-length}
use borrow.Rule.Slice.PartMut.{put_mid}
use Rattle.std.proofs.lemmas.Slice.{put_mid-paste}
use Rattle.std.proofs.lemmas.List.Edits.{sets-eq}
use Rattle.laws.proofs.Lists.{sets-append}
use borrow.Author.Tests.{le-leb, lt-leb}
use Rattle.text_lines.specs.Put.{Put, last, placed}

pub then :
    {out out₁ out₂ xs ys : List ℕ} {q q₁ q₂ : ℕ} → Put out q xs out₁ q₁ → Put out₁ q₁ ys out₂ q₂ → Put out q (xs ++ ys) out₂ q₂
then {out} {out₁} {out₂} {xs} {ys} {q} {q₁} {q₂} a b =
    record {
      stored =
          b.stored ∙ (rw (a.stored, a.moved) (sym (sets-append out q xs ys)));
      moved = rw length-append (omega (arith, a.moved, b.moved));
    }

pub put-none : (out : List ℕ) (q : ℕ) → Put out q [] out q
put-none out q = record { stored = refl; moved = sym (add-zero q) }

-- what is still to be put from here makes what was to be put from the start
pub record Left (out : List ℕ) (p : ℕ) (rest out₀ : List ℕ) (q : ℕ) (all : List ℕ) : Type 0 where
  pub same : sets out p rest ≡ sets out₀ q all
  pub far : p + length rest ≡ q + length all

pub left-start : (out : List ℕ) (q : ℕ) (all : List ℕ) → Left out q all out q all
left-start out q all = record { same = refl; far = refl }

pub left-on :
    {out out₀ out' first rest whole all : List ℕ} {p p' q : ℕ} → whole ≡ first ++ rest → Put out p first out' p'
    → Left out p whole out₀ q all
    → Left out' p' rest out₀ q all
left-on {out} {out₀} {out'} {first} {rest} {whole} {all} {p} {p'} {q} e a l =
    record {
      same =
          (rw (a.stored, a.moved) (sym (sets-append out p first rest))) ∙ sym (ap (sets out p) e) ∙ l.same;
      far =
          let k : length whole ≡ length first + length rest = ap length e ∙ length-append first rest in
          omega (arith, k, a.moved, l.far);
    }

pub left_end :
    {out out₀ rest all : List ℕ} {p q : ℕ} → rest ≡ [] → Left out p rest out₀ q all → Put out₀ q all out p
left_end {out} {out₀} {rest} {all} {p} {q} e l =
    record {
      stored = sym (ap (sets out p) e) ∙ l.same;
      moved = let k : length rest ≡ 0 = ap length e in omega (arith, k, l.far);
    }

-- the same bytes, said otherwise
pub put_as : {out out' xs ys : List ℕ} {q q' : ℕ} → xs ≡ ys → Put out q xs out' q' → Put out q ys out' q'
put_as {out} {out'} {xs} {ys} {q} {q'} e p = rw (← e) p

-- a text, a byte at a time
pub text-on : (text : List ℕ) (i : ℕ) → i < length text → drop i text ≡ (get_or text i 0 ∷ []) ++ drop (i + 1) text
text-on text i h = rw (add-one, drop-cons text i 0)

pub text-end : (text : List ℕ) (i : ℕ) → length text ≤ i → drop i text ≡ []
text-end text i h = drop_of_length-le text h

-- the same where there is room for it
pub stored : (d : List ℕ) {ys xs : List ℕ} (q : ℕ) {k : ℕ} → q + length xs ≤ length d → k ≡ length xs → ys ≡ xs → put_mid q k d ys ≡ sets d q xs
stored d {ys} {xs} q fits size is =
    put_mid-paste q _ d ys xs (length xs) is (omega arith) refl ∙ ap (λ (l : List ℕ). take q d ++ l ++ drop (q + length xs) d) (take-length xs) ∙ sym (sets-eq xs d q fits)

-- a byte for which there is no room
pub put_out : (out : List ℕ) (q b : ℕ) → length out ≤ q → Put out q (b ∷ []) out (q + 1)
put_out out q b h = record { stored = sym (set_out out q b h); moved = refl }

-- ---- up to the last place, and past it

pub put-placed : {out out' xs : List ℕ} {q q' : ℕ} → q + length xs ≤ last → Put out q xs out' q' → Put out q (placed q xs) out' q'
put-placed {xs = xs} {q = q} h p = rw (le-leb (q + length xs) last h) p

pub put-at : {out out' xs : List ℕ} {q q' : ℕ} → q + length xs ≤ last → Put out q (placed q xs) out' q' → Put out q xs out' q'
put-at {xs = xs} {q = q} h p = rw (le-leb (q + length xs) last h) at p

pub put-beyond : (out : List ℕ) (q : ℕ) (xs : List ℕ) → last < q + length xs → Put out q (placed q xs) out q
put-beyond out q xs h = rw (lt-leb (q + length xs) last h) (put-none out q)
