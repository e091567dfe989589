-- `table::judge_front` meets its contract: each `return` is the first rule that doesn't hold, and the last is all of them.
-- Assumes nothing.
use mathlib.Core.Path.{◌≡◌, ◌∙◌, sym, ap}
use mathlib.Core.List.{List, map}
use Prim.Native.Nat.{ℕ}
use native.Mathlib.Omega.{arith}
use lib.ListN.{take, length-map}
use lib.Seq.{length-take-le}
use Rattle.laws.proofs.Maps.{map-take}
use Rattle.octet.specs.Decoding.{nib}
use Rattle.fields.specs.declared.Opening.{Opening}
use Rattle.blocks.specs.Sums.{sound}
use Rattle.table.proofs.Judging.{front-10, front-12, front-12', front-13, front-done}
use Rattle.blocks.proofs.Summing.{sound_le}
use Rattle.forms.specs.Tables.{known}
use Rattle.table.proofs.judge_front.Goals as goal
use Rattle.table.proofs.judge_front.Goals.{then-not-known-via-then-not-known, then-not-known-via-else-not-known+then-opening-ne0}

pub overflow_add-good : goal.overflow_add-good
overflow_add-good c =
    let s : List ℕ = take 8 c.args.body.now in
    omega (arith, c.sound-good.ensures, sound_le (map nib s), length-map s nib, length-take-le 8 c.args.body.now c.requires.0)

pub returns-then-good-ne8 : goal.returns-then-good-ne8
returns-then-good-ne8 c =
    let s : List ℕ = c.args.body.now in
    let e : c.sound-good.result ≡ sound (take 8 (map nib s)) = c.sound-good.ensures ∙ ap sound (map-take nib 8 s) in
    rw e at c.refuse.ensures ∙ sym (front-10 _ (map nib s) _ _ (rw e at c.if-good-ne8.true))

pub returns-then-not-known : goal.returns-then-not-known
returns-then-not-known c =
    let s : List ℕ = c.args.body.now in
    let p = c.requires.1 in
    let e : c.sound-good.result ≡ sound (take 8 (map nib s)) = c.sound-good.ensures ∙ ap sound (map-take nib 8 s) in
    let k = c.known.ensures ∙ ap (λ (o : Opening). known o.kind) p in
    let eight = sym e ∙ c.if-good-ne8.false in
    c.refuse-then-not-known.ensures
    ∙ elim c.then-not-known.branch [
      | then-not-known-via-then-not-known w ↦ sym (front-12 _ (map nib s) _ _ eight (sym k ∙ w.if-not-known.true))
      | then-not-known-via-else-not-known+then-opening-ne0 w ↦
          sym
          (front-12' _ (map nib s) _ _ eight (sym k ∙ w.if-not-known.false)
          (λ q. omega (arith, ap (λ (o : Opening). o.access) p, q, w.if-opening-ne0.true)))
    ]

pub returns-then-size-ne0 : goal.returns-then-size-ne0
returns-then-size-ne0 c =
    let s : List ℕ = c.args.body.now in
    let p = c.requires.1 in
    let e : c.sound-good.result ≡ sound (take 8 (map nib s)) = c.sound-good.ensures ∙ ap sound (map-take nib 8 s) in
    let k = c.known.ensures ∙ ap (λ (o : Opening). known o.kind) p in
    let eight = sym e ∙ c.if-good-ne8.false in
    let kind = sym k ∙ c.if-not-known.false in
    let access = ap (λ (o : Opening). o.access) p in
    c.refuse-then-size-ne0.ensures ∙ sym (front-13 _ (map nib s) _ _ eight kind (omega (arith, access)) c.if-size-ne0.true)

pub returns : goal.returns
returns c =
    let s : List ℕ = c.args.body.now in
    let p = c.requires.1 in
    let e : c.sound-good.result ≡ sound (take 8 (map nib s)) = c.sound-good.ensures ∙ ap sound (map-take nib 8 s) in
    let k = c.known.ensures ∙ ap (λ (o : Opening). known o.kind) p in
    let eight = sym e ∙ c.if-good-ne8.false in
    let kind = sym k ∙ c.if-not-known.false in
    let access = ap (λ (o : Opening). o.access) p in
    sym (front-done _ (map nib s) _ _ eight kind (omega (arith, access)) c.if-size-ne0.false)
