-- `kinds::Asked::judge_front` meets its contract: each `return` is the first rule that doesn't hold, and the last is all of them. Assumes nothing.
use mathlib.Core.Path.{◌≡◌, ◌∙◌, sym, ap}
use mathlib.Core.Bool.{Bool}
use mathlib.Core.List.{List, map}
use Prim.Native.Nat.{ℕ}
use native.Mathlib.Omega.{arith}
use lib.ListN.{take, length-map}
use lib.Seq.{length-take-le}
use Rattle.laws.proofs.Maps.{map-take}
use Rattle.octet.specs.Decoding.{nib}
use Rattle.fields.specs.Fields.{field}
use Rattle.fields.specs.Compound.{compound}
use Rattle.blocks.specs.Sums.{sound}
use Rattle.blocks.proofs.Summing.{sound_le}
use Rattle.kinds.specs.Front.{Front}
use Rattle.kinds.specs.Reading.{front_in, one_of}
use Rattle.kinds.proofs.Fronts.{front_at}
use Rattle.kinds.proofs.Judging.{front-10, front-12, front-12', front-13, front-done}
use Rattle.kinds.proofs.Asked.judge_front.Goals as goal

pub slice_bounds-sound-end : goal.slice_bounds-sound-end
slice_bounds-sound-end c = sym (length-take-le 8 c.args.control.now c.requires.0)

pub overflow_add-good : goal.overflow_add-good
overflow_add-good c =
    let l = c.args.control.now in
    let s : List ℕ = take 8 l in
    omega (arith, c.sound-good.ensures, sound_le (map nib s), length-map s nib, length-take-le 8 l c.requires.0)

pub returns-then-good-ne-FIRST : goal.returns-then-good-ne-FIRST
returns-then-good-ne-FIRST c =
    let s : List ℕ = c.args.control.now in
    let e : c.sound-good.result ≡ sound (take 8 (map nib s)) = c.sound-good.ensures ∙ ap sound (map-take nib 8 s) in
    rw e at c.refuse.ensures ∙ sym (front-10 _ _ _ (map nib s) _ (rw e at c.if-good-ne-FIRST.true))

-- CA_mode stands at bit 24
access : (s : List ℕ) → (front_in (map nib s)).access ≡ field 24 2 (compound s)
access s = ap (λ (f : Front). f.access) (front_at (map nib s))

-- the first eight are sound, as the code counts them
eight : (s : List ℕ) {n : ℕ} → n ≡ sound (map nib (take 8 s)) → n ≡ 8 → sound (take 8 (map nib s)) ≡ 8
eight s e h = sym (e ∙ ap sound (map-take nib 8 s)) ∙ h

-- whether the kind is asked for, of the fields that the control data opens with
asked : (first second : ℕ) (s : List ℕ) {kind : ℕ} {b : Bool} → b ≡ one_of first second kind → kind ≡ (front_in (map nib s)).kind → one_of first second (front_in (map nib s)).kind ≡ b
asked first second s e k = sym (e ∙ ap (one_of first second) k)

pub returns-then-not-is_kind : goal.returns-then-not-is_kind
returns-then-not-is_kind c =
    let a = c.args in
    let s : List ℕ = a.control.now in
    c.refuse-then-not-is_kind.ensures
    ∙ sym (front-12 _ _ _ _ _ (eight s c.sound-good.ensures c.if-good-ne-FIRST.false) (asked a.self.first a.self.second s c.is_kind.ensures c.requires.1 ∙ c.if-not-is_kind.true))

pub returns-then-field_of-ne0 : goal.returns-then-field_of-ne0
returns-then-field_of-ne0 c =
    let a = c.args in
    let s : List ℕ = a.control.now in
    let kind = asked a.self.first a.self.second s c.is_kind.ensures c.requires.1 ∙ c.if-not-is_kind.false in
    c.refuse-then-field_of-ne0.ensures
    ∙ sym (front-12' _ _ _ (map nib s) _ (eight s c.sound-good.ensures c.if-good-ne-FIRST.false) kind (λ (z : _). c.if-field_of-ne0.true (c.field_of.ensures.0 ∙ sym (access s) ∙ z)))

pub returns-then-not-is_whole : goal.returns-then-not-is_whole
returns-then-not-is_whole c =
    let a = c.args in
    let s : List ℕ = a.control.now in
    let kind = asked a.self.first a.self.second s c.is_kind.ensures c.requires.1 ∙ c.if-not-is_kind.false in
    let clear = access s ∙ sym c.field_of.ensures.0 ∙ c.if-field_of-ne0.false in
    c.refuse-then-not-is_whole.ensures
    ∙ sym (front-13 _ _ _ (map nib s) _ (eight s c.sound-good.ensures c.if-good-ne-FIRST.false) kind clear (sym c.is_whole.ensures ∙ c.if-not-is_whole.true))

pub returns : goal.returns
returns c =
    let a = c.args in
    let s : List ℕ = a.control.now in
    let kind = asked a.self.first a.self.second s c.is_kind.ensures c.requires.1 ∙ c.if-not-is_kind.false in
    let clear = access s ∙ sym c.field_of.ensures.0 ∙ c.if-field_of-ne0.false in
    sym (front-done _ _ _ (map nib s) _ (eight s c.sound-good.ensures c.if-good-ne-FIRST.false) kind clear (sym c.is_whole.ensures ∙ c.if-not-is_whole.false))
