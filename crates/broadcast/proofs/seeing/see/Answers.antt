-- `broadcast::seeing::see` meets its contract: the kind, whether reading accepts it, the network. Assumes nothing.
use mathlib.Core.Path.{◌∙◌, sym, ap}
use mathlib.Core.List.{List}
use Prim.Native.Nat.{ℕ}
use native.Mathlib.Omega.{arith}
use Rattle.laws.proofs.Lists.{part-rest}
use Rattle.fields.specs.Fields.{field}
use Rattle.fields.specs.Compound.{compound}
use Rattle.broadcast.specs.Internal.{network_in}
use Rattle.broadcast.proofs.Counted.{kind-long, unseen-kindless, unseen-refused, seen_read}
use Rattle.broadcast.proofs.seeing.see.Goals as goal

pub returns-then-not-has_kind : goal.returns-then-not-has_kind
returns-then-not-has_kind c =
    let s = c.args in
    c.unseen.ensures ∙ unseen-kindless s.application s.rec.now (sym c.has_kind.ensures ∙ c.if-not-has_kind.true)

pub slice_bounds-field_of-count : goal.slice_bounds-field_of-count
slice_bounds-field_of-count c =
    let s = c.args in
    omega (arith, kind-long s.application s.rec.now (sym c.has_kind.ensures ∙ c.if-not-has_kind.false))

pub returns-then-not-is_read : goal.returns-then-not-is_read
returns-then-not-is_read c =
    let s = c.args in
    let r : List ℕ = s.rec.now in
    let k = sym c.has_kind.ensures ∙ c.if-not-has_kind.false in
    let kind = c.field_of-kind.ensures.0 ∙ ap (λ (l : List ℕ). field 18 6 (compound l)) (part-rest 4 r) in
    c.unseen-then-not-is_read.ensures ∙ unseen-refused s.application r k kind (sym c.is_read.ensures ∙ c.if-not-is_read.true)

pub slice_bounds-network_in-count : goal.slice_bounds-network_in-count
slice_bounds-network_in-count c =
    let s = c.args in
    omega (arith, kind-long s.application s.rec.now (sym c.has_kind.ensures ∙ c.if-not-has_kind.false))

pub returns : goal.returns
returns c =
    let s = c.args in
    let r : List ℕ = s.rec.now in
    let k = sym c.has_kind.ensures ∙ c.if-not-has_kind.false in
    let kind = c.field_of-kind.ensures.0 ∙ ap (λ (l : List ℕ). field 18 6 (compound l)) (part-rest 4 r) in
    seen_read s.application r k kind (sym c.is_read.ensures ∙ c.if-not-is_read.false)
    (c.network_in-network.ensures ∙ ap (network_in c.field_of-kind.result) (part-rest 4 r))

pub slice_bounds-field_of-start : goal.slice_bounds-field_of-start
slice_bounds-field_of-start c =
    let s = c.args in
    omega (arith, kind-long s.application s.rec.now (sym c.has_kind.ensures ∙ c.if-not-has_kind.false))

pub slice_bounds-network_in-start : goal.slice_bounds-network_in-start
slice_bounds-network_in-start c =
    let s = c.args in
    omega (arith, kind-long s.application s.rec.now (sym c.has_kind.ensures ∙ c.if-not-has_kind.false))
