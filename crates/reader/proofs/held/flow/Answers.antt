-- The answers that `reader::held::flow` wants beside its invariants. Assumes nothing.
use mathlib.Core.Path.{◌≡◌, ◌∙◌, refl, ap}
use Prim.Native.Nat.{◌+◌, ◌≤◌}
use native.Mathlib.Omega.{arith}
use lib.ListN.{length, drop, length-drop}
use lib.Seq.{drop-drop}
use Rattle.laws.proofs.Lists.{part-rest}
use Rattle.walk.specs.Places.{whole, found, ahead_in}
use Rattle.walk.proofs.Stepping.{next-from, next-within}
use Rattle.walk.proofs.Keeping.{found-bits, found_part}
use Rattle.walk.proofs.Adding.{place, from_place, flow-nothing, flow-broken, flow-cut, flow-held, flow-on}
use Rattle.reader.proofs.held.flow.Goals as goal

pub loop-got-init : goal.loop-got-init
loop-got-init c = (omega arith, omega arith, c.requires.s_in_bounds.1, refl, c.requires.store_value, λ r store new w. w)

pub returns-in-Nothing : goal.returns-in-Nothing
returns-in-Nothing c =
    let a = c.args in
    let l = c.loop-got in
    rw c.so_far.ensures
    (from_place a.got
    (l.invariant.5 _ _ _
    (flow-nothing (drop l.at a.s.now) (place a.got.dropped l.blocks l.q) l.out
    (c.find.ensures.s_value ∙ ap (ahead_in a.s.now) c.in-Nothing.is)
    l.invariant.4)))

pub returns-in-Broken : goal.returns-in-Broken
returns-in-Broken c =
    let a = c.args in
    let l = c.loop-got in
    rw c.so_far-in-Broken.ensures
    (from_place a.got
    (l.invariant.5 _ _ _
    (flow-broken (drop l.at a.s.now) (place a.got.dropped l.blocks l.q) l.out
    (c.find.ensures.s_value ∙ ap (ahead_in a.s.now) c.in-Broken.is)
    l.invariant.4)))

pub overflow_cast-left : goal.overflow_cast-left
overflow_cast-left c =
    let s = c.args.s.now in
    let l = c.loop-got in
    let x = c.find.ensures.s_value ∙ ap (ahead_in s) c.in-Cut.is in
    let b = found-bits (drop l.at s) x in
    omega (arith, b.counted, b.got)

pub returns-in-Cut : goal.returns-in-Cut
returns-in-Cut c =
    let a = c.args in
    let l = c.loop-got in
    let x = c.find.ensures.s_value ∙ ap (ahead_in a.s.now) c.in-Cut.is in
    rw c.so_far-in-Cut.ensures
    (from_place a.got
    (l.invariant.5 _ _ _
    (flow-cut (drop l.at a.s.now) (place a.got.dropped l.blocks l.q) l.out x
    (found-bits (drop l.at a.s.now) x)
    l.invariant.4)))

pub overflow_cast-mended : goal.overflow_cast-mended
overflow_cast-mended c =
    let is_whole-c : ((let s = c.args.s.now in
    found (drop c.loop-got.at s) ≡ whole c.in-Whole.head c.in-Whole.part (drop c.in-Whole.next s))) = (c.find.ensures.s_value ∙ ap (ahead_in c.args.s.now) c.in-Whole.is) in
    let l = c.loop-got in
    let p = found_part (drop l.at c.args.s.now) is_whole-c in
    omega (arith, p)

pub overflow_sub-there : goal.overflow_sub-there
overflow_sub-there c =
    let past-header-c : ((c.in-Whole.next ≤ length c.args.s.now)
    × (c.loop-got.at + 5 ≤ c.in-Whole.next)) = (let f = c.find in
    (next-within f.result c.in-Whole.is f.ensures.result_in_bounds, next-from f.result (c.loop-got.at + 5) c.in-Whole.is f.ensures.from_bound)) in
    past-header-c.0

pub returns-then-there-size : goal.returns-then-there-size
returns-then-there-size c =
    let is_whole-c : ((let s = c.args.s.now in
    found (drop c.loop-got.at s) ≡ whole c.in-Whole.head c.in-Whole.part (drop c.in-Whole.next s))) = (c.find.ensures.s_value ∙ ap (ahead_in c.args.s.now) c.in-Whole.is) in
    let a = c.args in
    let l = c.loop-got in
    let n = c.in-Whole.next in
    rw c.so_far-then-there-size.ensures
    (from_place a.got
    (l.invariant.5 _ _ _
    (flow-held (drop l.at a.s.now) (place a.got.dropped l.blocks l.q) l.out is_whole-c
    (length-drop n a.s.now)
    c.if-there-size.true
    (omega arith)
    (c.copy.ensures ∙ rw (l.invariant.4, part-rest n a.s.now)))))

pub emit-requires : goal.emit-requires
emit-requires c =
    let past-header-c : ((c.in-Whole.next ≤ length c.args.s.now)
    × (c.loop-got.at + 5 ≤ c.in-Whole.next)) = (let f = c.find in
    (next-within f.result c.in-Whole.is f.ensures.result_in_bounds, next-from f.result (c.loop-got.at + 5) c.in-Whole.is f.ensures.from_bound)) in
    let n = past-header-c in (omega (arith, n), omega (arith, n))

pub overflow_add-q : goal.overflow_add-q
overflow_add-q c =
    let past-header-c : ((c.in-Whole.next ≤ length c.args.s.now)
    × (c.loop-got.at + 5 ≤ c.in-Whole.next)) = (let f = c.find in
    (next-within f.result c.in-Whole.is f.ensures.result_in_bounds, next-from f.result (c.loop-got.at + 5) c.in-Whole.is f.ensures.from_bound)) in
    omega (arith, past-header-c)

pub overflow_add-q-in-Whole : goal.overflow_add-q-in-Whole
overflow_add-q-in-Whole c =
    let past-header-c : ((c.in-Whole.next ≤ length c.args.s.now)
    × (c.loop-got.at + 5 ≤ c.in-Whole.next)) = (let f = c.find in
    (next-within f.result c.in-Whole.is f.ensures.result_in_bounds, next-from f.result (c.loop-got.at + 5) c.in-Whole.is f.ensures.from_bound)) in
    omega (arith, past-header-c)

pub overflow_add-at : goal.overflow_add-at
overflow_add-at c =
    let past-header-c : ((c.in-Whole.next ≤ length c.args.s.now)
    × (c.loop-got.at + 5 ≤ c.in-Whole.next)) = (let f = c.find in
    (next-within f.result c.in-Whole.is f.ensures.result_in_bounds, next-from f.result (c.loop-got.at + 5) c.in-Whole.is f.ensures.from_bound)) in
    omega (arith, past-header-c)

pub loop-got-smaller : goal.loop-got-smaller
loop-got-smaller c =
    let past-header-c : ((c.in-Whole.next ≤ length c.args.s.now)
    × (c.loop-got.at + 5 ≤ c.in-Whole.next)) = (let f = c.find in
    (next-within f.result c.in-Whole.is f.ensures.result_in_bounds, next-from f.result (c.loop-got.at + 5) c.in-Whole.is f.ensures.from_bound)) in
    omega (arith, past-header-c)

pub loop-got-preserved : goal.loop-got-preserved
loop-got-preserved c =
    let is_whole-c : ((let s = c.args.s.now in
    found (drop c.loop-got.at s) ≡ whole c.in-Whole.head c.in-Whole.part (drop c.in-Whole.next s))) = (c.find.ensures.s_value ∙ ap (ahead_in c.args.s.now) c.in-Whole.is) in
    let past-header-c : ((c.in-Whole.next ≤ length c.args.s.now)
    × (c.loop-got.at + 5 ≤ c.in-Whole.next)) = (let f = c.find in
    (next-within f.result c.in-Whole.is f.ensures.result_in_bounds, next-from f.result (c.loop-got.at + 5) c.in-Whole.is f.ensures.from_bound)) in
    let n = past-header-c in
    let a = c.args in
    let l = c.loop-got in (
      omega (arith, n),
      omega (arith, n),
      omega (arith, n),
      c.emit.auto.out ∙ l.invariant.3,
      l.invariant.4,
      λ r store new y. l.invariant.5 r store new
          (flow-on (drop l.at a.s.now) (place a.got.dropped l.blocks l.q) is_whole-c (rw length-drop (omega (arith, n)))
          c.emit.ensures
          (rw drop-drop y)),
    )
