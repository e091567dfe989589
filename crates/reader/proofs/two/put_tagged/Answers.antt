-- The answers that `reader::two::put_tagged` wants beside its invariants. Assumes nothing.
use mathlib.Core.Path.{◌∙◌, refl}
use native.Mathlib.Omega.{arith}
use lib.ListN.{length-set}
use Rattle.reader.proofs.Tagging.{left-all, left-none, left_one}
use Rattle.reader.proofs.two.put_tagged.Goals as goal

pub loop-p-init : goal.loop-p-init
loop-p-init c =
    let a = c.args in
    let r = left-all a.stream a.records.now a.n a.out.now a.to c.requires in
    (r.0, refl, r.1)

pub long_at-long-requires : goal.long_at-long-requires
long_at-long-requires c =
    let a = c.args in
    let l = c.loop-p in
    let t = left_one a.stream a.records.now a.n a.out.now a.to l.p l.out l.q (omega arith) l.invariant.2 in
    omega (arith, t.within, t.onward, l.invariant.0)

pub bounds-out-q : goal.bounds-out-q
bounds-out-q c =
    let a = c.args in
    let l = c.loop-p in
    let t = left_one a.stream a.records.now a.n a.out.now a.to l.p l.out l.q (omega arith) l.invariant.2 in
    omega (arith, t.room)

pub overflow_add-q : goal.overflow_add-q
overflow_add-q c =
    let a = c.args in
    let l = c.loop-p in
    let t = left_one a.stream a.records.now a.n a.out.now a.to l.p l.out l.q (omega arith) l.invariant.2 in
    omega (arith, t.room)

pub overflow_add-p : goal.overflow_add-p
overflow_add-p c =
    let a = c.args in
    let l = c.loop-p in
    let t = left_one a.stream a.records.now a.n a.out.now a.to l.p l.out l.q (omega arith) l.invariant.2 in
    omega (arith, t.within, l.invariant.0, c.long_at-long.ensures)

pub overflow_add-q-in-loop-p : goal.overflow_add-q-in-loop-p
overflow_add-q-in-loop-p c =
    let a = c.args in
    let l = c.loop-p in
    let t = left_one a.stream a.records.now a.n a.out.now a.to l.p l.out l.q (omega arith) l.invariant.2 in
    omega (arith, t.room)

pub overflow_add-q-in-loop-p-2 : goal.overflow_add-q-in-loop-p-2
overflow_add-q-in-loop-p-2 c =
    let a = c.args in
    let l = c.loop-p in
    let t = left_one a.stream a.records.now a.n a.out.now a.to l.p l.out l.q (omega arith) l.invariant.2 in
    omega (arith, t.room, c.long_at-long.ensures)

pub loop-p-smaller : goal.loop-p-smaller
loop-p-smaller c =
    let a = c.args in
    let l = c.loop-p in
    let t = left_one a.stream a.records.now a.n a.out.now a.to l.p l.out l.q (omega arith) l.invariant.2 in
    omega (arith, t.within, t.onward, c.long_at-long.ensures)

pub loop-p-preserved : goal.loop-p-preserved
loop-p-preserved c =
    let a = c.args in
    let l = c.loop-p in
    let t = left_one a.stream a.records.now a.n a.out.now a.to l.p l.out l.q (omega arith) l.invariant.2 in
    let k = c.copy in
    let e = c.long_at-long.ensures in
    (l.invariant.0, k.auto.dst ∙ length-set l.out l.q a.stream ∙ l.invariant.1, rw (k.ensures, e) t.left)

pub shape_of-out : goal.shape_of-out
shape_of-out c =
    c.loop-p.invariant.1

pub returns : goal.returns
returns c =
    let a = c.args in
    let l = c.loop-p in
    left-none a.stream a.records.now a.n a.out.now a.to l.p l.out l.q (omega arith) l.invariant.2
