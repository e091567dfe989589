-- `reader::two::go_on` meets its contract: the stream's own reader goes on, and its records are put behind the stream's number. Assumes nothing.
use native.Mathlib.Omega.{arith}
use Rattle.reader.proofs.MarksTwo.{gone-laid, gone-fits, gone-few, gone-on}
use Rattle.reader.proofs.two.go_on.Goals as goal

pub go_on_for-t-requires : goal.go_on_for-t-requires
go_on_for-t-requires c =
    let p = c.requires in
    record {
      kept = p.kept;
      kept_2 = p.kept_2;
      at_in_bounds = p.at_in_bounds;
      limit_in_bounds = p.ample.held;
    }

pub put_tagged-requires : goal.put_tagged-requires
put_tagged-requires c =
    let a = c.args in
    let p = c.requires in
    let g = c.go_on_for-t.ensures in
    gone-laid a.setting p.setting_value a.packets.now a.at a.a a.store1.now a.store2.now a.out.now a.hold.now a.limit p.kept p.kept_2 p.ample _ _ _ g c.stream_of.result

pub overflow_add-result : goal.overflow_add-result
overflow_add-result c =
    let a = c.args in
    let p = c.requires in
    let g = c.go_on_for-t.ensures in
    let l = gone-fits a.setting p.setting_value a.packets.now a.at a.a a.store1.now a.store2.now a.out.now a.hold.now a.limit p.kept p.kept_2 p.ample _ _ _ g in
    let k = gone-few a.setting p.setting_value a.packets.now a.at a.a a.store1.now a.store2.now a.out.now a.hold.now a.limit p.kept p.kept_2 p.ample _ _ _ g in
    omega (arith, l, k, c.well_formed.1.1.1.1.1.1.1.1.0.0)

pub overflow_add-result-2 : goal.overflow_add-result-2
overflow_add-result-2 c =
    let a = c.args in
    let p = c.requires in
    let g = c.go_on_for-t.ensures in
    let l = gone-fits a.setting p.setting_value a.packets.now a.at a.a a.store1.now a.store2.now a.out.now a.hold.now a.limit p.kept p.kept_2 p.ample _ _ _ g in
    omega (arith, l, c.well_formed.1.1.1.1.1.1.1.1.0.0)

pub overflow_add-result-3 : goal.overflow_add-result-3
overflow_add-result-3 c =
    let a = c.args in
    let p = c.requires in
    let g = c.go_on_for-t.ensures in
    let l = gone-fits a.setting p.setting_value a.packets.now a.at a.a a.store1.now a.store2.now a.out.now a.hold.now a.limit p.kept p.kept_2 p.ample _ _ _ g in
    omega (arith, l, c.well_formed.1.1.1.1.1.1.1.1.0.0)

pub shape_of-hold : goal.shape_of-hold
shape_of-hold c = c.go_on_for-t.ensures.0.went.long

pub returns : goal.returns
returns c =
    let a = c.args in
    let p = c.requires in
    let g = c.go_on_for-t.ensures in
    gone-on a.setting p.setting_value a.packets.now a.at a.a a.store1.now a.store2.now a.out.now a.hold.now a.limit p.kept p.kept_2 p.ample _ _ _ g c.owner-whose.ensures c.stream_of.ensures c.put_tagged.ensures c.owned.ensures c.chosen.ensures
    c.chosen-2.ensures c.either.ensures
