-- `information::spelling::put_opening` meets its contract: two bytes, and the row of values. Assumes nothing.
use Rattle.fields.specs.Compound.{compound}
use Rattle.information.proofs.Holding.{opening-put}
use Rattle.information.proofs.spelling.put_opening.Goals as goal

pub returns : goal.returns
returns c =
    let a = c.args in
    let f = c.field_of-copyright in
    let v = c.put_value in
    let r = c.put_row in
    opening-put (compound a.control.now) f.result a.out.now _ _ f.ensures.0 f.ensures.1 v.ensures r.ensures
