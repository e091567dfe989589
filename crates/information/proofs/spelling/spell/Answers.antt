-- `information::spelling::spell` meets its contract: the opening, the service's name, the networks. Assumes nothing.
use Rattle.information.proofs.Holding.{names-held, form-put}
use Rattle.information.proofs.spelling.spell.Goals as goal

pub returns : goal.returns
returns c =
    let a = c.args in
    let x = c.field_of-networks in
    let y = c.field_of-name in
    let o = c.put_opening in
    let p = c.put_codes in
    let r = c.put_networks in (
      names-held a.control.now a.strings.now x.result y.result x.ensures.0 y.ensures.0 r.result r.ensures.0,
      r.ensures.1,
      form-put a.control.now a.strings.now x.result y.result x.ensures.0 y.ensures.0 a.out.now _ _ _ o.ensures
          p.ensures r.ensures.2,
    )
