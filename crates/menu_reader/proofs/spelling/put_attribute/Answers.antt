-- `menu_reader::spelling::put_attribute` meets its contract: the kind, then the information. Assumes nothing.
use mathlib.Core.List.{List, map}
use Prim.Native.Nat.{ℕ}
use native.Mathlib.Omega.{arith}
use lib.ListN.{drop}
use Rattle.octet.specs.Decoding.{nib}
use Rattle.menu_reader.proofs.Entries.{attribute-put}
use Rattle.menu_reader.proofs.spelling.put_attribute.Goals as goal

pub returns : goal.returns
returns c =
    let a = c.args in
    let b = c.bits-kind in
    let k = c.info_bytes-k in
    let p = c.put_bytes in
    let l : List ℕ = drop a.s.at (map nib a.control.now) in (
      attribute-put a.s l a.out.now _ b.result k.result p.new.out b.ensures.0 k.ensures.0 b.ensures.1 p.ensures
          c.put_info.ensures,
      (omega (arith, k.ensures.2), omega arith, omega (arith, k.ensures.2)),
    )
