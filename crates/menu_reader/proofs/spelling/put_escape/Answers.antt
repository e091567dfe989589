-- `menu_reader::spelling::put_escape` meets its contract: four bytes, put as one number. Assumes nothing.
use mathlib.Core.List.{List, map}
use Prim.Native.Nat.{ℕ}
use native.Mathlib.Omega.{arith}
use lib.ListN.{drop}
use Rattle.octet.specs.Decoding.{nib}
use Rattle.menu_reader.proofs.Entries.{escape-put}
use Rattle.menu_reader.proofs.spelling.put_escape.Goals as goal

pub returns : goal.returns
returns c =
    let a = c.args in
    let p = c.bits-position in
    let m = c.bits-mode in
    let v = c.bits-content in
    let l : List ℕ = drop a.s.at (map nib a.control.now) in (
      escape-put a.s l a.out.now _ p.result m.result v.result p.ensures.0 m.ensures.0 v.ensures.0 p.ensures.1 m.ensures.1
          v.ensures.1 c.put_bytes.ensures,
      (omega arith, omega arith, omega arith),
    )
