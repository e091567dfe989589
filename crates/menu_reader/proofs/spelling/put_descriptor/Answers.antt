-- `menu_reader::spelling::put_descriptor` meets its contract: three bytes, put as one number. Assumes nothing.
use mathlib.Core.List.{List, map}
use Prim.Native.Nat.{ℕ}
use native.Mathlib.Omega.{arith}
use lib.ListN.{drop}
use Rattle.octet.specs.Decoding.{nib}
use Rattle.menu_reader.proofs.Entries.{descriptor-put}
use Rattle.menu_reader.proofs.spelling.put_descriptor.Goals as goal

pub returns : goal.returns
returns c =
    let a = c.args in
    let w = c.bits-which in
    let i = c.bits-id in
    let v = c.bits-eval in
    let l : List ℕ = drop a.s.at (map nib a.control.now) in (
      descriptor-put a.s l a.out.now _ w.result i.result v.result w.ensures.0 i.ensures.0 v.ensures.0 w.ensures.1 i.ensures.1
          v.ensures.1 c.put_bytes.ensures,
      (omega arith, omega arith, omega arith),
    )
