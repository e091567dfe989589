-- `menu_reader::spelling::put_text` meets its contract: the two numbers, the escape sequences, the codes. Assumes nothing.
use mathlib.Core.List.{map}
use native.Mathlib.Omega.{arith}
use Rattle.octet.specs.Decoding.{nib}
use Rattle.kinds.specs.Reading.{code_of}
use Rattle.menu_reader.proofs.Entries.{text-put}
use Rattle.menu_reader.proofs.spelling.put_text.Goals as goal

pub overflow_add-result : goal.overflow_add-result
overflow_add-result c =
    omega (arith, c.put_entries-e.ensures.1, c.bits-codes.ensures.1, c.bits-escapes.ensures.1, c.requires)

pub overflow_add-result-2 : goal.overflow_add-result-2
overflow_add-result-2 c =
    omega (arith, c.put_entries-e.ensures.1, c.bits-codes.ensures.1, c.bits-escapes.ensures.1, c.requires)

pub overflow_add-result-3 : goal.overflow_add-result-3
overflow_add-result-3 c =
    omega (arith, c.put_entries-e.ensures.1, c.bits-codes.ensures.1, c.bits-escapes.ensures.1, c.requires)

pub returns : goal.returns
returns c =
    let a = c.args in
    let x = c.bits-escapes in
    let y = c.bits-codes in
    let b = c.put_bytes in
    let e = c.put_entries-e in
    let k = c.put_codes in (
      text-put (map nib a.control.now) (map code_of a.strings.now) a.s x.result y.result e.result a.out.now b.new.out
          e.new.out _ x.ensures.0 y.ensures.0 x.ensures.1 y.ensures.1 b.ensures e.ensures.0 k.ensures,
      (omega (arith, e.ensures.1, x.ensures.1), omega (arith, y.ensures.1), omega (arith, e.ensures.1, x.ensures.1, y.ensures.1)),
    )
