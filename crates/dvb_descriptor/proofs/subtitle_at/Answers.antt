-- `dvb_descriptor::subtitle_at` meets its contract: the bytes from the place on. Assumes nothing.
use mathlib.Core.List.{List}
use Prim.Native.Nat.{ℕ}
use native.Mathlib.Nat.{add-zero}
use native.Mathlib.Omega.{arith}
use lib.Seq.{get_or-drop}
use Rattle.dvb_descriptor.proofs.subtitle_at.Goals as goal

pub returns : goal.returns
returns c =
    let a = c.args in
    let f : List ℕ = a.bytes.now in
    let l = c.word_at-language in
    let m = c.byte_at-magazine in
    let p = c.byte_at-page in (
      rw (
        l.ensures.0,
        m.ensures.0,
        p.ensures.0,
        get_or-drop a.i f 4 0,
        get_or-drop a.i f 3 0,
        get_or-drop a.i f 2 0,
        get_or-drop a.i f 1 0,
        get_or-drop a.i f 0 0,
        add-zero a.i,
      ),
      omega arith,
      p.ensures.1,
    )
