-- `writer::zero::write_blanks` meets its contract: the part is filled. Assumes nothing.
use Rattle.std.proofs.Common.{◌≡◌, ◌-◌, ◌+◌, arith, rules, length, take, drop, length-drop}
use lib.ListN.{length-take}
use Rattle.writer.proofs.PacketZero.{filled}
use Rattle.writer.proofs.zero.write_blanks.Goals as goal

pub returns : goal.returns
returns c =
    let d = c.args.out.now in
    let q = c.args.q in
    let long : length (take (q + 32 - q) (drop q d)) ≡ 32 = rw (length-take, length-drop) (omega arith) in
    filled d _ q 32 32 (omega arith) (omega arith) (rw long at (c.fill.ensures.after (search rules)))
