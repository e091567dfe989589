-- `sheet_entry::writing::put_head` meets its contract: its lines, one after the other. Assumes nothing.
use borrow.Author.Rules.{rules}
use mathlib.Core.Path.{ap, sym}
use mathlib.Core.List.{List, append-nil}
use Prim.Native.Nat.{ℕ, ◌+◌, ◌*◌}
use native.Mathlib.Omega.{arith}
use lib.ListN.{length}
use Rattle.text_lines.proofs.Printed.{then, put_as, put-there}
use Rattle.sheet_entry.specs.Entries.{spelled_by}
use Rattle.sheet_entry.proofs.Spelling.{head_of, head_most_lem, head-short}
use Rattle.sheet_entry.proofs.writing.put_head.Goals as goal

pub returns : goal.returns
unfolding spelled_by
returns c =
    let f : List ℕ = c.args.table.now in
    let k = c.byte_at-kind in
    let a = c.byte_at in
    let b = c.byte_at-2 in
    let n = c.byte_at-network in
    let w = c.put_number-a in
    let m = c.put_mended-b in
    let x = c.put_kind-c in
    let y = c.put_number-d in
    let z = c.put_number in
    let h = head_of c.args.form c.args.stamp c.args.mended f k.result a.result b.result n.result k.ensures.0 a.ensures.0 b.ensures.0 n.ensures.0 a.ensures.1 b.ensures.1 in
    let p =
    put_as h
    (then (put-there (search rules) w.ensures.0) (then m.ensures.0 (then (put-there (search rules) x.ensures.0) (then (put-there (search rules) y.ensures.0) (put_as (sym (append-nil _)) (put-there (search rules) z.ensures.0)))))) in
    let l = head_most_lem c.args.form c.args.stamp c.args.mended k.result n.result (a.result + 256 * b.result) (search rules) c.requires (omega (arith, n.ensures.1)) (omega (arith, a.ensures.1, b.ensures.1)) in
    (p, omega (arith, p.moved, l, ap length h, head-short c.args.form))
