-- `information_writer::write_record` meets its contract: head, control data, names, then the checksum. Assumes nothing.
use mathlib.Core.Path.{◌∙◌, ap}
use mathlib.Core.List.{List, map}
use Prim.Native.Nat.{ℕ, ◌+◌, ◌*◌, ◌/◌, ◌%◌}
use native.Mathlib.Omega.{arith}
use lib.Seq.{sets}
use Rattle.parity.specs.Parity.{letter}
use Rattle.blocks.specs.Sealing.{sealed}
use Rattle.kinds.specs.Kind.{strings}
use Rattle.information_forms.specs.Form.{information_in}
use Rattle.information_forms.specs.Kind.{information, content}
use Rattle.information_writer.proofs.Recorded.{codes_few, head-counted, control-laid, names-put, record_put}
use Rattle.information_writer.proofs.write_record.Goals as goal

pub overflow_add-head : goal.overflow_add-head
overflow_add-head c = omega (arith, codes_few (information_in c.args.form.now) c.args.codes c.requires.1 c.requires.2, c.byte_at-networks.ensures.1)

pub overflow_mul-head-2 : goal.overflow_mul-head-2
overflow_mul-head-2 c = omega (arith, codes_few (information_in c.args.form.now) c.args.codes c.requires.1 c.requires.2, c.byte_at-networks.ensures.1)

pub overflow_add-head-2 : goal.overflow_add-head-2
overflow_add-head-2 c = omega (arith, codes_few (information_in c.args.form.now) c.args.codes c.requires.1 c.requires.2, c.byte_at-networks.ensures.1, c.requires.0)

pub put_names-requires : goal.put_names-requires
put_names-requires c =
    let n = c.byte_at-networks.ensures.1 in
    let m = c.byte_at-name.ensures.1 in
    (omega (arith, n), omega (arith, m), omega (arith, n))

pub returns : goal.returns
returns c =
    let f : List ℕ = c.args.form.now in
    let n = c.byte_at-networks in
    let m = c.byte_at-name in
    let h = c.put_head in
    let k = c.lay_control in
    let t = c.put_letters in
    let p = c.put_names in
    let z = c.seal in
    let hd = head-counted f c.args.application n.result m.result c.args.codes n.ensures.0 n.ensures.1 m.ensures.0 m.ensures.1 c.requires.1 in
    let laid = k.ensures ∙ control-laid f n.result m.result n.ensures.0 n.ensures.1 m.ensures.0 m.ensures.1 c.requires.4 _ _ hd.0 (omega (arith, n.ensures.1)) in
    let put = names-put f n.result m.result n.ensures.0 n.ensures.1 m.ensures.0 m.ensures.1 c.requires.4 _ _ _ _ t.ensures p.ensures in
    record_put c.args.application f _ c.args.out.now c.requires.0 c.requires.2 hd.1 c.requires.3 _ _ _ _ h.ensures laid
    (put ∙ ap (λ (x : ℕ). sets k.new.out (4 + 2 * x) (map letter (strings information (content (information_in f))))) hd.0)
    (z.ensures ∙ ap (λ (x : ℕ). sealed (c.args.application + 32 * (2 * (20 + (25 * n.result + n.result % 2) / 2) + c.args.codes)) (2 * x) p.new.out) hd.0)
