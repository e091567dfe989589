-- `menu_writer::write_record` meets its contract: head, control data, strings, then the checksum. Assumes nothing.
use mathlib.Core.Path.{refl, ap}
use mathlib.Core.List.{List}
use Prim.Native.Nat.{ℕ, ◌+◌, ◌*◌}
use Rattle.menu_forms.specs.Form.{menu_in}
use Rattle.menu_writer.proofs.Records.{record-sent, size_is}
use Rattle.menu_writer.proofs.write_record.Goals as goal

pub returns : goal.returns
returns c =
    let a = c.args in
    let p = c.requires in
    let f : List ℕ = a.form.now in
    record-sent a.application a.whole.control (menu_in f) p.0 p.2 p.1.takes a.out.now p.3 c.put_head.new.out
    c.put_control.new.out c.put_all_strings.new.out _ (2 * a.whole.control) _ refl
    (ap (λ (n : ℕ). a.application + 32 * n) (size_is a.whole f p.1)) c.put_head.ensures c.put_control.ensures
    c.put_all_strings.ensures c.seal.ensures
