-- `reader::two::turn` meets its contract: each stream heeds its verdict, and no bytes are read. Assumes nothing.
use Rattle.pages.specs.declared.two.Whose.TheVariants.{First, Second}
use Rattle.pages.specs.Two.{see_by_two, page_for}
use Rattle.state.specs.Two.{pointer_in, bytes_in}
use Rattle.reader.proofs.HeedingTwo.{first-unread, second-unread, both-turned}
use Rattle.reader.proofs.two.turn.Goals as goal

pub turn_for-one-requires : goal.turn_for-one-requires
turn_for-one-requires c =
    let a = c.args in
    let p = c.requires in
    record {
      kept = p.kept;
      reads_value = first-unread a.setting a.a a.store1.now a.store2.now a.packet.now p.packet_len p.address_value c.judge-v.ensures p.address_value_2;
    }

pub turn_for-two-requires : goal.turn_for-two-requires
turn_for-two-requires c =
    let a = c.args in
    let p = c.requires in
    record {
      kept = p.kept_2;
      reads_value = second-unread a.setting a.a a.store1.now a.store2.now a.packet.now p.packet_len p.address_value c.judge-v.ensures p.address_value_2;
    }

pub returns : goal.returns
returns c =
    let a = c.args in
    let p = c.requires in
    let x = see_by_two a.setting a.packet.now in
    let one = c.turn_for-one.ensures (page_for First a.a.page) (pointer_in x) (bytes_in x) in
    let two = c.turn_for-two.ensures (page_for Second a.a.page) (pointer_in x) (bytes_in x) in
    λ out.
    rw (c.either.ensures, c.either-dropped.ensures)
    (both-turned a.setting a.a a.store1.now a.store2.now a.packet.now p.packet_len p.address_value c.judge-v.ensures p.address_value_2 one two out)
