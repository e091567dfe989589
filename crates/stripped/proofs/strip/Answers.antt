-- `stripped::strip` meets its contract: by what judging answers, then by its test of the room. Assumes nothing.
use borrow.Author.Rules.{rules}
use mathlib.Core.Path.{◌∙◌, refl, sym, ap}
use native.Mathlib.Omega.{arith}
use Rattle.stripped.specs.Loss.{unreadable}
use Rattle.stripped.proofs.Blanking.{blank-fits}
use Rattle.stripped.specs.declared.Stripped.TheVariants.{Packets}
use Rattle.stripped.proofs.Stripping.{Refuses, reading-refuses, Takes, reading-takes, goes, short, after, stands}
use Rattle.stripped.proofs.strip.Goals as goal

pub returns-then-packets-lt-PACKET : goal.returns-then-packets-lt-PACKET
returns-then-packets-lt-PACKET c =
    let r : Refuses c.args.pes.now c.args.packets.now c.in-Err.r = reading-refuses _ _ _ (sym c.judge.ensures ∙ c.in-Err.is) in
    let g = short c.args.pes.now c.args.packets.now c.from.ensures (rw r.blank c.if-packets-lt-PACKET.true) in
    record { answer = g; packets = after _ _ _ g; within = search rules }

pub returns-then-packets-need : goal.returns-then-packets-need
returns-then-packets-need c =
    let t : Takes c.args.pes.now c.args.packets.now c.in-Ok.records = reading-takes _ _ _ (sym c.judge.ensures ∙ c.in-Ok.is) in
    let g =
    short c.args.pes.now c.args.packets.now c.from-then-packets-need.ensures (rw t.whole (omega (arith, t.need, c.if-packets-need.true))) in
    record { answer = g; packets = after _ _ _ g; within = search rules }

pub put_packets-requires : goal.put_packets-requires
put_packets-requires c =
    let t : Takes c.args.pes.now c.args.packets.now c.in-Ok.records = reading-takes _ _ _ (sym c.judge.ensures ∙ c.in-Ok.is) in
    (t.rules, omega (arith, t.need, c.if-packets-need.false))

pub returns-else-packets-lt-PACKET : goal.returns-else-packets-lt-PACKET
returns-else-packets-lt-PACKET c =
    let a = c.args in
    let r : Refuses a.pes.now a.packets.now c.in-Err.r = reading-refuses _ _ _ (sym c.judge.ensures ∙ c.in-Err.is) in
    let g = goes a.pes.now a.packets.now _ (rw r.blank c.if-packets-lt-PACKET.false) r.is_lost in record {
      answer = g;
      packets = c.blank.ensures ∙ blank-fits a.packets.now c.if-packets-lt-PACKET.false
          ∙ stands a.pes.now a.packets.now unreadable 42 r.blank refl c.if-packets-lt-PACKET.false ∙ after _ _ _ g;
      within = omega (arith, c.if-packets-lt-PACKET.false, c.blank.auto.packets);
    }

pub returns-else-packets-need : goal.returns-else-packets-need
returns-else-packets-need c =
    let a = c.args in
    let t : Takes a.pes.now a.packets.now c.in-Ok.records = reading-takes _ _ _ (sym c.judge.ensures ∙ c.in-Ok.is) in
    let g =
    ap Packets t.need
    ∙ goes a.pes.now a.packets.now _ (rw t.whole (omega (arith, t.need, c.if-packets-need.false))) t.is_whole in record {
      answer = g;
      packets = c.put_packets.ensures ∙ stands a.pes.now a.packets.now _ _ t.whole t.need c.if-packets-need.false ∙ after _ _ _ g;
      within = omega (arith, c.if-packets-need.false, c.put_packets.auto.packets);
    }
