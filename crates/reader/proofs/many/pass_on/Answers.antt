-- The answers that `reader::many::pass_on` wants beside its invariants. Assumes nothing.
use mathlib.Core.Path.{◌≡◌, ◌∙◌, sym, ap}
use Prim.Native.Nat.{◌-◌, ◌≤◌}
use native.Mathlib.Omega.{arith}
use lib.ListN.{length, length-drop}
use Rattle.laws.proofs.Lists.{part-rest}
use Rattle.packet.specs.Address.{address_of}
use Rattle.std.specs.Slice.Iter.{chunks_exact_rest}
use Rattle.reader.proofs.Running.{passed_none, passed-one, chunk_on}
use Rattle.reader.proofs.many.pass_on.Goals as goal

pub loop-packet-init : goal.loop-packet-init
loop-packet-init c =
    let a = c.args in
    let k = c.chunks_exact-packet-items.ensures in
    rw c.into_iter-packet-iterator.ensures.into_iter_gives (
      omega (arith, k.size),
      tt,
      k.size,
      k.rest ∙ part-rest a.from a.packets.now,
      passed_none a.setting a.packets.now a.from c.requires.from_in_bounds c.requires.packet_length_value,
    )

pub loop-packet-preserved : goal.loop-packet-preserved
loop-packet-preserved c =
    let a = c.args in
    let l = c.loop-packet in
    let s = c.in-Some.ensures.steps in
    let n = chunk_on a.packets.now l.at (sym l.invariant.3 ∙ s.1.0) (s.1.1 ∙ l.invariant.2) in (
      omega (arith, s.0, l.invariant.2),
      tt,
      s.0 ∙ l.invariant.2,
      n.1,
      passed-one a.setting a.packets.now a.from l.at l.invariant.4 n.2 (c.address-address.ensures ∙ ap address_of n.0)
          (sym c.passes_by.ensures ∙ c.if-not-passes_by.false),
    )

pub returns-then-not-passes_by : goal.returns-then-not-passes_by
returns-then-not-passes_by c =
    let a = c.args in
    let l = c.loop-packet in
    let s = c.in-Some.ensures.steps in
    let n = chunk_on a.packets.now l.at (sym l.invariant.3 ∙ s.1.0) (s.1.1 ∙ l.invariant.2) in (
      l.invariant.4,
      λ h. (c.address-address.ensures ∙ ap address_of n.0, sym c.passes_by.ensures ∙ c.if-not-passes_by.true),
      λ h. omega (arith, n.2),
    )

pub returns : goal.returns
returns c =
    let a = c.args in
    let l = c.loop-packet in
    let s = c.in-None.ensures.steps in
    let none : length a.packets.now ≤ l.at =
    let e = l.invariant.4.even in
    let d : length (chunks_exact_rest l.packet-iterator) ≡ length a.packets.now - l.at = ap length l.invariant.3 ∙ length-drop l.at a.packets.now in
    omega (arith, s.1.0, l.invariant.2, d, e) in
    (l.invariant.4, λ h. absurd (omega (arith, none, h)), λ h. absurd (omega (arith, h)))
