-- `packet::address` meets its contract: no two bytes, one that can't be decoded, or both nibbles. Assumes nothing.
use mathlib.Core.List.{List}
use Prim.Native.Nat.{ℕ}
use native.Mathlib.Omega.{arith}
use lib.ListN.{get_or}
use Rattle.octet.proofs.Laws.{nib_le}
use Rattle.packet.proofs.Addressed.{address-short, address-first, address-second, address-both}
use Rattle.packet.proofs.address.Goals as goal

pub returns-then-packet-lt2 : goal.returns-then-packet-lt2
returns-then-packet-lt2 c = address-short c.args.packet.now c.if-packet-lt2.true

pub returns-then-one-eq16 : goal.returns-then-one-eq16
returns-then-one-eq16 c = address-first c.args.packet.now c.if-packet-lt2.false c.decode-one.ensures c.if-one-eq16.true

pub returns-then-two-eq16 : goal.returns-then-two-eq16
returns-then-two-eq16 c =
    let p : List ℕ = c.args.packet.now in
    let h = c.decode-one.ensures in
    address-second p c.if-packet-lt2.false h c.decode-two.ensures
    (omega (arith, h, nib_le (get_or p 0 0), c.if-one-eq16.false)) (omega (arith, c.decode-two.ensures, nib_le (get_or p 1 0)))

pub returns : goal.returns
returns c =
    let p : List ℕ = c.args.packet.now in
    let h = c.decode-one.ensures in
    let k = c.decode-two.ensures in
    address-both p c.if-packet-lt2.false h k (omega (arith, h, nib_le (get_or p 0 0), c.if-one-eq16.false))
    (omega (arith, k, nib_le (get_or p 1 0), c.if-two-eq16.false))
