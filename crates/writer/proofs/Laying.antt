-- The writer's stores, in the order in which it does them, are the packet's bytes in their order. Assumes nothing.
use mathlib.Core.Path.{◌≡◌, ◌∙◌}
use mathlib.Core.List.{List, map}
use Prim.Native.Nat.{ℕ, ◌+◌, ◌/◌}
use native.Mathlib.Numerals.{add-two, add-three}
use native.Mathlib.Omega.{arith}
use lib.ListN.{set}
use lib.Seq.{sets}
use Rattle.laws.proofs.Runs.{set-sets}
use Rattle.octet.specs.Image.{image}
use Rattle.packet.specs.declared.Setting.{Setting}
use Rattle.packet.specs.Packet.{address, packet_of}
use Rattle.symbols.specs.Stream.{Symbol, byte_of, per_packet, grab, before_start}
use Rattle.writer.specs.Cutting.{data_packet}

-- the pointer is stored last
pub packet-laid :
    (s : Setting) (y : ℕ) (ss : List Symbol) (entry m n : List ℕ) (q before p : ℕ) → m ≡ sets entry q (address s.magazine y)
    → n ≡ sets m (q + 3) (map byte_of (grab per_packet ss)) → before ≡ before_start (grab per_packet ss) → p ≡ image (before / 3)
    → set n (q + 2) p ≡ sets entry q (data_packet s y ss)
unfolding packet_of
packet-laid s y ss entry m n q before p em en eb ep =
    let row = grab per_packet ss in
    let last = set-sets (sets entry q (address s.magazine y)) (q + 2) (q + 3) (image (before_start row / 3)) (map byte_of row) (omega arith) in
    rw (en, em, ep, eb) (last ∙ rw (add-two, add-three))
