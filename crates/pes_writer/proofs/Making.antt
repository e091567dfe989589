-- The parts of a packet that is written: one unit more, and how long each part is. Assumes nothing.
use mathlib.Core.Path.{◌≡◌, ◌∙◌, refl}
use mathlib.Core.List.{List, ◌++◌}
use Prim.Native.Nat.{ℕ, zero, suc, ◌+◌, ◌-◌, ◌*◌, ◌≤◌}
use native.Mathlib.Omega.{arith}
use lib.Dec.{leb}
use lib.ListN.{length, length-append, length-map, length-take, length-drop}
use lib.Seq.{sets}
use borrow.Author.Tests.{leb-true}
use Rattle.laws.proofs.Stores.{sets_next}
use Rattle.laws.proofs.Tests.{both_first}
use Rattle.answer.specs.Rules.{Every}
use Rattle.answer.proofs.Steps.{first_holds, others_hold}
use Rattle.pes_writer.specs.Writing.{unit_count, packet_size, write_rules, header_of, unit_of, units_of, stuffing_unit, stuffing_units, packet_of}

-- ---- lengths

pub header-length : (n d : ℕ) → length (header_of n d) ≡ 46
unfolding header_of
header-length n d = refl

pub unit_length : (rs : List ℕ) (at : ℕ) → at + 44 ≤ length rs → length (unit_of rs at) ≡ 46
unfolding unit_of
unit_length rs at h = simp (length-map, length-take, length-drop) (omega arith)

pub units_length : (u : ℕ) (rs : List ℕ) (at : ℕ) → at + 44 * u ≤ length rs → length (units_of u rs at) ≡ 46 * u
unfolding units_of
units_length zero rs at h = refl
units_length (suc u) rs at h =
    length-append (unit_of rs at) (units_of u rs (at + 44))
    ∙ (let p : length (unit_of rs at) ≡ 46 = unit_length rs at (omega arith) in
    let q : length (units_of u rs (at + 44)) ≡ 46 * u = units_length u rs (at + 44) (omega arith) in
    omega arith)

pub stuffing_unit-length : length stuffing_unit ≡ 46
unfolding stuffing_unit
stuffing_unit-length = refl

pub stuffing_length : (k : ℕ) → length (stuffing_units k) ≡ 46 * k
unfolding stuffing_units
stuffing_length zero = refl
stuffing_length (suc k) =
    length-append stuffing_unit (stuffing_units k)
    ∙ (let p = stuffing_unit-length in
    let q = stuffing_length k in
    omega arith)

-- a packet is N×184 bytes long
pub packet_length_lem : (d : ℕ) (rs : List ℕ) → length (packet_of d rs) ≡ packet_size (unit_count rs) * 184
unfolding packet_of
packet_length_lem d rs =
    let u = unit_count rs in
    let n = packet_size u in
    let h = header-length n d in
    let p : length (units_of u rs 0) ≡ 46 * u = units_length u rs 0 (omega arith) in
    let s = stuffing_length (4 * n - 1 - u) in
    simp length-append (omega (arith, h, p, s))

-- header, units and stuffing stored one after the other are the packet
pub packet-parts :
    (d : ℕ) (rs out headed filled full : List ℕ) → headed ≡ sets out 0 (header_of (packet_size (unit_count rs)) d)
    → filled ≡ sets headed 46 (units_of (unit_count rs) rs 0)
    → full
    ≡ sets filled (46 + 46 * unit_count rs) (stuffing_units (4 * packet_size (unit_count rs) - 1 - unit_count rs))
    → full ≡ sets out 0 (packet_of d rs)
unfolding packet_of
packet-parts d rs out headed filled full h f g =
    let u = unit_count rs in
    let n = packet_size u in
    let us = units_of u rs 0 in
    let ss = stuffing_units (4 * n - 1 - u) in
    g ∙ sets_next headed filled 46 (46 * u) us ss (us ++ ss) refl (units_length u rs 0 (omega arith)) f
    ∙ sets_next out headed 0 46 (header_of n d) (us ++ ss) (header_of n d ++ (us ++ ss)) refl (header-length n d) h

-- ---- what is accepted

pub fits-packet : (d : ℕ) (rs : List ℕ) → Every (write_rules d rs) → unit_count rs ≤ 1423
unfolding write_rules
fits-packet d rs e = leb-true _ 1423 (both_first (leb (unit_count rs) 1423) _ (first_holds (others_hold (others_hold e))))
