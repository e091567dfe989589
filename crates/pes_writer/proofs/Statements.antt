-- What the two calls owe each other, from their definitions: what is written reads back as the same records, a written packet has
-- the shape that SCOPE 6 gives it, and reading gives no record that writing would refuse. Assumes nothing.
use mathlib.Core.Path.{◌≡◌, refl, sym, subst, subst₂}
use mathlib.Core.Bool.{true}
use mathlib.Core.List.{List, ◌++◌}
use Prim.Native.Nat.{ℕ, ◌+◌, ◌-◌, ◌*◌, ◌%◌, ◌≤◌}
use native.Mathlib.Omega.{arith}
use lib.Dec.{leb, eqb}
use lib.ListN.{length, take, drop}
use lib.Seq.{drop_at, take_all}
use borrow.Author.Tests.{le-leb, eq-eqb, eqb-true}
use Rattle.std.specs.declared.result.Result.TheVariants.{Ok}
use Rattle.laws.specs.Pick.{both}
use Rattle.laws.proofs.Tests.{both-second, both-holds}
use Rattle.answer.specs.Rules.{Every, none, more}
use Rattle.answer.specs.Writing.{answered, left}
use Rattle.answer.proofs.Judging.{every_append}
use Rattle.answer.proofs.Lent.{back-holds, lent-accepted}
use Rattle.answer.proofs.Steps.{first_holds, others_hold}
use Rattle.units.specs.Units.{byte_at}
use Rattle.pes.specs.Header.{pes_length, length_fits, header_rules}
use Rattle.pes.specs.Reading.{first_unit, places, units_rules, read_rules, records_of}
use Rattle.pes_writer.specs.Owed.{WritesBack, Shaped}
use Rattle.pes_writer.specs.Writing.{unit_count, packet_size, records_fit, write_rules, header_of, units_of, stuffing_units, packet_of}
use Rattle.pes.proofs.Heading.{sized, sized-holds}
use Rattle.pes_writer.proofs.Making.{header-length, packet_length_lem, fits-packet}
use Rattle.pes_writer.proofs.Given.{given}
use Rattle.laws.specs.Bytes.{Bytes}
use Rattle.pes_writer.proofs.Back.{Walked, back_units}

-- ---- a written packet

pub written-length : (d : ℕ) (rs : List ℕ) → pes_length (packet_of d rs) ≡ packet_size (unit_count rs) * 184 - 6
unfolding packet_of header_of
written-length d rs = omega arith

length-lawful :
    (d : ℕ) (rs : List ℕ) → unit_count rs ≤ 1423
    → both (length_fits (pes_length (packet_of d rs))) (eqb (pes_length (packet_of d rs) + 6) (length (packet_of d rs))) ≡ true
length-lawful d rs f =
    rw (written-length d rs)
    (sized-holds (packet_size (unit_count rs)) (length (packet_of d rs)) (omega arith) (omega arith) (packet_length_lem d rs))

header-lawful : (d : ℕ) (rs : List ℕ) → Every (write_rules d rs) → Every (header_rules (packet_of d rs))
unfolding header_rules packet_of header_of write_rules
header-lawful d rs e =
    let l = packet_length_lem d rs in
    more (both-holds _ true (le-leb 45 (length (packet_of d rs)) (omega (arith, l))) refl)
    (more (length-lawful d rs (fits-packet d rs e))
    (more refl (more refl (more (first_holds e) none))))

after-header :
    (d : ℕ) (rs : List ℕ)
    → drop 46 (packet_of d rs)
    ≡ units_of (unit_count rs) rs 0 ++ stuffing_units (4 * packet_size (unit_count rs) - 1 - unit_count rs)
unfolding packet_of
after-header d rs = drop_at (header_of (packet_size (unit_count rs)) d) _ 46 (header-length (packet_size (unit_count rs)) d)

walked : (d : ℕ) (rs : List ℕ) → Every (write_rules d rs) → Bytes rs → Walked (packet_of d rs) 46 (4 * packet_size (unit_count rs) - 1) rs
unfolding write_rules
walked d rs e b =
    let u = unit_count rs in
    let n = packet_size u in
    let z : length rs % 44 ≡ 0 = eqb-true _ 0 (first_holds (others_hold e)) in
    let c : u + (4 * n - 1 - u) ≡ 4 * n - 1 = omega arith in
    let whole : take (44 * u) rs ≡ rs = take_all (44 * u) rs (omega arith) in
    let fit = both-second (leb u 1423) (records_fit u rs 0) (first_holds (others_hold (others_hold e))) in
    subst₂ (λ (m : ℕ) (g : List ℕ). Walked (packet_of d rs) 46 m g) c whole
    (back_units u (4 * n - 1 - u) rs b 0 (omega arith) fit (packet_of d rs) 46 (after-header d rs))

pub writes-back : (d : ℕ) (rs : List ℕ) → Every (write_rules d rs) → Bytes rs → WritesBack d rs
unfolding read_rules units_rules records_of places
writes-back d rs e b =
    let w = walked d rs e b in
    record { accepted = every_append (header-lawful d rs e) w.rules; same = w.gives }

-- so reading a written packet gives the records, where they have room
pub reads-back :
    (d : ℕ) (rs old : List ℕ) → Every (write_rules d rs) → Bytes rs → length rs ≤ length old
    → (answered (read_rules (packet_of d rs)) (records_of (packet_of d rs)) old ≡ Ok (length rs))
    × (left (read_rules (packet_of d rs)) (records_of (packet_of d rs)) old ≡ rs ++ drop (length rs) old)
reads-back d rs old e b h =
    let w = writes-back d rs e b in
    rw w.same (lent-accepted (read_rules (packet_of d rs)) rs old w.accepted h)

pub shaped : (d : ℕ) (rs : List ℕ) → Every (write_rules d rs) → Bytes rs → Shaped d rs
unfolding places
shaped d rs e b =
    record {
      bytes = packet_length_lem d rs;
      field = written-length d rs;
      units = (walked d rs e b).count;
      holds = omega arith;
      least = λ n h k. omega arith;
    }

-- ---- a packet that is read

-- each record that reading gives can be written, under the packet's own data_identifier
pub reads-writable : (pes : List ℕ) → Every (read_rules pes) → Every (write_rules (byte_at pes 45) (records_of pes))
unfolding read_rules units_rules header_rules records_of places write_rules
reads-writable pes e =
    let s = sized (pes_length pes) (length pes) (first_holds (others_hold e)) in
    let g = given (length pes) pes first_unit (omega arith) (omega arith) (back-holds (header_rules pes) (units_rules pes) e) in
    let l : length (records_of pes) ≡ 44 * g.count = g.long in
    let u : unit_count (records_of pes) ≡ g.count = omega arith in
    let z : length (records_of pes) % 44 ≡ 0 = omega arith in
    let c : unit_count (records_of pes) ≤ 1423 = omega (arith, g.few) in
    more (first_holds (others_hold (others_hold (others_hold (others_hold e)))))
    (more (eq-eqb (length (records_of pes) % 44) 0 z)
    (more
    (both-holds (leb (unit_count (records_of pes)) 1423) _ (le-leb (unit_count (records_of pes)) 1423 c)
    (subst (λ (n : ℕ). records_fit n (records_of pes) 0 ≡ true) (sym u) g.fit)) none))
