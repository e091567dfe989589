-- What reading and writing PES packets owe each other (SCOPE 6.8, 6.10, 15.2).
use Rattle.std.specs.Prelude.{◌≡◌, List, ℕ, ◌-◌, ◌*◌, ◌≤◌, length}
use Rattle.answer.specs.Rules.{Every}
use Rattle.pes.specs.Header.{pes_length}
use Rattle.pes.specs.Reading.{places, read_rules, records_of}
use Rattle.pes_writer.specs.Writing.{unit_count, packet_size, packet_of}

-- the records that a packet is written from are those that it reads back as (SCOPE 15.2)
pub record WritesBack (d : ℕ) (rs : List ℕ) : Type 0 where
  pub accepted : Every (read_rules (packet_of d rs))
  pub same : records_of (packet_of d rs) ≡ rs

-- N × 184 bytes with 4 × N − 1 units (SCOPE 6.8), for the smallest N that has room, 1 for none (SCOPE 6.10)
pub record Shaped (d : ℕ) (rs : List ℕ) : Type 0 where
  pub bytes : length (packet_of d rs) ≡ packet_size (unit_count rs) * 184
  pub field : pes_length (packet_of d rs) ≡ packet_size (unit_count rs) * 184 - 6
  pub units : length (places (packet_of d rs)) ≡ 4 * packet_size (unit_count rs) - 1
  pub holds : unit_count rs ≤ 4 * packet_size (unit_count rs) - 1
  pub least : (n : ℕ) → 1 ≤ n → unit_count rs ≤ 4 * n - 1 → packet_size (unit_count rs) ≤ n
