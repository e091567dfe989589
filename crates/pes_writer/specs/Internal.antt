-- What only private calls cite; nothing here needs to be believed.
use Rattle.std.specs.Prelude.{List, ℕ, ◌*◌}
use Rattle.pes_writer.specs.Records.{unit_count, packet_size}

-- how many bytes the packet of a list of records has
abbrev pub packet_bytes : List ℕ → ℕ
packet_bytes rs = packet_size (unit_count rs) * 184
