-- How many packets of a capture there are of each kind, by what each is to the reader (SCOPE 13.10).
use Rattle.std.specs.Prelude.{Bool, true, ℕ, ◌+◌, leb, ltb}
use Rattle.laws.specs.Pick.{pick}
use Rattle.pages.specs.Headers.{Seen, junk, other, foreign, ours, packet_y}
use Rattle.survey.specs.declared.Counts.{Counts}

-- one more, up to the greatest number that a count can hold
abbrev pub more : ℕ → ℕ
more n = pick (ltb n 18446744073709551615) (n + 1) n

abbrev pub more_if : Bool → ℕ → ℕ
more_if t n = pick t (more n) n

-- one more packet. Of our page are its packets 0, and the packets up to n after one whose n is at most 25; the page is over with a packet
-- that can't be read and with a packet 0 of another page or stream of our magazine (SCOPE 8.2, 8.6, 8.9)
abbrev pub counted : Counts → Seen → Counts
counted c junk =
    record { packets = more c.packets; ours = c.ours; unreadable = more c.unreadable; came = c.came; most = 0 }
counted c other =
    record { packets = more c.packets; ours = c.ours; unreadable = c.unreadable; came = c.came; most = c.most }
counted c foreign = record { packets = more c.packets; ours = c.ours; unreadable = c.unreadable; came = c.came; most = 0 }
counted c (ours i n) =
    record { packets = more c.packets; ours = more c.ours; unreadable = c.unreadable; came = true; most = pick (leb n 25) n 0 }
counted c (packet_y y p l) =
    record {
      packets = more c.packets;
      ours = more_if (leb y c.most) c.ours;
      unreadable = c.unreadable;
      came = c.came;
      most = c.most;
    }
